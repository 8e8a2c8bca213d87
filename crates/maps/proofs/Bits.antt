-- The stretches of a map's bits: the number that eight bits are tells whether all have one value, and that of the bits of a word that have not a
-- value which of them comes first; a stretch grows by bits of its value and ends before another. Assumes nothing.
use Rattle.std.proofs.Common.{◌≡◌, ℕ, zero, suc, ◌+◌, ◌-◌, ◌*◌, ◌/◌, ◌%◌, ◌^◌, ◌<◌, ◌≤◌, ◌≢◌, min}
use Rattle.std.proofs.Common.{Bool, true, false, cond, not, eqb, eqb-true, ne_eqb, ◌⊎◌, inl, inr, List}
use Rattle.std.proofs.Common.{sym, refl, ap, ◌∙◌, arith}
use native.Mathlib.Nat.{pow-succ', pow-le-pow_right}
use mathlib.Core.Bool.{beq}
use lib.Pow.{high}
use Rattle.std.specs.Int.{w64, trailing_zeros}
use Rattle.std.proofs.lemmas.Nat.Bits.{bit_at-zero, bit_at-trailing_zeros}
use Rattle.model.proofs.Edit.{and-holds}
use Rattle.model.proofs.Numbers.{split}
use Rattle.model.specs.declared.Operation.TheVariants.{Xor}
use Rattle.model.specs.Positions.{Positions, one_if, combined}
use Rattle.model.specs.Bytes.{bits, map_bit}
use Rattle.model.proofs.Maps.{bits-bit, bits-bound, bits-over}
use Rattle.model.proofs.Counting.{one-bound}
use Rattle.model.proofs.After.{differing, agreeing}
use Rattle.codec.proofs.Bits.{bits_above}
use Rattle.reports.specs.Reports.{StretchEnd}
use Rattle.maps.specs.Window.{whole_b}
use Rattle.maps.proofs.Octeting.{same_bits}

-- ---- bits of one value
-- a bit tells its truth value
one_same : (a b : Bool) → one_if a ≡ one_if b → a ≡ b
one_same true true e = refl
one_same true false e = absurd (omega (arith, e))
one_same false true e = absurd (omega (arith, e))
one_same false false e = refl

-- positions whose bits are n ones, or n zeros, have that value
alike_at : (P : Positions) (x n : ℕ) (v : Bool) → bits P x n ≡ one_if v * (2 ^ n - 1) → (k : ℕ) → k < n → P (x + k) ≡ v
alike_at P x n v e k h =
    one_same (P (x + k)) v
    (sym (bits-bit P x n k h) ∙ ap (λ b. b / 2 ^ k % 2) (e ∙ same_bits v x n) ∙ bits-bit (λ _. v) x n k h)

-- the number that a byte is tells whether all of its bits have the value
pub told-whole : (bs : List ℕ) {i x a m : ℕ} {u : Bool} (v : Bool) → i % 8 ≡ 0 → u ≡ v → x ≡ i → a ≡ bits (map_bit bs) x 8
    → m ≡ one_if v * (2 ^ 8 - 1) → eqb a m ≡ whole_b bs i u
unfolding whole_b
told-whole bs v z p q e f = rw (z, p, ← f, ← q, ← e) refl

-- no byte begins at another bit
pub not-whole : (bs : List ℕ) (i : ℕ) (v : Bool) → i % 8 ≢ 0 → false ≡ whole_b bs i v
unfolding whole_b
not-whole bs i v h = rw (ne_eqb (i % 8) 0 h) refl

-- each bit of a byte of one value has it
pub whole-alike : (bs : List ℕ) (i : ℕ) (v : Bool) → whole_b bs i v ≡ true → (k : ℕ) → k < 8 → map_bit bs (i + k) ≡ v
unfolding whole_b
whole-alike bs i v t = alike_at (map_bit bs) i 8 v (eqb-true _ _ (and-holds _ _ t).1)

-- ---- bits of the other value
-- one where a bit has not the value
differ-bit : (p v : Bool) → one_if (not (beq p v)) ≡ cond v (1 - one_if p) (one_if p)
differ-bit true true = refl
differ-bit true false = refl
differ-bit false true = refl
differ-bit false false = refl

-- those of k positions are the complement of what the positions are, or just that
differ-bits : (P : Positions) (v : Bool) (x k : ℕ) → cond v (2 ^ k - 1 - bits P x k) (bits P x k) ≡ bits (combined Xor P (λ _. v)) x k
unfolding bits combined
differ-bits P true x zero = refl
differ-bits P false x zero = refl
differ-bits P true x (suc k) =
    let e : 2 ^ suc k - 1 - bits P x (suc k) ≡ 2 * 2 ^ k - 1 - (one_if (P x) + 2 * bits P (suc x) k) = rw pow-succ' refl in
    e ∙ omega (arith, differ-bit (P x) true, one-bound (P x), differ-bits P true (suc x) k, bits-bound P (suc x) k)
differ-bits P false x (suc k) = omega (arith, differ-bit (P x) false, differ-bits P false (suc x) k)

-- those from a later position on lie higher
bits-shifted : (P : Positions) (x n k : ℕ) → bits P x (n + k) / 2 ^ n ≡ bits P (x + n) k
bits-shifted P x n k =
    let e : bits P (x + n) k * 2 ^ n + bits P x n ≡ bits P x (n + k) = omega (arith, bits_above P x n k) in
    ap (λ b. b / 2 ^ n) (sym e) ∙ high (bits P (x + n) k) n (bits-bound P x n)

-- those of a word from a bit of it on
pub others-are : (P : Positions) (v : Bool) (i : ℕ) {x w d : ℕ} → x ≡ 64 * (i / 64) → w ≡ bits P x 64 → d ≡ cond v (2 ^ 64 - 1 - w) w
    → d / 2 ^ (i % 64) ≡ bits (combined Xor P (λ _. v)) i (64 - i % 64)
others-are P v i {x} q e f =
    let D = combined Xor P (λ _. v) in
    let long : i % 64 + (64 - i % 64) ≡ 64 = omega arith in
    let all = f ∙ ap (λ b. cond v (2 ^ 64 - 1 - b) b) e ∙ differ-bits P v x 64 ∙ ap (bits D x) (sym long) in
    ap (λ b. b / 2 ^ (i % 64)) all ∙ bits-shifted D x (i % 64) (64 - i % 64) ∙ ap (λ y. bits D y (64 - i % 64)) (omega arith)

module _ (P : Positions) (v : Bool) (x k : ℕ) {d : ℕ} (e : d ≡ bits (combined Xor P (λ _. v)) x k) where
  -- each of them tells of its position
  digit-is : (j : ℕ) → j < k → d / 2 ^ j % 2 ≡ one_if (not (beq (P (x + j)) v))
  unfolding combined
  digit-is j h = ap (λ b. b / 2 ^ j % 2) e ∙ bits-bit (combined Xor P (λ _. v)) x k j h

  has : (j : ℕ) → j < k → d / 2 ^ j % 2 ≡ 0 → P (x + j) ≡ v
  has j h z = agreeing (P (x + j)) v (one_same _ false (sym (digit-is j h) ∙ z))

  -- where there are none, all have the value
  pub others-none : d ≡ 0 → (j : ℕ) → j < k → P (x + j) ≡ v
  others-none z j h = has j h (ap (λ b. b / 2 ^ j % 2) z ∙ bit_at-zero j)

  -- else those before the lowest of them have it, and that has it not
  pub others-lowest : k ≤ 64 → d ≢ 0
      → (trailing_zeros w64 d < k) × (P (x + trailing_zeros w64 d) ≡ not v) × ((j : ℕ) → j < trailing_zeros w64 d → P (x + j) ≡ v)
  others-lowest l z =
      let t = trailing_zeros w64 d in
      let p : 2 ^ k ≤ 2 ^ 64 = pow-le-pow_right (omega arith) l in
      let f = bit_at-trailing_zeros w64 d (omega arith) (omega (arith, e, bits-bound (combined Xor P (λ _. v)) x k)) in
      let within : t < k = go t f.1 (split t k) in
      (within, differing (P (x + t)) v (one_same _ true (sym (digit-is t within) ∙ f.1)), λ j h. has j (omega (arith, within)) (f.2 j h))
    where
      go : (t : ℕ) → d / 2 ^ t % 2 ≡ 1 → (t < k) ⊎ (k ≤ t) → t < k
      go t o (inl h) = h
      go t o (inr h) = absurd (omega (arith, o, ap (λ b. b / 2 ^ t) e ∙ bits-over (combined Xor P (λ _. v)) x k t h))

-- ---- stretches
-- from i to e all of the n bits have the value of bit i
pub record Going (bs : List ℕ) (i n e : ℕ) : Type 0 where
  pub from : i ≤ e
  pub upto : e < n
  pub same : (z : ℕ) → i ≤ z → z ≤ e → map_bit bs z ≡ map_bit bs i

module _ {bs : List ℕ} {i n e : ℕ} {v : Bool} (g : Going bs i n e) (value : v ≡ map_bit bs i) where
  -- some bits more, all of that value
  pub going-more : (m : ℕ) → m < n - e → ((k : ℕ) → k < m → map_bit bs (e + 1 + k) ≡ v) → Going bs i n (e + m)
  going-more m l f = record {
    from = omega (arith, g.from);
    upto = omega (arith, g.upto);
    same = λ z a b. go z a b (split e z);
  }
    where
      go : (z : ℕ) → i ≤ z → z ≤ e + m → (e < z) ⊎ (z ≤ e) → map_bit bs z ≡ map_bit bs i
      go z a b (inl k) =
          let q : z ≡ e + 1 + (z - (e + 1)) = omega arith in
          ap (map_bit bs) q ∙ f (z - (e + 1)) (omega arith) ∙ value
      go z a b (inr k) = g.same z a k

  -- it ends at the last of its bits, or at the last of all
  pub going-ends : {last y : ℕ} → i ≤ last → y ≡ min last e → (e < last → map_bit bs (e + 1) ≡ not v)
      → StretchEnd (map_bit bs) (map_bit bs i) i last y
  going-ends {last} h q f = record {
    from = omega (arith, g.from);
    upto = omega arith;
    same = λ z a b. g.same z a (omega arith);
    stop = λ l. ap (map_bit bs) (omega arith) ∙ f (omega arith) ∙ ap not value;
  }
