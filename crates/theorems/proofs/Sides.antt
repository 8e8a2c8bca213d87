-- Two changes of ranges of one world, over what the calls promise: sets and flips in either order, and a set before one that covers it.
-- Assumes nothing.
use Prim.Native.Nat.{ℕ, ◌+◌, ◌≤◌}
use mathlib.Core.Path.{◌≡◌, refl, sym, ap, ◌∙◌, subst}
use mathlib.Core.Bool.{Bool, true}
use mathlib.Core.List.{List}
use native.Mathlib.Omega.{arith}
use lib.Dec.{leb, ltb}
use borrow.Author.Tests.{leb-true, ltb-true}
use Rattle.model.specs.Ends.{Bound}
use Rattle.model.specs.Range.{first_allowed, extent}
use Rattle.model.specs.Positions.{Positions, among, stretches, set_range, flip_range, bounded, changes}
use Rattle.model.specs.Call.{Call, number, Answer, refused, gave}
use Rattle.model.proofs.Counting.{among-yes}
use Rattle.model.proofs.Edit.{and-holds}
use Rattle.model.proofs.Ops.{bounded-below}
use Rattle.model.proofs.Runs.{stretches-cong}
use Rattle.pool.specs.Layout.{allowance, held_by, worlds_of}
use Rattle.pool.proofs.Turn.{pool-past}
use Rattle.interval_bit_set.specs.Met.{Met}
use Rattle.interval_bit_set.proofs.Giving.{given-readable, given-settled, given-is}
use Rattle.interval_bit_set.proofs.Simulation.{bounded-ends, same-positions}
use Rattle.theorems.specs.Pairs.{Did}
use Rattle.theorems.specs.Swaps.{Within, Covers}
use Rattle.theorems.proofs.Ranges.{
  put,
  turn,
  Covered,
  puts-alike,
  puts-covered,
  turns-swap,
  turns-undo,
  changes-alike,
}
use Rattle.theorems.proofs.Doing.{Gets, allowance-now, gets-again, gets-as, gets-one, gets_back, given-gets}
use Rattle.theorems.proofs.Calls.{set-done, set-fits, set-count}

-- ---- ranges by their bounds
-- a position among them satisfies both
among-within : (l u : Bound) (x : ℕ) → among (first_allowed l) (extent l u) x ≡ true → Within l u x
among-within l u x e =
    let h = and-holds (leb (first_allowed l) x) (ltb x (first_allowed l + extent l u)) e in
    let a = leb-true (first_allowed l) x h.0 in
    let b = ltb-true x (first_allowed l + extent l u) h.1 in
    (a, omega arith)

within-among : (l u : Bound) (x : ℕ) → Within l u x → among (first_allowed l) (extent l u) x ≡ true
within-among l u x h = among-yes (first_allowed l) (extent l u) x h.0 (omega (arith, h.0, h.1))

-- so a range covers another
covered-by : (l u l' u' : Bound) → Covers l u l' u' → Covered (first_allowed l) (extent l u) (first_allowed l') (extent l' u')
covered-by l u l' u' C x e = within-among l' u' x (C x (among-within l u x e))

-- a range that is set, and that is inverted
abbrev put_in : Bound → Bound → Bool → Positions → Positions
put_in l u b P = put (first_allowed l) (extent l u) b P

abbrev turn_in : Bound → Bound → Positions → Positions
turn_in l u P = turn (first_allowed l) (extent l u) P

-- and how many positions a set changes
abbrev changed : Bound → Bound → Bool → Positions → ℕ
changed l u b P = changes P (set_range (first_allowed l) (extent l u) b P)

-- ---- two calls
module _ (l u : Bound) (b : Bool) {w w₁ w₂ : List ℕ} {i n : ℕ} (s : Met w i (Call.set l u b) (gave (number n)) w₁) where
  -- a set after a set
  set-then-set : (l' u' : Bound) (b' : Bool) {m : ℕ} → Met w₁ i (Call.set l' u' b') (gave (number m)) w₂ → Gets w i w₂ (put_in l' u' b' (put_in l u b (held_by w i)))
  set-then-set l' u' b' t = let G = given-gets s in gets-as (gets-again G (given-gets t)) (ap (put_in l' u' b') G.held)

  then-count : (l' u' : Bound) (b' : Bool) {m : ℕ} → Met w₁ i (Call.set l' u' b') (gave (number m)) w₂ → m ≡ changed l' u' b' (put_in l u b (held_by w i))
  then-count l' u' b' t = set-count l' u' b' t ∙ ap (changed l' u' b') (given-gets s).held

module _ (l u : Bound) {w w₁ w₂ : List ℕ} {i : ℕ} (f : Did w i (Call.flip l u) w₁) where
  -- a flip after a flip
  flip-then-flip : (l' u' : Bound) → Did w₁ i (Call.flip l' u') w₂ → Gets w i w₂ (turn_in l' u' (turn_in l u (held_by w i)))
  flip-then-flip l' u' t = let G = given-gets f in gets-as (gets-again G (given-gets t)) (ap (turn_in l' u') G.held)

-- ---- the laws
module _ (l u l' u' : Bound) where
  abbrev a₁ : ℕ
  a₁ = first_allowed l

  abbrev n₁ : ℕ
  n₁ = extent l u

  abbrev a₂ : ℕ
  a₂ = first_allowed l'

  abbrev n₂ : ℕ
  n₂ = extent l' u'

  module _ (b : Bool) {w w₁ : List ℕ} {i n : ℕ} (s : Met w i (Call.set l u b) (gave (number n)) w₁) where
    -- one value
    pub sets-alike : {w₂ v₁ v₂ : List ℕ} {m n' m' : ℕ} → Met w₁ i (Call.set l' u' b) (gave (number m)) w₂ → Met w i (Call.set l' u' b) (gave (number m')) v₁
        → Met v₁ i (Call.set l u b) (gave (number n')) v₂ → (n + m ≡ n' + m') × (worlds_of w₂ ≡ worlds_of v₂)
    sets-alike t s' t' =
        let P = held_by w i in (
          omega (
            arith,
            set-count l u b s,
            then-count l u b s l' u' b t,
            changes-alike a₁ n₁ b a₂ n₂ P,
            set-count l' u' b s',
            then-count l' u' b s' l u b t',
          ),
          gets-one (set-then-set l u b s l' u' b t) (set-then-set l' u' b s' l u b t') (puts-alike a₁ n₁ b a₂ n₂ P),
        )

  -- a set before one that covers it: what both leave is what the second leaves alone, so it has as many runs
  set-alone : (b b' : Bool) {w w₁ w₂ : List ℕ} {i n m : ℕ} → Covers l u l' u' → Met w i (Call.set l u b) (gave (number n)) w₁ → Met w₁ i (Call.set l' u' b') (gave (number m)) w₂
      → stretches (set_range a₂ n₂ b' (held_by w i)) ≤ allowance w i
  set-alone b b' {w} {w₁} {w₂} {i} C s t =
      let G = given-gets s in
      let P = set_range a₂ n₂ b' (held_by w₁ i) in
      let Q = set_range a₂ n₂ b' (held_by w i) in
      let same : bounded P ≡ bounded Q = ap (put_in l' u' b') G.held ∙ puts-covered a₁ n₁ b a₂ n₂ (held_by w i) b' (covered-by l u l' u' C) in
      omega (
        arith,
        stretches-cong P Q (λ x h. sym (bounded-below P x h) ∙ ap (λ R. R x) same ∙ bounded-below Q x h),
        set-fits l' u' b' t,
        allowance-now (given-settled s).long G,
      )

  -- so it is needless
  set_first : (b b' : Bool) {w w₁ w₂ v : List ℕ} {i n m : ℕ} {c : Answer} → Covers l u l' u' → Met w i (Call.set l u b) (gave (number n)) w₁
      → Met w₁ i (Call.set l' u' b') (gave (number m)) w₂ → Met w i (Call.set l' u' b') c v → ((m' : ℕ) × (c ≡ gave (number m'))) × (worlds_of w₂ ≡ worlds_of v)
  set_first b b' {w} {v = v} {i = i} C s t k =
      let e = set-done l' u' b' (given-readable s) (set-alone b b' C s t) k in
      let k' = subst (λ a. Met w i (Call.set l' u' b') a v) e.1 k in
      (e, gets-one (set-then-set l u b s l' u' b' t) (given-gets k') (puts-covered a₁ n₁ b a₂ n₂ (held_by w i) b' (covered-by l u l' u' C)))

  -- also if it is refused
  pub set-needless : (b b' : Bool) {w w₁ w₂ v : List ℕ} {i m : ℕ} {a c : Answer} → Covers l u l' u' → Met w i (Call.set l u b) a w₁
      → Met w₁ i (Call.set l' u' b') (gave (number m)) w₂ → Met w i (Call.set l' u' b') c v → ((m' : ℕ) × (c ≡ gave (number m'))) × (worlds_of w₂ ≡ worlds_of v)
  set-needless b b' {w} {w₁} {w₂} {v} {i} {m} {a} {c} C s t k = go a s
    where
      go : (a : Answer) → Met w i (Call.set l u b) a w₁ → ((m' : ℕ) × (c ≡ gave (number m'))) × (worlds_of w₂ ≡ worlds_of v)
      go (gave r) s =
          let e = given-is s in
          set_first b b' C (subst (λ q. Met w i (Call.set l u b) (gave q) w₁) e s) t k
      go (refused x) s =
          let t' : Met w i (Call.set l' u' b') (gave (number m)) w₂ = subst (λ z. Met z i (Call.set l' u' b') (gave (number m)) w₂) s.left t in
          let e = k.answered ∙ sym t'.answered in
          ((m, e), gets-one (given-gets t') (given-gets (subst (λ z. Met w i (Call.set l' u' b') z v) e k)) refl)

  -- two flips
  pub flips-either : {w w₁ w₂ v₁ v₂ : List ℕ} {i : ℕ} → Did w i (Call.flip l u) w₁ → Did w₁ i (Call.flip l' u') w₂ → Did w i (Call.flip l' u') v₁ → Did v₁ i (Call.flip l u) v₂
      → worlds_of w₂ ≡ worlds_of v₂
  flips-either {w} {i = i} f g f' g' = gets-one (flip-then-flip l u f l' u' g) (flip-then-flip l' u' f' l u g') (turns-swap a₁ n₁ a₂ n₂ (held_by w i))

-- a flip and the same again
pub flip-again : (l u : Bound) {w w₁ w₂ : List ℕ} {i : ℕ} → Did w i (Call.flip l u) w₁ → Did w₁ i (Call.flip l u) w₂ → worlds_of w₂ ≡ worlds_of w
flip-again l u {w} {i = i} f g =
    gets_back (given-readable f)
    (gets-as (flip-then-flip l u f l u g)
    (same-positions (turn_in l u (turn_in l u (held_by w i))) (held_by w i) (bounded-ends (flip_range (first_allowed l) (extent l u) (turn_in l u (held_by w i)))) (pool-past w i)
    (turns-undo (first_allowed l) (extent l u) (held_by w i))))
