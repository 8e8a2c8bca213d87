-- Bytes stored one after the other, and a slice with the first bytes of some in front: storing the next ones there makes it more,
-- and zeros have no bit that is 1. Assumes nothing.
use Rattle.std.proofs.Common.{replicate, sym, ◌≡◌, ℕ, zero, suc, ◌+◌, ◌/◌, ◌%◌, ◌^◌, ◌<◌, ◌≤◌, false, eqb, ◌⊎◌, List, ◌++◌, length, get_or, take, drop, set, refl}
use Rattle.std.proofs.Common.{ap, ◌∙◌, ap₂, inl, inr, zero-add, arith, length-set}
use native.Mathlib.Nat.{zero-div}
use lib.ListN.{get_or-eq_default}
use lib.Seq.{paste-suc, length-paste, take-length}
use borrow.Rule.Slice.PartMut.{put_mid}
use lib.Seq.{paste}
use Rattle.std.proofs.lemmas.Slice.{put_mid-paste}
use Rattle.std.proofs.lemmas.List.Edits.{paste_none, fill_from_more}
use Rattle.std.proofs.lemmas.List.{length-replicate, get_or-replicate}
use Rattle.model.specs.Positions.{Positions}
use Rattle.model.specs.Bytes.{map_length, map_of, map_bit, into_front}
use Rattle.model.proofs.Numbers.{split}
use Rattle.model.proofs.Maps.{map_of-length}
use Rattle.maps.specs.Octets.{stores}

-- ---- bytes stored from j on
pub stores-length : (f : ℕ → ℕ) (j n : ℕ) (out : List ℕ) → length (stores f j n out) ≡ length out
unfolding stores
stores-length f j zero out = refl
stores-length f j (suc n) out = length-set (stores f j n out) (j + n) (f n) ∙ stores-length f j n out

pub stores-cong : (f g : ℕ → ℕ) (j n : ℕ) (out : List ℕ) → ((i : ℕ) → i < n → f i ≡ g i) → stores f j n out ≡ stores g j n out
unfolding stores
stores-cong f g j zero out e = refl
stores-cong f g j (suc n) out e =
    ap₂ (λ (l : List ℕ) (b : ℕ). set l (j + n) b) (stores-cong f g j n out (λ i h. e i (omega arith))) (e n (omega arith))

-- one byte
pub stores_one : (f : ℕ → ℕ) (j : ℕ) (out : List ℕ) {b : ℕ} → b ≡ f 0 → set out j b ≡ stores f j 1 out
unfolding stores
stores_one f j out e = ap₂ (set out) (omega arith) e

-- n copies of a byte, in the place of a part
paste-stores : (j n b : ℕ) (out : List ℕ) → j + n ≤ length out → paste out j (replicate n b) n ≡ stores (λ _. b) j n out
unfolding stores
paste-stores j zero b out h = sym (paste_none out j (replicate 0 b))
paste-stores j (suc n) b out h =
    let e : n + 1 ≡ suc n = omega arith in
    ap (λ k. paste out j (replicate k b) k) (sym e) ∙ sym (fill_from_more out j n b (omega arith)) ∙ ap (λ (l : List ℕ). set l (j + n) b) (paste-stores j n b out (omega arith))

pub part-stores : (j n b : ℕ) (out : List ℕ) {k m : ℕ} {ys : List ℕ} → j + n ≤ length out → k ≡ n → m ≡ n → ys ≡ replicate m b → put_mid j k out ys ≡ stores (λ _. b) j n out
part-stores j n b out {k} {m} {ys} h q p e =
    put_mid-paste j k out ys (replicate n b) n (e ∙ ap (λ i. replicate i b) p) (sym q) (sym (length-replicate n b)) ∙ paste-stores j n b out h

-- ---- a slice with the first j of some bytes in front
abbrev pub fronted : List ℕ → List ℕ → ℕ → List ℕ
fronted bs out j = take j bs ++ drop j out

pub fronted-suc : (bs out : List ℕ) (j : ℕ) → j < length out → j < length bs → set (fronted bs out j) j (get_or bs j 0) ≡ fronted bs out (suc j)
fronted-suc bs out j h g = simp zero-add at (paste-suc out 0 bs j 0 (rw zero-add h) g)

pub fronted-more : (bs out : List ℕ) (f : ℕ → ℕ) (j n : ℕ) → j + n ≤ length out → j + n ≤ length bs → ((i : ℕ) → i < n → f i ≡ get_or bs (j + i) 0)
    → stores f j n (fronted bs out j) ≡ fronted bs out (j + n)
unfolding stores
fronted-more bs out f j zero h g e =
    let q : j ≡ j + 0 = omega arith in
    ap (fronted bs out) q
fronted-more bs out f j (suc n) h g e =
    let q : suc (j + n) ≡ j + suc n = omega arith in
    ap₂ (λ (l : List ℕ) (b : ℕ). set l (j + n) b) (fronted-more bs out f j n (omega arith) (omega arith) (λ i l. e i (omega arith))) (e n (omega arith))
    ∙ (fronted-suc bs out (j + n) (omega arith) (omega arith) ∙ ap (fronted bs out) q)

pub fronted-length : (bs out : List ℕ) (j : ℕ) → j ≤ length out → j ≤ length bs → length (fronted bs out j) ≡ length out
fronted-length bs out j h g = simp zero-add at (length-paste out 0 bs j (rw zero-add h) g)

pub fronted-all : (bs out : List ℕ) (j : ℕ) → j ≡ length bs → fronted bs out j ≡ into_front bs out
unfolding into_front
fronted-all bs out j e = rw (e, take-length)

-- a map in a part of its length, and what lay behind
pub map-front : (P : Positions) (base n : ℕ) (out : List ℕ) {ys : List ℕ} {due : ℕ} → due ≡ map_length n → ys ≡ map_of P base n → ys ++ drop due out ≡ into_front (map_of P base n) out
unfolding into_front
map-front P base n out h e = ap₂ (λ (l : List ℕ) (k : ℕ). l ++ drop k out) e (h ∙ sym (map_of-length P base n))

-- ---- zeros
-- where all bytes are zeros no bit is 1
pub zeros-bit-none : (n i : ℕ) → map_bit (replicate n 0) i ≡ false
unfolding map_bit
zeros-bit-none n i = go (split (i / 8) n)
  where
    go : (i / 8 < n) ⊎ (n ≤ i / 8) → eqb (get_or (replicate n 0) (i / 8) 0 / 2 ^ (i % 8) % 2) 1 ≡ false
    go (inl l) = rw (get_or-replicate {A = ℕ} n (i / 8) 0 0 l, zero-div)
    go (inr l) =
        let g : length (replicate {A = ℕ} n 0) ≤ i / 8 = omega (arith, length-replicate {A = ℕ} n 0) in
        rw (get_or-eq_default (replicate n 0) 0 g, zero-div)
