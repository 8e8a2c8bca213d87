-- The complement and the two shifts as joins of two feeds, and equality as a join without runs. A set is complemented by XOR with all
-- positions; it is shifted by a turn, AND the positions that a shift can reach; two sets are the same where their XOR has no run. All are
-- told pointwise below 2^64. Assumes nothing.
use Rattle.std.proofs.Common.{◌≡◌, ℕ, ◌+◌, ◌-◌, ◌<◌, ◌≤◌, Bool, true, false, not, ◌&&◌, eqb, ltb, leb, ◌⊎◌, List, [], ◌∷◌, length, sym, refl, ap, ◌∙◌}
use Rattle.std.proofs.Common.{subst, ap₂, inl, inr, arith, le-ltb, lt-ltb, ne_eqb, le-leb}
use mathlib.Core.Bool.{beq, and-true, and-false}
use borrow.Author.Tests.{lt-leb}
use Rattle.model.specs.declared.Run.{Run}
use Rattle.model.specs.declared.Operation.TheVariants.{And, Xor}
use Rattle.model.specs.Numbers.{size}
use Rattle.model.proofs.Numbers.{split}
use Rattle.model.specs.Positions.{Positions, run, mem, combined, complemented, shift_left, shift_right, shift_by, held_runs, stretches, changes, same}
use Rattle.model.proofs.Runs.{held_runs-canon}
use Rattle.model.proofs.Finds.{count_runs}
use Rattle.model.specs.RunList.{Canon}
use Rattle.model.proofs.RunList.{widths, mem-in, mem-under, mem-above}
use Rattle.model.specs.Model.{positions_of}
use Rattle.pool.specs.Places.{physical_of, logical_of}
use Rattle.pool.specs.Layout.{turned, physical_runs, held_from, held_by}
use Rattle.pool.proofs.Turn.{turned-at}
use Rattle.pool.proofs.Ends.{empty-mem}
use Rattle.pool.proofs.Parts.{lent, lent-nodes}
use Rattle.changes.proofs.Shifted.{turned-further}
use Rattle.streams.specs.declared.source.View.{View}
use Rattle.streams.specs.Reading.{Rooted}
use Rattle.interval_bit_set.specs.Met.{fed_of, Readable}
use Rattle.interval_bit_set.specs.Joined.{ViewOf}

-- ---- the positions from a to b alone
-- the others are not there
only_under : (a b x : ℕ) → x < a → mem (run a b ∷ []) x ≡ false
only_under a b x h = mem-under (run a b) [] x h ∙ empty-mem x

only-over : (a b x : ℕ) → b < x → mem (run a b ∷ []) x ≡ false
only-over a b x h = mem-above (run a b) [] x h ∙ empty-mem x

module _ (P : Positions) (a b x : ℕ) where
  -- AND them: what is there stays
  and-only : a ≤ x → x ≤ b → combined And P (mem (run a b ∷ [])) x ≡ P x
  unfolding combined
  and-only h k = ap (λ t. P x && t) (mem-in (run a b) [] x h k) ∙ and-true (P x)

  -- and nothing else
  and-other : mem (run a b ∷ []) x ≡ false → combined And P (mem (run a b ∷ [])) x ≡ false
  unfolding combined
  and-other e = ap (λ t. P x && t) e ∙ and-false (P x)

-- ---- XOR all positions is the complement
pub xor_all : (P : Positions) (x : ℕ) → x < size → combined Xor P (mem (run 0 (size - 1) ∷ [])) x ≡ complemented P x
unfolding combined complemented
xor_all P x h = ap (λ t. not (beq (P x) t)) (mem-in (run 0 (size - 1)) [] x (omega arith) (omega arith)) ∙ go (P x)
  where
    go : (b : Bool) → not (beq b true) ≡ not b
    go true = refl
    go false = refl

-- ---- a turn, and what comes in from the other end cut off, is a shift
module _ (d : ℕ) (Q : Positions) (fits : d < size) where
  -- up
  pub left_join : (o up x : ℕ) → o < size → up ≡ logical_of o d → x < size → combined And (turned up Q) (mem (run d (size - 1) ∷ [])) x ≡ shift_left d (turned o Q) x
  unfolding shift_left
  left_join o up x small e h = go (split x d)
    where
      go : (x < d) ⊎ (d ≤ x) → combined And (turned up Q) (mem (run d (size - 1) ∷ [])) x ≡ (leb d x && turned o Q (x - d))
      go (inl l) = and-other (turned up Q) d (size - 1) x (only_under d (size - 1) x l) ∙ sym (ap (λ t. t && turned o Q (x - d)) (lt-leb d x l))
      go (inr l) =
          let p : physical_of x d ≡ x - d = omega arith in
          and-only (turned up Q) d (size - 1) x l (omega arith) ∙ ap (λ k. turned k Q x) e ∙ turned-further o d Q x small fits h ∙ turned-at d (turned o Q) x h
          ∙ ap (turned o Q) p ∙ sym (ap (λ t. t && turned o Q (x - d)) (le-leb d x l))

  -- down
  pub right-join : (o down x : ℕ) → down < size → logical_of down d ≡ o → x < size → combined And (turned down Q) (mem (run 0 (size - 1 - d) ∷ [])) x ≡ shift_right d (turned o Q) x
  unfolding shift_right
  right-join o down x small e h = go (split (x + d) size)
    where
      go : (x + d < size) ⊎ (size ≤ x + d) → combined And (turned down Q) (mem (run 0 (size - 1 - d) ∷ [])) x ≡ (ltb (x + d) size && turned o Q (x + d))
      go (inl l) =
          let p : physical_of (x + d) d ≡ x = omega arith in
          and-only (turned down Q) 0 (size - 1 - d) x (omega arith) (omega arith)
          ∙ sym (ap (λ t. t && turned o Q (x + d)) (lt-ltb (x + d) size l) ∙ ap (λ k. turned k Q (x + d)) (sym e) ∙ turned-further down d Q (x + d) small fits l
          ∙ turned-at d (turned down Q) (x + d) l ∙ ap (turned down Q) p)
      go (inr l) =
          and-other (turned down Q) 0 (size - 1 - d) x (only-over 0 (size - 1 - d) x (omega arith))
          ∙ sym (ap (λ t. t && turned o Q (x + d)) (le-ltb (x + d) size l))

-- ---- of a readable world, in the part of its pool's words that is lent
module _ {w : List ℕ} {i : ℕ} {v : View} (X : ViewOf w i v) where
  -- it can be read from its root
  pub view-rooted : Rooted (lent w) v.root
  view-rooted = subst (λ l. Rooted l v.root) (sym (lent-nodes w)) X.rooted

  -- its view gives what it holds
  pub view-held : held_from (lent w) v.root v.offset ≡ held_by w i
  view-held = ap (λ l. held_from l v.root v.offset) (lent-nodes w) ∙ X.held

module _ {w : List ℕ} {i : ℕ} {v : View} (R : Readable w i) (X : ViewOf w i v) where
  -- which is what it is fed as
  pub read_as : held_from (lent w) v.root v.offset ≡ positions_of (fed_of w i)
  read_as = view-held X ∙ sym (ap positions_of R.fed)

  -- its complement
  pub complement-alike : (x : ℕ) → x < size → combined Xor (held_from (lent w) v.root v.offset) (mem (run 0 (size - 1) ∷ [])) x ≡ complemented (positions_of (fed_of w i)) x
  complement-alike x l = xor_all (held_from (lent w) v.root v.offset) x l ∙ ap (λ P. complemented P x) read_as

  module _ (d : ℕ) (left : Bool) (fits : d < size) where
    -- its shift up
    pub left-alike : (up : ℕ) → v.offset < size → left ≡ true → up ≡ logical_of v.offset d → (x : ℕ) → x < size
        → combined And (held_from (lent w) v.root up) (mem (run d (size - 1) ∷ [])) x ≡ shift_by d left (positions_of (fed_of w i)) x
    unfolding shift_by held_from
    left-alike up small e f x l =
        left_join d (mem (physical_runs (lent w) v.root)) fits v.offset up x small f l ∙ ap₂ (λ t P. shift_by d t P x) (sym e) read_as

    -- its shift down
    pub right-alike : (down : ℕ) → down < size → left ≡ false → logical_of down d ≡ v.offset → (x : ℕ) → x < size
        → combined And (held_from (lent w) v.root down) (mem (run 0 (size - 1 - d) ∷ [])) x ≡ shift_by d left (positions_of (fed_of w i)) x
    unfolding shift_by held_from
    right-alike down small e f x l =
        right-join d (mem (physical_runs (lent w) v.root)) fits v.offset down x small f l ∙ ap₂ (λ t P. shift_by d t P x) (sym e) read_as

-- ---- a join without runs
-- no run is no position
no-width : (rs : List Run) (k : ℕ) → Canon size k rs → leb (length rs) 0 ≡ eqb (widths rs) 0
unfolding widths
no-width [] k c = refl
no-width (r ∷ rs) k c = lt-leb (length (r ∷ rs)) 0 (omega arith) ∙ sym (ne_eqb (widths (r ∷ rs)) 0 (λ z. omega arith))

-- two sets are the same where their XOR has none
pub same-fits : (P Q : Positions) → leb (stretches (combined Xor P Q)) 0 ≡ same P Q
unfolding stretches same changes held_runs
same-fits P Q =
    no-width (held_runs (combined Xor P Q)) 0 (held_runs-canon (combined Xor P Q)) ∙ sym (ap (λ n. eqb n 0) (count_runs (combined Xor P Q) true 0 size))
