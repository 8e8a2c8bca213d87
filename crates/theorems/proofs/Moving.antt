-- Positions that are shifted, and cut at 2^64: what is at a position afterwards, two shifts, left then right, and how many runs there are.
-- No shift adds a run, because it moves each run by itself. Assumes nothing.
use Prim.Native.Nat.{ℕ, suc, ◌+◌, ◌-◌, ◌≤◌, ◌<◌, min}
use mathlib.Core.Path.{◌≡◌, sym, ap, ap₂, ◌∙◌, fun_ext}
use mathlib.Core.Logic.{◌⊎◌, inl, inr}
use mathlib.Core.Bool.{Bool, true, false, ◌&&◌}
use mathlib.Core.List.{List, [], ◌∷◌}
use native.Mathlib.Omega.{arith}
use lib.Dec.{leb, ltb}
use lib.ListN.{length}
use borrow.Author.Tests.{le-leb, lt-leb, lt-ltb, le-ltb}
use Rattle.model.specs.declared.Run.{Run}
use Rattle.model.specs.Numbers.{size}
use Rattle.model.specs.Positions.{Positions, run, empty, held_runs, stretches, shift_left, shift_right, shift_by, bounded, mem}
use Rattle.model.specs.RunList.{cons_if}
use Rattle.model.proofs.Numbers.{split}
use Rattle.model.proofs.Runs.{stretches-is, held_runs-canon, mem-held_runs}
use Rattle.model.proofs.Ops.{shift_left_runs, shift_right_runs, shift_runs, shift-canon, shift-positions}

-- the positions after a shift
abbrev pub moved : ℕ → Bool → Positions → Positions
moved d left P = bounded (shift_by d left P)

-- ---- what is at x afterwards
module _ (d : ℕ) (P : Positions) (x : ℕ) where
  -- left: what was d below it
  pub left_at : d ≤ x → x < size → moved d true P x ≡ P (x - d)
  unfolding bounded shift_by shift_left
  left_at h l = ap₂ (λ s t. s && (t && P (x - d))) (lt-ltb x size l) (le-leb d x h)

  -- or nothing
  pub left-under : x < d → x < size → moved d true P x ≡ false
  unfolding bounded shift_by shift_left
  left-under h l = ap₂ (λ s t. s && (t && P (x - d))) (lt-ltb x size l) (lt-leb d x h)

  -- right: what was d above it
  pub right-at : x + d < size → moved d false P x ≡ P (x + d)
  unfolding bounded shift_by shift_right
  right-at h = ap₂ (λ s t. s && (t && P (x + d))) (lt-ltb x size (omega arith)) (lt-ltb (x + d) size h)

  -- or nothing
  pub right-over : size ≤ x + d → x < size → moved d false P x ≡ false
  unfolding bounded shift_by shift_right
  right-over h l = ap₂ (λ s t. s && (t && P (x + d))) (lt-ltb x size l) (le-ltb (x + d) size h)

  -- above all positions nothing is
  pub past : (left : Bool) → size ≤ x → moved d left P x ≡ false
  unfolding bounded
  past left h = ap (λ s. s && shift_by d left P x) (le-ltb x size h)

-- a set by its positions below 2^64, where another is cut off there
by-positions : (P Q : Positions) → ((x : ℕ) → size ≤ x → P x ≡ Q x) → ((x : ℕ) → x < size → P x ≡ Q x) → P ≡ Q
by-positions P Q over under = fun_ext (λ x. go x (split x size))
  where
    go : (x : ℕ) → (x < size) ⊎ (size ≤ x) → P x ≡ Q x
    go x (inl h) = under x h
    go x (inr h) = over x h

-- ---- two shifts the same way
-- left
sum_left : (d e : ℕ) (P : Positions) (x : ℕ) → x < size → moved e true (moved d true P) x ≡ moved (d + e) true P x
sum_left d e P x l = go (split x (d + e)) (split x e)
  where
    go : (x < d + e) ⊎ (d + e ≤ x) → (x < e) ⊎ (e ≤ x) → moved e true (moved d true P) x ≡ moved (d + e) true P x
    go (inl h) (inl k) = left-under e (moved d true P) x k l ∙ sym (left-under (d + e) P x h l)
    go (inl h) (inr k) = left_at e (moved d true P) x k l ∙ left-under d P (x - e) (omega arith) (omega arith) ∙ sym (left-under (d + e) P x h l)
    go (inr h) k =
        left_at e (moved d true P) x (omega arith) l ∙ left_at d P (x - e) (omega arith) (omega arith) ∙ ap P (omega arith) ∙ sym (left_at (d + e) P x h l)

-- right
sum-right : (d e : ℕ) (P : Positions) (x : ℕ) → x < size → moved e false (moved d false P) x ≡ moved (d + e) false P x
sum-right d e P x l = go (split (x + (d + e)) size) (split (x + e) size)
  where
    go : (x + (d + e) < size) ⊎ (size ≤ x + (d + e)) → (x + e < size) ⊎ (size ≤ x + e) → moved e false (moved d false P) x ≡ moved (d + e) false P x
    go (inl h) k =
        right-at e (moved d false P) x (omega arith) ∙ right-at d P (x + e) (omega arith) ∙ ap P (omega arith) ∙ sym (right-at (d + e) P x h)
    go (inr h) (inl k) = right-at e (moved d false P) x k ∙ right-over d P (x + e) (omega arith) k ∙ sym (right-over (d + e) P x h l)
    go (inr h) (inr k) = right-over e (moved d false P) x k l ∙ sym (right-over (d + e) P x h l)

-- are one by their sum
pub moved_sum : (d e : ℕ) (left : Bool) (P : Positions) → moved e left (moved d left P) ≡ moved (d + e) left P
moved_sum d e left P =
    by-positions (moved e left (moved d left P)) (moved (d + e) left P) (λ x h. past e (moved d left P) x left h ∙ sym (past (d + e) P x left h)) (go left)
  where
    go : (left : Bool) (x : ℕ) → x < size → moved e left (moved d left P) x ≡ moved (d + e) left P x
    go true = sum_left d e P
    go false = sum-right d e P

-- a shift by more than M leaves nothing
pub moved_nothing : (d : ℕ) (left : Bool) (P : Positions) → size ≤ d → moved d left P ≡ empty
unfolding empty
moved_nothing d left P h = by-positions (moved d left P) empty (λ x k. past d P x left k) (go left)
  where
    go : (left : Bool) (x : ℕ) → x < size → moved d left P x ≡ false
    go true x l = left-under d P x (omega arith) l
    go false x l = right-over d P x (omega arith) l

-- ---- there and back by d
-- left then right: what is at most M − d is as it was, and nothing is above it
pub out-and-back : (d : ℕ) (P : Positions) (x : ℕ) → x + d < size → moved d false (moved d true P) x ≡ P x
out-and-back d P x h = right-at d (moved d true P) x h ∙ left_at d P (x + d) (omega arith) h ∙ ap P (omega arith)

pub out-and-lost : (d : ℕ) (P : Positions) (x : ℕ) → size ≤ x + d → moved d false (moved d true P) x ≡ false
out-and-lost d P x h = go (split x size)
  where
    go : (x < size) ⊎ (size ≤ x) → moved d false (moved d true P) x ≡ false
    go (inl l) = right-over d (moved d true P) x h l
    go (inr l) = past d (moved d true P) x false l

-- right then left: what is at least d is as it was, and nothing is below it
pub down-and-up : (d : ℕ) (P : Positions) (x : ℕ) → d ≤ x → x < size → moved d true (moved d false P) x ≡ P x
down-and-up d P x h l = left_at d (moved d false P) x h l ∙ right-at d P (x - d) (omega arith) ∙ ap P (omega arith)

pub down-and-lost : (d : ℕ) (P : Positions) (x : ℕ) → x < d → x < size → moved d true (moved d false P) x ≡ false
down-and-lost d P x h l = left-under d (moved d false P) x h l

-- ---- how many runs there are
-- sets that agree below 2^64 are shifted alike
pub moved-cong : (d : ℕ) (left : Bool) (P Q : Positions) → ((x : ℕ) → x < size → P x ≡ Q x) → moved d left P ≡ moved d left Q
moved-cong d left P Q f = by-positions (moved d left P) (moved d left Q) (λ x h. past d P x left h ∙ sym (past d Q x left h)) (go left)
  where
    up : (x : ℕ) → x < size → (x < d) ⊎ (d ≤ x) → moved d true P x ≡ moved d true Q x
    up x l (inl h) = left-under d P x h l ∙ sym (left-under d Q x h l)
    up x l (inr h) = left_at d P x h l ∙ f (x - d) (omega arith) ∙ sym (left_at d Q x h l)

    down : (x : ℕ) → x < size → (x + d < size) ⊎ (size ≤ x + d) → moved d false P x ≡ moved d false Q x
    down x l (inl h) = right-at d P x h ∙ f (x + d) h ∙ sym (right-at d Q x h)
    down x l (inr h) = right-over d P x h l ∙ sym (right-over d Q x h l)

    go : (left : Bool) (x : ℕ) → x < size → moved d left P x ≡ moved d left Q x
    go true x l = up x l (split x d)
    go false x l = down x l (split (x + d) size)

-- a run before others, if the test holds, makes at most one more
cons-most : (b : Bool) (r : Run) (rs : List Run) (n : ℕ) → length rs ≤ n → length (cons_if b r rs) ≤ suc n
cons-most true r rs n h = omega (arith, h)
cons-most false r rs n h = omega (arith, h)

-- so a shift of a list makes it no longer
left-length : (total d : ℕ) (rs : List Run) → length (shift_left_runs total d rs) ≤ length rs
unfolding shift_left_runs
left-length total d [] = omega arith
left-length total d (r ∷ rs) =
    cons-most (ltb (r.start + d) total) (run (r.start + d) (min (r.«end» + d) (total - 1))) (shift_left_runs total d rs) (length rs) (left-length total d rs)

right-length : (d : ℕ) (rs : List Run) → length (shift_right_runs d rs) ≤ length rs
unfolding shift_right_runs
right-length d [] = omega arith
right-length d (r ∷ rs) =
    cons-most (leb d r.«end») (run (r.start - d) (r.«end» - d)) (shift_right_runs d rs) (length rs) (right-length d rs)

shift-length : (total d : ℕ) (left : Bool) (rs : List Run) → length (shift_runs total d left rs) ≤ length rs
unfolding shift_runs
shift-length total d true rs = left-length total d rs
shift-length total d false rs = right-length d rs

-- THE LAW: no shift adds a run
pub moved-few : (d : ℕ) (left : Bool) (P : Positions) → stretches (moved d left P) ≤ stretches P
unfolding stretches
moved-few d left P =
    let rs : List Run = held_runs P in
    let same : mem (shift_runs size d left rs) ≡ moved d left P =
    shift-positions d left rs (held_runs-canon P) ∙ moved-cong d left (mem rs) P (mem-held_runs P) in
    omega (
      arith,
      stretches-is (moved d left P) (shift_runs size d left rs) (shift-canon size d left rs (held_runs-canon P)) (λ x h. ap (λ Q. Q x) same),
      shift-length size d left rs,
    )
