-- The laws hold (specs/Laws.antt): each is what the lemma files show of positions, of a call that was not refused, and of two worlds that are shifted.
-- Assumes nothing.
use Rattle.interval_bit_set.proofs.Meeting.{readable}
use Rattle.theorems.specs.Laws.{
  Counts-add,
  Shift-through,
  Shifted-through,
  Shifted-is-shift,
  Shifts-add,
  Shifts-empty,
  Shifted-add,
  Shifted-empty,
  Left-right,
  Left-right-clears,
  Shifted-left-right,
  Right-left,
  Shift-unrefused,
  Unrefused-shifted,
  Converse-fails,
}
use Rattle.theorems.specs.Swaps.{
  Reports-swap,
  Worlds-swap,
  Overwritten,
  Ranges-swap,
  Sets-swap,
  Sets-one-value,
  Set-covered,
  Flips-swap,
  Flip-undone,
  Shifts-swap,
  Set-strict,
  Flip-strict,
}
use Rattle.theorems.proofs.Calls.{shift-done, strict-set, strict-flip}
use Rattle.theorems.proofs.Pairing.{both-moved, both-copied, place-through, copy-through, still-unrefused}
use Rattle.theorems.proofs.OtherWay.{other_way}
use Rattle.theorems.proofs.Counting.{tallies-add}
use Rattle.theorems.proofs.Twice.{copy_is, twice-add, twice-empty, copies-add, copies-empty, twice-back, twice-clears, copies-back, twice-forth, twice-either}
use Rattle.theorems.proofs.Apart.{ranges_apart, sets-disjoint}
use Rattle.theorems.proofs.Sides.{sets-alike, set-needless, flips-either, flip-again}
use Rattle.theorems.proofs.Swapping.{reports-either, worlds-either, needless}

pub counts-add : Counts-add
counts-add s t w w' w'' v v' v'' s' t' i j l u value n m p q r₁ r₂ r₃ r₄ a b c d e f = tallies-add s t l u value a b c d e f

pub shift-through : Shift-through
shift-through op d left s t s' t' w w₁ w₂ v v₁ i j m n B k = place-through op d left m n (both-moved d left B) k

pub shifted-through : Shifted-through
shifted-through op d left s t s' t' w w₁ x x₁ v v₁ i h j m n B k = copy-through op d left m n (both-copied d left B) k

pub shifted-is-shift : Shifted-is-shift
shifted-is-shift d left w w' v v' i j m n = copy_is d left m n

pub shifts-add : Shifts-add
shifts-add d e left w w₁ w₂ v i m n k = twice-add d e left m n k

pub shifts-empty : Shifts-empty
shifts-empty d e left w w₁ w₂ i m n h = twice-empty d e left m n h

pub shifted-add : Shifted-add
shifted-add d e left s w w₁ v v₁ x x₁ i j h m n k = copies-add d e left s m n k

pub shifted-empty : Shifted-empty
shifted-empty d e left s w w₁ v v₁ i j m n h = copies-empty d e left s m n h

pub left-right : Left-right
left-right d w w₁ w₂ i m n = twice-back d m n

pub left-right-clears : Left-right-clears
left-right-clears d w w₁ w₂ v i a h m n c = twice-clears d h m n c

pub shifted-left-right : Shifted-left-right
shifted-left-right d s w w₁ v v₁ i j m n = copies-back d s m n

pub right-left : Right-left
right-left d w w₁ w₂ i m n = twice-forth d m n

pub shift-unrefused : Shift-unrefused
shift-unrefused d left w w' i a S l m = shift-done d left (readable (record { sound = S; named = l })) m

pub unrefused-shifted : Unrefused-shifted
unrefused-shifted op d left s t s₁ t₁ s' t' w w₁ v v₁ i a b c f g B e m k = still-unrefused op d left m f g B e k

pub converse-fails : Converse-fails
converse-fails u u₁ u₂ u₃ v v₁ v₂ v₃ w w₁ w₂ w₃ a b c d e f g h k eu mu su tu ev mv sv tv ew mw x y = other_way eu mu su tu ev mv sv tv ew mw x y

-- ---- swaps
pub reports-swap : Reports-swap
reports-swap w w₁ w₂ v₁ v₂ i j c d a b a' b' e f m n k l = reports-either c d e f m n k l

pub worlds-swap : Worlds-swap
worlds-swap w w₁ w₂ v₁ v₂ i j c d r q r' q' ne m n k l = worlds-either c d ne m n k l

pub overwritten : Overwritten
overwritten w w₁ w₂ v i c d a b b' o m n k = needless c d o m n k

pub ranges-swap : Ranges-swap
ranges-swap c d a n b m w w₁ w₂ v₁ v₂ i r q r' q' C D h k l k' l' = ranges_apart c d C D h k l k' l'

pub sets-swap : Sets-swap
sets-swap l u l' u' b b' w w₁ w₂ v₁ v₂ i n m n' m' D s t s' t' = sets-disjoint l u l' u' b b' D s t s' t'

pub sets-one-value : Sets-one-value
sets-one-value l u l' u' b w w₁ w₂ v₁ v₂ i n m n' m' s t s' t' = sets-alike l u l' u' b s t s' t'

pub set-covered : Set-covered
set-covered l u l' u' b b' w w₁ w₂ v i m a c C s t k = set-needless l u l' u' b b' C s t k

pub flips-swap : Flips-swap
flips-swap l u l' u' w w₁ w₂ v₁ v₂ i f g f' g' = flips-either l u l' u' f g f' g'

pub flip-undone : Flip-undone
flip-undone l u w w₁ w₂ i f g = flip-again l u f g

pub shifts-swap : Shifts-swap
shifts-swap d e left w w₁ w₂ v₁ v₂ i m n k l = twice-either d e left m n k l

pub set-strict : Set-strict
set-strict l u b w w₁ v i n m s t = strict-set l u b s t

pub flip-strict : Flip-strict
flip-strict l u w w₁ v i s t = strict-flip l u s t
