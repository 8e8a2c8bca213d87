-- Records of calls and answers in a slice: eight words each, one record after another. Assumes nothing.
use Rattle.std.specs.Prelude.{◌≡◌, ℕ, zero, suc, ◌+◌, ◌-◌, ◌*◌, ◌<◌, List, [], take, drop, get_or}
use Rattle.std.specs.Simd.{first_chunks}
use mathlib.Core.Path.{refl, ap, ◌∙◌}
use native.Mathlib.Omega.{arith}
use lib.Seq.{drop-drop, get_or-take, get_or-drop}
use borrow.Rule.Slice.PartMut.{put_mid}
use Rattle.flat.specs.declared.Reply.{Reply}
use Rattle.codec.specs.Placed.{placed}
use Rattle.frame.specs.Records.{entry_at}
use Rattle.flat.specs.Records.{words_of}

-- the record i of a list cut into records is eight words of it
record-words : (n i : ℕ) (cs : List ℕ) → i < n → get_or (first_chunks 8 n cs) i [] ≡ take 8 (drop (8 * i) cs)
record-words zero i cs h = elim h [ ]
record-words (suc n) zero cs h = refl
record-words (suc n) (suc i) cs h =
    let e : 8 + 8 * i ≡ 8 * suc i = omega arith in
    record-words n i (drop 8 cs) (omega arith) ∙ ap (take 8) (drop-drop (8 * i) 8 cs ∙ ap (λ k. drop k cs) e)

-- each where the list has it
record-word : (cs : List ℕ) (i j : ℕ) → j < 8 → get_or (take 8 (drop (8 * i) cs)) j 0 ≡ get_or cs (8 * i + j) 0
record-word cs i j h = get_or-take 8 (drop (8 * i) cs) j 0 h ∙ get_or-drop (8 * i) cs j 0

-- so it is read as the record i of the list
pub record-at : (cs : List ℕ) (n i : ℕ) → i < n → entry_at (get_or (first_chunks 8 n cs) i []) 0 ≡ entry_at cs i
unfolding entry_at
record-at cs n i h =
    let e : 8 * i + 0 ≡ 8 * i = omega arith in
    let w = record-word cs i in
    rw (
      record-words n i cs h,
      w 0 (omega arith) ∙ ap (λ k. get_or cs k 0) e,
      w 1 (omega arith),
      w 2 (omega arith),
      w 3 (omega arith),
      w 4 (omega arith),
      w 5 (omega arith),
      w 6 (omega arith),
      w 7 (omega arith),
    )

-- eight words copied to the record's place put the words of a reply
pub reply-placed : (out : List ℕ) (p : ℕ) (r : Reply) {ws : List ℕ} → ws ≡ words_of r → put_mid p (p + 8 - p) out ws ≡ placed p (words_of r) out
unfolding placed
reply-placed out p r h =
    let e : p + 8 - p ≡ 8 = omega arith in
    rw (e, h, drop-drop 8 p out) refl
