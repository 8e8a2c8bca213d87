-- `paint_words` meets its contract: the first and the last word have the bits from a on and up to b, in one word those between, and the words
-- between are filled. Assumes nothing.
use Rattle.std.proofs.Common.{◌/◌}
use Rattle.maps.proofs.Painting.{Middle, empty, middle-some, words-one, words_more}
use Rattle.maps.proofs.paint.paint_words.Goals as goal
use Rattle.maps.proofs.paint.paint_words.Goals.{Joined-p-q-3, then-p-q, else-p-q, then-p-q-2, else-p-q-2, then-p-q-3, else-p-q-3}

-- the words between
middle : (c : Joined-p-q-3) → Middle c.add_word.new.map c.if-p-q-3.map (c.args.a / 64) (c.args.b / 64)
middle c =
    elim c.if-p-q-3.branch [
      | then-p-q-3 w ↦ middle-some w.if-p-q-3.true w.fill_middle.ensures w.map-is
      | else-p-q-3 w ↦ empty w.if-p-q-3.false w.map-is
    ]

pub returns : goal.returns
returns c =
    let m = middle (goal.at.returns c).Joined-p-q-3 in
    elim c.if-p-q.branch [
      | then-p-q w ↦ elim c.if-p-q-2.branch [
        | then-p-q-2 u ↦ words-one c.requires.a_le_b c.from_bit-up.ensures c.to_bit-down.ensures c.add_word.ensures m c.add_word-2.ensures w.if-p-q.true w.first-is u.last-is
        | else-p-q-2 u ↦ absurd (u.if-p-q-2.false w.if-p-q.true)
      ]
      | else-p-q w ↦ elim c.if-p-q-2.branch [
        | then-p-q-2 u ↦ absurd (w.if-p-q.false u.if-p-q-2.true)
        | else-p-q-2 u ↦ words_more c.requires.a_le_b c.from_bit-up.ensures c.to_bit-down.ensures c.add_word.ensures m c.add_word-2.ensures w.if-p-q.false w.first-is u.last-is
      ]
    ]
