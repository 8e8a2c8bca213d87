-- `paint_run` meets its contract: a run that does not go round is one range, cut off at the window's end, and one that does is two.
-- Assumes nothing.
use Rattle.std.proofs.Common.{arith}
use Rattle.maps.proofs.Rounds.{Upper, none, upper-some, run-straight, run-round, run_none}
use Rattle.maps.proofs.paint.paint_run.Goals as goal
use Rattle.maps.proofs.paint.paint_run.Goals.{Joined-f-n, then-f-n+else-f-l, else-f-n}

-- the upper piece
upper : (c : Joined-f-n) → Upper c.args.map.now c.if-f-n.map c.args.n c.args.f
upper c =
    elim c.if-f-n.branch [
      | then-f-n+else-f-l w ↦ upper-some w.if-f-n.true w.paint-then-f-n.ensures w.map-is
      | else-f-n w ↦ none w.if-f-n.false w.map-is
    ]

pub returns-then-f-l : goal.returns-then-f-l
returns-then-f-l c =
    run-straight c.if-f-n.true c.if-f-l.true c.min.ensures c.paint.ensures

pub returns-then-l-f : goal.returns-then-l-f
returns-then-l-f c =
    run-round c.if-l-f.true c.min-then-l-f.ensures c.requires.le_n (upper (goal.at.returns-then-l-f c).Joined-f-n) c.paint-then-l-f.ensures

pub returns-else-l-f : goal.returns-else-l-f
returns-else-l-f c =
    elim c.if-f-n.branch [
      | then-f-n+else-f-l w ↦ absurd (omega (arith, w.if-f-l.false, c.if-l-f.false))
      | else-f-n w ↦ run_none w.if-f-n.false c.if-l-f.false w.map-is
    ]
