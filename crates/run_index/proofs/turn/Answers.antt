-- `turn` meets its contract: it goes the way that `rebalanced` goes, by the heights it reads, and each way is a lean and a rotation, or one write.
-- Assumes nothing.
use Rattle.std.proofs.Common.{arith}
use Rattle.run_index.specs.Shape.{lean_left, lean_right}
use Rattle.run_index.proofs.Trees.{some_at, height≤runs}
use Rattle.run_index.proofs.Counts.{lean_left-same, lean_right-same}
use Rattle.run_index.proofs.Turning.{left-given, right-given, left-spot, right-spot, left-parts, right-parts, left-rebalanced, right-rebalanced, plain-rebalanced}
use Rattle.run_index.proofs.turn.Goals as goal

pub overflow_add-r : goal.overflow_add-r
overflow_add-r c =
    let p = c.requires in
    let h = p.2 in
    omega (arith, c.sums-l.ensures _ p.0 h.left, c.sums-r.ensures _ p.1 h.right, h.few, height≤runs p.0, height≤runs p.1)

pub rotate_right-requires-clause-joinable : goal.rotate_right-requires-clause-joinable
rotate_right-requires-clause-joinable c =
    let p = c.requires in
    let l = p.0 in
    let sl = c.sums-l.ensures _ l p.2.left in
    let md = c.lean_left-i.ensures l (left-given p.2) in
    (lean_left l, p.1, left-parts (left-spot p.2) md)

pub rotate_right-requires-clause-p_nonzero : goal.rotate_right-requires-clause-p_nonzero
rotate_right-requires-clause-p_nonzero c =
    let p = c.requires in
    let l = p.0 in
    let sl = c.sums-l.ensures _ l p.2.left in
    let md = c.lean_left-i.ensures l (left-given p.2) in
    some_at (lean_left l) md.at (omega (arith, sl, c.if-r-l.true, height≤runs l, lean_left-same 0 l))

pub returns-then-r-l : goal.returns-then-r-l
returns-then-r-l c =
    λ l r h.
    let md = c.lean_left-i.ensures l (left-given h) in
    left-rebalanced h (omega (arith, c.sums-l.ensures _ l h.left, c.sums-r.ensures _ r h.right, c.if-r-l.true)) md
    (c.rotate_right.ensures (lean_left l) r (left-parts (left-spot h) md))

pub overflow_add-l : goal.overflow_add-l
overflow_add-l c =
    let p = c.requires in
    let h = p.2 in
    omega (arith, c.sums-l.ensures _ p.0 h.left, c.sums-r.ensures _ p.1 h.right, h.few, height≤runs p.0, height≤runs p.1)

pub rotate_left-requires-clause-joinable : goal.rotate_left-requires-clause-joinable
rotate_left-requires-clause-joinable c =
    let p = c.requires in
    let r = p.1 in
    let sr = c.sums-r.ensures _ r p.2.right in
    let md = c.lean_right-i.ensures r (right-given p.2) in
    (p.0, lean_right r, right-parts (right-spot p.2) md)

pub rotate_left-requires-clause-q_nonzero : goal.rotate_left-requires-clause-q_nonzero
rotate_left-requires-clause-q_nonzero c =
    let p = c.requires in
    let r = p.1 in
    let sr = c.sums-r.ensures _ r p.2.right in
    let md = c.lean_right-i.ensures r (right-given p.2) in
    some_at (lean_right r) md.at (omega (arith, sr, c.if-l-r.true, height≤runs r, lean_right-same 0 r))

pub returns-then-l-r : goal.returns-then-l-r
returns-then-l-r c =
    λ l r h.
    let sl = c.sums-l.ensures _ l h.left in
    let sr = c.sums-r.ensures _ r h.right in
    let md = c.lean_right-i.ensures r (right-given h) in
    right-rebalanced h (omega (arith, sl, sr, c.if-r-l.false)) (omega (arith, sl, sr, c.if-l-r.true)) md
    (c.rotate_left.ensures l (lean_right r) (right-parts (right-spot h) md))

pub returns : goal.returns
returns c =
    λ l r h.
    let sl = c.sums-l.ensures _ l h.left in
    let sr = c.sums-r.ensures _ r h.right in
    plain-rebalanced h (omega (arith, sl, sr, c.if-r-l.false)) (omega (arith, sl, sr, c.if-l-r.false)) c.pull.ensures
