-- `allowance` meets its contract. The invariant of both loops: what is left and what the worlds passed so far claim, but for world k, are the
-- capacity. Assumes nothing.
use Rattle.pool.proofs.Base.{◌≡◌, ℕ, ◌+◌, ◌≤◌, subst, arith}
use Rattle.pool.proofs.Worlds.{LeftOver, leaves-more, leaves-same, claim-left}
use Rattle.pool.proofs.allowance.Goals as goal
use Rattle.pool.proofs.allowance.Goals.{After-claim-left, After-claim-left-in-loop-j}

-- what it claims is left
before-fits : (c : After-claim-left) → c.claim-left.result ≤ c.loop-i.left
before-fits c =
    let o = c.loop-i in
    omega (arith, c.claim-left.ensures, claim-left c.requires.sound c.args.k o.left o.i c.requires.named ((omega (arith, c.loop-i-test.true, c.requires.named))) (λ e. omega (arith, c.loop-i-test.true)) o.invariant)

pub overflow_sub-left : goal.overflow_sub-left
overflow_sub-left c = before-fits (goal.at.overflow_sub-left c).After-claim-left

pub loop-i-preserved : goal.loop-i-preserved
loop-i-preserved c =
    let o = c.loop-i in
    leaves-more c.args.words.now c.args.k o.left o.i c.claim-left.result o.invariant (λ e. omega (arith, c.loop-i-test.true)) c.claim-left.ensures
    (before-fits (goal.at.loop-i-preserved c).After-claim-left)

pub loop-j-init : goal.loop-j-init
loop-j-init c =
    let o = c.loop-i in
    let w = c.args.words.now in
    let k = c.args.k in
    let at = o.left in
    let e : o.i ≡ k = omega (arith, o.auto.i-end, c.loop-i-test.false) in
    subst (λ (z : ℕ). LeftOver w k at (z + 1)) e (leaves-same w k at o.i o.invariant e)

after-fits : (c : After-claim-left-in-loop-j) → c.claim-left-in-loop-j.result ≤ c.loop-j.left
after-fits c =
    let o = c.loop-j in
    omega (arith, c.claim-left-in-loop-j.ensures, claim-left c.requires.sound c.args.k o.left o.j c.requires.named ((omega (arith, c.loop-j-test.true, c.opened-n.ensures))) (λ e. omega (arith, o.auto.j)) o.invariant)

pub overflow_sub-left-in-loop-j : goal.overflow_sub-left-in-loop-j
overflow_sub-left-in-loop-j c = after-fits (goal.at.overflow_sub-left-in-loop-j c).After-claim-left-in-loop-j

pub loop-j-preserved : goal.loop-j-preserved
loop-j-preserved c =
    let o = c.loop-j in
    leaves-more c.args.words.now c.args.k o.left o.j c.claim-left-in-loop-j.result o.invariant (λ e. omega (arith, o.auto.j)) c.claim-left-in-loop-j.ensures
    (after-fits (goal.at.loop-j-preserved c).After-claim-left-in-loop-j)
