-- `write_set` meets its contract. The loop's invariant: behind the head the runs that came are put, and the others are still to come. Assumes nothing.
use Rattle.std.proofs.Common.{◌≡◌, ◌+◌, ◌*◌, ◌≤◌, length, sym, ap, ◌∙◌, arith}
use Rattle.std.specs.Iterator.Adapters.{enumerate_source, enumerate_count}
use Rattle.model.specs.Positions.{run, held_runs, stretches}
use Rattle.pool.specs.Layout.{held_in}
use Rattle.streams.specs.declared.source.Reader.{Reader}
use Rattle.streams.specs.Reading.{Draws, Reads}
use Rattle.codec.proofs.Strewing.{head-length, put-none, put-long, put_step, put-set}
use Rattle.streams.proofs.Coming.{comes-next, comes-none}
use Rattle.streams.proofs.Iterated.{count-begins}
use Rattle.streams.proofs.Starts.{standing-rooted}
use Rattle.streams.proofs.Streamed.{draws-list}
use Rattle.streams.proofs.write.write_set.Goals as goal
use Rattle.streams.proofs.write.write_set.Goals.{After-put_head}

-- there is room for all runs
fits : (c : After-put_head) → 5 + 16 * c.run_count-n.result ≤ length c.args.out.now
fits c = omega (arith, c.run_count-n.ensures, c.requires.h_in_bounds)

-- the slice is as long where the loop begins as it was lent
long : (c : After-put_head) → length c.put_head.new.out ≡ length c.args.out.now
long c = head-length c.args.edition c.run_count-n.result c.args.out.now _ (omega (arith, fits c)) c.put_head.ensures

pub open-requires : goal.open-requires
open-requires c = standing-rooted c.requires.stands.1

pub loop-i-init-derived : goal.loop-i-init-derived
loop-i-init-derived c =
    let i = c.into_iter-i-iterator.ensures.into_iter_gives in
    let e = c.enumerate-i-items.ensures in
    (count-begins (λ (r : Reader). r.from) _ c.«open».ensures (ap enumerate_source i ∙ e.source) (ap enumerate_count i ∙ e.count), tt)

pub loop-i-init : goal.loop-i-init
unfolding stretches
loop-i-init c =
    let e = c.enumerate-i-items.ensures in
    rw (c.into_iter-i-iterator.ensures.into_iter_gives, e.source, e.count)
    (put-none c.args.edition _ _ (sym c.run_count-n.ensures), draws-list Reads _ _ c.«open».ensures)

pub put_run-requires : goal.put_run-requires
unfolding stretches
put_run-requires c =
    let s = c.in-Some.ensures.steps in
    let n = comes-next (Draws Reads) (held_runs (held_in c.args.words.now c.args.h)) _ (run 0 0) _ _ c.loop-i.invariant.1 c.in-Some.r s.0 in
    let l = fits (goal.at.put_run-requires c).After-put_head in
    (omega (arith, put-long c.loop-i.invariant.0, long (goal.at.put_run-requires c).After-put_head, l), omega (arith, n.0, s.1, c.run_count-n.ensures))

pub loop-i-preserved : goal.loop-i-preserved
unfolding stretches
loop-i-preserved c =
    let s = c.in-Some.ensures.steps in
    let n = comes-next (Draws Reads) (held_runs (held_in c.args.words.now c.args.h)) _ (run 0 0) _ _ c.loop-i.invariant.1 c.in-Some.r s.0 in
    rw s.2 (put_step c.loop-i.invariant.0 (omega (arith, n.0, c.run_count-n.ensures)) n.1 (rw s.1 at c.put_run.ensures), n.2)

pub returns : goal.returns
unfolding stretches
returns c =
    let l = comes-none (Draws Reads) (held_runs (held_in c.args.words.now c.args.h)) _ (run 0 0) _ _ c.loop-i.invariant.1 c.in-None.ensures.steps.0 in
    put-set c.loop-i.invariant.0 c.args.out.now (fits (goal.at.returns c).After-put_head) c.put_head.ensures (omega (arith, l, c.run_count-n.ensures))
