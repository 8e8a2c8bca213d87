-- `overwrite` meets its contract. The loop's invariant: the runs that came are laid. Assumes nothing.
use Rattle.std.proofs.Common.{arith, rules}
use Rattle.changes.proofs.Overwriting.{laying-none, laying-more, overwrite-room, overwrite-small, overwrite-linkable, overwritten}
use Rattle.changes.proofs.overwrite.overwrite.Goals as goal

pub loop-r-init : goal.loop-r-init
loop-r-init g c = laying-none

pub lay_run-node-requires : goal.lay_run-node-requires
lay_run-node-requires g c =
    overwrite-room c.requires.fits.1 c.into_iter-r-iterator.ensures.into_iter_gives _ c.loop-r.yielded_by c.links_of.ensures c.give_back-k.ensures c.loop-r.invariant c.in-Some.ensures.steps

pub overflow_add-n : goal.overflow_add-n
overflow_add-n g c =
    omega (arith, overwrite-small c.requires.fits.1 c.into_iter-r-iterator.ensures.into_iter_gives _ c.loop-r.yielded_by c.links_of.ensures c.give_back-k.ensures c.loop-r.invariant c.in-Some.ensures.steps)

pub loop-r-preserved : goal.loop-r-preserved
loop-r-preserved g c = laying-more c.loop-r.invariant (search rules) (search rules) c.lay_run-node.ensures

pub link-requires : goal.link-requires
link-requires g c =
    overwrite-linkable c.requires.fits.1 c.into_iter-r-iterator.ensures.into_iter_gives _ c.loop-r.yielded_by c.links_of.ensures c.give_back-k.ensures c.loop-r.invariant c.in-None.ensures.steps

pub returns : goal.returns
returns g c =
    λ rs o.
    overwritten o c.into_iter-r-iterator.ensures.into_iter_gives _ c.loop-r.yielded_by c.links_of.ensures c.give_back-k.ensures c.loop-r.invariant c.in-None.ensures.steps c.link.ensures
