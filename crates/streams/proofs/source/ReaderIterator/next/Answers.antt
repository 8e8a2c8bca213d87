-- `next` meets its contract: what is found from the position on is the next run, and the reader stands after it. Assumes nothing.
use Rattle.streams.proofs.Readers.{next-none, next-some, reads-goes}
use Rattle.streams.proofs.source.ReaderIterator.next.Goals as goal

pub returns-in_err-r-clause-steps : goal.returns-in_err-r-clause-steps
returns-in_err-r-clause-steps c =
    rw c.from_residual-in_err-r.ensures (next-none _ _ _ _ c.in_ok-from.ensures.value c.in_ok-from.ensures.after c.in_err-r.ensures)

pub returns-clause-steps : goal.returns-clause-steps
returns-clause-steps c = next-some _ _ _ _ _ _ c.in_ok-from.ensures.value c.in_ok-r.ensures c.after-self.ensures

pub returns-clause-goes : goal.returns-clause-goes
returns-clause-goes c = reads-goes _ _ _ c.requires (returns-clause-steps c)
