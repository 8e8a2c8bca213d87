-- `resize` meets its contract: at k it writes the new run; elsewhere it writes the node as it will be, and goes on in the side that the start
-- k names. The measure is the height of the part at hand, as its word has it. Assumes nothing.
use Rattle.run_index.proofs.Heap.{height_at}
use Rattle.run_index.proofs.Resizing.{Way}
use Rattle.run_index.proofs.resize.Given as goal

abbrev pub invariant-loop-s : goal.invariant-loop-s
invariant-loop-s l = Way l.initial.s l.s l.p l.q l.k l.start l.«end» l.more

abbrev pub decreases-loop-s : goal.decreases-loop-s
decreases-loop-s l = height_at l.s l.q
