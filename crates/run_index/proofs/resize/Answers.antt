-- `resize` meets its contract: at k it writes the new run; elsewhere it writes the node as it will be, and goes on in the side that the start
-- k names. The measure is the height of the part at hand, as its word has it. Assumes nothing.
use Rattle.run_index.specs.Promises.{Resizes}
use Rattle.run_index.proofs.Resizing.{way-room, way-done, way_on, way-falls}
use Rattle.run_index.proofs.resize.Goals as goal
use Rattle.run_index.proofs.resize.Goals.{After-write_node}

-- the tree is resized where the run was written
done : (w : After-write_node) → let a = w.args in Resizes a.s.now w.write_node.new.s a.p a.k a.start a.«end» a.more
done w =
    way-done w.loop-s.invariant _ w.read_node-v.ensures w.if-v-k.true w.write_node.ensures

pub read_node-v-requires : goal.read_node-v-requires
read_node-v-requires c = way-room c.loop-s.invariant c.requires

pub write_node-requires : goal.write_node-requires
write_node-requires c =
    way-room c.loop-s.invariant c.requires

pub returns-then-v-k : goal.returns-then-v-k
returns-then-v-k c = done (goal.at.returns-then-v-k c).After-write_node

pub write_node-requires-in-loop-s : goal.write_node-requires-in-loop-s
write_node-requires-in-loop-s c =
    way-room c.loop-s.invariant c.requires

pub loop-s-smaller : goal.loop-s-smaller
loop-s-smaller c =
    way-falls c.loop-s.invariant _ c.read_node-v.ensures c.if-v-k.false c.write_node-in-loop-s.ensures _ c.side_of-q.ensures
    c.requires

pub loop-s-preserved : goal.loop-s-preserved
loop-s-preserved c =
    way_on c.loop-s.invariant _ c.read_node-v.ensures c.if-v-k.false c.write_node-in-loop-s.ensures _ c.side_of-q.ensures
