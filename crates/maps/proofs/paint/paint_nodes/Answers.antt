-- `paint_nodes` meets its contract. The loop's invariant: the runs of the nodes before m are painted. Assumes nothing.
use Rattle.std.proofs.Common.{ap, ◌∙◌, arith}
use Rattle.maps.specs.Window.{place_in}
use Rattle.maps.proofs.Showing.{scan-nodes, nodes-none, nodes-low, nodes-other, nodes-run, nodes-at}
use Rattle.maps.proofs.paint.paint_nodes.Goals as goal
use Rattle.maps.proofs.paint.paint_nodes.Goals.{then-v-gt0+then-v-h, else-v-gt0, else-v-gt0-via-then-v-gt0+else-v-h, else-v-gt0-via-else-v-gt0}

pub loop-m-init : goal.loop-m-init
loop-m-init c = nodes-none _ _ _ _ _

pub loop-m-preserved : goal.loop-m-preserved
loop-m-preserved c =
    let i = c.loop-m.invariant in
    let k = c.requires.scannable.1 in
    nodes-at (elim c.if-v-gt0.branch [
      | then-v-gt0+then-v-h w ↦
          nodes-run i (omega arith) k (omega (arith, c.loop-m-test.true, scan-nodes k)) c.read_node-v.ensures w.if-v-gt0.true
          w.if-v-h.true (omega (arith, c.well_formed)) c.args.window.within (w.place.ensures ∙ ap (place_in c.args.window.base) w.to_logical-first.ensures)
          (w.place-then-v-h.ensures ∙ ap (place_in c.args.window.base) w.to_logical-last.ensures) w.paint_run.ensures w.map-is
      | else-v-gt0 w ↦ elim w.else-v-gt0.branch [
        | else-v-gt0-via-then-v-gt0+else-v-h u ↦ nodes-other i (omega arith) c.read_node-v.ensures u.if-v-h.false w.map-is
        | else-v-gt0-via-else-v-gt0 u ↦ nodes-low i (omega arith) c.read_node-v.ensures u.if-v-gt0.false w.map-is
      ]
    ]) (omega arith)
