-- `paint_nodes` meets its contract. The loop's invariant: the runs of the nodes before m are painted. Assumes nothing.
use Rattle.std.proofs.Common.{◌-◌}
use Rattle.maps.specs.Painted.{PaintsNodes}
use Rattle.maps.proofs.paint.paint_nodes.Given as goal

abbrev pub invariant-loop-m : goal.invariant-loop-m
invariant-loop-m l = PaintsNodes l.words l.h l.window.base l.window.n (l.m - 1) l.initial.map l.map
