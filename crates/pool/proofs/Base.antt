-- The names of other crates, and of the definitions, that most proofs of this crate cite, passed on from one place. Declares nothing.
pub use Rattle.model.proofs.Edit.{and-holds}
pub use Rattle.model.proofs.Numbers.{split}
pub use Rattle.model.proofs.RunList.{mem-above, mem-before, mem-in}
pub use Rattle.model.proofs.Runs.{held_runs-is, stretches-cong, stretches-is}
pub use Rattle.model.proofs.Search.{mem-last, reaches}
pub use Rattle.model.specs.Numbers.{most_worlds, size}
pub use Rattle.model.specs.Pools.{PlainWorld, claim, limits_at}
unfoldable pub use Rattle.model.specs.Pools.{claims, limits_from, limits_of, other_claims}
pub use Rattle.model.specs.Positions.{Positions, one_if}
unfoldable pub use Rattle.model.specs.Positions.{empty, held_runs, mem, stretches}
pub use Rattle.model.specs.Refusals.{floors}
pub use Rattle.model.specs.RunList.{Canon}
pub use Rattle.model.specs.declared.Limits.{Limits}
pub use Rattle.model.specs.declared.Run.{Run}
pub use Rattle.run_index.proofs.Bound.{rep-numbered, rep-positive}
pub use Rattle.run_index.proofs.Heap.{frame}
pub use Rattle.run_index.proofs.Reached.{index-runs}
pub use Rattle.run_index.proofs.Strings.{length_both, strung-kept, times-append}
pub use Rattle.run_index.proofs.Totals.{runs-length}
pub use Rattle.run_index.proofs.Trees.{leaf-at, rep-cell, rep-left, rep-right, rep-room, rep_pos, sums-node, wrote_as, δ-other, δ-same, δ≤1}
pub use Rattle.run_index.proofs.Words.{same-node}
pub use Rattle.run_index.specs.Cells.{Room, Wrote}
unfoldable pub use Rattle.run_index.specs.Cells.{cell_at}
pub use Rattle.run_index.specs.Search.{Index, Indexed}
unfoldable pub use Rattle.run_index.specs.Search.{runs_from}
pub use Rattle.run_index.specs.Strung.{Free, free_cell, times}
pub use Rattle.run_index.specs.Tree.{At, Balanced, Made, Rep, Sums, Tree, cell, count, height, inorder, leaf, node, ones, runs, width}
unfoldable pub use Rattle.run_index.specs.Tree.{tree_from, δ}
pub use Rattle.run_index.specs.declared.Node.{Node}
pub use Rattle.std.proofs.Common.{Bool, List, None, Some, [], ap, ap₂, arith, cond, eq-eqb, eqb, eqb-true, false, get_or, inl, inr, le-leb, le-ltb, leb, leb-true, length, length-append, lt-ltb, ltb, max, min, ne_eqb, not, refl, rules}
pub use Rattle.std.proofs.Common.{subst, suc, sym, true, zero, ℕ, ◌%◌, ◌&&◌, ◌*◌, ◌++◌, ◌+◌, ◌-◌, ◌/◌, ◌<◌, ◌^◌, ◌||◌, ◌∙◌, ◌∷◌, ◌≡◌, ◌≤◌, ◌⊎◌}
pub use Rattle.std.proofs.lemmas.Bool.Decides.{nat_tests}
pub use Rattle.pool.specs.Decision.{Seen, Tells, told_runs}
unfoldable pub use Rattle.pool.specs.Decision.{agrees_b, along_of, below_of, cell_b, chain_b, falls, free_b, header_b, heights_b, inside_b, nothing_b, place_b, place_of, rest_b, run_b, runs_of, sound_b, sums_b, tree_b, unopened_b}
unfoldable pub use Rattle.pool.specs.Decision.{world_b, worlds_b}
pub use Rattle.pool.specs.Free.{GivesBack, after, limits_or_none}
pub use Rattle.pool.specs.Layout.{Headed, MadeHeader, WroteRecord, capacity, capacity_of, ceiling_at, floor_at, free_head, held, held_in, highest, links_of, node_count, opened_at, plain_at, record_of, world_at, world_by}
unfoldable pub use Rattle.pool.specs.Layout.{allowance, header_at, held_by, held_from, nodes, padding, physical_runs, record_at, tree_at, turned, worlds_from, worlds_of}
pub use Rattle.pool.specs.Places.{logical_of, physical_of}
pub use Rattle.pool.specs.Relink.{lows}
pub use Rattle.pool.specs.Settle.{Became, Closes, Closing, LinksUp, Openable, Opened, Strewn}
pub use Rattle.pool.specs.Soundness.{Chain, Foreign, KeepsLimits, Represents, Planted, Footprint, Sound, Standing, SameFrame, count_at, first_of, last_of, runs_at, footprint_of, without}
unfoldable pub use Rattle.pool.specs.Soundness.{sum_to}
pub use Rattle.pool.specs.declared.Links.{Links}
pub use Rattle.pool.specs.declared.Set.{Set}
pub use Rattle.pool.specs.declared.World.{World}
pub use Rattle.pool.specs.declared.layout.Header.{Header}
pub use Rattle.pool.specs.declared.layout.Record.{Record}
pub use Rattle.pool.specs.declared.soundness.Bounds.{Bounds}
pub use mathlib.Core.Bool.{and-false}
pub use mathlib.Core.Path.{fun_ext}
pub use mir.Val.{bool_byte}
pub use native.Mathlib.Decide.{ℕ_discrete}
