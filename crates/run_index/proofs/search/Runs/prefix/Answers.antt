-- `prefix` meets its contract: before a position lies what `rank_at` tells of the one before it, where a wrapped count of 0 is told from none
-- by the starts. Assumes nothing.
use Rattle.std.proofs.Common.{◌≡◌, ◌+◌, ◌-◌, ◌%◌, ◌^◌, ◌≤◌, refl, ◌∙◌, arith}
use Rattle.std.proofs.lemmas.Bool.Decides.{nat_tests}
use Rattle.model.specs.Numbers.{worth}
use Rattle.run_index.proofs.Searching.{before-none, before-some}
use Rattle.run_index.proofs.search.Runs.prefix.Goals as goal
use Rattle.run_index.proofs.search.Runs.prefix.Goals.{then-b-eq0, else-b-eq0}

pub returns-then-end-eq0-2 : goal.returns-then-end-eq0-2
returns-then-end-eq0-2 c =
    before-none (worth c.args.«end») _ (omega (arith, c.if-end-eq0.true, c.if-end-eq0-2.true))

pub returns : goal.returns
returns c =
    let some : 1 ≤ c.args.«end».carry + c.args.«end».low = omega (arith, c.else-end-eq0.either) in
    let next : (c.args.«end».low + (2 ^ 64 - 1)) % 2 ^ 64 + 1 ≡ worth c.args.«end» = omega (arith, c.requires, some) in
    before-some (worth c.args.«end») _ next c.requires c.rank_at-b.ensures.in_order c.rank_at-b.ensures.ranked c.from.result
    (λ z n. c.from.ensures ∙ elim c.if-b-eq0.branch [ then-b-eq0 w ↦ rw (w.full-is, n) refl | else-b-eq0 w ↦ absurd (w.if-b-eq0.false z) ])
    (λ z n. c.from.ensures ∙ elim c.if-b-eq0.branch [ then-b-eq0 w ↦ grind (arith, nat_tests) | else-b-eq0 w ↦ absurd (w.if-b-eq0.false z) ])
    (λ z. c.from.ensures ∙ elim c.if-b-eq0.branch [ then-b-eq0 w ↦ absurd (omega (arith, w.if-b-eq0.true)) | else-b-eq0 w ↦ grind (arith, nat_tests) ])
