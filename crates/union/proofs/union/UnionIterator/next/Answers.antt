-- `next` meets its contract: an entry joins the last run or begins one; where none is left the last run is handed out. Assumes nothing.
use Rattle.std.proofs.Common.{◌≡◌, ◌+◌, ◌<◌, ◌≤◌, min, max, length, true, false, None, List, ◌++◌, ◌∷◌, [], subst, le_trans, lt_of_lt_of_le, leb-true, leb-false, ap, sym, ◌∙◌}
use Rattle.model.specs.declared.Run.{Run}
use Rattle.union.specs.Entries.{entry}
use Rattle.union.specs.Groups.{alone}
use Rattle.union.specs.Bands.{Rises, Goes}
use Rattle.union.proofs.Steps.{next-below, next-first, next-joins, next-begins, next-front, last-draws}
use Rattle.union.specs.Joins.{pending}
use Rattle.union.proofs.Iterated.{pending-on, pending-less, pending_last, union-goes}
use Rattle.union.proofs.union.UnionIterator.next.Goals as goal
use Rattle.union.proofs.union.UnionIterator.next.Goals.{In-Some, After-run-r, After-alone-begun, After-take}
use Rattle.union.proofs.union.UnionIterator.next.Given.{Over}

-- the list stays
same : (g : Over) (c : In-Some g) → c.next.new.self.list ≡ c.args.self.now.places.list
same g c = c.in-Some.ensures.0 ∙ c.loop-place.invariant.list

-- the entry is the one at the place
read : (g : Over) (c : After-run-r g) → c.run-r.result ≡ entry (g.L.RunList.runs c.args.self.now.places.list) c.in-Some.place
read g c = c.run-r.ensures ∙ ap (λ l. entry (g.L.RunList.runs l) c.in-Some.place) (c.in-Some.ensures.0 ∙ c.loop-place.invariant.list)

-- and the run of it alone
begun : (g : Over) (c : After-alone-begun g) → c.run-r.result ≡ entry (g.L.RunList.runs c.args.self.now.places.list) c.in-Some.place
    → c.alone-begun.result ≡ alone (g.L.RunList.runs c.args.self.now.places.list) c.in-Some.place
begun g c r = c.alone-begun.ensures ∙ ap (λ (r : Run). record { start = r.start; «end» = r.«end»; place = c.in-Some.place; sole = true }) r

-- the place comes behind the others
comes : (g : Over) (c : In-Some g) (ps : List _) → Rises (g.L.RunList.runs c.args.self.now.places.list) ps c.loop-place.self.places
    → Rises (g.L.RunList.runs c.args.self.now.places.list) (ps ++ c.in-Some.place ∷ []) c.next.new.self
comes g c = subst (λ l. (ps : List _) → Rises (g.L.RunList.runs l) ps c.loop-place.self.places → Rises (g.L.RunList.runs l) (ps ++ c.in-Some.place ∷ []) c.next.new.self)
    c.loop-place.invariant.list c.in-Some.ensures.1.0

pub next-requires : goal.next-requires
next-requires g c =
    let k = c.loop-place.invariant.goes c.requires.0 c.requires.1 in
    (k.places, subst (λ l. Rises (g.L.RunList.runs l) k.places c.loop-place.self.places) (sym c.loop-place.invariant.list) k.rises)

pub run-r-requires : goal.run-r-requires
run-r-requires g c =
    let s = (goal.at.run-r-requires g c).In-Some in
    let k = c.loop-place.invariant.goes c.requires.0 c.requires.1 in
    subst (λ l. c.in-Some.place < length (g.L.RunList.runs l)) (sym (same g s)) (next-below k _ (comes g s k.places k.rises))

pub loop-place-preserved-in_default-last : goal.loop-place-preserved-in_default-last
loop-place-preserved-in_default-last g c =
    let s = (goal.at.loop-place-preserved-in_default-last g c).In-Some in
    let r = read g (goal.at.loop-place-preserved-in_default-last g c).After-run-r in
    let b = begun g (goal.at.loop-place-preserved-in_default-last g c).After-alone-begun r in
    record {
      list = same g s;
      goes = λ done k.
          let u = c.loop-place.invariant.goes done k in
          next-first u _ (comes g s u.places u.rises) _ b c.in_default-last.is;
      less = le_trans (pending-on c.loop-place.self c.next.new.self c.alone-begun.result c.in-Some.ensures.1.1) c.loop-place.invariant.less;
    }

pub returns-then-not-reaches-clause-steps : goal.returns-then-not-reaches-clause-steps
returns-then-not-reaches-clause-steps g c =
    let s = (goal.at.returns-then-not-reaches-clause-steps g c).In-Some in
    let r = read g (goal.at.returns-then-not-reaches-clause-steps g c).After-run-r in
    let b = begun g (goal.at.returns-then-not-reaches-clause-steps g c).After-alone-begun r in
    let e = c.in-Some-last.g.«end» in
    let l = subst (λ (x : Run). e + 1 < x.start) r (leb-false c.run-r.result.start (e + 1) (sym c.reaches.ensures ∙ c.if-not-reaches.true)) in (
      same g s,
      λ done k.
          let u = c.loop-place.invariant.goes done k in
          let t = comes g s u.places u.rises in
          (next-front u _ t _ c.in-Some-last.is, next-begins u _ t _ c.in-Some-last.is _ b l),
    )

pub returns-then-not-reaches-clause-goes : goal.returns-then-not-reaches-clause-goes
returns-then-not-reaches-clause-goes g c =
    let l = pending-less c.loop-place.self c.next.new.self c.alone-begun.result c.in-Some-last.g c.in-Some-last.is c.in-Some.ensures.1.1 in
    union-goes g.L.RunList.runs _ _ _ c.requires (returns-then-not-reaches-clause-steps g c) (lt_of_lt_of_le l c.loop-place.invariant.less)

pub loop-place-preserved : goal.loop-place-preserved
loop-place-preserved g c =
    let s = (goal.at.loop-place-preserved g c).In-Some in
    let r = read g (goal.at.loop-place-preserved g c).After-run-r in
    let h = c.in-Some-last.g in
    let l = subst (λ (x : Run). x.start ≤ h.«end» + 1) r (leb-true c.run-r.result.start (h.«end» + 1) (sym c.reaches.ensures ∙ c.if-not-reaches.false)) in
    let w = c.with.ensures ∙ ap (λ (x : Run). record { start = h.start; «end» = max h.«end» x.«end»; place = min h.place c.in-Some.place; sole = false }) r in
    record {
      list = same g s;
      goes = λ done k.
          let u = c.loop-place.invariant.goes done k in
          next-joins u _ (comes g s u.places u.rises) h c.in-Some-last.is _ w l;
      less = le_trans (pending-on c.loop-place.self c.next.new.self c.with.result c.in-Some.ensures.1.1) c.loop-place.invariant.less;
    }

-- no entry is left
spent : (g : Over) (c : After-take g) → Goes (g.L.RunList.runs c.args.self.now.places.list) c.loop-place.self.places None c.next.new.self
spent g c = subst (λ l. Goes (g.L.RunList.runs l) c.loop-place.self.places None c.next.new.self) c.loop-place.invariant.list c.in_default.ensures.1

pub returns-clause-steps : goal.returns-clause-steps
returns-clause-steps g c =
    let i = c.loop-place.invariant in
    let n = spent g (goal.at.returns-clause-steps g c).After-take in
    let es = g.L.RunList.runs c.args.self.now.places.list in (
      c.in_default.ensures.0 ∙ i.list,
      rw c.take.ensures.after (last-draws es c.args.self.now c.loop-place.self c.next.new.self i.goes n c.take.result (sym c.take.ensures.value)),
    )

pub returns-clause-goes : goal.returns-clause-goes
returns-clause-goes g c =
    let i = c.loop-place.invariant in
    let k = i.goes c.requires.0 c.requires.1 in
    let z = spent g (goal.at.returns-clause-goes g c).After-take k.places k.rises in
    let l = pending_last c.loop-place.self c.next.new.self z.1 z.2 (pending c.args.self.now) i.less c.take.result (sym c.take.ensures.value) in
    union-goes g.L.RunList.runs _ _ _ c.requires (returns-clause-steps g c) (rw c.take.ensures.after l)
