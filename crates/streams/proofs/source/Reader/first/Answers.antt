-- `first` meets its contract: the first part goes on, or over the seam at physical M into the last part. Assumes nothing.
use mathlib.Core.Path.{sym, ◌∙◌}
use Rattle.pool.specs.Layout.{physical_runs}
use Rattle.model.specs.Positions.{Positions}
use Rattle.streams.specs.Reading.{OnPath, FirstAt, lastly, firstly}
use Rattle.streams.proofs.Parts.{pop-all}
use Rattle.streams.proofs.Firsts.{first-whole, first-then, first-some, first-join, first-stop, first-after}
use Rattle.streams.proofs.Starts.{again, whole-coming}
use Rattle.streams.proofs.Readers.{seam-at, find-over}
use Rattle.streams.proofs.source.Reader.first.Goals as goal
use Rattle.streams.proofs.source.Reader.first.Goals.{After-descend, After-descend-2}

-- all runs are to come: after the first part
over : (c : After-descend) (Q : Positions) → FirstAt c.args.self.now c.args.from.0 Q
    → OnPath c.args.self.now.words.now c.descend.new.self (physical_runs c.args.self.now.words.now c.args.self.now.view.root)
over c Q h = whole-coming h.rooted (c.in_default.ensures _ h.part.part.on).1 c.descend.ensures

-- or after a run that reaches physical M
all : (c : After-descend-2) (Q : Positions) → FirstAt c.args.self.now c.args.from.0 Q
    → OnPath c.args.self.now.words.now c.descend-2.new.self (physical_runs c.args.self.now.words.now c.args.self.now.view.root)
all c Q h = whole-coming h.rooted (pop-all h.part.part c.in-Some.ensures c.if-r-lt18446744073709551615.false) c.descend-2.ensures

pub descend-requires : goal.descend-requires
descend-requires c = again c.requires.1.rooted (c.in_default.ensures _ c.requires.1.part.part.on).1

pub last-requires : goal.last-requires
last-requires c = (_, seam-at c.seam-seam.ensures c.requires.1 (over (goal.at.last-requires c).After-descend _ c.requires.1))

pub returns-in_default : goal.returns-in_default
returns-in_default c = find-over _ _ _ _ _ _ _ c.seam-seam.ensures c.in_default.ensures (over (goal.at.returns-in_default c).After-descend) c.last.ensures

pub returns-then-r-lt18446744073709551615 : goal.returns-then-r-lt18446744073709551615
returns-then-r-lt18446744073709551615 c = λ Q h. (
  first-whole h.part c.in-Some.ensures c.to_physical-p.ensures c.max.ensures c.to_logical-start.ensures c.if-r-lt18446744073709551615.true
      c.to_logical.ensures,
  record {
    rooted = h.rooted;
    ahead = firstly (first-then h.part c.in-Some.ensures c.to_physical-p.ensures c.max.ensures c.to_logical-start.ensures c.if-r-lt18446744073709551615.true
        c.to_logical.ensures);
  },
)

pub descend-requires-2 : goal.descend-requires-2
descend-requires-2 c = again c.requires.1.rooted (pop-all c.requires.1.part.part c.in-Some.ensures c.if-r-lt18446744073709551615.false)

pub starts_at_zero-requires : goal.starts_at_zero-requires
starts_at_zero-requires c = (_, all (goal.at.starts_at_zero-requires c).After-descend-2 _ c.requires.1)

pub last-requires-then-starts_at_zero : goal.last-requires-then-starts_at_zero
last-requires-then-starts_at_zero c =
    (_, seam-at c.seam-seam.ensures c.requires.1 (all (goal.at.last-requires-then-starts_at_zero c).After-descend-2 _ c.requires.1))

pub returns-in_err-last : goal.returns-in_err-last
returns-in_err-last c =
    rw c.from_residual.ensures
    (λ Q h.
    let a = all (goal.at.returns-in_err-last c).After-descend-2 Q h in
    first-some h.part c.in-Some.ensures c.to_physical-p.ensures c.max.ensures c.to_logical-start.ensures c.if-r-lt18446744073709551615.false
    (sym (c.starts_at_zero.ensures _ a) ∙ c.if-starts_at_zero.true) c.seam-seam.ensures (c.in_err-last.ensures Q (seam-at c.seam-seam.ensures h a)).0)

pub returns-in_ok-last : goal.returns-in_ok-last
returns-in_ok-last c = λ Q h.
    let a = all (goal.at.returns-in_ok-last c).After-descend-2 Q h in
    let g = c.in_ok-last.ensures Q (seam-at c.seam-seam.ensures h a) in (
      first-join h.part c.in-Some.ensures c.to_physical-p.ensures c.max.ensures c.to_logical-start.ensures c.if-r-lt18446744073709551615.false
          (sym (c.starts_at_zero.ensures _ a) ∙ c.if-starts_at_zero.true) c.seam-seam.ensures g.0,
      g.1,
    )

pub returns-else-starts_at_zero : goal.returns-else-starts_at_zero
returns-else-starts_at_zero c = λ Q h.
    let a = all (goal.at.returns-else-starts_at_zero c).After-descend-2 Q h in (
      first-stop h.part c.in-Some.ensures c.to_physical-p.ensures c.max.ensures c.to_logical-start.ensures c.if-r-lt18446744073709551615.false a
          c.to_logical-else-starts_at_zero.ensures (sym (c.starts_at_zero.ensures _ a) ∙ c.if-starts_at_zero.false),
      record {
        rooted = h.rooted;
        ahead = lastly (first-after h.part c.in-Some.ensures c.to_physical-p.ensures c.max.ensures c.to_logical-start.ensures
            c.if-r-lt18446744073709551615.false a c.to_logical-else-starts_at_zero.ensures);
      },
    )
