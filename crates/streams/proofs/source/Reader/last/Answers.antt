-- `last` meets its contract: nothing is left, or the first run to come is the next one, clipped to where the reading stands and to M.
-- Assumes nothing.
use mathlib.Core.Path.{refl}
use Prim.Native.Nat.{◌<◌}
use native.Mathlib.Omega.{arith}
use Rattle.model.specs.Numbers.{size}
use Rattle.streams.specs.Reading.{lastly}
use Rattle.streams.proofs.Lasts.{last_none, last-past, last-run, last-then}
use Rattle.streams.proofs.source.Reader.last.Goals as goal

pub returns-in_err-r : goal.returns-in_err-r
returns-in_err-r c = rw c.from_residual.ensures (λ Q h. (last_none h.part c.in_err-r.ensures, h.rooted, refl))

pub returns-then-r-top : goal.returns-then-r-top
returns-then-r-top c = λ Q h. (
  last-past h.part c.in_ok-r.ensures (omega (arith, c.well_formed)) c.to_physical-top.ensures c.if-r-top.true,
  h.rooted,
  refl,
)

pub returns : goal.returns
returns c = λ Q h.
    let y : c.args.from.0 < size = omega (arith, c.well_formed) in
    let o : c.args.self.now.view.offset < size = omega (arith, c.well_formed) in (
      last-run h.part c.in_ok-r.ensures y o c.to_physical-top.ensures c.if-r-top.false c.to_physical-p.ensures c.max.ensures c.to_logical.ensures c.min.ensures
          c.to_logical-2.ensures,
      record {
        rooted = h.rooted;
        ahead = lastly (last-then h.part c.in_ok-r.ensures y o c.to_physical-top.ensures c.if-r-top.false c.to_physical-p.ensures c.max.ensures
            c.to_logical.ensures c.min.ensures c.to_logical-2.ensures);
      },
    )
