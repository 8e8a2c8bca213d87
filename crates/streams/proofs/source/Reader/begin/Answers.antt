-- `begin` meets its contract: the runs from the position's place on are put on the path. Assumes nothing.
use mathlib.Core.Path.{refl}
use native.Mathlib.Omega.{arith}
use Rattle.streams.proofs.Starts.{root_below, root-coming, begin-ahead}
use Rattle.streams.proofs.source.Reader.begin.Goals as goal

pub descend-requires : goal.descend-requires
descend-requires c = (_, _, root_below c.requires.rooted c.requires.bare)

pub returns : goal.returns
returns c = record {
  rooted = c.requires.rooted;
  left = (
    refl,
    begin-ahead c.args.self.now.view (root-coming c.requires.rooted c.requires.bare _ c.descend.ensures) (omega (arith, c.well_formed)) (omega (arith, c.well_formed))
        c.to_physical.ensures,
  );
}
