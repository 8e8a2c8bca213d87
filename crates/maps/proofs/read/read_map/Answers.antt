-- `read_map` meets its contract: where the survey finds no change the world holds the map already; else it is refused, or `apply_map` reads
-- it. Assumes nothing.
use Rattle.std.proofs.Common.{subst}
use Rattle.pool.specs.Layout.{held_in}
use Rattle.maps.specs.Window.{Surveyed}
use Rattle.maps.proofs.Applying.{nothing-changed}
use Rattle.maps.proofs.read.read_map.Goals as goal
use Rattle.maps.proofs.read.read_map.Goals.{After-survey_map-s}

-- the survey is one of the world's positions
surveyed : {g : _} (c : After-survey_map-s g) → Surveyed (held_in c.args.words.now c.args.h) c.args.map.now.window.base c.args.map.now.window.n c.args.map.now.bytes.now c.survey_map-s.result
surveyed c =
    let m = c.args.map.now in
    subst (λ P. Surveyed P m.window.base m.window.n m.bytes.now c.survey_map-s.result) c.set_of.ensures.positions c.survey_map-s.ensures

pub returns-then-s-eq0 : goal.returns-then-s-eq0
returns-then-s-eq0 g c = nothing-changed _ c.requires.editable (surveyed (goal.at.returns-then-s-eq0 g c).After-survey_map-s).changed-are c.if-s-eq0.true
