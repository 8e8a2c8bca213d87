-- EQUAL POSITIONS, EQUAL ANSWERS: a report depends on nothing of a pool but the positions of the worlds that it reads.
-- Assumes nothing: this is a statement.
use Rattle.std.specs.Prelude.{ℕ, ◌<◌, ◌≡◌, List}
use Rattle.model.specs.Call.{Call, Answer}
use Rattle.model.specs.Model.{plan}
use Rattle.pool.specs.Layout.{opened_at, held_by}
use Rattle.pool.specs.Soundness.{Sound}
use Rattle.interval_bit_set.specs.Met.{Site, fed_at, Met}
use Rattle.theorems.specs.Swaps.{kind, reporting}

-- two worlds that hold the same positions, opened in sound pools of whatever capacity and limits, answer every report
-- alike, refused or not: one of the same arguments and slices, whose further worlds earn the same refusal or hold the same
-- positions
abbrev pub Equal-answers : Type 0
Equal-answers =
    (w v : List ℕ) (i j : ℕ) (c d : Call Site) (a b : Answer) (w' v' : List ℕ)
    → Sound w → i < opened_at w → Sound v → j < opened_at v → held_by w i ≡ held_by v j
    → kind c ≡ reporting → plan fed_at c ≡ plan fed_at d
    → Met w i c a w' → Met v j d b v' → a ≡ b
