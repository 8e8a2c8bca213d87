-- The comparison of two worlds meets its contract: it is told by whether their XOR has a run.
-- Assumes nothing.
use Rattle.std.proofs.Common.{◌≡◌, ℕ, Bool, leb, List, refl, ◌∙◌, ap₂, []}
use Rattle.model.specs.declared.Operation.TheVariants.{Xor}
use Rattle.model.specs.Positions.{combined, stretches, same}
use Rattle.model.specs.Call.{Call, value}
use Rattle.model.specs.Model.{positions_of}
use Rattle.pool.specs.Layout.{held_from, held_by}
use Rattle.pool.proofs.Parts.{lent}
use Rattle.streams.specs.declared.source.View.{View}
use Rattle.interval_bit_set.specs.Met.{site, fed_of, Readable}
use Rattle.interval_bit_set.specs.Joined.{ViewOf}
use Rattle.interval_bit_set.proofs.Meeting.{Reports}
use Rattle.interval_bit_set.proofs.Overwriting.{reads-nothing}
use Rattle.interval_bit_set.proofs.Joins.{view-held, read_as, same-fits}

-- the comparison reports whether the positions are the same
pub equal-says : {v : List ℕ} {i : ℕ} {w : List ℕ} {j : ℕ} → Readable w j → Reports v i (Call.equal (site w j)) [] (λ P. value (same P (positions_of (fed_of w j))))
equal-says R = record { further = _; read = reads-nothing [] R refl; said = refl }

-- two readable worlds, by the runs of their XOR
pub same-as : {v w : List ℕ} {i j : ℕ} {x y : View} {r : Bool} → Readable w j → ViewOf v i x → ViewOf w j y
    → r ≡ leb (stretches (combined Xor (held_from (lent v) x.root x.offset) (held_from (lent w) y.root y.offset))) 0
    → r ≡ same (held_by v i) (positions_of (fed_of w j))
same-as {v} {w} {i} {j} R X Y e =
    e ∙ ap₂ (λ P Q. leb (stretches (combined Xor P Q)) 0) (view-held X) (read_as R Y) ∙ same-fits (held_by v i) (positions_of (fed_of w j))
