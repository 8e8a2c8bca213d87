-- `shifted` meets its contract: an opened world is read under an offset moved by the distance, and what comes in from the other end is cut off.
-- Assumes nothing.
use Rattle.std.proofs.Common.{◌≡◌, ℕ, ◌+◌, ◌-◌, ◌%◌, ◌<◌, [], ◌∷◌, refl, sym, ap, subst, arith}
use Rattle.model.specs.declared.Operation.TheVariants.{And}
use Rattle.model.specs.Numbers.{size}
use Rattle.model.specs.Positions.{combined, shift_by, mem, run}
use Rattle.model.specs.Model.{positions_of}
use Rattle.pool.specs.Layout.{held_from}
use Rattle.pool.proofs.Parts.{lent}
use Rattle.interval_bit_set.specs.Met.{site, fed_of}
use Rattle.interval_bit_set.proofs.Joins.{view-rooted, left-alike, right-alike}
use Rattle.interval_bit_set.proofs.Overwriting.{carried, carried-kept, makes, reads-nothing}
use Rattle.interval_bit_set.proofs.Looking.{found, shut-one, shut-first}
use Rattle.interval_bit_set.proofs.checked.Pool.shifted.Goals as goal
use Rattle.interval_bit_set.proofs.checked.Pool.shifted.Goals.{After-gathered, then-left, else-left}

-- what is kept ends within the positions
pub gathered-requires-clause-sources : goal.gathered-requires-clause-sources
gathered-requires-clause-sources c =
    elim c.if-left.branch [
      | then-left w ↦ record { left = view-rooted c.in_ok-v.ensures.1; right = omega (arith, ap (λ t. t.2) w.moved-is) }
      | else-left w ↦ record { left = view-rooted c.in_ok-v.ensures.1; right = omega (arith, ap (λ t. t.2) w.moved-is) }
    ]

-- what is read under the offset t.0 from t.1 to t.2 is the shifted set
Shifted : (c : After-gathered) → ℕ × ℕ × ℕ → Type 0
Shifted c t = (x : ℕ) → x < size
    → combined And (held_from (lent c.args.a.words.now) c.in_ok-v.v.root t.0) (mem (run t.1 t.2 ∷ [])) x
    ≡ shift_by c.args.distance c.args.left (positions_of (fed_of c.args.a.words.now c.args.i)) x

pub returns-clause-met : goal.returns-clause-met
unfolding Shifted
returns-clause-met c =
    let o = goal.at.returns-clause-met c in
    let below = c.ranges.distance.fits in
    let p = found c.args.a.checked c.in_ok-v.ensures.0 in
    let f : Shifted o.After-gathered c.if-left.moved =
    elim c.if-left.branch [
      | then-left w ↦
          subst (Shifted o.After-gathered) (sym w.moved-is)
          (left-alike p c.in_ok-v.ensures.1 _ _ (omega (arith, below)) _ (omega (arith, c.view.type_inv)) w.if-left.true refl)
      | else-left w ↦
          subst (Shifted o.After-gathered) (sym w.moved-is)
          (right-alike p c.in_ok-v.ensures.1 _ _ (omega (arith, below)) ((c.in_ok-v.v.offset + (size - c.args.distance)) % size) (omega arith)
          w.if-left.false (omega (arith, below, c.view.type_inv)))
    ] in
    carried (makes refl (reads-nothing [] p refl)) (found c.args.self.now.checked c.in_ok-opened.ensures.0) _ refl f c.gathered.result c.gathered.ensures

pub returns-in_err-opened-clause-met : goal.returns-in_err-opened-clause-met
returns-in_err-opened-clause-met c =
    shut-one _ (site c.args.a.words.now c.args.i ∷ []) _ c.from_residual.ensures.1 (λ e p. p) refl (c.args.self.now.checked, (c.args.a.checked, tt)) c.in_err-opened.ensures

pub returns-in_err-v-clause-met : goal.returns-in_err-v-clause-met
returns-in_err-v-clause-met c =
    shut-first _ (site c.args.a.words.now c.args.i) [] _ c.from_residual-in_err-v.ensures.1 (λ e p. p) refl (c.args.self.now.checked, (c.args.a.checked, tt))
    c.in_ok-opened.ensures.0 c.in_err-v.ensures

pub gathered-requires-clause-readable : goal.gathered-requires-clause-readable
gathered-requires-clause-readable c = found c.args.self.now.checked c.in_ok-opened.ensures.0

pub invariant_of-self : goal.invariant_of-self
invariant_of-self c = record { checked = carried-kept _ _ _ c.args.self.now.checked c.gathered.ensures }
