-- How many runs reading a map leaves: those where the window is cleared, and the map's; and a run goes on over an end of the window where the
-- map's bit there and the neighbour are both held. Assumes nothing.
use Rattle.std.proofs.Common.{◌≡◌, ℕ, suc, ◌+◌, ◌-◌, true, false, ◌&&◌, leb, List, ap, ◌∙◌, sym, arith}
use mathlib.Core.Bool.{and_comm}
use Rattle.model.specs.Positions.{Positions, one_if, run_count, set_range, stretches}
use Rattle.model.specs.Bytes.{map_bit, mapped}
use Rattle.model.proofs.Maps.{mapped_in}
use Rattle.model.specs.Neighbours.{goes_on, held_below, held_above}
use Rattle.model.proofs.After.{runs-replaced}
use Rattle.changes.specs.declared.edit.Border.{Border}
use Rattle.changes.specs.Edits.{Surrounds}
use Rattle.changes.proofs.Neighbours.{goes_on-changed-above, goes_on-changed-below}
use Rattle.changes.proofs.SetRuns.{set-false-leaves}
use Rattle.changes.proofs.Fitting.{leb-like}
use Rattle.maps.specs.Window.{MapOfWindow}
use Rattle.maps.proofs.Windows.{mapped-below, mapped-above}

-- ---- the runs that are left
module _ (P : Positions) (base n : ℕ) (bs : List ℕ) (win : MapOfWindow base n bs) where
  -- over the lower end
  low_goes : goes_on (mapped base n bs P) base ≡ (map_bit bs 0 && held_below P base)
  low_goes =
      let q : base ≡ base + 0 = omega arith in
      goes_on-changed-above P (mapped base n bs P) base (map_bit bs 0) (omega (arith, win.some, win.within)) (mapped-below base n bs P)
      (ap (mapped base n bs P) q ∙ mapped_in base n bs P 0 win.some)
      ∙ and_comm (held_below P base) (map_bit bs 0)

  -- over the upper end
  high_goes : goes_on (mapped base n bs P) (suc (base + (n - 1))) ≡ (map_bit bs (n - 1) && held_above P (base + (n - 1)))
  high_goes =
      goes_on-changed-below P (mapped base n bs P) (base + (n - 1)) (map_bit bs (n - 1)) (λ y l. mapped-above base n bs P y (omega (arith, win.some)))
      (mapped_in base n bs P (n - 1) (omega (arith, win.some)))
      ∙ and_comm (held_above P (base + (n - 1))) (map_bit bs (n - 1))

  -- all runs
  map-leaves : stretches (mapped base n bs P) + one_if (map_bit bs 0 && held_below P base) + one_if (map_bit bs (n - 1) && held_above P (base + (n - 1)))
      ≡ stretches (set_range base n false P) + run_count (mapped base n bs P) true base n
  map-leaves =
      let q : base + n ≡ suc (base + (n - 1)) = omega (arith, win.some) in
      omega (
        arith,
        runs-replaced P (mapped base n bs P) base n win.some win.within (λ x l. sym (mapped-below base n bs P x l)) (λ x l _. sym (mapped-above base n bs P x l)),
        set-false-leaves P base n (base + (n - 1)) (omega (arith, win.some)) q (omega (arith, win.some, win.within)),
        ap one_if low_goes,
        ap one_if high_goes,
        ap (λ x. one_if (goes_on P x)) q,
        ap (λ x. one_if (goes_on (mapped base n bs P) x)) q,
      )

-- ---- whether they fit
-- the comparison tells it
pub map-fits-is : {P : Positions} {base n : ℕ} {bs : List ℕ} {r : Border} {runs low high : ℕ} (limit : ℕ) → MapOfWindow base n bs
    → Surrounds P base (base + (n - 1)) r → runs ≡ run_count (mapped base n bs P) true base n
    → low ≡ one_if (map_bit bs 0 && held_below P base) → high ≡ one_if (map_bit bs (n - 1) && held_above P (base + (n - 1)))
    → leb (r.outside + runs) (limit + low + high) ≡ leb (stretches (mapped base n bs P)) limit
map-fits-is {P} {base} {n} {bs} {r} {runs} {low} {high} limit win s e el eh =
    let q : suc (base + (n - 1)) - base ≡ n = omega (arith, win.some) in
    leb-like (stretches (mapped base n bs P)) limit (r.outside + runs) (limit + low + high) (low + high)
    (omega (arith, map-leaves P base n bs win, s.outside-is, e, el, eh, ap (λ m. stretches (set_range base m false P)) q)) (omega arith)
