-- How long the texts are: what is printed has 52 bytes at most, and 42 for each run. Assumes nothing.
use Prim.Native.Nat.{ℕ, zero, suc, ◌+◌, ◌*◌, ◌/◌, ◌≤◌}
use mathlib.Core.Path.{◌≡◌, refl}
use mathlib.Core.Bool.{Bool, true, false, cond}
use mathlib.Core.List.{List, [], ◌∷◌}
use native.Mathlib.Omega.{arith}
use lib.Dec.{ltb}
use lib.ListN.{length, length-append}
use Rattle.model.specs.declared.Run.{Run}
use Rattle.model.specs.Numbers.{size}
use Rattle.model.specs.Positions.{Positions, count, held_runs, stretches}
use Rattle.model.proofs.Pools.{claims-split}
use Rattle.pool.specs.Layout.{capacity, held_by, plain_at, worlds_of}
use Rattle.pool.specs.Settle.{Openable}
use Rattle.pool.proofs.WorldLists.{opened-world}
use Rattle.listset.specs.Digits.{last_digits}
use Rattle.listset.specs.Text.{places, decimal, run_line, run_lines, refused_line, count_lines, set_lines}

-- k digits are k bytes
digits-length : (b k n : ℕ) → length (last_digits b k n) ≡ k
digits-length b zero n = refl
digits-length b (suc k) n = grind (arith, length-append, digits-length b k (n / b))

-- no more places than the bound allows
places-few : (f n : ℕ) → places f n ≤ suc f
unfolding places
places-few zero n = omega arith
places-few (suc f) n = go (ltb n 10) (places-few f (n / 10))
  where
    go : (t : Bool) → places f (n / 10) ≤ suc f → cond t 1 (suc (places f (n / 10))) ≤ suc (suc f)
    go true l = omega arith
    go false l = omega (arith, l)

-- a decimal has 20 digits at most
decimal-short : (n : ℕ) → length (decimal n) ≤ 20
unfolding decimal
decimal-short n = omega (arith, digits-length 10 (places 19 n) n, places-few 19 n)

run-short : (r : Run) → length (run_line r) ≤ 42
unfolding run_line
run-short r = grind (arith, length-append, decimal-short)

counts-short : (a b : ℕ) → length (count_lines a b) ≤ 52
unfolding count_lines
counts-short a b = grind (arith, length-append, decimal-short)

pub refused-short : (n : ℕ) → length (refused_line n) ≤ 29
unfolding refused_line
refused-short n = grind (arith, length-append, decimal-short)

runs-short : (rs : List Run) → length (run_lines rs) ≤ 42 * length rs
unfolding run_lines
runs-short [] = omega arith
runs-short (r ∷ rs) = omega (arith, length-append (run_line r) (run_lines rs), run-short r, runs-short rs)

-- an opened world has no more runs than the pool has room for, so its lines fit
pub set-short : {w : List ℕ} {i : ℕ} → Openable w i → length (set_lines (held_by w i)) ≤ 52 + 42 * capacity w
unfolding set_lines stretches
set-short {w} {i} op =
    let P : Positions = held_by w i in
    let counts = count_lines (stretches P) (count P true 0 size) in
    omega (
      arith,
      length-append counts (run_lines (held_runs P)),
      counts-short (stretches P) (count P true 0 size),
      runs-short (held_runs P),
      op.sound.fits,
      claims-split (worlds_of w) i (plain_at w i) (opened-world w i op.named),
    )
