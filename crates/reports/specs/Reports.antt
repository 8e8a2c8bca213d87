-- What the reports tell: of the runs of a tree, and of a set. Assumes nothing: these are definitions.
use Rattle.std.specs.Prelude.{Option, None, Some, option_map, Result, Ok, Err}
use Rattle.std.specs.Prelude.{◌≡◌, ℕ, suc, ◌+◌, ◌<◌, ◌≤◌, Bool, not}
use Rattle.model.specs.declared.Run.{Run}
use Rattle.model.specs.declared.Logical.{Logical}
use Rattle.model.specs.declared.Tally.{Tally}
use Rattle.model.specs.Numbers.{size, worth}
use Rattle.model.specs.Positions.{Positions, count, select, run_count}
use Rattle.pool.specs.declared.places.Physical.{Physical}

-- the numbers of positions that were found
abbrev pub logical_number : Option Logical → Option ℕ
logical_number o = option_map (λ x. x.0) o

abbrev pub physical_number : Option Physical → Option ℕ
physical_number o = option_map (λ x. x.0) o

-- the positions of a value among the n from a, and the runs of it there
pub record Measured (P : Positions) (v : Bool) (a n : ℕ) (r : Tally) : Type 0 where
  pub count-is : worth r.count ≡ count P v a n
  pub runs-are : r.runs ≡ run_count P v a n

-- the place of the k-th position of a value from s to e, or how many are left to pass after e
abbrev pub Place : Positions → Bool → ℕ → ℕ → ℕ → Result Physical ℕ → Type 0
Place P v s n k (Ok x) = (k < count P v s n) × (select P v s n k ≡ Some x.0)
Place P v s n k (Err j) = count P v s n + j ≡ k

-- the least position of a value at or after x, if there is one
abbrev pub Next : Positions → Bool → ℕ → Option ℕ → Type 0
Next P v x (Some y) = (x ≤ y) × (y < size) × (P y ≡ v) × ((z : ℕ) → x ≤ z → z < y → P z ≡ not v)
Next P v x None = (z : ℕ) → x ≤ z → z < size → P z ≡ not v

-- the greatest position of a value at or before x, if there is one
abbrev pub Previous : Positions → Bool → ℕ → Option ℕ → Type 0
Previous P v x (Some y) = (y ≤ x) × (P y ≡ v) × ((z : ℕ) → y < z → z ≤ x → P z ≡ not v)
Previous P v x None = (z : ℕ) → z ≤ x → P z ≡ not v

-- the start of the first run at or after x
abbrev pub start_of : Option Run → Option ℕ
start_of None = None
start_of (Some r) = Some r.start

-- the k-th of the n positions from a that have the value v
abbrev pub Selects : Positions → Bool → ℕ → ℕ → ℕ → Option ℕ → Type 0
Selects P v a n k r = r ≡ select P v a n k

-- from y to x all positions have the value, and y is the first one or the one before it has not
pub record StretchStart (P : Positions) (v : Bool) (first x y : ℕ) : Type 0 where
  pub from : first ≤ y
  pub upto : y ≤ x
  pub same : (z : ℕ) → y ≤ z → z ≤ x → P z ≡ v
  pub stop : (z : ℕ) → first ≤ z → suc z ≡ y → P z ≡ not v

-- from x to y all positions have the value, and y is the last one or the next one has not
pub record StretchEnd (P : Positions) (v : Bool) (x last y : ℕ) : Type 0 where
  pub from : x ≤ y
  pub upto : y ≤ last
  pub same : (z : ℕ) → x ≤ z → z ≤ y → P z ≡ v
  pub stop : y < last → P (suc y) ≡ not v
