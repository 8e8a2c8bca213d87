use Rattle.theorems.proofs.Laws.{shift-through, shifted-through, shifted-is-shift, shifts-add, shifts-empty, shifted-add}
use Rattle.theorems.proofs.Laws.{shifted-empty, left-right, left-right-clears, shifted-left-right, right-left, shifts-swap}
use Rattle.theorems.proofs.shifts.Goals as goal

pub returns : goal.returns
returns c = record {
  shift_through = shift-through;
  shifted_through = shifted-through;
  shifted_is_shift = shifted-is-shift;
  shifts_add = shifts-add;
  shifts_empty = shifts-empty;
  shifted_add = shifted-add;
  shifted_empty = shifted-empty;
  left_right = left-right;
  left_right_clears = left-right-clears;
  shifted_left_right = shifted-left-right;
  right_left = right-left;
  shifts_swap = shifts-swap;
}
