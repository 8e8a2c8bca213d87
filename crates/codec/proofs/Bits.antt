-- The bits of positions lie above those of the positions before them, and a byte is the bits of its eight positions. Assumes nothing.
use Rattle.std.proofs.Common.{ℕ, zero, suc, ◌+◌, ◌*◌, ◌^◌, ◌<◌, ◌≡◌, sym, ◌∙◌, List, add-zero, add-suc, suc-add, mul_left_comm, arith, get_or}
use native.Mathlib.Nat.{pow-succ'}
use Rattle.model.specs.Positions.{Positions}
use Rattle.model.specs.Bytes.{bits, map_bit}
use Rattle.model.proofs.Maps.{bits-bound, bits-tell, bits-bit, byte-bit}

-- the bits of k positions more lie above those of n
pub bits_above : (Q : Positions) (x n k : ℕ) → bits Q x n + bits Q (x + n) k * 2 ^ n ≡ bits Q x (n + k)
unfolding bits
bits_above Q x zero k =
    let e : 0 + k ≡ k = omega arith in rw (e, add-zero) (omega arith)
bits_above Q x (suc n) k =
    rw (pow-succ', suc-add, add-suc, ← suc-add, ← bits_above Q (suc x) n k, mul_left_comm) (omega arith)

-- a byte is the bits of its eight positions
pub byte-is : (bs : List ℕ) (j : ℕ) → get_or bs j 0 < 256 → get_or bs j 0 ≡ bits (map_bit bs) (8 * j) 8
byte-is bs j h = bits-tell 8 (get_or bs j 0) (bits (map_bit bs) (8 * j) 8) h (bits-bound (map_bit bs) (8 * j) 8) (λ i g. byte-bit bs j i g ∙ sym (bits-bit (map_bit bs) (8 * j) 8 i g))
