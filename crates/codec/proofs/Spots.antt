-- Where the bytes of runs stand in a written set of either edition: byte j of run i has its spot, every byte is at one, and what an edition
-- arranges or reads is told by spots. So both editions are read and written by one derivation. Assumes nothing.
use Rattle.std.proofs.Common.{ℕ, zero, suc, ◌+◌, ◌*◌, ◌/◌, ◌%◌, ◌≤◌, ◌<◌, ◌≡◌, sym, ap, ◌∙◌, List, mod-lt, div-lt_iff_lt-mul, mul_comm, mul-le-mul_right, add-mul, zero-mul, arith}
use Rattle.std.proofs.Common.{length, take, drop, get_or, length-drop, get_or-drop}
use native.Mathlib.Nat.{div-add-mod}
use Rattle.model.specs.declared.Run.{Run}
use Rattle.model.specs.declared.Edition.{Edition}
use Rattle.model.specs.declared.Edition.TheVariants.{Rows, Columns}
use Rattle.model.specs.Positions.{run}
use Rattle.model.specs.Bytes.{value_of, arranged, in_rows, runs_told}
use Rattle.model.proofs.Codec.{decode_runs-at, runs_told-length}
use Rattle.model.proofs.Columns.{columns-at, columns-length}
use Rattle.codec.specs.Placed.{picked, first_of, step_of}
use Rattle.codec.proofs.Apart.{picked-row}

-- where byte j of run i stands among the bytes of n runs
abbrev pub spot : Edition → ℕ → ℕ → ℕ → ℕ
spot e n i j = first_of e i + j * step_of e n

-- ---- spots
-- every byte of n runs is at one
pub record AtSpot (e : Edition) (n p : ℕ) : Type 0 where
  pub row : ℕ
  pub place : ℕ
  pub below : row < n
  pub small : place < 16
  pub here : p ≡ spot e n row place

pub at-spot : (e : Edition) (n p : ℕ) → p < 16 * n → AtSpot e n p
at-spot Rows n p h = record { row = p / 16; place = p % 16; below = omega arith; small = omega arith; here = omega arith }
at-spot Columns zero p h = absurd (omega arith)
at-spot Columns (suc n) p h = record {
  row = p % suc n;
  place = p / suc n;
  below = mod-lt p (omega arith);
  small = (div-lt_iff_lt-mul {k = suc n} (omega arith)).1 h;
  here = sym (omega (arith, div-add-mod p (suc n), mul_comm (p / suc n) (suc n)));
}

-- and no other one
pub spot-below : (e : Edition) (n i j : ℕ) → i < n → j < 16 → spot e n i j < 16 * n
spot-below Rows n i j below small = omega arith
spot-below Columns n i j below small = let k : j ≤ 15 = omega arith in omega (arith, mul-le-mul_right n k)

-- what an edition arranges
pub spot-arranged : (e : Edition) (n i j : ℕ) → i < n → j < 16 → (bs : List ℕ) → get_or (arranged e n bs) (spot e n i j) 0 ≡ get_or bs (16 * i + j) 0
spot-arranged Rows n i j below small bs = ap (λ (p : ℕ). get_or bs p 0) (omega arith)
spot-arranged Columns n i j below small bs = let p : i + j * n ≡ n * j + i = omega arith in rw p (columns-at n 16 bs i j below small)

-- and what it reads
spot-rows : (e : Edition) (n i j : ℕ) → i < n → j < 16 → (bs : List ℕ) → get_or (in_rows e n bs) (16 * i + j) 0 ≡ get_or bs (spot e n i j) 0
spot-rows Rows n i j below small bs = ap (λ (p : ℕ). get_or bs p 0) (omega arith)
spot-rows Columns n i j below small bs = let p : i + j * n ≡ n * j + i = omega arith in rw p (columns-at 16 n bs j i small below)

-- ---- reading
-- as many runs are told as are asked for
pub told_length : (e : Edition) (n : ℕ) (bs : List ℕ) → length (runs_told e n bs) ≡ n
told_length = runs_told-length

-- what is read of n runs has 16 bytes for each
told-long : (e : Edition) (n : ℕ) (bs : List ℕ) → 5 + 16 * n ≤ length bs → 16 * n ≤ length (in_rows e n (drop 5 bs))
told-long Rows n bs h = simp length-drop (omega arith)
told-long Columns n bs h = rw (columns-length 16 n (drop 5 bs)) (omega arith)

module _ (e : Edition) (n i : ℕ) (bs : List ℕ) (below : i < n) (long : 5 + 16 * n ≤ length bs) where
  -- eight bytes of run i
  word-picked : (j : ℕ) → j + 8 ≤ 16 → take 8 (drop (16 * i + j) (in_rows e n (drop 5 bs))) ≡ picked 8 (5 + spot e n i j) (step_of e n) bs
  word-picked j h =
      picked-row 8 (in_rows e n (drop 5 bs)) (16 * i + j) (5 + spot e n i j) (step_of e n) bs (omega (arith, told-long e n bs long)) at
    where
      at : (k : ℕ) → k < 8 → get_or (in_rows e n (drop 5 bs)) (16 * i + j + k) 0 ≡ get_or bs (5 + spot e n i j + k * step_of e n) 0
      at k l =
          let p : 16 * i + j + k ≡ 16 * i + (j + k) = omega arith in
          let q : 5 + spot e n i (j + k) ≡ 5 + spot e n i j + k * step_of e n = rw (add-mul j k (step_of e n)) (omega arith) in
          rw p (spot-rows e n i (j + k) below (omega arith) (drop 5 bs) ∙ get_or-drop 5 bs (spot e n i (j + k)) 0 ∙ rw q)

  -- run i is told by bytes a step apart, as its edition has them
  pub told-run : {d : Edition} {q : Run} → e ≡ d
      → q ≡ run (value_of (picked 8 (5 + first_of d i) (step_of d n) bs)) (value_of (picked 8 (5 + first_of d i + 8 * step_of d n) (step_of d n) bs))
      → q ≡ get_or (runs_told e n (drop 5 bs)) i (run 0 0)
  unfolding runs_told
  told-run r p =
      let z : 16 * i + 0 ≡ 16 * i = omega arith in
      let s : 5 + spot e n i 0 ≡ 5 + first_of e i = omega (arith, zero-mul (step_of e n)) in
      let first : take 8 (drop (16 * i) (in_rows e n (drop 5 bs))) ≡ picked 8 (5 + first_of e i) (step_of e n) bs = rw (z, s) at (word-picked 0 (omega arith)) in
      let t : 5 + spot e n i 8 ≡ 5 + first_of e i + 8 * step_of e n = omega arith in
      let last : take 8 (drop (16 * i + 8) (in_rows e n (drop 5 bs))) ≡ picked 8 (5 + first_of e i + 8 * step_of e n) (step_of e n) bs = rw t at (word-picked 8 (omega arith)) in
      p ∙ sym (decode_runs-at n (in_rows e n (drop 5 bs)) i (run 0 0) below ∙ rw (first, last, r))
