-- Bytes put into a slice. Assumes nothing: these are definitions.
use Rattle.std.specs.Prelude.{ℕ, zero, suc, ◌+◌, ◌*◌, List, [], ◌∷◌, ◌++◌, length, take, drop, set, get_or}
use Rattle.model.specs.declared.Edition.{Edition}
use Rattle.model.specs.declared.Edition.TheVariants.{Rows, Columns}
use Rattle.model.specs.Bytes.{big_endian, version_of}

-- the bytes bs in place of as many of out from i on
unfoldable pub placed : ℕ → List ℕ → List ℕ → List ℕ
placed i bs out = take i out ++ (bs ++ drop (i + length bs) out)

-- the bytes bs in place of those of out at i, i + step, i + 2 * step and so on
unfoldable pub strewn : ℕ → ℕ → List ℕ → List ℕ → List ℕ
strewn i step [] out = out
strewn i step (b ∷ bs) out = strewn (i + step) step bs (set out i b)

-- k bytes of bs: those at i, i + step, i + 2 * step and so on
unfoldable pub picked : ℕ → ℕ → ℕ → List ℕ → List ℕ
picked zero i step bs = []
picked (suc k) i step bs = get_or bs i 0 ∷ picked k (i + step) step bs

-- what stands before the runs of a written set
abbrev pub head_of : Edition → ℕ → List ℕ
head_of e n = version_of e ∷ big_endian 4 n

-- among the bytes of n runs: where the first byte of run i stands, and how far from a byte of a run its next one is
abbrev pub first_of : Edition → ℕ → ℕ
first_of Rows i = 16 * i
first_of Columns i = i

abbrev pub step_of : Edition → ℕ → ℕ
step_of Rows n = 1
step_of Columns n = n

-- the 16 bytes of the run a..b in place of those of run i of n
unfoldable pub put_run : Edition → ℕ → ℕ → ℕ → ℕ → List ℕ → List ℕ
put_run e n i a b out = strewn (5 + first_of e i) (step_of e n) (big_endian 8 a ++ big_endian 8 b) out
