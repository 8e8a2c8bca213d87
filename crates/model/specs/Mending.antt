-- THE PLAIN MODEL, part 2a: mending a written set whose runs stand in any order, touching and overlapping (document 02, Ticket 9).
use Rattle.std.specs.Prelude.{Bool, false, cond, not, ◌&&◌, ◌||◌, List, [], ◌∷◌, ℕ, suc, leb, ltb, eqb}
use Rattle.model.specs.declared.Run.{Run}
use Rattle.model.specs.Positions.{Positions, inside, held_runs, run_at, mem}
use Rattle.model.specs.Bytes.{encode, edition_of, decode}

-- the outcome holds the positions of all runs whose start is not above their end
abbrev pub mended_positions : List ℕ → Positions
mended_positions bs = mem (decode bs)

-- it is written in the edition read
unfoldable pub mended_set : List ℕ → List ℕ
mended_set bs = encode (edition_of bs) (held_runs (mended_positions bs))

-- whether a run of a list, other than that at place p, lies in the run q of the outcome; k is the list's first place. A run whose start is above
-- its end is dropped; any other lies in the run of the outcome that has its start
unfoldable pub another : Run → ℕ → ℕ → List Run → Bool
another q p k [] = false
another q p k (r ∷ rs) = (not (eqb k p) && (leb r.start r.«end» && inside q.start q.«end» r.start)) || another q p (suc k) rs

-- what became of the run r at place p of the list rs: 0 dropped; 1 joined, it shares its run of the outcome with another one; 2 kept
unfoldable pub fate : List Run → ℕ → Run → ℕ
fate rs p r = cond (ltb r.«end» r.start) 0 (cond (another (run_at (mem rs) r.start) p 0 rs) 1 2)

-- that of each, from place p on
unfoldable pub fates_from : List Run → ℕ → List Run → List ℕ
fates_from rs p [] = []
fates_from rs p (q ∷ qs) = fate rs p q ∷ fates_from rs (suc p) qs

unfoldable pub mend_report : List ℕ → List ℕ
mend_report bs = fates_from (decode bs) 0 (decode bs)
