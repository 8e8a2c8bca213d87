-- Runs as words: how many there are, and at which words each stands. Assumes nothing.
use Rattle.std.proofs.Common.{ℕ, zero, suc, ◌+◌, ◌*◌, ◌<◌, ◌≡◌, refl, ap, ◌∙◌, List, arith, length, drop, get_or, get_or-drop}
use Rattle.model.specs.declared.Run.{Run}
use Rattle.model.specs.Positions.{run}
use Rattle.run_lists.specs.Listed.{pairs}

-- as many runs as are asked for
pub pairs_length : (n : ℕ) (ws : List ℕ) → length (pairs n ws) ≡ n
unfolding pairs
pairs_length zero ws = refl
pairs_length (suc n) ws = ap suc (pairs_length n (drop 2 ws))

-- run i stands at the words 2 i and 2 i + 1
pub pairs_at : (n : ℕ) (ws : List ℕ) (i : ℕ) (d : Run) → i < n → get_or (pairs n ws) i d ≡ run (get_or ws (2 * i) 0) (get_or ws (2 * i + 1) 0)
unfolding pairs
pairs_at zero ws i d h = absurd (omega arith)
pairs_at (suc n) ws zero d h = refl
pairs_at (suc n) ws (suc i) d h =
    let e : 2 + 2 * i ≡ 2 * suc i = omega arith in
    let f : 2 + (2 * i + 1) ≡ 2 * suc i + 1 = omega arith in
    pairs_at n (drop 2 ws) i d (omega arith) ∙ simp (get_or-drop, e, f)
