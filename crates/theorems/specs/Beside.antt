-- Calls on one world of each of two pools, while their neighbours are called in between. Assumes nothing: these are definitions.
use Rattle.std.specs.Prelude.{ℕ, ◌≡◌, List, [], ◌∷◌}
use Rattle.model.specs.Call.{Call, Answer}
use Rattle.model.specs.Model.{plan}
use Rattle.model.specs.Pools.{other_claims}
use Rattle.pool.specs.Layout.{worlds_of}
use Rattle.interval_bit_set.specs.Met.{Site, fed_at, Met}

-- calls on worlds other than i led from the words w to the words w'
pub data Neighbours (i : ℕ) : List ℕ → List ℕ → Type 0 where
  none : {w : List ℕ} → Neighbours i w w
  call :
      {w w' w'' : List ℕ} {j : ℕ} {c : Call Site} {a : Answer}
      → (i ≡ j → ⊥)
      → Met w j c a w'
      → Neighbours i w' w''
      → Neighbours i w w''

-- equal calls on world i of the words w and of the words v got the answers rs and qs, and left the words w' and v'. In
-- between the neighbours in either pool were called, each time until both pools had the same sum over them of the larger of
-- runs and floor
pub data Beside (i : ℕ) : List ℕ → List ℕ → List Answer → List Answer → List ℕ → List ℕ → Type 0 where
  rest : {w v : List ℕ} → Beside i w v [] [] w v
  call :
      {w w' w'' v v' v'' : List ℕ} {c d : Call Site} {a b : Answer} {rs qs : List Answer}
      → plan fed_at c ≡ plan fed_at d
      → Met w i c a w'
      → Met v i d b v'
      → Beside i w' v' rs qs w'' v''
      → Beside i w v (a ∷ rs) (b ∷ qs) w'' v''
  others :
      {w w' w'' v v' v'' : List ℕ} {rs qs : List Answer}
      → Neighbours i w w'
      → Neighbours i v v'
      → other_claims (worlds_of w') i ≡ other_claims (worlds_of v') i
      → Beside i w' v' rs qs w'' v''
      → Beside i w v rs qs w'' v''
