-- THE MAIN THEOREM, about whole lists of calls, in frames or not, on two pools of one capacity. A pool is known by what
-- its calls promise: no tree and no offset is mentioned. Assumes nothing: these are statements.
use Rattle.std.specs.Prelude.{ℕ, ◌+◌, ◌*◌, ◌≤◌, ◌≡◌, List, length, map, take, Ok, Some}
use Rattle.model.specs.declared.Limits.{Limits}
use Rattle.model.specs.declared.Edition.{Edition}
use Rattle.model.specs.Answers.{OrRefusal}
use Rattle.model.specs.Positions.{Positions}
use Rattle.model.specs.RunList.{AllBytes}
use Rattle.model.specs.Call.{Call, done, gave}
use Rattle.model.specs.Pools.{PlainWorld, world_of, empty_worlds}
use Rattle.pool.specs.Layout.{capacity, worlds_of}
use Rattle.interval_bit_set.specs.Met.{Site, Met}
use Rattle.interval_bit_set.specs.Out.{WritesOut}
use Rattle.theorems.specs.Plays.{Move, plans, Heard, New, Plays, left, worlds_after, Follows}

-- a slice that is long enough for any set of a pool of capacity C
abbrev pub Roomy : ℕ → List ℕ → Type 0
Roomy C out = 5 + 16 * C ≤ length out

-- two sets were written, the first from a world that holds P and the second from one that holds Q: their bytes are the
-- same exactly where P and Q are
pub record SameBytes (P Q : Positions) (r : OrRefusal ℕ) (out : List ℕ) (s : OrRefusal ℕ) (due : List ℕ) : Type 0 where
  pub n : ℕ
  pub m : ℕ
  pub first : r ≡ Ok n
  pub second : s ≡ Ok m
  pub same : P ≡ Q → take n out ≡ take m due
  pub only : take n out ≡ take m due → P ≡ Q

-- sets that are written in one edition from world i of the words w and from world j of the words v, for which the model
-- has the worlds xs and ys
abbrev pub WriteAlike : ℕ → List PlainWorld → List ℕ → List PlainWorld → List ℕ → Type 0
WriteAlike C xs w ys v =
    (e : Edition) (i j : ℕ) (x y : PlainWorld) (out due out' due' : List ℕ) (r s : OrRefusal ℕ)
    → world_of xs i ≡ Some x → world_of ys j ≡ Some y → Roomy C out → Roomy C due
    → WritesOut (Call.write_set e) w i out r out' → WritesOut (Call.write_set e) v j due s due'
    → SameBytes x.positions y.positions r out' s due'

-- every later list of equal moves is heard alike, and leaves equal worlds after each move
abbrev pub PlayAlike : List ℕ → List ℕ → Type 0
PlayAlike w v =
    (ms ns : List (Move (Call Site))) (hs gs : List Heard) (ws vs : List (List ℕ))
    → plans ms ≡ plans ns → Plays w ms hs ws → Plays v ns gs vs → (hs ≡ gs) × (map worlds_of ws ≡ map worlds_of vs)

-- what holds of two plays from new pools of capacity C, with the limits ls and ks: each goes along with the model, given
-- the plans of the moves alone; sets are the same bytes exactly where the model's positions are; and where the model's worlds agree,
-- the two pools play on alike
pub record Agree
    (C : ℕ) (ls ks : List Limits) (w v : List ℕ) (ms ns : List (Move (Call Site))) (hs gs : List Heard) (ws vs : List (List ℕ))
    : Type 0 where
  pub first : Follows C (empty_worlds ls) w ms hs ws
  pub second : Follows C (empty_worlds ks) v ns gs vs
  pub bytes :
      WriteAlike C (worlds_after C (empty_worlds ls) (plans ms)) (left w ws)
      (worlds_after C (empty_worlds ks) (plans ns)) (left v vs)
  pub later :
      worlds_after C (empty_worlds ls) (plans ms) ≡ worlds_after C (empty_worlds ks) (plans ns)
      → PlayAlike (left w ws) (left v vs)

-- ---- bytes that are a set
-- the bytes bs load into some world of some pool of capacity C
pub record Loads (C : ℕ) (bs : List ℕ) : Type 0 where
  pub pool : List ℕ
  pub world : ℕ
  pub sized : capacity pool ≡ C
  pub after : List ℕ
  pub met : Met pool world (Call.load bs) (gave done) after

-- some play at capacity C ends in a pool of which a world writes the bytes bs, in some edition
pub record MayWrite
    (C : ℕ) (limits : List Limits) (moves : List (Move (Call Site))) (world : ℕ) (edition : Edition) (bs : List ℕ) : Type 0 where
  pub first : List ℕ
  pub new : New C limits first
  pub heard : List Heard
  pub states : List (List ℕ)
  pub plays : Plays first moves heard states
  pub out : List ℕ
  pub out' : List ℕ
  pub n : ℕ
  pub writes : WritesOut (Call.write_set edition) (left first states) world out (Ok n) out'
  pub bytes : bs ≡ take n out'

-- every play of these moves does
abbrev pub Writes : ℕ → List Limits → List (Move (Call Site)) → ℕ → Edition → List ℕ → Type 0
Writes C limits moves world edition bs =
    (first : List ℕ) (heard : List Heard) (states : List (List ℕ)) (out out' : List ℕ) (r : OrRefusal ℕ)
    → New C limits first → Plays first moves heard states → Roomy C out
    → WritesOut (Call.write_set edition) (left first states) world out r out'
    → (r ≡ Ok (length bs)) × (take (length bs) out' ≡ bs)

-- some moves write the bytes, whichever of what contracts permit is played; and something is
pub record Writable (C : ℕ) (bs : List ℕ) : Type 0 where
  pub limits : List Limits
  pub moves : List (Move (Call Site))
  pub world : ℕ
  pub edition : Edition
  pub every : Writes C limits moves world edition bs
  pub some : MayWrite C limits moves world edition bs

-- DETERMINISM: two plays from new pools of one capacity agree; and a byte string loads into some world of some pool of
-- a capacity exactly when some play at that capacity writes it
abbrev pub Determinism : Type 0
Determinism =
    ((C : ℕ) (ls ks : List Limits) (w v : List ℕ) (ms ns : List (Move (Call Site))) (hs gs : List Heard) (ws vs : List (List ℕ))
    → New C ls w → New C ks v → Plays w ms hs ws → Plays v ns gs vs → Agree C ls ks w v ms ns hs gs ws vs)
    × ((C : ℕ) (bs : List ℕ) → AllBytes bs
    → (Loads C bs → Writable C bs)
    × ((limits : List Limits) (moves : List (Move (Call Site))) (world : ℕ) (edition : Edition)
    → MayWrite C limits moves world edition bs → Loads C bs))
