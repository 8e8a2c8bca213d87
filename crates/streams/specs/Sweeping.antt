-- What reading two sets together asks and promises. Assumes nothing: these are definitions.
use Rattle.std.specs.Prelude.{ℕ, suc, ◌+◌, ◌-◌, ◌≤◌, ◌<◌, ◌≡◌, Bool, true, false, not, if◌then◌else◌, nat_le, nat_lt, [], ◌∷◌, Option, None, Some}
use Rattle.model.specs.declared.Run.{Run}
use Rattle.model.specs.declared.Logical.{Logical}
use Rattle.model.specs.Numbers.{size}
use Rattle.model.specs.Positions.{Positions, run, mem, combined}
use Rattle.streams.specs.declared.source.Reader.{Reader}
use Rattle.streams.specs.declared.sweep.Cursor.{Cursor}
use Rattle.streams.specs.declared.sweep.Joint.{Joint}
use Rattle.streams.specs.Reading.{Clear, Reads}

-- ---- one reading
-- a .. b is the run of Q at x, or the first one after it; it may have begun before x
pub record Current (a b x : ℕ) (Q : Positions) : Type 0 where
  pub ordered : a ≤ b
  pub ahead : x ≤ b
  pub small : b < size
  pub clear : (z : ℕ) → x ≤ z → z < a → Q z ≡ false
  pub held : (z : ℕ) → x ≤ z → a ≤ z → z ≤ b → Q z ≡ true
  pub stops : suc b < size → Q (suc b) ≡ false

-- a reader has Q from y on, and where there is none nothing is left
abbrev pub Beyond : Option Reader → ℕ → Positions → Type 0
Beyond None y Q = Clear y Q
Beyond (Some r) y Q = Reads r y Q

-- the run of Q at x or the next one is at hand, and the others are to come; or Q is over
abbrev pub AtHand : Option Run → Option Reader → ℕ → Positions → Type 0
AtHand None rest x Q = Clear x Q
AtHand (Some r) rest x Q = Current r.start r.«end» x Q × Beyond rest (suc r.«end») Q

-- A CURSOR that stands at x in Q
abbrev pub Points : Cursor → ℕ → Positions → Type 0
Points c x Q = AtHand c.run c.rest x Q

-- one in the one run a .. b
abbrev pub Covers : Cursor → ℕ → ℕ → Type 0
Covers c a b = Points c 0 (mem (run a b ∷ []))

-- whether the run at hand, or the next one, holds x
abbrev pub held_at : Option Run → ℕ → Bool
held_at None x = false
held_at (Some r) x = nat_le r.start x

-- the last position that by it surely has the value of x
abbrev pub same_until : Option Run → ℕ → ℕ
same_until None x = size - 1
same_until (Some r) x = if nat_lt x r.start then r.start - 1 else r.«end»

-- x is not past the end of the run at hand, or at most n past it
abbrev pub Within : ℕ → Option Run → ℕ → Type 0
Within n None x = Unit {0}
Within n (Some r) x = x ≤ n + r.«end»

-- a cursor that stands at y can move to x
pub record CanMove (c : Cursor) (x y : ℕ) (Q : Positions) : Type 0 where
  pub points : Points c y Q
  pub onward : y ≤ x
  pub within : Within 1 c.run x

abbrev pub Movable : Cursor → ℕ → Type 0
Movable c x = (y : ℕ) × (Q : Positions) × CanMove c x y Q

abbrev pub Moves : Cursor → ℕ → Cursor → Type 0
Moves c x c' = (y : ℕ) (Q : Positions) → CanMove c x y Q → Points c' x Q

-- ---- two of them
-- both cursors stand at x, in sets whose join is J
pub record Both (j : Joint) (x : ℕ) (J : Positions) : Type 0 where
  pub first : Positions
  pub second : Positions
  pub left : Points j.left x first
  pub right : Points j.right x second
  pub is : combined j.op first second ≡ J

-- the first position from x on at which J has the value v
pub record ReachedAt (x at : ℕ) (v : Bool) (J : Positions) : Type 0 where
  pub onward : x ≤ at
  pub small : at < size
  pub before : (z : ℕ) → x ≤ z → z < at → J z ≡ not v
  pub here : J at ≡ v

-- both are moved there, or there is none
abbrev pub Reaches : Joint → ℕ → Bool → Option Logical → Joint → Type 0
Reaches j x v None j' = (J : Positions) → Both j x J → (z : ℕ) → x ≤ z → z < size → J z ≡ not v
Reaches j x v (Some a) j' = (J : Positions) → Both j x J → ReachedAt x a.0 v J × Both j' a.0 J

-- J from x on is to be read from a position on, or nothing is left of it
abbrev pub JoinsFrom : Option Logical → Joint → ℕ → Positions → Type 0
JoinsFrom None j x J = Clear x J
JoinsFrom (Some a) j x J = (a.0 ≡ x) × Both j x J

-- A JOINT that has J to read from x on
pub record Joins (j : Joint) (x : ℕ) (J : Positions) : Type 0 where
  pub rest : JoinsFrom j.from j x J
