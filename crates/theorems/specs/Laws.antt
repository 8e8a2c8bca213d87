-- THE LAWS FOR THE BATCHER (document 02, Ticket 14): calls on the left, calls on the right, and what is the same. Each holds wherever no call named in
-- it is refused. A world is known by what its calls promise: no tree and no offset is mentioned. docs/LAWS.md has each law in words, with an example.
-- Assumes nothing: these are statements. proofs/Laws.antt proves each under its name, in small letters.
use Rattle.std.specs.Prelude.{ℕ, ◌+◌, ◌-◌, ◌≤◌, ◌<◌, ◌≡◌, ◌⊎◌, Bool, true, false, List, [], ◌∷◌}
use Rattle.model.specs.Ends.{Bound}
use Rattle.std.specs.declared.ops.Bound.TheVariants.{Included, Excluded, Unbounded}
use Rattle.model.specs.declared.Limits.{Limits}
use Rattle.model.specs.declared.Operation.{Operation}
use Rattle.model.specs.declared.Operation.TheVariants.{And, Or}
use Rattle.model.specs.Numbers.{size}
use Rattle.model.specs.Positions.{empty}
use Rattle.model.specs.Call.{Call, done, number, tallied, Answer, refused, gave}
use Rattle.pool.specs.Layout.{capacity, opened_at, held_by, worlds_of}
use Rattle.pool.specs.Soundness.{Sound}
use Rattle.interval_bit_set.specs.Met.{Site, site, fed_at, Met, Made}
use Rattle.theorems.specs.Pairs.{Did, holds, SameLeft, BothShift, BothShifted, Shifts}

-- ---- counts
-- the counts of AND and OR, over any range and of either value, add up to those of the two sets
abbrev pub Counts-add : Type 0
Counts-add =
    (s t : Site) (w w' w'' v v' v'' s' t' : List ℕ) (i j : ℕ) (l u : Bound) (value : Bool) (n m p q r₁ r₂ r₃ r₄ : ℕ)
    → Did w i (Call.combine And s t) w' → Met w' i (Call.tally l u value) (gave (tallied n r₁)) w''
    → Did v j (Call.combine Or s t) v' → Met v' j (Call.tally l u value) (gave (tallied m r₂)) v''
    → Met s.words s.world (Call.tally l u value) (gave (tallied p r₃)) s' → Met t.words t.world (Call.tally l u value) (gave (tallied q r₄)) t'
    → n + m ≡ p + q

-- ---- shifts and AND, OR, XOR
-- shifting the outcome in place is the outcome of the two sets shifted in place
abbrev pub Shift-through : Type 0
Shift-through =
    (op : Operation) (d : ℕ) (left : Bool) (s t s' t' : Site) (w w₁ w₂ v v₁ : List ℕ) (i j : ℕ)
    → Did w i (Call.combine op s t) w₁ → Did w₁ i (Call.shift d left) w₂
    → BothShift d left (gave done) (gave done) s t s' t' → Did v j (Call.combine op s' t') v₁
    → SameLeft w i w₂ v j v₁

-- the same of shifted copies
abbrev pub Shifted-through : Type 0
Shifted-through =
    (op : Operation) (d : ℕ) (left : Bool) (s t s' t' : Site) (w w₁ x x₁ v v₁ : List ℕ) (i h j : ℕ)
    → Did w i (Call.combine op s t) w₁ → Did x h (Call.shifted d left (site w₁ i)) x₁
    → BothShifted d left s t s' t' → Did v j (Call.combine op s' t') v₁
    → SameLeft x h x₁ v j v₁

-- a shifted copy is what the shift in place leaves: so the two may be mixed
abbrev pub Shifted-is-shift : Type 0
Shifted-is-shift =
    (d : ℕ) (left : Bool) (w w' v v' : List ℕ) (i j : ℕ)
    → Did w i (Call.shift d left) w' → Did v j (Call.shifted d left (site w i)) v' → held_by w' i ≡ held_by v' j

-- ---- two shifts
-- two shifts the same way are one by the sum of their distances
abbrev pub Shifts-add : Type 0
Shifts-add =
    (d e : ℕ) (left : Bool) (w w₁ w₂ v : List ℕ) (i : ℕ)
    → Did w i (Call.shift d left) w₁ → Did w₁ i (Call.shift e left) w₂
    → Did w i (Call.shift (d + e) left) v
    → worlds_of w₂ ≡ worlds_of v

-- and where the sum exceeds M, which no distance does, they empty the set
abbrev pub Shifts-empty : Type 0
Shifts-empty =
    (d e : ℕ) (left : Bool) (w w₁ w₂ : List ℕ) (i : ℕ)
    → Did w i (Call.shift d left) w₁ → Did w₁ i (Call.shift e left) w₂
    → size ≤ d + e
    → held_by w₂ i ≡ empty

-- the same of shifted copies
abbrev pub Shifted-add : Type 0
Shifted-add =
    (d e : ℕ) (left : Bool) (s : Site) (w w₁ v v₁ x x₁ : List ℕ) (i j h : ℕ)
    → Did w i (Call.shifted d left s) w₁ → Did v j (Call.shifted e left (site w₁ i)) v₁
    → Did x h (Call.shifted (d + e) left s) x₁
    → SameLeft v j v₁ x h x₁

-- and where the sum exceeds M
abbrev pub Shifted-empty : Type 0
Shifted-empty =
    (d e : ℕ) (left : Bool) (s : Site) (w w₁ v v₁ : List ℕ) (i j : ℕ)
    → Did w i (Call.shifted d left s) w₁ → Did v j (Call.shifted e left (site w₁ i)) v₁
    → size ≤ d + e
    → held_by v₁ j ≡ empty

-- left then right by d: exactly the positions up to M − d are kept
abbrev pub Left-right : Type 0
Left-right =
    (d : ℕ) (w w₁ w₂ : List ℕ) (i : ℕ)
    → Did w i (Call.shift d true) w₁ → Did w₁ i (Call.shift d false) w₂
    → ((x : ℕ) → x + d < size → held_by w₂ i x ≡ held_by w i x) × ((x : ℕ) → size ≤ x + d → held_by w₂ i x ≡ false)

-- so they are a set of the positions above M − d to false, which is not refused then
abbrev pub Left-right-clears : Type 0
Left-right-clears =
    (d : ℕ) (w w₁ w₂ v : List ℕ) (i : ℕ) (a : Answer)
    → d < size → Did w i (Call.shift d true) w₁ → Did w₁ i (Call.shift d false) w₂
    → Met w i (Call.set (Excluded (size - 1 - d)) Unbounded false) a v
    → ((k : ℕ) × (a ≡ gave (number k))) × (worlds_of w₂ ≡ worlds_of v)

-- the same of shifted copies
abbrev pub Shifted-left-right : Type 0
Shifted-left-right =
    (d : ℕ) (s : Site) (w w₁ v v₁ : List ℕ) (i j : ℕ)
    → Did w i (Call.shifted d true s) w₁ → Did v j (Call.shifted d false (site w₁ i)) v₁
    → ((x : ℕ) → x + d < size → held_by v₁ j x ≡ holds s x) × ((x : ℕ) → size ≤ x + d → held_by v₁ j x ≡ false)

-- right then left by d: exactly the positions from d on are kept
abbrev pub Right-left : Type 0
Right-left =
    (d : ℕ) (w w₁ w₂ : List ℕ) (i : ℕ)
    → Did w i (Call.shift d false) w₁ → Did w₁ i (Call.shift d true) w₂
    → ((x : ℕ) → d ≤ x → held_by w₂ i x ≡ held_by w i x) × ((x : ℕ) → x < d → held_by w₂ i x ≡ false)

-- ---- refusals
-- a shift in place of a world of a sound pool is never refused
abbrev pub Shift-unrefused : Type 0
Shift-unrefused = (d : ℕ) (left : Bool) (w w' : List ℕ) (i : ℕ) (a : Answer) → Sound w → i < opened_at w → Met w i (Call.shift d left) a w' → a ≡ gave done

-- if AND, OR or XOR into a world is not refused, neither are the shifts in place of the two sets, nor then the same of the shifted ones into that world, as
-- it was before the first call or as that left it. The sets are shifted where they were read, or anywhere else where they are the same. The receiver's
-- pool may be lent apart, be one of the pools whose worlds were shifted, or hold the two sets itself: a call that reads its own pool reads a copy of it,
-- made before the call
abbrev pub Unrefused-shifted : Type 0
Unrefused-shifted =
    (op : Operation) (d : ℕ) (left : Bool) (s t s₁ t₁ s' t' : Site) (w w₁ v v₁ : List ℕ) (i : ℕ) (a b c : Answer)
    → fed_at s₁ ≡ fed_at s → fed_at t₁ ≡ fed_at t → BothShift d left a b s₁ t₁ s' t' → Shifts w v ⊎ Shifts w₁ v
    → Did w i (Call.combine op s t) w₁ → Met v i (Call.combine op s' t') c v₁
    → (a ≡ gave done) × (b ≡ gave done) × (c ≡ gave done)

-- one world, which may have the one run of its pool
abbrev pub one_run : List Limits
one_run = record { floor = 0; ceiling = 1 } ∷ []

-- the other way fails: in pools of capacity 1, {M} OR {5} is refused with 8, and is done after left shifts by 1
abbrev pub Converse-fails : Type 0
Converse-fails =
    (u u₁ u₂ u₃ v v₁ v₂ v₃ w w₁ w₂ w₃ : List ℕ) (a b c d e f g h k : Answer)
    → capacity u ≡ 1 → Made u one_run a u₁ → Met u₁ 0 (Call.set (Included (size - 1)) (Included (size - 1)) true) b u₂ → Met u₂ 0 (Call.shift 1 true) c u₃
    → capacity v ≡ 1 → Made v one_run d v₁ → Met v₁ 0 (Call.set (Included 5) (Included 5) true) e v₂ → Met v₂ 0 (Call.shift 1 true) f v₃
    → capacity w ≡ 1 → Made w one_run g w₁
    → Met w₁ 0 (Call.combine Or (site u₂ 0) (site v₂ 0)) h w₂ → Met w₂ 0 (Call.combine Or (site u₃ 0) (site v₃ 0)) k w₃
    → (h ≡ refused 8) × (k ≡ gave done)
