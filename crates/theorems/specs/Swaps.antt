-- WHICH CALLS MAY BE SWAPPED, AND WHICH ARE NEEDLESS: laws that a batcher asks for beside those of the ticket. docs/LAWS.md has them in words and as a
-- table. Assumes nothing: these are statements. proofs/Laws.antt proves each under its name, in small letters.
use Rattle.std.specs.Prelude.{ℕ, ◌+◌, ◌≤◌, ◌<◌, ◌≡◌, Bool, List}
use Rattle.model.specs.Ends.{Bound}
use Rattle.model.specs.Range.{first_allowed, past_allowed, extent}
use Rattle.model.specs.Call.{Call, number, Result, Answer, gave}
use Rattle.model.specs.Model.{Effect, plan}
use Rattle.pool.specs.Layout.{worlds_of}
use Rattle.interval_bit_set.specs.Met.{Site, fed_at, Met}
use Rattle.theorems.specs.Pairs.{Did}

-- ---- kinds of calls
-- a call reports, and leaves every world; or it changes what its world holds; or it gives its world positions, whatever that held
pub data Kind : Type 0 where
  reporting changing overwriting : Kind

abbrev pub kind_of : Effect → Kind
kind_of Effect.stays = reporting
kind_of (Effect.becomes Q) = changing
kind_of (Effect.overwritten Q) = overwriting

abbrev pub kind : Call Site → Kind
kind c = kind_of (plan fed_at c).effect

-- ---- any two calls
-- two reports of worlds of one pool, refused or not, answer alike in either order, and leave every world. What a report moves or writes, a listing or a
-- slice, is an argument of its call: so the two move no listing and write no slice in common
abbrev pub Reports-swap : Type 0
Reports-swap =
    (w w₁ w₂ v₁ v₂ : List ℕ) (i j : ℕ) (c d : Call Site) (a b a' b' : Answer)
    → kind c ≡ reporting → kind d ≡ reporting
    → Met w i c a w₁ → Met w₁ j d b w₂
    → Met w j d b' v₁ → Met v₁ i c a' v₂
    → (a ≡ a') × (b ≡ b') × (worlds_of w₂ ≡ worlds_of w) × (worlds_of v₂ ≡ worlds_of w)

-- any two calls on two worlds of one pool, where none is refused in either order
abbrev pub Worlds-swap : Type 0
Worlds-swap =
    (w w₁ w₂ v₁ v₂ : List ℕ) (i j : ℕ) (c d : Call Site) (r q r' q' : Result)
    → (i ≡ j → ⊥)
    → Met w i c (gave r) w₁ → Met w₁ j d (gave q) w₂
    → Met w j d (gave q') v₁ → Met v₁ i c (gave r') v₂
    → (r ≡ r') × (q ≡ q') × (worlds_of w₂ ≡ worlds_of v₂)

-- a call, refused or not, is needless before one that overwrites its world: that answers the same, refused or not, and leaves the same worlds if it is not
abbrev pub Overwritten : Type 0
Overwritten =
    (w w₁ w₂ v : List ℕ) (i : ℕ) (c d : Call Site) (a b b' : Answer)
    → kind d ≡ overwriting
    → Met w i c a w₁ → Met w₁ i d b w₂
    → Met w i d b' v
    → (b ≡ b') × ((r : Result) → b ≡ gave r → worlds_of w₂ ≡ worlds_of v)

-- ---- two ranges of one world
-- the call c changes its world at the n positions from a alone
pub data Changes-at : Call Site → ℕ → ℕ → Type 0 where
  by_set : {l u : Bound} {v : Bool} → Changes-at (Call.set l u v) (first_allowed l) (extent l u)
  by_flip : {l u : Bound} → Changes-at (Call.flip l u) (first_allowed l) (extent l u)
  by_map : {base n : ℕ} {bs : List ℕ} → Changes-at (Call.read_map base n bs) base n
  by_strict_set : {l u : Bound} {v : Bool} → Changes-at (Call.set_strict l u v) (first_allowed l) (extent l u)
  by_strict_flip : {l u : Bound} → Changes-at (Call.flip_strict l u) (first_allowed l) (extent l u)

-- set, flip, their strict forms and reading a map, of ranges without a common position: the same answers, and the same worlds
abbrev pub Ranges-swap : Type 0
Ranges-swap =
    (c d : Call Site) (a n b m : ℕ) (w w₁ w₂ v₁ v₂ : List ℕ) (i : ℕ) (r q r' q' : Result)
    → Changes-at c a n → Changes-at d b m → ((x : ℕ) → a ≤ x → x < a + n → b ≤ x → x < b + m → ⊥)
    → Met w i c (gave r) w₁ → Met w₁ i d (gave q) w₂
    → Met w i d (gave q') v₁ → Met v₁ i c (gave r') v₂
    → (r ≡ r') × (q ≡ q') × (worlds_of w₂ ≡ worlds_of v₂)

-- x satisfies both bounds
abbrev pub Within : Bound → Bound → ℕ → Type 0
Within l u x = (first_allowed l ≤ x) × (x < past_allowed u)

-- no position is in both ranges
abbrev pub Disjoint : Bound → Bound → Bound → Bound → Type 0
Disjoint l u l' u' = (x : ℕ) → Within l u x → Within l' u' x → ⊥

-- every position of the first range is in the second
abbrev pub Covers : Bound → Bound → Bound → Bound → Type 0
Covers l u l' u' = (x : ℕ) → Within l u x → Within l' u' x

-- so sets of disjoint ranges, to any values: the same change counts, and the same worlds
abbrev pub Sets-swap : Type 0
Sets-swap =
    (l u l' u' : Bound) (b b' : Bool) (w w₁ w₂ v₁ v₂ : List ℕ) (i n m n' m' : ℕ)
    → Disjoint l u l' u'
    → Met w i (Call.set l u b) (gave (number n)) w₁ → Met w₁ i (Call.set l' u' b') (gave (number m)) w₂
    → Met w i (Call.set l' u' b') (gave (number m')) v₁ → Met v₁ i (Call.set l u b) (gave (number n')) v₂
    → (n ≡ n') × (m ≡ m') × (worlds_of w₂ ≡ worlds_of v₂)

-- sets of any two ranges to one value: the same worlds, and the same sum of the change counts
abbrev pub Sets-one-value : Type 0
Sets-one-value =
    (l u l' u' : Bound) (b : Bool) (w w₁ w₂ v₁ v₂ : List ℕ) (i n m n' m' : ℕ)
    → Met w i (Call.set l u b) (gave (number n)) w₁ → Met w₁ i (Call.set l' u' b) (gave (number m)) w₂
    → Met w i (Call.set l' u' b) (gave (number m')) v₁ → Met v₁ i (Call.set l u b) (gave (number n')) v₂
    → (n + m ≡ n' + m') × (worlds_of w₂ ≡ worlds_of v₂)

-- a set, refused or not, is needless before one that covers it: if that is not refused, it is not refused alone, and leaves the same worlds. Of its
-- change count nothing is said
abbrev pub Set-covered : Type 0
Set-covered =
    (l u l' u' : Bound) (b b' : Bool) (w w₁ w₂ v : List ℕ) (i m : ℕ) (a c : Answer)
    → Covers l u l' u'
    → Met w i (Call.set l u b) a w₁ → Met w₁ i (Call.set l' u' b') (gave (number m)) w₂
    → Met w i (Call.set l' u' b') c v
    → ((m' : ℕ) × (c ≡ gave (number m'))) × (worlds_of w₂ ≡ worlds_of v)

-- flips of any two ranges
abbrev pub Flips-swap : Type 0
Flips-swap =
    (l u l' u' : Bound) (w w₁ w₂ v₁ v₂ : List ℕ) (i : ℕ)
    → Did w i (Call.flip l u) w₁ → Did w₁ i (Call.flip l' u') w₂
    → Did w i (Call.flip l' u') v₁ → Did v₁ i (Call.flip l u) v₂
    → worlds_of w₂ ≡ worlds_of v₂

-- a second flip of a range undoes the first
abbrev pub Flip-undone : Type 0
Flip-undone =
    (l u : Bound) (w w₁ w₂ : List ℕ) (i : ℕ)
    → Did w i (Call.flip l u) w₁ → Did w₁ i (Call.flip l u) w₂
    → worlds_of w₂ ≡ worlds_of w

-- ---- two shifts of one world
-- the same way, by any distances
abbrev pub Shifts-swap : Type 0
Shifts-swap =
    (d e : ℕ) (left : Bool) (w w₁ w₂ v₁ v₂ : List ℕ) (i : ℕ)
    → Did w i (Call.shift d left) w₁ → Did w₁ i (Call.shift e left) w₂
    → Did w i (Call.shift e left) v₁ → Did v₁ i (Call.shift d left) v₂
    → worlds_of w₂ ≡ worlds_of v₂

-- ---- strict calls
-- a strict set that is not refused changes as many, and leaves the same worlds, as the set that is not strict
abbrev pub Set-strict : Type 0
Set-strict =
    (l u : Bound) (b : Bool) (w w₁ v : List ℕ) (i n m : ℕ)
    → Met w i (Call.set_strict l u b) (gave (number n)) w₁
    → Met w i (Call.set l u b) (gave (number m)) v
    → (n ≡ m) × (worlds_of w₁ ≡ worlds_of v)

-- the same of flips
abbrev pub Flip-strict : Type 0
Flip-strict =
    (l u : Bound) (w w₁ v : List ℕ) (i : ℕ)
    → Did w i (Call.flip_strict l u) w₁
    → Did w i (Call.flip l u) v
    → worlds_of w₁ ≡ worlds_of v
