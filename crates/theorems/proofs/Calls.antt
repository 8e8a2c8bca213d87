-- The calls of the laws, one by one, where they were not refused: which worlds can be read, and what is held. Assumes nothing.
use Rattle.std.specs.Prelude.{None}
use Prim.Native.Nat.{ℕ, ◌≤◌}
use mathlib.Core.Path.{◌≡◌, refl, sym, ap, ap₂, ◌∙◌, subst}
use mathlib.Core.Bool.{Bool}
use mathlib.Core.List.{List, [], ◌∷◌}
use native.Mathlib.Omega.{arith}
use Rattle.model.specs.Ends.{Bound}
use Rattle.model.specs.declared.Operation.{Operation}
use Rattle.model.specs.Range.{first_allowed, extent}
use Rattle.model.specs.Positions.{Positions, count, run_count, stretches, set_range, shift_by, apply, combined, bounded, changes}
use Rattle.model.specs.Call.{Call, done, number, tallied, Answer, gave}
use Rattle.model.specs.Model.{look, positions_of}
use Rattle.model.proofs.Runs.{stretches-cong}
use Rattle.pool.specs.Layout.{allowance, held_by, worlds_of}
use Rattle.pool.proofs.Turn.{pool-past}
use Rattle.pool.proofs.Worlds.{held-allowed}
use Rattle.interval_bit_set.specs.Met.{Site, fed_at, Readable, Met}
use Rattle.interval_bit_set.proofs.Changing.{bounded-is}
use Rattle.interval_bit_set.proofs.Overwriting.{reads-nothing}
use Rattle.interval_bit_set.proofs.Giving.{quiet-fits, fits-quiet, first-readable, given-where, given-readable, given-further, given-quiet, given-is}
use Rattle.interval_bit_set.proofs.Simulation.{Ends, bounded-same}
use Rattle.theorems.specs.Pairs.{Did, holds}
use Rattle.theorems.proofs.Moving.{moved, moved-few}
use Rattle.theorems.proofs.Joining.{joins-nothing}
use Rattle.theorems.proofs.Doing.{Gets, gets-as, gets-one, given-gets}

-- a world of a further pool that can be read is fed as its positions
fed-holds : (s : Site) → Readable s.words s.world → positions_of (fed_at s) ≡ holds s
fed-holds s R = ap positions_of R.fed

-- what is joined of sets that end, ends
joined-ends : (op : Operation) (P Q : Positions) → Ends P → Ends Q → Ends (combined op P Q)
unfolding combined
joined-ends op P Q p q x h = ap₂ (apply op) (p x h) (q x h) ∙ joins-nothing op

-- ---- shift
-- it is not refused where its world can be read
pub shift-done : (d : ℕ) (left : Bool) {w w' : List ℕ} {i : ℕ} {a : Answer} → Readable w i → Met w i (Call.shift d left) a w' → a ≡ gave done
shift-done d left {w} {i = i} R m = given-where R refl (fits-quiet R.openable Q [] fits refl) m
  where
    Q : Positions
    Q = shift_by d left (held_by w i)

    fits : stretches Q ≤ allowance w i
    fits =
        omega (arith, stretches-cong Q (moved d left (held_by w i)) (bounded-is Q), moved-few d left (held_by w i), held-allowed w i R.openable)

-- ---- shifted
module _ (d : ℕ) (left : Bool) (s : Site) {w w' : List ℕ} {i : ℕ} (m : Did w i (Call.shifted d left s) w') where
  shifted-source : Readable s.words s.world
  shifted-source = (first-readable s.words s.world [] (given-further m)).0

  pub shifted-gets : Gets w i w' (moved d left (holds s))
  shifted-gets = gets-as (given-gets m) (ap (moved d left) (fed-holds s shifted-source))

-- ---- combine
-- the outcome, where the two can be read
told-sets : (op : Operation) (s t : Site) → Readable s.words s.world → Readable t.words t.world
    → combined op (positions_of (fed_at s)) (positions_of (fed_at t)) ≡ combined op (holds s) (holds t)
told-sets op s t S T = ap₂ (combined op) (fed-holds s S) (fed-holds t T)

-- which earn nothing
pub both-quiet : (s t : Site) → Readable s.words s.world → Readable t.words t.world → look (fed_at s ∷ fed_at t ∷ []) ≡ None
both-quiet s t S T = reads-nothing (fed_at t ∷ []) S (reads-nothing [] T refl)

module _ (op : Operation) (s t : Site) {w w' : List ℕ} {i : ℕ} where
  -- it is not refused where all can be read, and the runs fit
  pub combine-done : {a : Answer} → Readable w i → Readable s.words s.world → Readable t.words t.world → stretches (combined op (holds s) (holds t)) ≤ allowance w i
      → Met w i (Call.combine op s t) a w' → a ≡ gave done
  combine-done R S T h m =
      given-where R (both-quiet s t S T)
      (fits-quiet R.openable (combined op (positions_of (fed_at s)) (positions_of (fed_at t))) [] (subst (λ P. stretches P ≤ allowance w i) (sym (told-sets op s t S T)) h) refl)
      m

  module _ (m : Did w i (Call.combine op s t) w') where
    abbrev joined : Readable s.words s.world × (look (fed_at t ∷ []) ≡ None)
    joined = first-readable s.words s.world (fed_at t ∷ []) (given-further m)

    pub combine-first : Readable s.words s.world
    combine-first = joined.0

    pub combine-second : Readable t.words t.world
    combine-second = (first-readable t.words t.world [] joined.1).0

    abbrev sets : Positions
    sets = combined op (holds s) (holds t)

    told : combined op (positions_of (fed_at s)) (positions_of (fed_at t)) ≡ sets
    told = told-sets op s t combine-first combine-second

    pub combine-gets : Gets w i w' sets
    combine-gets =
        gets-as (given-gets m)
        (ap bounded told ∙ bounded-same sets (joined-ends op (holds s) (holds t) (pool-past s.words s.world) (pool-past t.words t.world)))

    pub combine-fits : stretches sets ≤ allowance w i
    combine-fits =
        subst (λ P. stretches P ≤ allowance w i) told
        (quiet-fits (given-readable m).openable (combined op (positions_of (fed_at s)) (positions_of (fed_at t))) [] (given-quiet m))

-- ---- set
module _ (l u : Bound) (v : Bool) where
  abbrev range_set : Positions → Positions
  range_set = set_range (first_allowed l) (extent l u) v

  -- it is not refused where its world can be read, and the runs fit
  pub set-done : {w w' : List ℕ} {i : ℕ} {a : Answer} → Readable w i → stretches (range_set (held_by w i)) ≤ allowance w i → Met w i (Call.set l u v) a w'
      → (n : ℕ) × (a ≡ gave (number n))
  set-done {w} {i = i} R h m =
      (changes (held_by w i) (range_set (held_by w i)), given-where R refl (fits-quiet R.openable (range_set (held_by w i)) [] h refl) m)

  module _ {w w' : List ℕ} {i n : ℕ} (m : Met w i (Call.set l u v) (gave (number n)) w') where
    pub set-fits : stretches (range_set (held_by w i)) ≤ allowance w i
    set-fits = quiet-fits (given-readable m).openable (range_set (held_by w i)) [] (given-quiet m)

    -- how many positions changed
    pub set-count : n ≡ changes (held_by w i) (range_set (held_by w i))
    set-count = let e : number n ≡ number (changes (held_by w i) (range_set (held_by w i))) = given-is m in cc

  -- its strict form
  pub strict-set : {w w' x : List ℕ} {i n m : ℕ} → Met w i (Call.set_strict l u v) (gave (number n)) w' → Met w i (Call.set l u v) (gave (number m)) x
      → (n ≡ m) × (worlds_of w' ≡ worlds_of x)
  strict-set {n = n} {m} s t = let e : number n ≡ number m = given-is s ∙ sym (given-is t) in (cc, gets-one (given-gets s) (given-gets t) refl)

-- that of flip
pub strict-flip : (l u : Bound) {w w' x : List ℕ} {i : ℕ} → Did w i (Call.flip_strict l u) w' → Did w i (Call.flip l u) x → worlds_of w' ≡ worlds_of x
strict-flip l u s t = gets-one (given-gets s) (given-gets t) refl

-- ---- tally
pub tally-count : (l u : Bound) (v : Bool) {w w' : List ℕ} {i n r : ℕ} → Met w i (Call.tally l u v) (gave (tallied n r)) w' → n ≡ count (held_by w i) v (first_allowed l) (extent l u)
tally-count l u v {w} {i = i} {n} {r} m =
    let e : tallied n r ≡ tallied (count (held_by w i) v (first_allowed l) (extent l u)) (run_count (held_by w i) v (first_allowed l) (extent l u)) = given-is m in cc
