-- What reading a map makes of a set: the window's positions are the map's bits and the others stay, so what changes is counted in the
-- window, and where nothing changes both are one set. Assumes nothing.
use Rattle.std.proofs.Common.{◌≡◌, ℕ, zero, suc, ◌+◌, ◌-◌, ◌<◌, ◌≤◌, Bool, true, false, cond, not, List, length, sym, refl, ap, ◌∙◌, arith}
use mathlib.Core.Bool.{beq}
use Rattle.model.specs.declared.Operation.TheVariants.{Xor}
use Rattle.model.specs.Numbers.{size}
use Rattle.model.specs.Positions.{Positions, one_if, count, run_count, combined, changes}
use Rattle.model.proofs.Counting.{among_below, among-above, count_cut, count_none, count-hits}
use Rattle.model.proofs.Runs.{runs_in-all, runs_in-none}
use Rattle.model.specs.Bytes.{map_bit, mapped}
use Rattle.model.proofs.Maps.{mapped_in}
use Rattle.model.proofs.After.{set-inside, differ-hit, differ_self, agreeing}
use Rattle.changes.proofs.SetRuns.{set-nothing}

-- ---- the positions
-- below the window
pub mapped-below : (base n : ℕ) (bs : List ℕ) (P : Positions) (x : ℕ) → x < base → mapped base n bs P x ≡ P x
unfolding mapped
mapped-below base n bs P x h = ap (λ t. cond t (map_bit bs (x - base)) (P x)) (among_below base n x h)

-- above it
pub mapped-above : (base n : ℕ) (bs : List ℕ) (P : Positions) (x : ℕ) → base + n ≤ x → mapped base n bs P x ≡ P x
unfolding mapped
mapped-above base n bs P x h = ap (λ t. cond t (map_bit bs (x - base)) (P x)) (among-above base n x h)

-- in it
pub mapped_at : (base n : ℕ) (bs : List ℕ) (P : Positions) (x : ℕ) → base ≤ x → x < base + n → mapped base n bs P x ≡ map_bit bs (x - base)
mapped_at base n bs P x h l =
    let q : x ≡ base + (x - base) = omega arith in
    ap (mapped base n bs P) q ∙ mapped_in base n bs P (x - base) (omega arith)

-- ---- what changes
-- in a range of one value the positions of the other value change
pub changes-stretch : (P Q : Positions) (a n : ℕ) (v : Bool) → ((x : ℕ) → a ≤ x → x < a + n → Q x ≡ v) → count (combined Xor P Q) true a n ≡ count P (not v) a n
unfolding combined
changes-stretch P Q a n v f =
    count-hits (combined Xor P Q) P true (not v) a n (λ x h l. ap (λ b. beq (not (beq (P x) b)) true) (f x h l) ∙ differ-hit (P x) v)

-- where a set stays, nothing changes
changes-none : (P Q : Positions) (a n : ℕ) → ((x : ℕ) → a ≤ x → x < a + n → Q x ≡ P x) → count (combined Xor P Q) true a n ≡ 0
unfolding combined
changes-none P Q a n f = count_none (combined Xor P Q) true a n (λ x h l. ap (λ b. not (beq (P x) b)) (f x h l) ∙ differ_self (P x))

-- sets that agree outside a range: what changes is in it
pub changes-in : (P Q : Positions) (a n : ℕ) → a + n ≤ size → ((x : ℕ) → x < a → Q x ≡ P x) → ((x : ℕ) → a + n ≤ x → Q x ≡ P x)
    → changes P Q ≡ count (combined Xor P Q) true a n
unfolding changes
changes-in P Q a n t under over =
    let D : Positions = combined Xor P Q in
    let q : ℕ = size - (a + n) in
    let one : count D true 0 size ≡ count D true 0 a + count D true a (n + q) = count_cut D true 0 size a a (n + q) (omega arith) (omega arith) in
    let two : count D true a (n + q) ≡ count D true a n + count D true (a + n) q = count_cut D true a (n + q) n (a + n) q refl refl in
    let three : count D true 0 a ≡ 0 = changes-none P Q 0 a (λ x _ l. under x (omega arith)) in
    let four : count D true (a + n) q ≡ 0 = changes-none P Q (a + n) q (λ x l _. over x l) in
    one ∙ rw (three, two, four) (omega arith)

-- where nothing changes, both sets are one
pub changes-nothing : (P Q : Positions) → changes P Q ≡ 0 → (x : ℕ) → x < size → P x ≡ Q x
unfolding changes combined
changes-nothing P Q e x l =
    agreeing (P x) (Q x) (sym (set-nothing (combined Xor P Q) 0 size false e x) ∙ set-inside 0 size false (combined Xor P Q) x (omega arith) (omega arith))

-- ---- runs
-- a range of one value is one run, or none
pub one_value : (Q : Positions) (a n : ℕ) (v : Bool) → 0 < n → ((x : ℕ) → a ≤ x → x < a + n → Q x ≡ v) → run_count Q true a n ≡ one_if v
unfolding run_count
one_value Q a zero v h f = absurd (omega arith)
one_value Q a (suc n) true h f = ap length (runs_in-all Q true a n f)
one_value Q a (suc n) false h f = ap length (runs_in-none Q true a (suc n) f)
