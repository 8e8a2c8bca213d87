-- The other changes of canonical lists, and of the sets of positions that the lists stand for: and, or, xor, flip, complement, shifts.
-- And, or and xor set every run of one list in the other; a shift moves each run by itself. `size` is put in last.
-- Assumes nothing.
use mathlib.Core.Path.{◌≡◌, refl, sym, ap, ap₂, ◌∙◌, fun_ext}
use mathlib.Core.Logic.{◌⊎◌, inl, inr}
use mathlib.Core.Bool.{Bool, true, false, cond, not, ◌&&◌, ◌||◌, and-false}
use mathlib.Core.List.{List, [], ◌∷◌}
use Prim.Native.Nat.{ℕ, suc, ◌+◌, ◌-◌, ◌≤◌, ◌<◌, min}
use native.Mathlib.Omega.{arith}
use lib.Dec.{leb, ltb, eqb}
use borrow.Author.Tests.{lt-ltb, le-ltb, le-leb, lt-leb, ltb-true, leb-true}
use Rattle.model.specs.declared.Run.{Run}
use Rattle.model.specs.declared.Operation.{Operation}
use Rattle.model.specs.declared.Operation.TheVariants.{And, Or, Xor}
use Rattle.model.proofs.Numbers.{split}
use Rattle.model.specs.Numbers.{size}
use Rattle.model.specs.Positions.{
  Positions,
  run,
  inside,
  among,
  count,
  mem,
  set_range,
  flip_range,
  shift_left,
  shift_right,
  shift_by,
  apply,
  combined,
  complemented,
  bounded,
  changes,
  same,
}
use Rattle.model.proofs.Counting.{inside-yes, among-yes}
use Rattle.model.specs.RunList.{Canon, cons_if}
use Rattle.model.proofs.RunList.{canon-weaken, mem-past, widths, count-mem}
use Rattle.model.proofs.Edit.{
  cons_if-mem,
  set_to,
  set_to-canon,
  set_to-mem,
  on_range,
  on_range-canon,
  on_range-mem,
  set_runs,
  set_runs-mem,
  and-holds,
  inside-holds,
  piece_is,
}

-- every run of ss to the value v in rs
unfoldable pub set_all : Bool → List Run → List Run → List Run
set_all v rs [] = rs
set_all v rs (s ∷ ss) = set_to v s.start s.«end» (set_all v rs ss)

-- rs or ss
unfoldable pub or_runs : List Run → List Run → List Run
or_runs rs ss = set_all true rs ss

-- rs without ss
unfoldable pub minus_runs : List Run → List Run → List Run
minus_runs rs ss = set_all false rs ss

-- rs and ss
unfoldable pub and_runs : List Run → List Run → List Run
and_runs rs ss = minus_runs rs (minus_runs rs ss)

-- what is in just one of rs and ss
unfoldable pub xor_runs : List Run → List Run → List Run
xor_runs rs ss = or_runs (minus_runs rs ss) (minus_runs ss rs)

-- one of the three
unfoldable pub combine_runs : Operation → List Run → List Run → List Run
combine_runs And = and_runs
combine_runs Or = or_runs
combine_runs Xor = xor_runs

-- the positions a .. b are inverted
unfoldable pub inverted : ℕ → ℕ → List Run → List Run
inverted a b rs = xor_runs rs (run a b ∷ [])

-- the n positions from a, as far as they are below total, are inverted
unfoldable pub flip_runs : ℕ → ℕ → ℕ → List Run → List Run
flip_runs total a n rs = on_range total a n inverted rs

-- the positions below total that are not in rs
unfoldable pub complement_runs : ℕ → List Run → List Run
complement_runs total rs = flip_runs total 0 total rs

-- each run d positions up, as far as that is below total
unfoldable pub shift_left_runs : ℕ → ℕ → List Run → List Run
shift_left_runs total d [] = []
shift_left_runs total d (r ∷ rs) = cons_if (ltb (r.start + d) total) (run (r.start + d) (min (r.«end» + d) (total - 1))) (shift_left_runs total d rs)

-- each run d positions down, without what would be below 0
unfoldable pub shift_right_runs : ℕ → List Run → List Run
shift_right_runs d [] = []
shift_right_runs d (r ∷ rs) = cons_if (leb d r.«end») (run (r.start - d) (r.«end» - d)) (shift_right_runs d rs)

-- either way
unfoldable pub shift_runs : ℕ → ℕ → Bool → List Run → List Run
shift_runs total d true rs = shift_left_runs total d rs
shift_runs total d false rs = shift_right_runs d rs

-- ---- and, or, xor: set_all keeps a list canonical
pub set_all-canon : (total k : ℕ) (v : Bool) (rs ss : List Run) → Canon total 0 rs → Canon total k ss → Canon total 0 (set_all v rs ss)
unfolding set_all
set_all-canon total k v rs [] c d = c
set_all-canon total k v rs (s ∷ ss) c d =
    set_to-canon total s.start s.«end» v (set_all v rs ss) (set_all-canon total (s.«end» + 2) v rs ss c d.3) d.1 d.2

-- after set_all the positions of ss have the value v, and the others the one that they had
pub set_all-mem : (total k : ℕ) (v : Bool) (rs ss : List Run) (x : ℕ) → Canon total 0 rs → Canon total k ss → mem (set_all v rs ss) x ≡ cond (mem ss x) v (mem rs x)
unfolding set_all mem
set_all-mem total k v rs [] x c d = refl
set_all-mem total k v rs (s ∷ ss) x c d =
    set_to-mem total s.start s.«end» v (set_all v rs ss) x (set_all-canon total (s.«end» + 2) v rs ss c d.3) d.1
    ∙ ap (λ t. cond (inside s.start s.«end» x) v t) (set_all-mem total (s.«end» + 2) v rs ss x c d.3) ∙ go (inside s.start s.«end» x)
  where
    go : (t : Bool) → cond t v (cond (mem ss x) v (mem rs x)) ≡ cond (t || mem ss x) v (mem rs x)
    go true = refl
    go false = refl

-- combine_runs makes a canonical list of two
pub combine-canon : (total : ℕ) (op : Operation) (rs ss : List Run) → Canon total 0 rs → Canon total 0 ss → Canon total 0 (combine_runs op rs ss)
unfolding combine_runs and_runs or_runs xor_runs minus_runs
combine-canon total And rs ss c d = set_all-canon total 0 false rs (set_all false rs ss) c (set_all-canon total 0 false rs ss c d)
combine-canon total Or rs ss c d = set_all-canon total 0 true rs ss c d
combine-canon total Xor rs ss c d =
    set_all-canon total 0 true (set_all false rs ss) (set_all false ss rs) (set_all-canon total 0 false rs ss c d) (set_all-canon total 0 false ss rs d c)

-- the positions of combine_runs are those of the operation on the two sets
pub combine-mem : (total : ℕ) (op : Operation) (rs ss : List Run) → Canon total 0 rs → Canon total 0 ss → (x : ℕ) → mem (combine_runs op rs ss) x ≡ combined op (mem rs) (mem ss) x
unfolding combine_runs and_runs or_runs xor_runs minus_runs combined
combine-mem total And rs ss c d x =
    set_all-mem total 0 false rs (set_all false rs ss) x c (set_all-canon total 0 false rs ss c d)
    ∙ ap (λ t. cond t false (mem rs x)) (set_all-mem total 0 false rs ss x c d) ∙ go (mem rs x) (mem ss x)
  where
    go : (p q : Bool) → cond (cond q false p) false p ≡ (p && q)
    go true true = refl
    go true false = refl
    go false true = refl
    go false false = refl
combine-mem total Or rs ss c d x = set_all-mem total 0 true rs ss x c d ∙ go (mem rs x) (mem ss x)
  where
    go : (p q : Bool) → cond q true p ≡ (p || q)
    go true true = refl
    go true false = refl
    go false true = refl
    go false false = refl
combine-mem total Xor rs ss c d x =
    set_all-mem total 0 true (set_all false rs ss) (set_all false ss rs) x (set_all-canon total 0 false rs ss c d) (set_all-canon total 0 false ss rs d c)
    ∙ ap₂ (λ t u. cond t true u) (set_all-mem total 0 false ss rs x d c) (set_all-mem total 0 false rs ss x c d) ∙ go (mem rs x) (mem ss x)
  where
    go : (p q : Bool) → cond (cond p false q) true (cond q false p) ≡ apply Xor p q
    go true true = refl
    go true false = refl
    go false true = refl
    go false false = refl

-- ---- flip and complement: inverted keeps a list canonical
inverted-canon : (total a : ℕ) (rs : List Run) → Canon total 0 rs → (b : ℕ) → a ≤ b → b < total → Canon total 0 (inverted a b rs)
unfolding inverted combine_runs
inverted-canon total a rs c b h k = combine-canon total Xor rs (run a b ∷ []) c (omega arith, h, k, tt)

-- flip_runs keeps a list canonical
pub flip-canon : (total a n : ℕ) (rs : List Run) → Canon total 0 rs → Canon total 0 (flip_runs total a n rs)
unfolding flip_runs
flip-canon total a n rs c = on_range-canon total a n inverted rs c (inverted-canon total a rs c)

-- after flip_runs the positions are those of flip_range, cut at total
pub flip-mem : (total a n : ℕ) (rs : List Run) → Canon total 0 rs → (x : ℕ) → mem (flip_runs total a n rs) x ≡ (ltb x total && flip_range a n (mem rs) x)
unfolding flip_runs flip_range inverted combine_runs combined mem
flip-mem total a n rs c x =
    on_range-mem total a n inverted rs c (inverted-canon total a rs c) not x
    (λ b h k. combine-mem total Xor rs (run a b ∷ []) c (omega arith, h, k, tt) x ∙ go (inside a b x) (mem rs x))
  where
    go : (t p : Bool) → apply Xor p (t || false) ≡ cond t (not p) p
    go true true = refl
    go true false = refl
    go false true = refl
    go false false = refl

-- complement_runs of a canonical list is one
pub complement-canon : (total : ℕ) (rs : List Run) → Canon total 0 rs → Canon total 0 (complement_runs total rs)
unfolding complement_runs
complement-canon total rs c = flip-canon total 0 total rs c

-- the positions of complement_runs are those of the complement, cut at total
pub complement-mem : (total : ℕ) (rs : List Run) → Canon total 0 rs → (x : ℕ) → mem (complement_runs total rs) x ≡ (ltb x total && complemented (mem rs) x)
unfolding complement_runs complemented flip_range
complement-mem total rs c x = flip-mem total 0 total rs c x ∙ go (split x total)
  where
    go : (x < total) ⊎ (total ≤ x) → (ltb x total && cond (among 0 total x) (not (mem rs x)) (mem rs x)) ≡ (ltb x total && not (mem rs x))
    go (inl h) = ap (λ t. ltb x total && cond t (not (mem rs x)) (mem rs x)) (among-yes 0 total x (omega arith) (omega arith))
    go (inr h) = rw (le-ltb x total h)

-- ---- the shifts: shift_left_runs of a canonical list is one
pub shift_left-canon : (total d k : ℕ) (rs : List Run) → Canon total k rs → Canon total (k + d) (shift_left_runs total d rs)
unfolding shift_left_runs
shift_left-canon total d k [] c = tt
shift_left-canon total d k (r ∷ rs) c = go (shift_left-canon total d (r.«end» + 2) rs c.3) (split (r.start + d) total)
  where
    go : Canon total (r.«end» + 2 + d) (shift_left_runs total d rs) → (r.start + d < total) ⊎ (total ≤ r.start + d) → Canon total (k + d) (shift_left_runs total d (r ∷ rs))
    go e (inl h) =
        rw (lt-ltb (r.start + d) total h) (omega arith, omega arith, omega arith, canon-weaken total (r.«end» + 2 + d) (min (r.«end» + d) (total - 1) + 2) (shift_left_runs total d rs) (omega arith) e)
    go e (inr h) = rw (le-ltb (r.start + d) total h) (canon-weaken total (r.«end» + 2 + d) (k + d) (shift_left_runs total d rs) (omega arith) e)

-- shift_right_runs of a canonical list is one
pub shift_right-canon : (total d k : ℕ) (rs : List Run) → Canon total k rs → Canon total (k - d) (shift_right_runs d rs)
unfolding shift_right_runs
shift_right-canon total d k [] c = tt
shift_right-canon total d k (r ∷ rs) c = go (shift_right-canon total d (r.«end» + 2) rs c.3) (split r.«end» d)
  where
    go : Canon total (r.«end» + 2 - d) (shift_right_runs d rs) → (r.«end» < d) ⊎ (d ≤ r.«end») → Canon total (k - d) (shift_right_runs d (r ∷ rs))
    go e (inl h) = rw (lt-leb d r.«end» h) (canon-weaken total (r.«end» + 2 - d) (k - d) (shift_right_runs d rs) (omega arith) e)
    go e (inr h) =
        rw (le-leb d r.«end» h) (omega arith, omega arith, omega arith, canon-weaken total (r.«end» + 2 - d) (r.«end» - d + 2) (shift_right_runs d rs) (omega arith) e)

-- shift_runs of a canonical list is one
pub shift-canon : (total d : ℕ) (left : Bool) (rs : List Run) → Canon total 0 rs → Canon total 0 (shift_runs total d left rs)
unfolding shift_runs
shift-canon total d true rs c = canon-weaken total (0 + d) 0 (shift_left_runs total d rs) (omega arith) (shift_left-canon total d 0 rs c)
shift-canon total d false rs c = canon-weaken total (0 - d) 0 (shift_right_runs d rs) (omega arith) (shift_right-canon total d 0 rs c)

-- the positions of shift_left_runs are those of shift_left, cut at total
pub shift_left-mem : (total d : ℕ) (rs : List Run) (x : ℕ) → mem (shift_left_runs total d rs) x ≡ (ltb x total && shift_left d (mem rs) x)
unfolding shift_left_runs shift_left mem
shift_left-mem total d [] x = sym (ap (λ t. ltb x total && t) (and-false (leb d x)) ∙ and-false (ltb x total))
shift_left-mem total d (r ∷ rs) x =
    cons_if-mem (ltb (r.start + d) total) (run (r.start + d) (min (r.«end» + d) (total - 1))) (shift_left_runs total d rs) x
    ∙ ap₂ ◌||◌ moved (shift_left-mem total d rs x) ∙ spread (ltb x total) (leb d x) (inside r.start r.«end» (x - d)) (mem rs (x - d))
  where
    spread : (a b p q : Bool) → ((a && (b && p)) || (a && (b && q))) ≡ (a && (b && (p || q)))
    spread true true p q = refl
    spread true false p q = refl
    spread false b p q = refl

    moved : (ltb (r.start + d) total && inside (r.start + d) (min (r.«end» + d) (total - 1)) x) ≡ (ltb x total && (leb d x && inside r.start r.«end» (x - d)))
    moved =
        piece_is (suc (r.start + d)) total (r.start + d) (min (r.«end» + d) (total - 1)) x (ltb x total && (leb d x && inside r.start r.«end» (x - d)))
        (λ h k l. rw (lt-ltb x total (omega arith), le-leb d x (omega arith), inside-yes r.start r.«end» (x - d) (omega arith) (omega arith)))
        (λ e.
        let h = and-holds (ltb x total) (leb d x && inside r.start r.«end» (x - d)) e in
        let k = and-holds (leb d x) (inside r.start r.«end» (x - d)) h.1 in
        let m = inside-holds r.start r.«end» (x - d) k.1 in
        let p = ltb-true x total h.0 in
        let q = leb-true d x k.0 in
        (omega arith, omega arith, omega arith))

-- x is a position of shift_right_runs exactly if x + d was one
pub shift_right-mem : (d : ℕ) (rs : List Run) (x : ℕ) → mem (shift_right_runs d rs) x ≡ mem rs (x + d)
unfolding shift_right_runs mem
shift_right-mem d [] x = refl
shift_right-mem d (r ∷ rs) x =
    cons_if-mem (leb d r.«end») (run (r.start - d) (r.«end» - d)) (shift_right_runs d rs) x
    ∙ ap₂ ◌||◌ moved (shift_right-mem d rs x)
  where
    moved : (leb d r.«end» && inside (r.start - d) (r.«end» - d) x) ≡ inside r.start r.«end» (x + d)
    moved =
        piece_is d r.«end» (r.start - d) (r.«end» - d) x (inside r.start r.«end» (x + d))
        (λ h k l. inside-yes r.start r.«end» (x + d) (omega arith) (omega arith))
        (λ e. let h = inside-holds r.start r.«end» (x + d) e in (omega arith, omega arith, omega arith))

-- ---- at the universe, as sets: a cut at total takes nothing from a canonical list
pub cut-mem : (total : ℕ) (rs : List Run) → Canon total 0 rs → (x : ℕ) → (ltb x total && mem rs x) ≡ mem rs x
cut-mem total rs c x = go (split x total)
  where
    go : (x < total) ⊎ (total ≤ x) → (ltb x total && mem rs x) ≡ mem rs x
    go (inl h) = rw (lt-ltb x total h)
    go (inr h) = rw (le-ltb x total h, mem-past total 0 rs x c h)

-- below 2^64 a bound changes nothing
pub bounded-below : (Q : Positions) (x : ℕ) → x < size → bounded Q x ≡ Q x
unfolding bounded
bounded-below Q x h = ap (λ t. t && Q x) (lt-ltb x size h)

-- bounded takes nothing from a canonical list
pub bounded-mem : (rs : List Run) → Canon size 0 rs → bounded (mem rs) ≡ mem rs
unfolding bounded
bounded-mem rs c = fun_ext (cut-mem size rs c)

-- what set_runs makes of the set
pub set-positions : (a n : ℕ) (v : Bool) (rs : List Run) → Canon size 0 rs → mem (set_runs size a n v rs) ≡ bounded (set_range a n v (mem rs))
unfolding bounded
set-positions a n v rs c = fun_ext (set_runs-mem size a n v rs c)

-- what flip_runs makes of the set
pub flip-positions : (a n : ℕ) (rs : List Run) → Canon size 0 rs → mem (flip_runs size a n rs) ≡ bounded (flip_range a n (mem rs))
unfolding bounded
flip-positions a n rs c = fun_ext (flip-mem size a n rs c)

-- what combine_runs makes of the two sets
pub combine-positions : (op : Operation) (rs ss : List Run) → Canon size 0 rs → Canon size 0 ss → mem (combine_runs op rs ss) ≡ bounded (combined op (mem rs) (mem ss))
combine-positions op rs ss c d = sym (bounded-mem (combine_runs op rs ss) (combine-canon size op rs ss c d)) ∙ ap bounded (fun_ext (combine-mem size op rs ss c d))

-- what complement_runs makes of the set
pub complement-positions : (rs : List Run) → Canon size 0 rs → mem (complement_runs size rs) ≡ bounded (complemented (mem rs))
unfolding bounded
complement-positions rs c = fun_ext (complement-mem size rs c)

-- what shift_runs makes of the set
pub shift-positions : (d : ℕ) (left : Bool) (rs : List Run) → Canon size 0 rs → mem (shift_runs size d left rs) ≡ bounded (shift_by d left (mem rs))
unfolding bounded shift_runs shift_by shift_right
shift-positions d true rs c = fun_ext (shift_left-mem size d rs)
shift-positions d false rs c = fun_ext (λ x.
    sym (cut-mem size (shift_right_runs d rs) (shift-canon size d false rs c) x)
    ∙ ap (λ t. ltb x size && t) (shift_right-mem d rs x ∙ sym (cut-mem size rs c (x + d))))

-- ---- compared: the positions in just one of two sets are counted by the widths of the xor
pub changes-runs : (rs ss : List Run) → Canon size 0 rs → Canon size 0 ss → changes (mem rs) (mem ss) ≡ widths (combine_runs Xor rs ss)
unfolding changes
changes-runs rs ss c d =
    ap (λ P. count P true 0 size) (sym (fun_ext (combine-mem size Xor rs ss c d)))
    ∙ count-mem size 0 (combine_runs Xor rs ss) 0 size (combine-canon size Xor rs ss c d) (omega arith) refl

-- two sets are the same exactly if the widths of the xor are 0
pub same_runs : (rs ss : List Run) → Canon size 0 rs → Canon size 0 ss → same (mem rs) (mem ss) ≡ eqb (widths (combine_runs Xor rs ss)) 0
unfolding same
same_runs rs ss c d = ap (λ n. eqb n 0) (changes-runs rs ss c d)
