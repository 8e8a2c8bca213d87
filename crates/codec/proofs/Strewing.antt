-- Runs put into a slice one after the other, each at its spots: all n of them are the bytes that the edition arranges, in a row behind the
-- head. By each byte of the slice: it is as it will be from the start on, or from its run on. Assumes nothing.
use Rattle.std.proofs.Common.{ℕ, zero, suc, ◌+◌, ◌-◌, ◌*◌, ◌≤◌, ◌<◌, ◌≡◌, refl, sym, ap, ◌∙◌, ◌⊎◌, inl, inr, List, [], ◌∷◌, ◌++◌, append_assoc, add-one, arith, length, take}
use Rattle.std.proofs.Common.{set, get_or, length-append, get_or-append-add, ext_get_or, take-suc, take_all, length-take-le}
use lib.ListN.{get_or-append}
use Rattle.model.specs.declared.Edition.{Edition}
use Rattle.model.specs.declared.Run.{Run}
use Rattle.model.specs.Positions.{run}
use Rattle.model.specs.Bytes.{big_endian, encode_runs, version_of, arranged, encode, into_front}
use Rattle.model.proofs.Codec.{big_endian-length, encode_runs-length}
use Rattle.model.proofs.Numbers.{split}
use Rattle.model.proofs.Columns.{arranged-length}
use Rattle.codec.specs.Placed.{placed, strewn, first_of, step_of, head_of, put_run}
use Rattle.codec.proofs.Placing.{placed-length, placed-before, placed-inside, placed-after, placed-set, placed-placed, placed-front}
use Rattle.codec.proofs.Apart.{Apart, strewn-length, strewn-append, strewn-keeps, strewn-makes}
use Rattle.codec.proofs.Spots.{spot, AtSpot, at-spot, spot-below, spot-arranged}

-- the 16 bytes of a run
abbrev run_bytes : Run → List ℕ
run_bytes r = big_endian 8 r.start ++ big_endian 8 r.«end»

run_bytes-length : (r : Run) → length (run_bytes r) ≡ 16
run_bytes-length r = simp (length-append, big_endian-length)

-- the runs rs in place of run i of n and of those after it
unfoldable pub put_runs : Edition → ℕ → ℕ → List Run → List ℕ → List ℕ
put_runs e n i [] out = out
put_runs e n i (r ∷ rs) out = put_runs e n (suc i) rs (put_run e n i r.start r.«end» out)

-- ---- one run
-- its start and its end, one after the other
pub both_strewn : (i step a b : ℕ) (out o₁ : List ℕ) {o₂ : List ℕ} → o₁ ≡ strewn i step (big_endian 8 a) out → o₂ ≡ strewn (i + 8 * step) step (big_endian 8 b) o₁
    → o₂ ≡ strewn i step (big_endian 8 a ++ big_endian 8 b) out
both_strewn i step a b out o₁ p q =
    let l : length (big_endian 8 a) ≡ 8 = big_endian-length 8 a in
    q ∙ rw p (rw l at (strewn-append i step (big_endian 8 a) (big_endian 8 b) out))

-- they are put as the edition has them
pub run-strewn : (e : Edition) (n i a b : ℕ) (out : List ℕ) {d : Edition} {o : List ℕ} → e ≡ d
    → o ≡ strewn (5 + first_of d i) (step_of d n) (big_endian 8 a ++ big_endian 8 b) out → o ≡ put_run e n i a b out
unfolding put_run
run-strewn e n i a b out r p = p ∙ rw r

-- ---- how long the slice is, and one run more
-- the slice stays as long
put_run-length : (e : Edition) (n i a b : ℕ) (out : List ℕ) → length (put_run e n i a b out) ≡ length out
unfolding put_run
put_run-length e n i a b out = strewn-length (5 + first_of e i) (step_of e n) (big_endian 8 a ++ big_endian 8 b) out

pub put_runs-length : (e : Edition) (n i : ℕ) (rs : List Run) (out : List ℕ) → length (put_runs e n i rs out) ≡ length out
unfolding put_runs
put_runs-length e n i [] out = refl
put_runs-length e n i (r ∷ rs) out =
    put_runs-length e n (suc i) rs (put_run e n i r.start r.«end» out) ∙ put_run-length e n i r.start r.«end» out

-- one run more
pub put_runs-more : (e : Edition) (n i : ℕ) (rs : List Run) (r : Run) (out : List ℕ)
    → put_runs e n i (rs ++ (r ∷ [])) out ≡ put_run e n (i + length rs) r.start r.«end» (put_runs e n i rs out)
unfolding put_runs
put_runs-more e n i [] r out = let z : i + 0 ≡ i = omega arith in rw z
put_runs-more e n i (q ∷ rs) r out =
    let z : i + suc (length rs) ≡ suc i + length rs = omega arith in
    rw z (put_runs-more e n (suc i) rs r (put_run e n i q.start q.«end» out))

-- ---- byte by byte
-- byte j of run m of these is in t at its spot
abbrev Spotted : Edition → ℕ → ℕ → List Run → List ℕ → Type 0
Spotted e n i rs t = (m j : ℕ) → m < length rs → j < 16 → get_or (run_bytes (get_or rs m (run 0 0))) j 0 ≡ get_or t (5 + first_of e (i + m) + j * step_of e n) 0

module _ (e : Edition) (n : ℕ) (t : List ℕ) where
  -- the first run's bytes are a step apart
  spotted-first : (i : ℕ) (r : Run) (rs : List Run) → Spotted e n i (r ∷ rs) t → Apart (5 + first_of e i) (step_of e n) (run_bytes r) t
  spotted-first i r rs h k l =
      let z : i + 0 ≡ i = omega arith in
      rw z at (h 0 k (omega arith) (omega (arith, run_bytes-length r)))

  -- and the others are a run further
  spotted-rest : (i : ℕ) (r : Run) (rs : List Run) → Spotted e n i (r ∷ rs) t → Spotted e n (suc i) rs t
  spotted-rest i r rs h m j l k = let z : i + suc m ≡ suc i + m = omega arith in rw z at (h (suc m) j (omega arith) k)

  -- a byte that was as in t is after the runs of t were put
  put_runs-keeps : (i : ℕ) (rs : List Run) (out : List ℕ) → Spotted e n i rs t → (p : ℕ) → get_or out p 0 ≡ get_or t p 0
      → get_or (put_runs e n i rs out) p 0 ≡ get_or t p 0
  unfolding put_runs put_run
  put_runs-keeps i [] out h p q = q
  put_runs-keeps i (r ∷ rs) out h p q =
      put_runs-keeps (suc i) rs (put_run e n i r.start r.«end» out) (spotted-rest i r rs h) p
      (strewn-keeps t (5 + first_of e i) (step_of e n) (run_bytes r) out (spotted-first i r rs h) p q)

  -- and so is each byte of these runs
  put_runs-makes : (i : ℕ) (rs : List Run) (out : List ℕ) → Spotted e n i rs t → (m j : ℕ) → m < length rs → j < 16
      → 5 + first_of e (i + m) + j * step_of e n < length out
      → get_or (put_runs e n i rs out) (5 + first_of e (i + m) + j * step_of e n) 0 ≡ get_or t (5 + first_of e (i + m) + j * step_of e n) 0
  unfolding put_runs put_run
  put_runs-makes i [] out h m j l k f = absurd (omega arith)
  put_runs-makes i (r ∷ rs) out h zero j l k f =
      let z : i + 0 ≡ i = omega arith in
      let g : 5 + first_of e i + j * step_of e n < length out = rw z at f in
      rw z
      (put_runs-keeps (suc i) rs (put_run e n i r.start r.«end» out) (spotted-rest i r rs h) (5 + first_of e i + j * step_of e n)
      (strewn-makes t (5 + first_of e i) (step_of e n) (run_bytes r) out (spotted-first i r rs h) j (omega (arith, run_bytes-length r)) g))
  put_runs-makes i (r ∷ rs) out h (suc m) j l k f =
      let z : i + suc m ≡ suc i + m = omega arith in
      let g : 5 + first_of e (suc i + m) + j * step_of e n < length (put_run e n i r.start r.«end» out) =
      rw (put_run-length e n i r.start r.«end» out) (rw z at f) in
      rw z (put_runs-makes (suc i) rs (put_run e n i r.start r.«end» out) (spotted-rest i r rs h) m j (omega arith) k g)

-- ---- all of them
-- byte j of run i, among the bytes of runs
encode_runs-at : (rs : List Run) (i j : ℕ) → i < length rs → j < 16 → get_or (encode_runs rs) (16 * i + j) 0 ≡ get_or (run_bytes (get_or rs i (run 0 0))) j 0
unfolding encode_runs
encode_runs-at [] i j l k = absurd (omega arith)
encode_runs-at (r ∷ rs) zero j l k =
    let z : 16 * 0 + j ≡ j = omega arith in
    rw (z, ← append_assoc (big_endian 8 r.start) (big_endian 8 r.«end») (encode_runs rs))
    (get_or-append (run_bytes r) (encode_runs rs) 0 j (omega (arith, run_bytes-length r)))
encode_runs-at (r ∷ rs) (suc i) j l k =
    let z : 16 * suc i + j ≡ length (run_bytes r) + (16 * i + j) = rw (run_bytes-length r) (omega arith) in
    rw (z, ← append_assoc (big_endian 8 r.start) (big_endian 8 r.«end») (encode_runs rs))
    (get_or-append-add (run_bytes r) (encode_runs rs) (16 * i + j) 0 ∙ encode_runs-at rs i j (omega arith) k)

module _ (e : Edition) (n : ℕ) (rs : List Run) (out : List ℕ) (many : length rs ≡ n) (fits : 5 + 16 * n ≤ length out) where
  -- 16 bytes to a run, however arranged
  arrangement-length : length (arranged e n (encode_runs rs)) ≡ 16 * n
  arrangement-length = arranged-length e n (encode_runs rs) (encode_runs-length rs ∙ rw many)

  -- behind the head they leave the slice as long
  target-length : length (placed 5 (arranged e n (encode_runs rs)) out) ≡ length out
  target-length = placed-length 5 (arranged e n (encode_runs rs)) out (omega (arith, arrangement-length))

  -- they stand in a row behind the head, so each at its spot
  spotted-all : Spotted e n 0 rs (placed 5 (arranged e n (encode_runs rs)) out)
  spotted-all m j l k =
      let z : 0 + m ≡ m = omega arith in
      let s : 5 + first_of e m + j * step_of e n ≡ 5 + spot e n m j = omega arith in
      let b : spot e n m j < 16 * n = spot-below e n m j (omega arith) k in
      rw (z, s)
      (sym (placed-inside 5 (arranged e n (encode_runs rs)) out (spot e n m j) (omega arith) (omega (arith, arrangement-length))
      ∙ spot-arranged e n m j (omega arith) k (encode_runs rs) ∙ encode_runs-at rs m j l k))

  -- the runs put one by one are these bytes
  put_runs-all : put_runs e n 0 rs out ≡ placed 5 (arranged e n (encode_runs rs)) out
  put_runs-all =
      ext_get_or 0 (put_runs e n 0 rs out) t (put_runs-length e n 0 rs out ∙ sym target-length)
      (λ p h. go p (split p 5) (split p (5 + 16 * n)))
    where
      t : List ℕ
      t = placed 5 (arranged e n (encode_runs rs)) out

      stays : (p : ℕ) → get_or t p 0 ≡ get_or out p 0 → get_or (put_runs e n 0 rs out) p 0 ≡ get_or t p 0
      stays p q = put_runs-keeps e n t 0 rs out spotted-all p (sym q)

      made : (p : ℕ) → p < 5 + 16 * n → 5 ≤ p → AtSpot e n (p - 5) → get_or (put_runs e n 0 rs out) p 0 ≡ get_or t p 0
      made p l g a =
          let z : 0 + a.row ≡ a.row = omega arith in
          let s : 5 + first_of e a.row + a.place * step_of e n ≡ p = omega (arith, a.here) in
          let f : 5 + first_of e (0 + a.row) + a.place * step_of e n < length out = rw (z, s) (omega arith) in
          rw (z, s) at (put_runs-makes e n t 0 rs out spotted-all a.row a.place (omega (arith, a.below)) a.small f)

      go : (p : ℕ) → (p < 5) ⊎ (5 ≤ p) → (p < 5 + 16 * n) ⊎ (5 + 16 * n ≤ p) → get_or (put_runs e n 0 rs out) p 0 ≡ get_or t p 0
      go p (inl l) d = stays p (placed-before 5 (arranged e n (encode_runs rs)) out p (omega arith) l)
      go p (inr g) (inl l) = made p l g (at-spot e n (p - 5) (omega arith))
      go p (inr g) (inr l) = stays p (placed-after 5 (arranged e n (encode_runs rs)) out p (omega arith) (omega (arith, arrangement-length)))

-- the head: the version byte, and then the number of runs
pub head_placed : (e : Edition) (n v : ℕ) (out o : List ℕ) → 5 ≤ length out → v ≡ version_of e → o ≡ placed 1 (big_endian 4 n) (set out 0 v) → o ≡ placed 0 (head_of e n) out
head_placed e n v out o h p q =
    let l : length (big_endian 4 n) ≡ 4 = big_endian-length 4 n in
    q ∙ rw p (placed-set 0 (version_of e) (big_endian 4 n) out (omega arith))

-- which leaves the slice as long
pub head-length : (e : Edition) (n : ℕ) (out o : List ℕ) → 5 ≤ length out → o ≡ placed 0 (head_of e n) out → length o ≡ length out
head-length e n out o h p =
    let l : length (head_of e n) ≡ 5 = ap suc (big_endian-length 4 n) in
    ap length p ∙ placed-length 0 (head_of e n) out (omega arith)

-- behind the head they are the whole set
pub set-placed : (e : Edition) (n : ℕ) (rs : List Run) (out o₁ o₂ : List ℕ) → length rs ≡ n → 5 + 16 * n ≤ length out → o₁ ≡ placed 0 (head_of e n) out
    → o₂ ≡ put_runs e n 0 rs o₁ → o₂ ≡ into_front (encode e rs) out
unfolding encode
set-placed e n rs out o₁ o₂ m f p q =
    let T : List ℕ = arranged e n (encode_runs rs) in
    let lT : length (arranged e n (encode_runs rs)) ≡ 16 * n = arrangement-length e n rs out m f in
    let lH : length (head_of e n) ≡ 5 = ap suc (big_endian-length 4 n) in
    let l₁ : length o₁ ≡ length out = head-length e n out o₁ (omega arith) p in
    let five : 0 + length (head_of e n) ≡ 5 = omega arith in
    let both : placed 5 T (placed 0 (head_of e n) out) ≡ placed 0 (head_of e n ++ T) out =
    rw five at (placed-placed 0 (head_of e n) T out (omega arith)) in
    q ∙ put_runs-all e n rs o₁ m (omega arith) ∙ rw p (both ∙ placed-front (head_of e n ++ T) out ∙ rw m)

-- ---- the first i of n runs are put
pub record Put (e : Edition) (n : ℕ) (rs : List Run) (out₀ out : List ℕ) (i : ℕ) : Type 0 where
  pub upto : i ≤ n
  pub many : length rs ≡ n
  pub bytes : out ≡ put_runs e n 0 (take i rs) out₀

-- none yet
pub put-none : (e : Edition) {n : ℕ} (rs : List Run) (out : List ℕ) → length rs ≡ n → Put e n rs out out 0
unfolding put_runs
put-none e rs out m = record { upto = omega arith; many = m; bytes = refl }

module _ {e : Edition} {n : ℕ} {rs : List Run} {out₀ out : List ℕ} {i : ℕ} (k : Put e n rs out₀ out i) where
  -- the slice stays as long
  pub put-long : length out ≡ length out₀
  put-long = ap length k.bytes ∙ put_runs-length e n 0 (take i rs) out₀

  -- one more
  pub put_step : {r : Run} {o : List ℕ} → i < n → r ≡ get_or rs i (run 0 0) → o ≡ put_run e n i r.start r.«end» out → Put e n rs out₀ o (i + 1)
  put_step {r} l q p =
      let z : 0 + length (take i rs) ≡ i = omega (arith, length-take-le i rs (omega (arith, k.many))) in
      record {
        upto = omega arith;
        many = k.many;
        bytes = p ∙ rw (add-one i, take-suc rs i (run 0 0) (omega (arith, k.many)), ← q, k.bytes) (rw z at (sym (put_runs-more e n 0 (take i rs) r out₀)));
      }

  -- all of them, behind the head
  pub put-set : (out₁ : List ℕ) → 5 + 16 * n ≤ length out₁ → out₀ ≡ placed 0 (head_of e n) out₁ → n ≤ i → out ≡ into_front (encode e rs) out₁
  put-set out₁ h p g =
      let all : take i rs ≡ rs = take_all i rs (omega (arith, k.many)) in
      set-placed e n rs out₁ out₀ out k.many h p (k.bytes ∙ rw all)
