-- Written sets: numbers as bytes and back, run lists as bytes and back in either edition, and that the written sets which are accepted are
-- just the encodings of canonical run lists. A byte is a remainder by 256, so everything goes by the quotient of a byte list's value by a
-- power of 256. Assumes nothing.
use mathlib.Core.Path.{◌≡◌, refl, sym, ap, ◌∙◌}
use mathlib.Core.Bool.{Bool, true, false, cond, ◌&&◌, ◌||◌, or-false, and-eq-true_iff}
use mathlib.Core.List.{List, [], ◌∷◌, ◌++◌, append_assoc}
use Prim.Native.Nat.{ℕ, zero, suc, ◌+◌, ◌*◌, ◌/◌, ◌%◌, ◌^◌, ◌≤◌, ◌<◌}
use native.Mathlib.Nat.{
  pow-suc,
  pow-zero,
  pow-le-pow_right,
  one-le-pow,
  mod-one,
  mod-eq_of_lt,
  div-one,
  div-add-mod,
  div-div-eq-div-mul,
  div-lt_iff_lt-mul,
  mul-add,
  add-mul,
  mul_assoc,
  mul_comm,
}
use native.Mathlib.Omega.{arith}
use lib.Dec.{leb, eqb}
use lib.ListN.{length, take, drop, get_or, length-append, length-take, length-drop, take-append-drop}
use lib.Seq.{length-take-le, take_at, drop_at, drop-drop}
use borrow.Author.Tests.{eqb-true, leb-true, ltb-false, le-leb, le-ltb, eq-eqb, not-false}
use Rattle.model.specs.declared.Run.{Run}
use Rattle.model.specs.Numbers.{size}
use Rattle.model.specs.Positions.{run}
use Rattle.model.specs.declared.Edition.{Edition}
use Rattle.model.specs.declared.Edition.TheVariants.{Rows, Columns}
use Rattle.model.specs.Bytes.{
  big_endian,
  value_from,
  value_of,
  encode_runs,
  column,
  columns_from,
  columns,
  version_of,
  arranged,
  encode,
  runs_due,
  edition_by,
  edition_of,
  decode_runs,
  in_rows,
  runs_told,
  decode,
}
use Rattle.model.specs.Refusals.{too_short, bad_length, bad_version, ordered_from, disordered}
use Rattle.model.specs.RunList.{Canon, AllBytes, AllWords}
use Rattle.model.proofs.Columns.{arranged-length, in_rows-length, in_rows-arranged, arranged-in_rows}

-- ---- numbers
-- k bytes are k
pub big_endian-length : (k n : ℕ) → length (big_endian k n) ≡ k
unfolding big_endian
big_endian-length zero n = refl
big_endian-length (suc k) n = ap suc (big_endian-length k n)

-- and each is a remainder by 256
pub big_endian-bytes : (k n : ℕ) → AllBytes (big_endian k n)
unfolding big_endian
big_endian-bytes zero n = tt
big_endian-bytes (suc k) n = (omega arith, big_endian-bytes k n)

-- the remainder by 256 B is one more digit before the remainder by B
mod-digit : (n B : ℕ) → n % (B * 256) ≡ n / B % 256 * B + n % B
mod-digit n B =
    go (n / B % 256) (n % B) (n % (B * 256)) (n / B) (n / B / 256) (div-add-mod n B) (div-add-mod (n / B) 256)
    (rw (← div-div-eq-div-mul) at (div-add-mod n (B * 256)))
  where
    go : (r s t m q : ℕ) → B * m + s ≡ n → 256 * q + r ≡ m → B * 256 * q + t ≡ n → t ≡ r * B + s
    go r s t m q e f g =
        let e' : B * (256 * q + r) + s ≡ n = rw f e in
        omega (arith, rw (mul-add, ← mul_assoc, mul_comm B r) at e')

-- k bytes of n keep its remainder by 256 ^ k
pub value_from-big_endian : (a k n : ℕ) → value_from a (big_endian k n) ≡ a * 256 ^ k + n % 256 ^ k
unfolding big_endian value_from
value_from-big_endian a zero n = rw (pow-zero, mod-one) (omega arith)
value_from-big_endian a (suc k) n =
    rw (value_from-big_endian (a * 256 + n / 256 ^ k % 256) k n, pow-suc, mod-digit, add-mul, mul_comm (256 ^ k) 256, ← mul_assoc) (omega arith)

-- so a number below it comes back
pub value-big_endian : (k n : ℕ) → n < 256 ^ k → value_of (big_endian k n) ≡ n
unfolding value_of
value-big_endian k n h = value_from-big_endian 0 k n ∙ rw (mod-eq_of_lt h) (omega arith)

-- bytes after a number c do not reach up to it
pub value-high : (c : ℕ) (bs : List ℕ) → AllBytes bs → value_from c bs / 256 ^ length bs ≡ c
unfolding value_from
value-high c [] h = div-one c
value-high c (b ∷ bs) h =
    rw (pow-suc, ← div-div-eq-div-mul, value-high (c * 256 + b) bs h.1) (omega arith)

-- bytes are worth less than 256 to the power of how many they are
pub value-bound : (bs : List ℕ) → AllBytes bs → value_of bs < 256 ^ length bs
unfolding value_of
value-bound bs h =
    let q : value_from 0 bs / 256 ^ length bs < 1 = rw (value-high 0 bs h) (omega arith) in
    omega (arith, (div-lt_iff_lt-mul (one-le-pow (length bs) 256 (omega arith))).0 q)

-- a byte list is the bytes of its value, also after a number c
value_from-bytes : (c : ℕ) (bs : List ℕ) → AllBytes bs → big_endian (length bs) (value_from c bs) ≡ bs
unfolding big_endian value_from
value_from-bytes c [] h = refl
value_from-bytes c (b ∷ bs) h =
    rw (value-high (c * 256 + b) bs h.1, value_from-bytes (c * 256 + b) bs h.1) (ap (λ (d : ℕ). d ∷ bs) (omega arith))

-- the same, of the value alone
pub big_endian-value : (bs : List ℕ) → AllBytes bs → big_endian (length bs) (value_of bs) ≡ bs
unfolding value_of
big_endian-value bs h = value_from-bytes 0 bs h

-- ---- byte lists and their parts
-- bytes after bytes are bytes
pub append-bytes : (bs cs : List ℕ) → AllBytes bs → AllBytes cs → AllBytes (bs ++ cs)
append-bytes [] cs h k = k
append-bytes (b ∷ bs) cs h k = (h.0, append-bytes bs cs h.1 k)

-- and so are the first of them
pub take-bytes : (n : ℕ) (bs : List ℕ) → AllBytes bs → AllBytes (take n bs)
take-bytes zero bs h = tt
take-bytes (suc n) [] h = tt
take-bytes (suc n) (b ∷ bs) h = (h.0, take-bytes n bs h.1)

-- and what follows these
pub drop-bytes : (n : ℕ) (bs : List ℕ) → AllBytes bs → AllBytes (drop n bs)
drop-bytes zero bs h = h
drop-bytes (suc n) [] h = tt
drop-bytes (suc n) (b ∷ bs) h = drop-bytes n bs h.1

-- and each one (the default is 0)
pub bytes-at : (bs : List ℕ) (j : ℕ) → AllBytes bs → get_or bs j 0 < 256
bytes-at [] j h = omega arith
bytes-at (b ∷ bs) zero h = h.0
bytes-at (b ∷ bs) (suc j) h = bytes-at bs j h.1

-- and so is a column of a table of them
column-bytes : (R C j : ℕ) (bs : List ℕ) → AllBytes bs → AllBytes (column R C j bs)
unfolding column
column-bytes zero C j bs h = tt
column-bytes (suc R) C j bs h = (bytes-at bs j h, column-bytes R C j (drop C bs) (drop-bytes C bs h))

-- and some columns
columns_from-bytes : (k R C j : ℕ) (bs : List ℕ) → AllBytes bs → AllBytes (columns_from k R C j bs)
unfolding columns_from
columns_from-bytes zero R C j bs h = tt
columns_from-bytes (suc k) R C j bs h =
    append-bytes (column R C j bs) (columns_from k R C (suc j) bs) (column-bytes R C j bs h) (columns_from-bytes k R C (suc j) bs h)

-- and all columns
pub columns-bytes : (R C : ℕ) (bs : List ℕ) → AllBytes bs → AllBytes (columns R C bs)
unfolding columns
columns-bytes R C bs h = columns_from-bytes C R C 0 bs h

-- so bytes stay bytes as an edition arranges them
pub arranged-bytes : (e : Edition) (R : ℕ) (bs : List ℕ) → AllBytes bs → AllBytes (arranged e R bs)
arranged-bytes Rows R bs h = h
arranged-bytes Columns R bs h = columns-bytes R 16 bs h

-- and as they are read from it
pub in_rows-bytes : (e : Edition) (R : ℕ) (bs : List ℕ) → AllBytes bs → AllBytes (in_rows e R bs)
in_rows-bytes Rows R bs h = h
in_rows-bytes Columns R bs h = columns-bytes 16 R bs h

-- the value of at most k bytes is below 256 ^ k
pub part-bound : (k : ℕ) (bs : List ℕ) → AllBytes bs → value_of (take k bs) < 256 ^ k
part-bound k bs h =
    let g : length (take k bs) ≤ k = simp length-take (omega arith) in
    let p : 256 ^ length (take k bs) ≤ 256 ^ k = pow-le-pow_right (omega arith) g in
    omega (arith, value-bound (take k bs) (take-bytes k bs h))

-- k bytes written from the value of the first k are those
pub part-back : (k : ℕ) (bs : List ℕ) → AllBytes bs → k ≤ length bs → big_endian k (value_of (take k bs)) ≡ take k bs
part-back k bs h g =
    let e : length (take k bs) ≡ k = length-take-le k bs g in
    rw e at (big_endian-value (take k bs) (take-bytes k bs h))

-- ---- run lists, written
-- 16 bytes to a run
pub encode_runs-length : (rs : List Run) → length (encode_runs rs) ≡ 16 * length rs
unfolding encode_runs
encode_runs-length [] = refl
encode_runs-length (r ∷ rs) = simp (length-append, big_endian-length, encode_runs-length rs) (omega arith)

-- and 5 before them, in either edition
pub encode-length : (e : Edition) (rs : List Run) → length (encode e rs) ≡ 5 + 16 * length rs
unfolding encode
encode-length e rs = simp (length-append, big_endian-length, arranged-length e (length rs) (encode_runs rs) (encode_runs-length rs)) (omega arith)

-- whatever the runs are, they are written in bytes
pub encode_runs-bytes : (rs : List Run) → AllBytes (encode_runs rs)
unfolding encode_runs
encode_runs-bytes [] = tt
encode_runs-bytes (r ∷ rs) =
    append-bytes (big_endian 8 r.start) (big_endian 8 r.«end» ++ encode_runs rs) (big_endian-bytes 8 r.start)
    (append-bytes (big_endian 8 r.«end») (encode_runs rs) (big_endian-bytes 8 r.«end») (encode_runs-bytes rs))

-- a version is a byte
version-byte : (e : Edition) → version_of e < 256
version-byte Rows = omega arith
version-byte Columns = omega arith

-- so a written set is bytes
pub encode-bytes : (e : Edition) (rs : List Run) → AllBytes (encode e rs)
unfolding encode
encode-bytes e rs =
    let R : ℕ = length rs in
    let cs : List ℕ = arranged e R (encode_runs rs) in
    (version-byte e, append-bytes (big_endian 4 R) cs (big_endian-bytes 4 R) (arranged-bytes e R (encode_runs rs) (encode_runs-bytes rs)))

-- run lists are written one after the other
pub encode_runs-append : (rs ss : List Run) → encode_runs (rs ++ ss) ≡ encode_runs rs ++ encode_runs ss
unfolding encode_runs
encode_runs-append [] ss = refl
encode_runs-append (r ∷ rs) ss = rw (encode_runs-append rs ss) (simp append_assoc)

-- k bytes that stand in front are read again
pub value-front : (k n : ℕ) (cs : List ℕ) → n < 256 ^ k → value_of (take k (big_endian k n ++ cs)) ≡ n
value-front k n cs h = rw (take_at (big_endian k n) cs k (big_endian-length k n)) (value-big_endian k n h)

-- and passed over
pub drop-front : (k n : ℕ) (cs : List ℕ) → drop k (big_endian k n ++ cs) ≡ cs
drop-front k n cs = drop_at (big_endian k n) cs k (big_endian-length k n)

-- R is how many runs there are
pub runs_due-encode : (e : Edition) (rs : List Run) → length rs < 2 ^ 32 → runs_due (encode e rs) ≡ length rs
unfolding runs_due encode
runs_due-encode e rs h = value-front 4 (length rs) (arranged e (length rs) (encode_runs rs)) h

-- the version tells the edition
pub edition_of-encode : (e : Edition) (rs : List Run) → edition_of (encode e rs) ≡ e
unfolding edition_of encode
edition_of-encode Rows rs = refl
edition_of-encode Columns rs = refl

-- the runs stand behind the first 5 bytes
pub encode-rest : (e : Edition) (rs : List Run) → drop 5 (encode e rs) ≡ arranged e (length rs) (encode_runs rs)
unfolding encode
encode-rest e rs = drop-front 4 (length rs) (arranged e (length rs) (encode_runs rs))

-- the runs come back
pub decode_runs-encode_runs : (rs : List Run) → AllWords rs → decode_runs (length rs) (encode_runs rs) ≡ rs
unfolding decode_runs encode_runs
decode_runs-encode_runs [] h = refl
decode_runs-encode_runs (r ∷ rs) h =
    let cs : List ℕ = big_endian 8 r.«end» ++ encode_runs rs in
    let bs : List ℕ = big_endian 8 r.start ++ cs in
    let t : drop 8 bs ≡ cs = drop-front 8 r.start cs in
    let u : drop 16 bs ≡ encode_runs rs = sym (drop-drop 8 8 bs) ∙ rw t (drop-front 8 r.«end» (encode_runs rs)) in
    rw (value-front 8 r.start cs h.0, t, value-front 8 r.«end» (encode_runs rs) h.1, u, decode_runs-encode_runs rs h.2)

-- a run list comes back from what is written of it
pub decode-encode : (e : Edition) (rs : List Run) → AllWords rs → length rs < 2 ^ 32 → decode (encode e rs) ≡ rs
unfolding decode runs_told
decode-encode e rs h k =
    rw (edition_of-encode e rs, runs_due-encode e rs k, encode-rest e rs, in_rows-arranged e (length rs) (encode_runs rs) (encode_runs-length rs))
    (decode_runs-encode_runs rs h)

-- so no two run lists are written alike in one edition
pub encode_injective :
    (e : Edition) (rs ss : List Run) → AllWords rs → AllWords ss → length rs < 2 ^ 32 → length ss < 2 ^ 32 → encode e rs ≡ encode e ss → rs ≡ ss
encode_injective e rs ss h k m n p = cc (decode-encode e rs h m, decode-encode e ss k n)

-- ---- reading any bytes
-- as many runs are read as are asked for
pub decode_runs-length : (n : ℕ) (bs : List ℕ) → length (decode_runs n bs) ≡ n
unfolding decode_runs
decode_runs-length zero bs = refl
decode_runs-length (suc n) bs = ap suc (decode_runs-length n (drop 16 bs))

-- in either edition
pub runs_told-length : (e : Edition) (n : ℕ) (bs : List ℕ) → length (runs_told e n bs) ≡ n
unfolding runs_told
runs_told-length e n bs = decode_runs-length n (in_rows e n bs)

-- as many as the set says
pub decode-length : (bs : List ℕ) → length (decode bs) ≡ runs_due bs
unfolding decode
decode-length bs = runs_told-length (edition_of bs) (runs_due bs) (drop 5 bs)

-- and their ends are words
pub decode_runs-words : (n : ℕ) (bs : List ℕ) → AllBytes bs → AllWords (decode_runs n bs)
unfolding decode_runs
decode_runs-words zero bs h = tt
decode_runs-words (suc n) bs h =
    (part-bound 8 bs h, part-bound 8 (drop 8 bs) (drop-bytes 8 bs h), decode_runs-words n (drop 16 bs) (drop-bytes 16 bs h))

-- in either edition
pub runs_told-words : (e : Edition) (n : ℕ) (bs : List ℕ) → AllBytes bs → AllWords (runs_told e n bs)
unfolding runs_told
runs_told-words e n bs h = decode_runs-words n (in_rows e n bs) (in_rows-bytes e n bs h)

-- so it is for a whole set
pub decode-words : (bs : List ℕ) → AllBytes bs → AllWords (decode bs)
unfolding decode
decode-words bs h = runs_told-words (edition_of bs) (runs_due bs) (drop 5 bs) (drop-bytes 5 bs h)

-- run i is read from byte 16 i on
pub decode_runs-at : (n : ℕ) (bs : List ℕ) (i : ℕ) (d : Run) → i < n
    → get_or (decode_runs n bs) i d ≡ run (value_of (take 8 (drop (16 * i) bs))) (value_of (take 8 (drop (16 * i + 8) bs)))
unfolding decode_runs
decode_runs-at zero bs i d h = absurd (omega arith)
decode_runs-at (suc n) bs zero d h = refl
decode_runs-at (suc n) bs (suc i) d h =
    let e : 16 + 16 * i ≡ 16 * suc i = omega arith in
    let f : 16 + (16 * i + 8) ≡ 16 * suc i + 8 = omega arith in
    decode_runs-at n (drop 16 bs) i d (omega arith) ∙ simp (drop-drop, e, f)

-- the bytes come back
pub encode_runs-decode_runs : (n : ℕ) (bs : List ℕ) → AllBytes bs → length bs ≡ 16 * n → encode_runs (decode_runs n bs) ≡ bs
unfolding encode_runs decode_runs
encode_runs-decode_runs zero [] h e = refl
encode_runs-decode_runs zero (b ∷ bs) h e = absurd (omega arith)
encode_runs-decode_runs (suc n) bs h e =
    let g : 8 ≤ length (drop 8 bs) = simp length-drop (omega arith) in
    let i : encode_runs (decode_runs n (drop 16 bs)) ≡ drop 16 bs = encode_runs-decode_runs n (drop 16 bs) (drop-bytes 16 bs h) (simp length-drop (omega arith)) in
    rw (part-back 8 bs h (omega arith), part-back 8 (drop 8 bs) (drop-bytes 8 bs h) g, i)
    (ap (λ (l : List ℕ). take 8 bs ++ (take 8 (drop 8 bs) ++ l)) (sym (drop-drop 8 8 bs)) ∙ rw (take-append-drop 8 (drop 8 bs)) (take-append-drop 8 bs))

-- in either edition
pub arranged-runs_told : (e : Edition) (n : ℕ) (bs : List ℕ) → AllBytes bs → length bs ≡ 16 * n → arranged e n (encode_runs (runs_told e n bs)) ≡ bs
unfolding runs_told
arranged-runs_told e n bs h l =
    rw (encode_runs-decode_runs n (in_rows e n bs) (in_rows-bytes e n bs h) (in_rows-length e n bs l)) (arranged-in_rows e n bs l)

-- and the version, where it is that of an edition
version-back : (b : ℕ) → (eqb b 1 || eqb b 2) ≡ true → version_of (edition_by b) ≡ b
version-back b h = go (eqb b 2) refl h
  where
    go : (t : Bool) → eqb b 2 ≡ t → (eqb b 1 || t) ≡ true → version_of (cond t Columns Rows) ≡ b
    go true f g = sym (eqb-true b 2 f)
    go false f g = sym (eqb-true b 1 (sym (or-false (eqb b 1)) ∙ g))

-- the length of a set that has the right one
pub due-length : (bs : List ℕ) → bad_length bs ≡ false → length bs ≡ 5 + 16 * runs_due bs
unfolding bad_length
due-length bs l = eqb-true (length bs) (5 + 16 * runs_due bs) (not-false (eqb (length bs) (5 + 16 * runs_due bs)) l)

-- the whole of a written set comes back in its edition, if its length and its version are right
pub encode-decode :
    (bs : List ℕ) → AllBytes bs → too_short bs ≡ false → bad_version bs ≡ false → bad_length bs ≡ false → encode (edition_of bs) (decode bs) ≡ bs
unfolding encode edition_of decode runs_due too_short bad_version
encode-decode [] h s v l = absurd (omega (arith, ltb-false 0 5 s))
encode-decode (b ∷ bs) h s v l =
    let version : version_of (edition_by b) ≡ b = version-back b (not-false (eqb b 1 || eqb b 2) v) in
    let four : 4 ≤ length bs = omega (arith, ltb-false (suc (length bs)) 5 s) in
    let n : ℕ = value_of (take 4 bs) in
    let e : suc (length bs) ≡ 5 + 16 * n = due-length (b ∷ bs) l in
    let long : length (drop 4 bs) ≡ 16 * n = simp length-drop (omega arith) in
    let rest : arranged (edition_by b) n (encode_runs (runs_told (edition_by b) n (drop 4 bs))) ≡ drop 4 bs =
    arranged-runs_told (edition_by b) n (drop 4 bs) (drop-bytes 4 bs h.1) long in
    rw (runs_told-length (edition_by b) n (drop 4 bs), part-back 4 bs h.1 four, rest, take-append-drop 4 bs, version)

-- ---- the order of runs
-- what passes the order test is canonical
pub ordered-canon : (k : ℕ) (rs : List Run) → AllWords rs → ordered_from k rs ≡ true → Canon size k rs
unfolding ordered_from
ordered-canon k [] w e = tt
ordered-canon k (r ∷ rs) w e =
    let f = (and-eq-true_iff (leb k r.start) (leb r.start r.«end» && ordered_from (r.«end» + 2) rs)).0 e in
    let g = (and-eq-true_iff (leb r.start r.«end») (ordered_from (r.«end» + 2) rs)).0 f.1 in
    (leb-true k r.start f.0, leb-true r.start r.«end» g.0, w.1, ordered-canon (r.«end» + 2) rs w.2 g.1)

-- and what is canonical passes
pub canon-ordered : (total k : ℕ) (rs : List Run) → Canon total k rs → ordered_from k rs ≡ true
unfolding ordered_from
canon-ordered total k [] c = refl
canon-ordered total k (r ∷ rs) c =
    rw (le-leb k r.start c.0, le-leb r.start r.«end» c.1) (canon-ordered total (r.«end» + 2) rs c.3)

-- the ends of canonical runs are words
pub canon-words : (k : ℕ) (rs : List Run) → Canon size k rs → AllWords rs
canon-words k [] c = tt
canon-words k (r ∷ rs) c = (omega arith, c.2, canon-words (r.«end» + 2) rs c.3)

-- ---- what is accepted
-- a written set has its first 5 bytes
pub encode-long : (e : Edition) (rs : List Run) → too_short (encode e rs) ≡ false
unfolding too_short
encode-long e rs = simp encode-length (le-ltb (5 + 16 * length rs) 5 (omega arith))

-- the version of an edition is one that a reader knows
version-known : (e : Edition) (rs : List Run) → bad_version (encode e rs) ≡ false
unfolding bad_version encode
version-known Rows rs = refl
version-known Columns rs = refl

-- bytes that meet none of the refusals of written sets
pub record Intact (bs : List ℕ) : Type 0 where
  pub long : too_short bs ≡ false
  pub version : bad_version bs ≡ false
  pub length-fits : bad_length bs ≡ false
  pub ordered : disordered (decode bs) ≡ false

-- a written canonical list is such
pub encode-intact : (e : Edition) (rs : List Run) → Canon size 0 rs → length rs < 2 ^ 32 → Intact (encode e rs)
unfolding bad_length disordered
encode-intact e rs c h = record {
  long = encode-long e rs;
  version = version-known e rs;
  length-fits = rw (encode-length e rs, runs_due-encode e rs h, eq-eqb (5 + 16 * length rs) (5 + 16 * length rs) refl);
  ordered = rw (decode-encode e rs (canon-words 0 rs c) h, canon-ordered size 0 rs c);
}

-- and such bytes are the encoding, in their edition, of the canonical list that is read from them
pub intact-canon : (bs : List ℕ) → AllBytes bs → Intact bs → Canon size 0 (decode bs)
unfolding disordered
intact-canon bs h I = ordered-canon 0 (decode bs) (decode-words bs h) (not-false (ordered_from 0 (decode bs)) I.ordered)

pub intact-encode : (bs : List ℕ) → AllBytes bs → Intact bs → encode (edition_of bs) (decode bs) ≡ bs
intact-encode bs h I = encode-decode bs h I.long I.version I.length-fits
