-- The laws of clearing (document 02, Ticket 2): the cleared map reads as document 01 read the map, clearing twice is clearing once, and a
-- written map is clear. The bits below n stay and those from n on are 0, which is all that a reading asks. Only `clear-is` and `clear_stays`
-- ask that the elements are bytes: of a number above 255 clearing keeps eight bits. Assumes nothing.
use mathlib.Core.Path.{◌≡◌, refl, sym, ap, ap₂, ◌∙◌, subst, fun_ext}
use mathlib.Core.Logic.{◌⊎◌, inl, inr}
use mathlib.Core.Bool.{Bool, true, false, cond, not, ◌||◌, false≢true}
use mathlib.Core.List.{List, [], ◌∷◌}
use Prim.Native.Nat.{ℕ, ◌+◌, ◌-◌, ◌*◌, ◌/◌, ◌≤◌, ◌<◌}
use native.Mathlib.Nat.{zero-add, zero-div}
use native.Mathlib.Omega.{arith}
use lib.ListN.{length, get_or-eq_default}
use borrow.Author.Tests.{eq-eqb, le-ltb}
use Rattle.model.proofs.Numbers.{split, neither-first, neither-second}
use Rattle.model.specs.Positions.{Positions, among, bounded, changes}
use Rattle.model.proofs.Counting.{among_below, among-above, count_none, counted_none}
use Rattle.model.specs.Bytes.{map_length, map_of, map_bit, stray_bits, cleared, mapped}
use Rattle.model.specs.RunList.{AllBytes}
use Rattle.model.proofs.Maps.{map_of-length, map_of-bytes, map_of-cong, map_of-bit, map_of-spare, map-tell}
use Rattle.model.specs.Refusals.{window, stray_bit, capacity, ◌when◌, refusal, bad_window, bad_map, stray, too_many}
use Rattle.model.specs.Call.{Fed, Result, number, Answer, refused, gave, read_map}
use Rattle.model.specs.Model.{positions_of, planned, settle, look, or_else, serve}
use Rattle.model.specs.Handled.{Handled, handle}
use Rattle.model.specs.Clearing.{clear_map, document_one_reading}

-- ---- the cleared map
module _ (n : ℕ) (bs : List ℕ) where
  -- it has the length of a map of n positions
  pub cleared-length : length (cleared n bs) ≡ map_length n
  unfolding cleared
  cleared-length = map_of-length (map_bit bs) 0 n

  -- its bits below n are those of the map
  pub cleared-bit : (i : ℕ) → i < n → map_bit (cleared n bs) i ≡ map_bit bs i
  unfolding cleared
  cleared-bit i h = map_of-bit (map_bit bs) 0 n i h ∙ ap (map_bit bs) (zero-add i)

  -- and those from n on are 0
  pub cleared-spare : (i : ℕ) → n ≤ i → map_bit (cleared n bs) i ≡ false
  unfolding cleared
  cleared-spare i h = map_of-spare (map_bit bs) 0 n i h

  -- so none of these is one
  pub cleared-none : stray_bits n (cleared n bs) ≡ 0
  unfolding stray_bits
  cleared-none = count_none (map_bit (cleared n bs)) true n (8 * map_length n - n) (λ i h l. cleared-spare i h)

  -- a window is given the same values by it
  pub cleared-mapped : (base : ℕ) (P : Positions) → mapped base n (cleared n bs) P ≡ mapped base n bs P
  unfolding mapped
  cleared-mapped base P = fun_ext (λ x. go x (split x base) (split x (base + n)))
    where
      go : (x : ℕ) → (x < base) ⊎ (base ≤ x) → (x < base + n) ⊎ (base + n ≤ x)
          → cond (among base n x) (map_bit (cleared n bs) (x - base)) (P x) ≡ cond (among base n x) (map_bit bs (x - base)) (P x)
      go x (inl h) k = rw (among_below base n x h)
      go x (inr h) (inl k) = ap (λ b. cond (among base n x) b (P x)) (cleared-bit (x - base) (omega arith))
      go x (inr h) (inr k) = rw (among-above base n x k)

  -- clearing it changes nothing
  pub cleared-again : cleared n (cleared n bs) ≡ cleared n bs
  unfolding cleared
  cleared-again = map_of-cong (map_bit (map_of (map_bit bs) 0 n)) (map_bit bs) 0 n (λ i h l. map_of-bit (map_bit bs) 0 n i (omega arith) ∙ ap (map_bit bs) (zero-add i))

-- bytes of a map's length that have the bits of a cleared map are that map
pub clear-is : (n : ℕ) (bs cs : List ℕ) → AllBytes cs → length cs ≡ map_length n → ((i : ℕ) → i < n → map_bit cs i ≡ map_bit bs i) → ((i : ℕ) → n ≤ i → map_bit cs i ≡ false)
    → cs ≡ cleared n bs
unfolding cleared
clear-is n bs cs b l h g = map-tell cs (map_of (map_bit bs) 0 n) b (map_of-bytes (map_bit bs) 0 n) (l ∙ sym (map_of-length (map_bit bs) 0 n)) (λ i. go i (split i n))
  where
    go : (i : ℕ) → (i < n) ⊎ (n ≤ i) → map_bit cs i ≡ map_bit (map_of (map_bit bs) 0 n) i
    go i (inl k) = h i k ∙ sym (map_of-bit (map_bit bs) 0 n i k ∙ ap (map_bit bs) (zero-add i))
    go i (inr k) = g i k ∙ sym (map_of-spare (map_bit bs) 0 n i k)

-- the map of a set is clear
pub written-clear : (P : Positions) (base n : ℕ) → cleared n (map_of P base n) ≡ map_of P base n
written-clear P base n = sym (clear-is n (map_of P base n) (map_of P base n) (map_of-bytes P base n) (map_of-length P base n) (λ i h. refl) (map_of-spare P base n))

pub written_none : (P : Positions) (base n : ℕ) → stray_bits n (map_of P base n) ≡ 0
unfolding stray_bits
written_none P base n = count_none (map_bit (map_of P base n)) true n (8 * map_length n - n) (λ i h l. map_of-spare P base n i h)

-- beyond a map's bytes every bit is 0
past-map : (bs : List ℕ) (i : ℕ) → length bs ≤ i / 8 → map_bit bs i ≡ false
unfolding map_bit
past-map bs i h = rw (get_or-eq_default bs 0 h, zero-div)

-- so a map of bytes of which no spare bit is one is clear
pub clear_stays : (n : ℕ) (bs : List ℕ) → AllBytes bs → length bs ≡ map_length n → stray_bits n bs ≡ 0 → cleared n bs ≡ bs
unfolding stray_bits
clear_stays n bs b l z = sym (clear-is n bs bs b l (λ i h. refl) (λ i h. go i h (split i (8 * map_length n))))
  where
    go : (i : ℕ) → n ≤ i → (i < 8 * map_length n) ⊎ (8 * map_length n ≤ i) → map_bit bs i ≡ false
    go i h (inl k) = counted_none (map_bit bs) false n (8 * map_length n - n) z i h (omega arith)
    go i h (inr k) = past-map bs i (omega arith)

-- ---- the conditions of a map
-- one of the right length
pub exact-map : (n : ℕ) (bs : List ℕ) → length bs ≡ map_length n → bad_map n bs ≡ false
unfolding bad_map
exact-map n bs e = ap not (eq-eqb (length bs) (map_length n) e)

-- one with no spare bit set
pub clear-map : (n : ℕ) (bs : List ℕ) → stray_bits n bs ≡ 0 → stray n bs ≡ false
unfolding stray
clear-map n bs e = le-ltb 0 (stray_bits n bs) (omega arith)

-- a map that 6 refuses is refused alike with the condition of 10 and without it
refused-alike : (t b m z : Bool) → (b || m) ≡ true
    → refusal (capacity when t ∷ window when b ∷ window when m ∷ []) ≡ refusal (capacity when t ∷ window when b ∷ window when m ∷ stray_bit when z ∷ [])
refused-alike t true m z e = refl
refused-alike t false true z e = refl
refused-alike t false false z e = absurd (false≢true e)

-- and where 10 is not due, it makes no difference
passed-alike : (t b m : Bool)
    → refusal (capacity when t ∷ window when b ∷ window when m ∷ []) ≡ refusal (capacity when t ∷ window when b ∷ window when m ∷ stray_bit when false ∷ [])
passed-alike t true m = refl
passed-alike t false true = refl
passed-alike t false false = refl

-- ---- clearing
-- a refusal with 6, and a slice that is clear already
abbrev pub refused_six : List ℕ → Handled
refused_six bs = record { answer = refused 6; slice = bs }

abbrev pub untouched : List ℕ → Handled
untouched bs = record { answer = gave (number 0); slice = bs }

module _ (base n : ℕ) (bs : List ℕ) where
  -- it is refused by the window or by the map's length
  pub clear-refused : (bad_window base n || bad_map n bs) ≡ true → clear_map base n bs ≡ refused_six bs
  unfolding clear_map
  clear-refused = go (bad_window base n) (bad_map n bs)
    where
      go : (b m : Bool) → (b || m) ≡ true → handle (refusal (window when b ∷ window when m ∷ [])) bs (number (stray_bits n bs)) (cleared n bs) ≡ refused_six bs
      go true m e = refl
      go false true e = refl
      go false false e = absurd (false≢true e)

  -- and else it clears
  pub clear-done : (bad_window base n || bad_map n bs) ≡ false → clear_map base n bs ≡ record { answer = gave (number (stray_bits n bs)); slice = cleared n bs }
  unfolding clear_map
  clear-done = go (bad_window base n) (bad_map n bs)
    where
      go : (b m : Bool) → (b || m) ≡ false
          → handle (refusal (window when b ∷ window when m ∷ [])) bs (number (stray_bits n bs)) (cleared n bs) ≡ record { answer = gave (number (stray_bits n bs)); slice = cleared n bs }
      go true m e = absurd (false≢true (sym e))
      go false true e = absurd (false≢true (sym e))
      go false false e = refl

  -- a map of the window that is clear stays
  pub clear-nothing : bad_window base n ≡ false → length bs ≡ map_length n → stray_bits n bs ≡ 0 → cleared n bs ≡ bs → clear_map base n bs ≡ untouched bs
  clear-nothing e l z c =
      clear-done (ap₂ (λ b m. b || m) e (exact-map n bs l)) ∙ ap₂ (λ k (cs : List ℕ). record { answer = gave (number k); slice = cs }) z c

  -- either way
  pub either_way : (Q : Handled → Type 0) → ((bad_window base n || bad_map n bs) ≡ true → Q (refused_six bs))
      → ((bad_window base n || bad_map n bs) ≡ false → Q (record { answer = gave (number (stray_bits n bs)); slice = cleared n bs })) → Q (clear_map base n bs)
  either_way Q f g = go (bad_window base n || bad_map n bs) refl
    where
      go : (b : Bool) → (bad_window base n || bad_map n bs) ≡ b → Q (clear_map base n bs)
      go true e = subst Q (sym (clear-refused e)) (f e)
      go false e = subst Q (sym (clear-done e)) (g e)

-- ---- THE LAWS
-- a written map stays, and none of its spare bits is one
pub clears-no-written-map : (P : Positions) (base n : ℕ) → bad_window base n ≡ false → clear_map base n (map_of P base n) ≡ untouched (map_of P base n)
clears-no-written-map P base n e = clear-nothing base n (map_of P base n) e (map_of-length P base n) (written_none P base n) (written-clear P base n)

module _ (base n : ℕ) (bs : List ℕ) where
  -- once cleared, a map stays
  clears-once : (bad_window base n || bad_map n bs) ≡ false → clear_map base n (cleared n bs) ≡ untouched (cleared n bs)
  clears-once e =
      clear-nothing base n (cleared n bs) (neither-first (bad_window base n) (bad_map n bs) e) (cleared-length n bs) (cleared-none n bs) (cleared-again n bs)

  -- clearing twice leaves what clearing once does
  pub clears-twice : (clear_map base n (clear_map base n bs).slice).slice ≡ (clear_map base n bs).slice
  clears-twice =
      either_way base n bs (λ h. (clear_map base n h.slice).slice ≡ h.slice) (λ e. ap (λ h. h.slice) (clear-refused base n bs e)) (λ e. ap (λ h. h.slice) (clears-once e))

  -- and answers 0 where the first was not refused
  pub clears-none-twice : {a : Result} → (clear_map base n bs).answer ≡ gave a → (clear_map base n (clear_map base n bs).slice).answer ≡ gave (number 0)
  clears-none-twice {a} =
      either_way base n bs (λ h. h.answer ≡ gave a → (clear_map base n h.slice).answer ≡ gave (number 0)) (λ e k. absurd (no_result k)) (λ e k. ap (λ h. h.answer) (clears-once e))
    where
      Plain : Answer → Type 0
      Plain (refused m) = ⊥
      Plain (gave r) = Unit {0}

      no_result : refused 6 ≡ gave a → ⊥
      no_result k = subst Plain (sym k) tt

  module _ (full : ℕ → Bool) (s : Fed) where
    -- a map that is refused with 6 is read as document 01 read it
    reads-refused : (bad_window base n || bad_map n bs) ≡ true → document_one_reading full s base n bs ≡ serve full s (planned (read_map base n bs))
    unfolding document_one_reading serve
    reads-refused e =
        let Q = mapped base n bs (positions_of s) in
        ap (λ o. settle (or_else (look (s ∷ [])) o) (positions_of s) (number (changes (positions_of s) Q)) (bounded Q)) (refused-alike (too_many full Q) (bad_window base n) (bad_map n bs) (stray n bs) e)

    -- and so is the cleared map
    reads-cleared : (bad_window base n || bad_map n bs) ≡ false → document_one_reading full s base n bs ≡ serve full s (planned (read_map base n (cleared n bs)))
    unfolding document_one_reading serve
    reads-cleared e =
        let Q = mapped base n bs (positions_of s) in
        let P = positions_of s in
        rw (cleared-mapped n bs base P, exact-map n (cleared n bs) (cleared-length n bs), clear-map n (cleared n bs) (cleared-none n bs), neither-second (bad_window base n) (bad_map n bs) e)
        (ap (λ o. settle (or_else (look (s ∷ [])) o) P (number (changes P Q)) (bounded Q)) (passed-alike (too_many full Q) (bad_window base n) false))

    -- what document 01's reading made of a map is what reading the cleared map makes
    pub reads-as-document-one : document_one_reading full s base n bs ≡ serve full s (planned (read_map base n (clear_map base n bs).slice))
    reads-as-document-one = either_way base n bs (λ h. document_one_reading full s base n bs ≡ serve full s (planned (read_map base n h.slice))) reads-refused reads-cleared
