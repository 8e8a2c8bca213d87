-- Ranks put into a slice as runs, start and end of each in turn: none, one, two lists one after the other, and so the middle ones of a tree, parting
-- by parting. Assumes nothing.
use Rattle.std.proofs.Common.{ℕ, zero, suc, ◌+◌, ◌-◌, ◌*◌, ◌≤◌, ◌<◌, ◌≡◌, sym, ap, ap₂, ◌∙◌, List, [], ◌∷◌, ◌++◌, arith, length, set, length-append, length-set}
use Rattle.model.specs.Bytes.{into_front}
use Rattle.model.specs.Deepest.{least, middles, middles_up_to, runs_at, words_of, deepest_words}
use Rattle.model.proofs.Deepest.{least-none, least-one, least-halves, least-most, no-middles, middles-first, middles-next, no-ranks, rank-words, ranks-append, ranks-length, deepest-words, deepest-ranks}
use Rattle.model.proofs.Deepest.{up-to-none, up-to-next, up-to-least}
use Rattle.codec.specs.Placed.{placed}
use Rattle.codec.proofs.Placing.{placed-nil, placed-length, placed-set, placed-placed, placed-front}
use Rattle.deepest.specs.Ranks.{Put, Puttable, Listable}

-- ---- lists of ranks
-- none
pub put-none : (p : ℕ) (out : List ℕ) → Put [] p p out out
put-none p out = record { next = omega arith; slice = sym (ap (λ (ws : List ℕ). placed p ws out) no-ranks ∙ placed-nil p out) }

-- one
put_one : (k p : ℕ) (out : List ℕ) → p + 2 ≤ length out → Put (k ∷ []) p (p + 2) out (set (set out p (2 * k)) (p + 1) (2 * k))
put_one k p out room = let e : p + 1 ≡ suc p = omega arith in record {
  next = omega arith;
  slice =
      ap (λ j. set (set out p (2 * k)) j (2 * k)) e
      ∙ sym (placed-nil (suc (suc p)) (set (set out p (2 * k)) (suc p) (2 * k)))
      ∙ placed-set (suc p) (2 * k) [] (set out p (2 * k)) (omega (arith, length-set out p (2 * k)))
      ∙ placed-set p (2 * k) (2 * k ∷ []) out (omega arith)
      ∙ ap (λ (ws : List ℕ). placed p ws out) (sym (rank-words k));
}

-- the slice stays as long
pub put-long : (ks : List ℕ) (p q : ℕ) (out out' : List ℕ) → p + 2 * length ks ≤ length out → Put ks p q out out' → length out' ≡ length out
put-long ks p q out out' room s = ap length s.slice ∙ placed-length p (words_of (runs_at ks)) out (omega (arith, ranks-length ks))

-- one list, and another after it
put_both : {ks xs ys : List ℕ} {p q r : ℕ} {out mid out' : List ℕ} → ks ≡ xs ++ ys → p + 2 * length ks ≤ length out → Put xs p q out mid → Put ys q r mid out' → Put ks p r out out'
put_both {ks} {xs} {ys} {p} {q} {r} {out} e room s t =
    let both : length ks ≡ length xs + length ys = omega (arith, ap length e, length-append xs ys) in
    let f : q ≡ p + length (words_of (runs_at xs)) = omega (arith, s.next, ranks-length xs) in record {
      next = omega (arith, s.next, t.next);
      slice =
          t.slice
          ∙ ap₂ (λ (j : ℕ) (l : List ℕ). placed j (words_of (runs_at ys)) l) f s.slice
          ∙ placed-placed p (words_of (runs_at xs)) (words_of (runs_at ys)) out (omega (arith, ranks-length xs, ranks-length ys))
          ∙ ap (λ (ws : List ℕ). placed p ws out) (sym (ranks-append xs ys) ∙ ap (λ ls. words_of (runs_at ls)) (sym e));
    }

-- the number for a height, by those for the two below it
pub least_by : (h i j : ℕ) → 1 ≤ h → i ≡ h - 1 → j ≡ h - 2 → least h ≡ least i + least j + 1
least_by h i j some e f = rw (e, f) (least-halves h some)

-- those of the heights 0 and 1
pub least_low : (h : ℕ) → h ≤ 1 → least h ≡ h
least_low zero l = least-none
least_low (suc zero) l = least-one
least_low (suc (suc h)) l = absurd (omega arith)

-- all are few
pub least_most : (h : ℕ) → h ≤ 22 → least h ≤ 46367
least_most h l = least-most h l

-- after no parting there is one rank
pub middles_one : (d h k : ℕ) → 1 ≤ h → d ≡ 0 → length (middles d h k) ≡ 1
middles_one d h k some e = rw e (ap length (middles-first h k some))

-- ---- the middle ones after d partings of the ranks from k on
module _ {out : List ℕ} {p d h k a b : ℕ} (P : Puttable out p d h k a b) where
  -- of no rank
  pub no_height : h ≡ 0 → Put (middles d h k) p p out out
  no_height e = rw (e, no-middles d k) (put-none p out)

  module _ (some : 1 ≤ h) where
    -- they can be counted
    parts_few : k + a + b + 1 ≤ 46367
    parts_few = omega (arith, least-halves h some, P.lesser, P.greater, P.few)

    -- ---- after no parting there is the middle one
    first-is : d ≡ 0 → middles d h k ≡ (k + a) ∷ []
    first-is e = rw (e, P.lesser) (middles-first h k some)

    -- it is put
    pub first-put : d ≡ 0 → Put (middles d h k) p (p + 2) out (set (set out p (2 * (k + a))) (p + 1) (2 * (k + a)))
    first-put e = rw (first-is e) (put_one (k + a) p out (omega (arith, P.room, ap length (first-is e))))

    -- ---- after others: those of the two parts
    module _ (parted : 1 ≤ d) where
      -- the lesser ones, and the greater ones
      abbrev lesser : List ℕ
      lesser = middles (d - 1) (h - 1) k

      abbrev greater : List ℕ
      greater = middles (d - 1) (h - 2) (k + a + 1)

      -- they are both
      both-are : middles d h k ≡ lesser ++ greater
      both-are = rw P.lesser (middles-next d h k parted)

      many : length (middles d h k) ≡ length lesser + length greater
      many = ap length both-are ∙ length-append lesser greater

      -- both put
      pub both-put : {q r : ℕ} {mid out' : List ℕ} → Put lesser p q out mid → Put greater q r mid out' → Put (middles d h k) p r out out'
      both-put = put_both both-are P.room

      -- the lesser ones alone, where there is no greater one
      pub lesser-put : h ≤ 2 → {q : ℕ} {mid : List ℕ} → Put lesser p q out mid → Put (middles d h k) p q out mid
      lesser-put le {q} {mid} s = let z : h - 2 ≡ 0 = omega arith in both-put s (rw (z, no-middles (d - 1) (k + a + 1)) (put-none q mid))

      -- nothing, where there is no lesser one either
      pub neither-put : h ≡ 1 → Put (middles d h k) p p out out
      neither-put e = let z : h - 1 ≡ 0 = omega arith in lesser-put (omega arith) (rw (z, no-middles (d - 1) k) (put-none p out))

      -- ---- both parts can be put, one after the other
      module _ (high : 2 ≤ h) where
        -- what is left of the lesser part
        lesser-rest : a ≡ b + least (h - 3) + 1
        lesser-rest = omega (arith, P.lesser, P.greater, least_by (h - 1) (h - 2) (h - 3) (omega arith) (omega arith) (omega arith))

        pub lesser-puttable : Puttable out p (d - 1) (h - 1) k b (a - b - 1)
        lesser-puttable =
            let e : h - 1 - 1 ≡ h - 2 = omega arith in
            let f : h - 1 - 2 ≡ h - 3 = omega arith in record {
              low = omega (arith, P.low);
              few = omega (arith, parts_few, P.lesser);
              lesser = rw e P.greater;
              greater = rw f (omega (arith, lesser-rest));
              room = omega (arith, P.room, many);
            }

        module _ (higher : 3 ≤ h) where
          -- and of the greater one
          greater-rest : b ≡ (a - b - 1) + least (h - 4) + 1
          greater-rest = omega (arith, lesser-rest, P.greater, least_by (h - 2) (h - 3) (h - 4) (omega arith) (omega arith) (omega arith))

          pub greater-puttable : {q : ℕ} {mid : List ℕ} → Put lesser p q out mid → Puttable mid q (d - 1) (h - 2) (k + a + 1) (a - b - 1) (b - (a - b - 1) - 1)
          greater-puttable {q} {mid} s =
              let e : h - 2 - 1 ≡ h - 3 = omega arith in
              let f : h - 2 - 2 ≡ h - 4 = omega arith in record {
                low = omega (arith, P.low);
                few = omega (arith, parts_few, P.greater);
                lesser = rw e (omega (arith, lesser-rest));
                greater = rw f (omega (arith, greater-rest));
                room = omega (arith, P.room, many, s.next, put-long lesser p q out mid (omega (arith, P.room, many)) s);
              }

-- ---- all of them, parting by parting
module _ (h : ℕ) (out : List ℕ) where
  -- those of fewer than d partings were put
  abbrev pub Filled : ℕ → ℕ → List ℕ → Type 0
  Filled d q out' = Put (middles_up_to d h) 0 q out out'

  -- none yet
  pub filled_none : Filled 0 0 out
  filled_none = rw (up-to-none h) (put-none 0 out)

  module _ {n : ℕ} (L : Listable out h n) where
    -- there is room for those of at most h partings
    up-to-room : (d : ℕ) → d ≤ h → 0 + 2 * length (middles_up_to d h) ≤ length out
    up-to-room d le = omega (arith, L.room, deepest-words h, up-to-least d h le)

    -- the slice stays as long
    pub filled-long : (d q : ℕ) (mid : List ℕ) → d ≤ h → Filled d q mid → length mid ≡ length out
    filled-long d q mid le s = put-long (middles_up_to d h) 0 q out mid (up-to-room d le) s

    -- one parting more
    module _ (d q : ℕ) (mid : List ℕ) (more : d < h) (s : Filled d q mid) where
      -- all with it
      next-is : middles_up_to (d + 1) h ≡ middles_up_to d h ++ middles d h 0
      next-is = let e : d + 1 ≡ suc d = omega arith in ap (λ j. middles_up_to j h) e ∙ up-to-next d h

      -- there is room
      next-room : q + 2 * length (middles d h 0) ≤ length mid
      next-room =
          omega (
            arith,
            s.next,
            up-to-room (d + 1) (omega arith),
            ap length next-is,
            length-append (middles_up_to d h) (middles d h 0),
            filled-long d q mid (omega arith) s,
          )

      -- they can be put
      pub next-puttable : (a : ℕ) → a ≡ least (h - 1) → Puttable mid q d h 0 a (n - a - 1)
      next-puttable a e = record {
        low = L.low;
        few = omega (arith, least-most h L.low);
        lesser = e;
        greater = omega (arith, least-halves h L.some, L.many, e);
        room = next-room;
      }

      -- and are then
      pub filled_next : (r : ℕ) (out' : List ℕ) → Put (middles d h 0) q r mid out' → Filled (d + 1) r out'
      filled_next r out' t =
          put_both next-is (up-to-room (d + 1) (omega arith)) s t

    -- those of h partings are the list
    pub filled-all : (d q : ℕ) (out' : List ℕ) → d ≡ h → Filled d q out' → out' ≡ into_front (deepest_words h) out
    filled-all d q out' e s =
        s.slice
        ∙ ap (λ j. placed 0 (words_of (runs_at (middles_up_to j h))) out) e
        ∙ ap (λ (ws : List ℕ). placed 0 ws out) (sym (deepest-ranks h))
        ∙ placed-front (deepest_words h) out

    -- the first of two numbers is told by the other
    pub lesser-some : (a : ℕ) → a ≡ least (h - 1) → a + 1 ≤ n
    lesser-some a e = omega (arith, least-halves h L.some, L.many, e)
