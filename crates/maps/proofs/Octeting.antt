-- The bytes of a map as they are written: a cursor that stands at a position stands at the next ones too or can be moved there, the bits of
-- positions in one stretch are all ones or all zeros, those of the positions after it lie above them, and a slice with j bytes of a map in
-- front has j + n after the store of n more. Assumes nothing.
use Rattle.std.proofs.Common.{◌≡◌, ℕ, zero, suc, ◌+◌, ◌-◌, ◌*◌, ◌/◌, ◌%◌, ◌^◌, ◌<◌, ◌≤◌, min, Bool, true, false, if◌then◌else◌, leb, List, length, get_or, set, sym, refl, ap}
use Rattle.std.proofs.Common.{◌∙◌, subst, ap₂, arith, le-leb, leb-true, pow_pos, shl_exact}
use Rattle.std.proofs.lemmas.Bool.{lt-leb}
use native.Mathlib.Nat.{pow-succ', pow-le-pow_right}
use Rattle.model.specs.Numbers.{size}
use Rattle.model.specs.Positions.{Positions, one_if}
use Rattle.model.specs.Bytes.{bits, map_length, map_of, into_front}
use Rattle.model.proofs.Maps.{bits-bound, bits-cong, map_of-length, map_of-at}
use Rattle.codec.proofs.Bits.{bits_above}
use Rattle.std.specs.Prelude.{Option, None, Some}
use Rattle.model.specs.declared.Run.{Run}
use Rattle.streams.specs.declared.source.Reader.{Reader}
use Rattle.streams.specs.declared.sweep.Cursor.{Cursor}
use Rattle.streams.specs.Sweeping.{AtHand, Points, held_at, Within, same_until, CanMove, Moves}
use Rattle.streams.proofs.Sweeps.{Same, held-value, until-same, moves-within, moves-none}
use Rattle.maps.specs.Octets.{Stood, Octets, stores, Due, Done, StoresNext}
use Rattle.maps.proofs.Storing.{stores-cong, stores_one, fronted, fronted-suc, fronted-more, fronted-length, fronted-all}

-- ---- where a cursor stands
-- it can be moved to the next position
near : (o : Option Run) (rest : Option Reader) (x z : ℕ) (Q : Positions) → AtHand o rest x Q → z ≤ suc x → Within 1 o z
near None rest x z Q h l = tt
near (Some r) rest x z Q h l = omega (arith, h.0.ahead)

next-move : (c : Cursor) (x z : ℕ) (Q : Positions) → Points c x Q → x ≤ z → z ≤ suc x → CanMove c z x Q
next-move c x z Q h l m = record { points = h; onward = l; within = near c.run c.rest x z Q h m }

-- a position before one that is not past a run is not past it either
nearer : (o : Option Run) (y z : ℕ) → Within 0 o z → y ≤ z → Within 0 o y
nearer None y z w l = tt
nearer (Some r) y z w l = omega arith

-- what is not past a run, or is the next position after it, is at most one past it
next-to : (o : Option Run) (y z : ℕ) → Within 0 o z → y ≤ suc z → Within 1 o y
next-to None y z w l = tt
next-to (Some r) y z w l = omega arith

-- it stands at the later positions of its run too, and at all later ones if no run is at hand
points-later : (c : Cursor) (x z : ℕ) (Q : Positions) → Points c x Q → x ≤ z → Within 0 c.run z → Points c z Q
points-later c x z Q h l m = go c.run refl m
  where
    can : CanMove c z x Q
    can = record { points = h; onward = l; within = next-to c.run z z m (omega arith) }

    go : (o : Option Run) → c.run ≡ o → Within 0 o z → Points c z Q
    go None e w = moves-none c z e x Q can
    go (Some r) e w = moves-within c z r e (omega arith) x Q can

-- ---- the bits of a byte
-- those of n positions of one value
pub same_bits : (v : Bool) (x n : ℕ) → one_if v * (2 ^ n - 1) ≡ bits (λ _. v) x n
unfolding bits
same_bits false x zero = refl
same_bits false x (suc n) = omega (arith, same_bits false (suc x) n)
same_bits true x zero = refl
same_bits true x (suc n) = rw pow-succ' (omega (arith, same_bits true (suc x) n, pow_pos n))

-- ---- k positions: those of the stretch that the cursor is in, and the others
module _ {c : Cursor} {x k : ℕ} {Q : Positions} (h : Stood c x k Q) where
  -- at most eight bits make a byte
  pub octets-small : {r : ℕ} {c' : Cursor} → Octets c x k r c' → r < 256
  octets-small g =
      let p : 2 ^ k ≤ 2 ^ 8 = pow-le-pow_right (omega arith) h.few in omega (arith, bits-bound Q x k, (g Q h).bits_are)

  -- the value of the first
  value-here : {v : Bool} → v ≡ held_at c.run x → v ≡ Q x
  value-here f = f ∙ held-value c x Q h.points (omega (arith, h.some, h.within))

  module _ {last : ℕ} (m : last ≡ same_until c.run x) where
    stretch : Same c x last Q
    stretch = rw m (until-same c x Q h.points (omega (arith, h.some, h.within)))

    -- how far it knows the value of the first is no smaller than where it stands
    pub stood-same : x ≤ last
    stood-same = stretch.onward

    -- the cursor can go on to the first after the stretch
    pub stood-moves : CanMove c (x + (last - x + 1)) x Q
    stood-moves = record {
      points = h.points;
      onward = omega arith;
      within = next-to c.run (x + (last - x + 1)) last stretch.within (omega (arith, stretch.onward));
    }

    pub stood-next : {t : Cursor} → last - x < k - 1 → Moves c (x + (last - x + 1)) t → Stood t (x + (last - x + 1)) (k - (last - x + 1)) Q
    stood-next l g = record {
      points = g x Q stood-moves;
      some = omega arith;
      few = omega (arith, h.few);
      within = omega (arith, h.within);
    }

module _ (c : Cursor) (x k : ℕ) {v : Bool} {last : ℕ} (f : v ≡ held_at c.run x) (m : last ≡ same_until c.run x) where
  -- n positions of the stretch
  stretch-bits : (Q : Positions) → Stood c x k Q → (n : ℕ) → n ≤ last - x + 1 → one_if v * (2 ^ n - 1) ≡ bits Q x n
  stretch-bits Q h n l =
      same_bits v x n
      ∙ bits-cong (λ _. v) Q x n
      (λ y a d. value-here h f ∙ sym ((stretch h m).alike y a (omega (arith, stood-same h m))))

  -- all are in it
  pub octets-all : {n : ℕ} → k - 1 ≤ last - x → n ≡ one_if v * (2 ^ k - 1) → Octets c x k n c
  octets-all l e Q h = record {
    bits_are = e ∙ stretch-bits Q h k (omega arith);
    points = points-later c x (x + k - 1) Q h.points (omega (arith, h.some))
        (nearer c.run (x + k - 1) last (stretch h m).within (omega (arith, h.some, stood-same h m)));
  }

  -- those in it before others
  pub octets-more : {t c' : Cursor} {r n : ℕ} → last - x < k - 1 → n ≡ one_if v * (2 ^ (last - x + 1) - 1) → Moves c (x + (last - x + 1)) t
      → Octets t (x + (last - x + 1)) (k - (last - x + 1)) r c' → Octets c x k (n + (r * 2 ^ (last - x + 1)) % 2 ^ 64) c'
  octets-more {c' = c'} {r = r} l e a g Q h =
      let i = stood-next h m l a in record {
        bits_are = ap₂ (λ (b d : ℕ). b + d) (e ∙ stretch-bits Q h (last - x + 1) (omega arith))
            (shl_exact 8 (last - x + 1) 64 (octets-small i g) (omega (arith, h.few)) ∙ ap (λ (b : ℕ). b * 2 ^ (last - x + 1)) (g Q i).bits_are)
            ∙ (bits_above Q x (last - x + 1) (k - (last - x + 1)) ∙ ap (bits Q x) (omega arith));
        points = subst (λ (z : ℕ). Points c' z Q) (there x k (last - x + 1) (omega arith)) (g Q i).points;
      }
    where
      there : (x k n : ℕ) → n < k → x + n + (k - n) - 1 ≡ x + k - 1
      there x k n l = omega arith

-- ---- the next bytes of a map, of which more than one is to come
module _ {c : Cursor} {x left j : ℕ} {out : List ℕ} {Q : Positions} (d : Due c x left j out Q) where
  pub due-stood : Stood c x 8 Q
  due-stood = record { points = d.points; some = omega arith; few = omega arith; within = omega (arith, d.more, d.within) }

  -- the bytes in a stretch of one value
  pub due-alike : {v : Bool} {last n b : ℕ} {out' : List ℕ} → v ≡ held_at c.run x → last ≡ same_until c.run x → 7 ≤ last - x
      → n ≡ min (last - x + 1) (left - 1) / 8 → b ≡ one_if v * (2 ^ 8 - 1) → out' ≡ stores (λ _. b) j n out → Done c x left j out out' n c Q
  due-alike {v} {last} {n} {b} f m g e h z =
      let i = stretch due-stood m in record {
        many = rw (← m, le-leb 7 (last - x) g) e;
        points = points-later c x (x + 8 * n - 1) Q d.points (omega (arith, d.more)) (nearer c.run (x + 8 * n - 1) last i.within (omega (arith, d.more)));
        bytes = z ∙ stores-cong (λ _. b) (λ i. bits Q (x + 8 * i) 8) j n out
            (λ k l. h ∙ (same_bits v (x + 8 * k) 8 ∙ bits-cong (λ _. v) Q (x + 8 * k) 8 (λ y a c. value-here due-stood f ∙ sym (i.alike y (omega arith) (omega arith)))));
      }

  -- one byte
  pub due-octet : {last r : ℕ} {c' : Cursor} → last ≡ same_until c.run x → last - x < 7 → Octets c x 8 r c' → Done c x left j out (set out j r) 1 c' Q
  due-octet {last} {r} m l g = record {
    many = rw (← m, lt-leb 7 (last - x) l) refl;
    points = (g Q due-stood).points;
    bytes = stores_one (λ i. bits Q (x + 8 * i) 8) j out ((g Q due-stood).bits_are ∙ ap (λ (y : ℕ). bits Q y 8) (omega arith));
  }

  -- at least one, and not the last one
  pub done-before : {out' : List ℕ} {n : ℕ} {c' : Cursor} → Done c x left j out out' n c' Q → (1 ≤ n) × (8 * n < left)
  done-before {n = n} g = go (leb 7 (same_until c.run x - x)) refl g.many
    where
      go : (b : Bool) → leb 7 (same_until c.run x - x) ≡ b → n ≡ (if b then min (same_until c.run x - x + 1) (left - 1) / 8 else 1)
          → (1 ≤ n) × (8 * n < left)
      go true q e = let l = leb-true 7 (same_until c.run x - x) q in (omega (arith, d.more), omega (arith, d.more))
      go false q e = (omega arith, omega (arith, d.more))

-- ---- the map of a window, byte by byte
-- what holds at each turn: j bytes of the map of Q are in front, but not its last one, and the cursor stands at the first position of the next one
pub record Writing (c : Cursor) (base n j : ℕ) (out₀ out : List ℕ) (Q : Positions) : Type 0 where
  pub within : base + n ≤ size
  pub room : map_length n ≤ length out₀
  pub points : Points c (base + 8 * j) Q
  pub some : 8 * j < n
  pub front : out ≡ fronted (map_of Q base n) out₀ j

module _ {c : Cursor} {base n j : ℕ} {out₀ out : List ℕ} {Q : Positions} (i : Writing c base n j out₀ out Q) where
  -- a byte is still to come
  begun : j < map_length n
  begun = omega (arith, i.some)

  long : length out ≡ length out₀
  long = ap length i.front ∙ fronted-length (map_of Q base n) out₀ j (omega (arith, begun)) (omega (arith, begun, map_of-length Q base n))

  -- and its positions
  pub writing-stood : (k : ℕ) → 1 ≤ k → k ≤ 8 → k ≤ n - 8 * j → Stood c (base + 8 * j) k Q
  writing-stood k a b d = record { points = i.points; some = a; few = b; within = omega (arith, i.within, i.some) }

  -- bytes more than the last one
  pub writing-due : 8 < n - 8 * j → Due c (base + 8 * j) (n - 8 * j) j out Q
  writing-due m = record {
    points = i.points;
    more = m;
    within = omega (arith, i.within);
    room = omega (arith, i.room, long);
  }

  module _ {out' : List ℕ} {m : ℕ} {c' : Cursor} (l : 8 < n - 8 * j) (g : StoresNext c (base + 8 * j) (n - 8 * j) j out out' m c') where
    pub writing-done : Done c (base + 8 * j) (n - 8 * j) j out out' m c' Q
    writing-done = g Q (writing-due l)

    pub writing-before : (1 ≤ m) × (8 * m < n - 8 * j)
    writing-before = done-before (writing-due l) writing-done

    pub writing-moves : CanMove c' (base + 8 * (j + m)) (base + 8 * j + 8 * m - 1) Q
    writing-moves = next-move c' (base + 8 * j + 8 * m - 1) (base + 8 * (j + m)) Q writing-done.points (omega arith) (omega arith)

    pub writing_more : {t : Cursor} → Moves c' (base + 8 * (j + m)) t → Writing t base n (j + m) out₀ out' Q
    writing_more a = record {
      within = i.within;
      room = i.room;
      points = a (base + 8 * j + 8 * m - 1) Q writing-moves;
      some = omega (arith, writing-before.1);
      front = writing-done.bytes
          ∙ (ap (stores (λ i. bits Q (base + 8 * j + 8 * i) 8) j m) i.front
          ∙ fronted-more (map_of Q base n) out₀ (λ i. bits Q (base + 8 * j + 8 * i) 8) j m (omega (arith, i.room, writing-before.1)) (omega (arith, writing-before.1, map_of-length Q base n)) alike);
    }
      where
        alike : (k : ℕ) → k < m → bits Q (base + 8 * j + 8 * k) 8 ≡ get_or (map_of Q base n) (j + k) 0
        alike k h =
            ap₂ (bits Q) (omega arith) (omega (arith, writing-before.1))
            ∙ sym (map_of-at Q base n (j + k) (omega (arith, writing-before.1)))

  -- the last byte
  pub writing-all : {r : ℕ} {c' : Cursor} → n - 8 * j ≤ 8 → Octets c (base + 8 * j) (n - 8 * j) r c' → set out j r ≡ into_front (map_of Q base n) out₀
  writing-all m g =
      ap₂ (λ (l : List ℕ) (b : ℕ). set l j b) i.front
      ((g Q (writing-stood (n - 8 * j) (omega (arith, i.some)) m (omega arith))).bits_are
      ∙ (ap (bits Q (base + 8 * j)) (omega (arith, i.some)) ∙ sym (map_of-at Q base n j begun)))
      ∙ (fronted-suc (map_of Q base n) out₀ j (omega (arith, begun)) (omega (arith, begun, map_of-length Q base n))
      ∙ fronted-all (map_of Q base n) out₀ (suc j) (omega (arith, i.some, map_of-length Q base n)))
