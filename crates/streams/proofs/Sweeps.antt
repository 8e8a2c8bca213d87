-- Two readings swept together, in pure form: what a cursor that stands at a position says of it and of those after it, what moving it on
-- keeps, and what holds at each turn of a search for a value of the join. A cursor is taken by the cases of whether a run is at hand.
-- Assumes nothing.
use Rattle.std.specs.Prelude.{Option, None, Some, if◌then◌else◌}
use Prim.Native.Nat.{ℕ, suc, ◌+◌, ◌-◌, ◌≤◌, ◌<◌, min}
use mathlib.Core.Path.{◌≡◌, sym, refl, ap, ◌∙◌, subst}
use mathlib.Core.Logic.{◌⊎◌, inl, inr}
use mathlib.Core.Bool.{Bool, true, false, not, true≢false}
use mathlib.Core.List.{[]}
use native.Mathlib.Omega.{arith}
use lib.Dec.{leb, ltb}
use borrow.Author.Tests.{le-leb, lt-leb, ltb-true, ltb-false}
use Rattle.std.specs.Iterator.{at_most, MakesProgress}
use Rattle.model.specs.declared.Run.{Run}
use Rattle.model.specs.declared.Logical.{Logical}
use Rattle.model.specs.Numbers.{size}
use Rattle.model.proofs.Numbers.{split}
use Rattle.model.specs.Positions.{Positions, run, apply, combined}
use Rattle.model.proofs.RunList.{mem-in, mem-under, mem-above}
use Rattle.pool.proofs.Ends.{empty-mem}
use Rattle.streams.specs.declared.source.Reader.{Reader}
use Rattle.streams.specs.declared.sweep.Cursor.{Cursor}
use Rattle.streams.specs.declared.sweep.Joint.{Joint}
use Rattle.streams.specs.Reading.{Clear, RunFrom, Reads, Draws, positions_from}
use Rattle.streams.specs.Sweeping.{Current, Beyond, AtHand, Points, Covers, held_at, Within, same_until, CanMove, Movable, Moves}
use Rattle.streams.specs.Sweeping.{Both, ReachedAt, Reaches, JoinsFrom, Joins}
use Rattle.streams.proofs.Iterated.{StandsAt, draw-goes}

-- ---- one cursor: a run is at hand, or the set is over
module _ (c : Cursor) (x : ℕ) (Q : Positions) where
  points-some : {r : Run} → c.run ≡ Some r → Points c x Q → Current r.start r.«end» x Q × Beyond c.rest (suc r.«end») Q
  points-some e h = subst (λ o. AtHand o c.rest x Q) e h

  some-points : {r : Run} → c.run ≡ Some r → Current r.start r.«end» x Q × Beyond c.rest (suc r.«end») Q → Points c x Q
  some-points e h = subst (λ o. AtHand o c.rest x Q) (sym e) h

  points-none : c.run ≡ None → Points c x Q → Clear x Q
  points-none e h = subst (λ o. AtHand o c.rest x Q) e h

  none-points : c.run ≡ None → Clear x Q → Points c x Q
  none-points e h = subst (λ o. AtHand o c.rest x Q) (sym e) h

-- the next run of a reader is one at hand
from-current : {x a b : ℕ} {Q : Positions} → RunFrom x a b Q → Current a b x Q
from-current r = record {
  ordered = r.ordered;
  ahead = omega (arith, r.onward, r.ordered);
  small = r.small;
  clear = r.clear;
  held = λ z m n k. r.held z n k;
  stops = r.stops;
}

pub drawn : (s s' : Reader) (o : Option Run) (x : ℕ) (Q : Positions) → Draws Reads s o s' → Reads s x Q → AtHand o (Some s') x Q
drawn s s' None x Q d h = (d x Q h).0
drawn s s' (Some r) x Q d h = (from-current (d x Q h).0, (d x Q h).1)

-- one run alone
pub one-run : (a b : ℕ) → a ≤ b → b < size → Covers (record { run = Some (run a b); rest = None }) a b
one-run a b h k = (
  record {
    ordered = h;
    ahead = omega arith;
    small = k;
    clear = λ z g l. mem-under (run a b) [] z l ∙ empty-mem z;
    held = λ z g l m. mem-in (run a b) [] z l m;
    stops = λ l. mem-above (run a b) [] (suc b) (omega arith) ∙ empty-mem (suc b);
  },
  λ z g l. mem-above (run a b) [] z (omega arith) ∙ empty-mem z,
)

-- the value where it stands
current-value : {a b x : ℕ} {Q : Positions} → Current a b x Q → leb a x ≡ Q x
current-value {a} {b} {x} {Q} k = go (split x a)
  where
    go : (x < a) ⊎ (a ≤ x) → leb a x ≡ Q x
    go (inl h) = lt-leb a x h ∙ sym (k.clear x (omega arith) h)
    go (inr h) = le-leb a x h ∙ sym (k.held x (omega arith) h k.ahead)

pub held-value : (c : Cursor) (x : ℕ) (Q : Positions) → Points c x Q → x < size → held_at c.run x ≡ Q x
held-value c x Q h l = go c.run h
  where
    go : (o : Option Run) → AtHand o c.rest x Q → held_at o x ≡ Q x
    go None k = sym (k x (omega arith) l)
    go (Some r) k = current-value k.0

-- the value of x is that of all positions up to r, which is not past the run at hand
pub record Same (c : Cursor) (x r : ℕ) (Q : Positions) : Type 0 where
  pub onward : x ≤ r
  pub small : r < size
  pub alike : (z : ℕ) → x ≤ z → z ≤ r → Q z ≡ Q x
  pub within : Within 0 c.run r

-- how far it has that value
current-before : {a b x : ℕ} {Q : Positions} → Current a b x Q → x < a → (z : ℕ) → x ≤ z → z ≤ a - 1 → Q z ≡ Q x
current-before {a} {b} {x} k h z l u = k.clear z l (omega arith) ∙ sym (k.clear x (omega arith) h)

current-within : {a b x : ℕ} {Q : Positions} → Current a b x Q → a ≤ x → (z : ℕ) → x ≤ z → z ≤ b → Q z ≡ Q x
current-within {a} {b} {x} k h z l u = k.held z l (omega arith) u ∙ sym (k.held x (omega arith) h k.ahead)

run-same : (r : Run) (rest : Option Reader) (x : ℕ) (Q : Positions) → Current r.start r.«end» x Q
    → Same (record { run = Some r; rest = rest }) x (same_until (Some r) x) Q
run-same r rest x Q k = go (ltb x r.start) refl
  where
    go : (b : Bool) → ltb x r.start ≡ b → Same (record { run = Some r; rest = rest }) x (if b then r.start - 1 else r.«end») Q
    go true e =
        let l = ltb-true x r.start e in record {
          onward = omega arith;
          small = omega (arith, k.ordered, k.small);
          alike = current-before k l;
          within = omega (arith, k.ordered);
        }
    go false e = record {
      onward = k.ahead;
      small = k.small;
      alike = current-within k (ltb-false x r.start e);
      within = omega arith;
    }

pub until-same : (c : Cursor) (x : ℕ) (Q : Positions) → Points c x Q → x < size → Same c x (same_until c.run x) Q
until-same c x Q h g = go c.run h
  where
    go : (o : Option Run) → AtHand o c.rest x Q → Same (record { run = o; rest = c.rest }) x (same_until o x) Q
    go None k = record {
      onward = omega arith;
      small = omega arith;
      alike = λ z l q. k z l (omega arith) ∙ sym (k x (omega arith) g);
      within = tt;
    }
    go (Some r) k = run-same r c.rest x Q k.0

-- ---- moving on
current-later : {a b x y : ℕ} {Q : Positions} → Current a b y Q → y ≤ x → x ≤ b → Current a b x Q
current-later k l u = record {
  ordered = k.ordered;
  ahead = u;
  small = k.small;
  clear = λ z m n. k.clear z (omega arith) n;
  held = λ z m n i. k.held z (omega arith) n i;
  stops = k.stops;
}

pub moves-none : (c : Cursor) (x : ℕ) → c.run ≡ None → Moves c x c
moves-none c x e y Q m = none-points c x Q e (λ z l q. points-none c y Q e m.points z (omega (arith, m.onward)) q)

pub moves-within : (c : Cursor) (x : ℕ) (r : Run) → c.run ≡ Some r → x ≤ r.«end» → Moves c x c
moves-within c x r e l y Q m = let k = points-some c y Q e m.points in some-points c x Q e (current-later k.0 m.onward l, k.1)

-- past the run at hand
module _ (c : Cursor) (x : ℕ) (r : Run) (e : c.run ≡ Some r) (l : r.«end» < x) where
  onto : (y : ℕ) (Q : Positions) → CanMove c x y Q → suc r.«end» ≡ x
  onto y Q m = let w : x ≤ 1 + r.«end» = subst (λ o. Within 1 o x) e m.within in omega arith

  beyond : (o : Option Reader) → c.rest ≡ o → (y : ℕ) (Q : Positions) → CanMove c x y Q → Beyond o (suc r.«end») Q
  beyond o q y Q m = subst (λ s. Beyond s (suc r.«end») Q) q (points-some c y Q e m.points).1

  -- nothing follows
  pub moves-over : c.rest ≡ None → Moves c x (record { run = None; rest = c.rest })
  moves-over q y Q m = subst (λ z. Clear z Q) (onto y Q m) (beyond None q y Q m)

  -- a reader has what follows
  pub can-draw : (s : Reader) → c.rest ≡ Some s → Movable c x → (y : ℕ) × (Q : Positions) × Reads s y Q
  can-draw s q (y, Q, m) = (_, Q, beyond (Some s) q y Q m)

  pub moves-past : (s s' : Reader) (o : Option Run) → c.rest ≡ Some s → Draws Reads s o s' → Moves c x (record { run = o; rest = Some s' })
  moves-past s s' o q d y Q m = drawn s s' o x Q d (subst (λ z. Reads s z Q) (onto y Q m) (beyond (Some s) q y Q m))

-- ---- a search for a value of the join: what holds at each turn
pub record Swept (j : Joint) (x at : ℕ) (value : Bool) (J : Positions) : Type 0 where
  pub both : Both j at J
  pub onward : x ≤ at
  pub small : at < size
  pub before : (z : ℕ) → x ≤ z → z < at → J z ≡ not value

pub swept-start : {j : Joint} {x : ℕ} {value : Bool} {J : Positions} → x < size → Both j x J → Swept j x x value J
swept-start {x = x} h b = record { both = b; onward = omega arith; small = h; before = λ z k l. absurd (omega arith) }

within-next : (o : Option Run) (m n : ℕ) → Within 0 o m → n ≤ suc m → Within 1 o n
within-next None m n w l = tt
within-next (Some r) m n w l = omega arith

module _ {j : Joint} {x at : ℕ} {value : Bool} {J : Positions} (s : Swept j x at value J) where
  -- the value of the join where both stand
  pub value-here : {a b v : Bool} → a ≡ held_at j.left.run at → b ≡ held_at j.right.run at → v ≡ apply j.op a b → v ≡ J at
  unfolding combined
  value-here f g e = let b = s.both in e ∙ rw (f, g, held-value _ at b.first b.left s.small, held-value _ at b.second b.right s.small) (ap (λ K. K at) b.is)

  -- the search is over where the join has the value
  pub swept-found : {v : Bool} → v ≡ J at → v ≡ value → ReachedAt x at value J
  swept-found h e = record { onward = s.onward; small = s.small; before = s.before; here = sym h ∙ e }

  module _ {m n last : ℕ} (f : m ≡ same_until j.left.run at) (g : n ≡ same_until j.right.run at) (e : last ≡ min m n) where
    left-same : Same j.left at m s.both.first
    left-same = rw f (until-same j.left at s.both.first s.both.left s.small)

    right-same : Same j.right at n s.both.second
    right-same = rw g (until-same j.right at s.both.second s.both.right s.small)

    -- how far the cursors know their values is no smaller than where they stand
    pub swept-onward : at ≤ last
    swept-onward = omega (arith, left-same.onward, right-same.onward)

    pub swept-small : last < size
    swept-small = omega (arith, left-same.small, right-same.small)

    -- up to there the join has the value that it has here
    alike : (z : ℕ) → at ≤ z → z ≤ last → J z ≡ J at
    unfolding combined
    alike z h k =
        let b = s.both in
        sym (ap (λ K. K z) b.is) ∙ rw (left-same.alike z h (omega arith), right-same.alike z h (omega arith)) (ap (λ K. K at) b.is)

    -- the other value, if it has that here
    so_far : J at ≡ not value → (z : ℕ) → x ≤ z → z ≤ last → J z ≡ not value
    so_far v z a b = go (split z at)
      where
        go : (z < at) ⊎ (at ≤ z) → J z ≡ not value
        go (inl h) = s.before z a h
        go (inr h) = alike z h b ∙ v

    -- no position is left
    pub swept_none : J at ≡ not value → size ≤ suc last → (z : ℕ) → x ≤ z → z < size → J z ≡ not value
    swept_none v h z a b = so_far v z a (omega arith)

    module _ {next : ℕ} (q : next ≡ suc last) where
      pub left-moves : CanMove j.left next at s.both.first
      left-moves = record {
        points = s.both.left;
        onward = omega (arith, swept-onward);
        within = within-next j.left.run m next left-same.within (omega arith);
      }

      pub right-moves : CanMove j.right next at s.both.second
      right-moves = record {
        points = s.both.right;
        onward = omega (arith, swept-onward);
        within = within-next j.right.run n next right-same.within (omega arith);
      }

      -- the cursors move on
      pub swept-on : {l r : Cursor} {t : Option Logical} → J at ≡ not value → next < size → Moves j.left next l → Moves j.right next r
          → Swept (record { op = j.op; left = l; right = r; from = t }) x next value J
      swept-on v h a b = record {
        both = record {
          first = s.both.first;
          second = s.both.second;
          left = a at s.both.first left-moves;
          right = b at s.both.second right-moves;
          is = s.both.is;
        };
        onward = omega (arith, s.onward, swept-onward);
        small = h;
        before = λ z k l. so_far v z k (omega arith);
      }

-- ---- the next run of the join: it begins where the join is first held, and ends before it is first not held after that
-- whatever position the joint has at hand
abbrev pub holding : Joint → Option Logical → Joint
holding j t = record { op = j.op; left = j.left; right = j.right; from = t }

-- nothing was left before
pub joint-over : (j : Joint) → j.from ≡ None → Draws Joins j None j
joint-over j e = λ x J h. (subst (λ o. JoinsFrom o j x J) e h.rest, h)

module _ (j : Joint) (a : Logical) (e : Some a ≡ j.from) (x : ℕ) (J : Positions) (h : Joins j x J) where
  left : (a.0 ≡ x) × Both j x J
  left = subst (λ o. JoinsFrom o j x J) (sym e) h.rest

  standing : (t : Option Logical) → Both (holding j t) a.0 J
  standing t =
      let b = subst (λ z. Both j z J) (sym left.0) left.1 in
      record { first = b.first; second = b.second; left = b.left; right = b.right; is = b.is }

pub joint-none : (j j' : Joint) (t : Option Logical) (a : Logical) → Some a ≡ j.from → t ≡ None → j'.from ≡ t → Reaches (holding j t) a.0 true None j'
    → Draws Joins j None j'
joint-none j j' t a e n f g = λ x J h.
    let c = subst (λ z. Clear z J) (left j a e x J h).0 (g J (standing j a e x J h t)) in (c, record { rest = subst (λ o. JoinsFrom o j' x J) (sym (f ∙ n)) c })

module _ (j j₁ j₂ : Joint) (t : Option Logical) (a b : Logical) (e : Some a ≡ j.from) (g : Reaches (holding j t) a.0 true (Some b) j₁) where
  -- where it begins
  begins : (x : ℕ) (J : Positions) → Joins j x J → ReachedAt x b.0 true J × Both j₁ b.0 J
  begins x J h = subst (λ z. ReachedAt z b.0 true J × Both j₁ b.0 J) (left j a e x J h).0 (g J (standing j a e x J h t))

  -- it reaches the last position
  pub joint-last : t ≡ None → j₁.from ≡ t → j₂.from ≡ j₁.from → Reaches j₁ b.0 false None j₂ → Draws Joins j (Some (run b.0 (size - 1))) j₂
  joint-last n f₁ f₂ k = λ x J h.
      let i = begins x J h in (
        record {
          onward = i.0.onward;
          ordered = omega (arith, i.0.small);
          small = omega arith;
          clear = i.0.before;
          held = λ z l u. k J i.1 z l (omega arith);
          stops = λ l. absurd (omega arith);
        },
        record { rest = subst (λ o. JoinsFrom o j₂ (suc (size - 1)) J) (sym (f₂ ∙ f₁ ∙ n)) (λ z l u. absurd (omega arith)) },
      )

  -- or ends before it
  module _ {s : Logical} (k : Reaches j₁ b.0 false (Some s) j₂) where
    -- the run has a position, so its end is one before the first that is not held
    apart : (x : ℕ) (J : Positions) → Joins j x J → b.0 < s.0
    apart x J h = go (split b.0 s.0)
      where
        i : ReachedAt x b.0 true J × Both j₁ b.0 J
        i = begins x J h

        o : ReachedAt b.0 s.0 false J
        o = (k J i.1).0

        go : (b.0 < s.0) ⊎ (s.0 ≤ b.0) → b.0 < s.0
        go (inl l) = l
        go (inr l) = let q : b.0 ≡ s.0 = omega (arith, o.onward) in absurd (true≢false (sym i.0.here ∙ (ap J q ∙ o.here)))

    pub joint-past : (x : ℕ) × (J : Positions) × Joins j x J → b.0 < s.0
    joint-past (x, J, h) = apart x J h

    pub joint-ends : Draws Joins j (Some (run b.0 (s.0 - 1))) (holding j₂ (Some s))
    joint-ends = λ x J h.
        let i = begins x J h in
        let o = k J i.1 in
        let l = apart x J h in
        let q : suc (s.0 - 1) ≡ s.0 = omega arith in (
          record {
            onward = i.0.onward;
            ordered = omega arith;
            small = omega (arith, o.0.small);
            clear = i.0.before;
            held = λ z m n. o.0.before z m (omega arith);
            stops = λ _. ap J q ∙ o.0.here;
          },
          record {
            rest = (
              sym q,
              subst (λ z. Both (holding j₂ (Some s)) z J) (sym q)
                  (record { first = o.1.first; second = o.1.second; left = o.1.left; right = o.1.right; is = o.1.is }),
            );
          },
        )

-- what it hands out leaves fewer positions
joins-stand : (j : Joint) (x : ℕ) (J : Positions) → Joins j x J → StandsAt j.from x J
joins-stand j x J h = go j.from h.rest
  where
    go : (o : Option Logical) → JoinsFrom o j x J → StandsAt o x J
    go None l = l
    go (Some a) l = l.0

pub joins-goes : (j j' : Joint) (o : Option Run) → (x : ℕ) × (J : Positions) × Joins j x J → Draws Joins j o j'
    → MakesProgress (λ i. (x : ℕ) × (J : Positions) × Joins i x J) (λ i. at_most (positions_from i.from)) j o j'
joins-goes = draw-goes (λ i. i.from) joins-stand
