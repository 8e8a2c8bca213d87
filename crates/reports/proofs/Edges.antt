-- The next and the previous position of a value, from the runs next to a position: it is the position itself, or it lies at an end
-- of the run found, in or beside it, or there is none. A run of a canonical list is held, and what is next to it is not.
-- Assumes nothing.
use Rattle.std.specs.Prelude.{Option, None, Some, SomeIff}
use Rattle.std.proofs.Common.{◌≡◌, ℕ, ◌+◌, ◌-◌, ◌<◌, ◌≤◌, Bool, true, false, List, sym, ap, ◌∙◌, subst, ◌⊎◌, inl, inr, arith}
use Rattle.model.specs.declared.Run.{Run}
use Rattle.model.specs.Numbers.{size}
use Rattle.model.specs.Positions.{Positions, mem}
use Rattle.model.specs.RunList.{Canon, last_up_to, first_from}
use Rattle.pool.proofs.Nearby.{Before, Earlier, earlier, Later, later}
use Rattle.reports.specs.Reports.{Next, Previous, start_of}

-- a position of the value is the next one from itself on
pub next_here : (P : Positions) (v : Bool) (x : ℕ) → x < size → P x ≡ v → Next P v x (Some x)
next_here P v x h e = (omega arith, h, e, λ z l u. absurd (omega arith))

-- and the previous one
pub previous-here : (P : Positions) (v : Bool) (x : ℕ) → P x ≡ v → Previous P v x (Some x)
previous-here P v x e = (omega arith, e, λ z l u. absurd (omega arith))

module _ (rs : List Run) (c : Canon size 0 rs) (x : ℕ) where
  -- what the last run that starts at or before x tells
  before : (r : Run) → Some r ≡ last_up_to x rs → Before rs size x r
  before r e = subst (Earlier rs size x) (sym e) (earlier size 0 rs x c)

  -- x is in that run
  pub in-run : (r : Run) → Some r ≡ last_up_to x rs → x ≤ r.«end» → mem rs x ≡ true
  in-run r e h = (before r e).member.held x (before r e).starts h

  -- x is past it
  pub past-run : (r : Run) → Some r ≡ last_up_to x rs → r.«end» < x → mem rs x ≡ false
  past-run r e h = (before r e).free x h (omega arith)

  -- there is no such run
  pub no_run : None ≡ last_up_to x rs → (z : ℕ) → z ≤ x → mem rs z ≡ false
  no_run e = subst (Earlier rs size x) (sym e) (earlier size 0 rs x c)

  -- either way x is not held
  pub not-held : {o : Option Run} → o ≡ last_up_to x rs → ((r : Run) × (o ≡ Some r) × (r.«end» < x)) ⊎ (o ≡ None) → mem rs x ≡ false
  not-held e (inl (r, f, h)) = past-run r (sym f ∙ e) h
  not-held e (inr f) = no_run (sym f ∙ e) x (omega arith)

  -- ---- upwards
  -- from a free position: the next run's start
  pub next-held : {v : Bool} → v ≡ true → mem rs x ≡ false → Next (mem rs) v x (start_of (first_from x rs))
  next-held f h = subst (λ b. Next (mem rs) b x (start_of (first_from x rs))) (sym f) (go (first_from x rs) (later size 0 rs x c (inl h)))
    where
      go : (o : Option Run) → Later rs size x o → Next (mem rs) true x (start_of o)
      go None l = λ z h u. l z h
      go (Some r) a =
          (a.starts, omega (arith, a.member.ordered, a.member.bounded), a.member.held r.start (omega arith) a.member.ordered, λ z h u. a.free z h u)

  -- from a held position: what follows its run, unless that goes up to the last position
  pub next-free : {v : Bool} (r : Run) → v ≡ false → Some r ≡ last_up_to x rs → x ≤ r.«end»
      → (o : Option ℕ) → SomeIff o (r.«end» + 1 < size) (r.«end» + 1) → Next (mem rs) v x o
  next-free r f e h o s = subst (λ a. Next (mem rs) a x o) (sym f) (go o s)
    where
      b : Before rs size x r
      b = before r e

      go : (o : Option ℕ) → SomeIff o (r.«end» + 1 < size) (r.«end» + 1) → Next (mem rs) false x o
      go None q = λ z p u. b.member.held z (omega (arith, b.starts)) (omega (arith, q))
      go (Some y) q = (
        omega (arith, q.1),
        omega (arith, q.0, q.1),
        ap (mem rs) q.1 ∙ b.member.over,
        λ z p u. b.member.held z (omega (arith, b.starts)) (omega (arith, q.1)),
      )

  -- ---- downwards
  -- from a free position: the end of the run before it
  pub previous-held : {v : Bool} (r : Run) → v ≡ true → Some r ≡ last_up_to x rs → r.«end» < x → Previous (mem rs) v x (Some r.«end»)
  previous-held r f e h =
      let b : Before rs size x r = before r e in
      subst (λ a. Previous (mem rs) a x (Some r.«end»)) (sym f)
      (omega arith, b.member.held r.«end» b.member.ordered (omega arith), λ z l u. b.free z l u)

  -- there is no run before it
  pub previous-unheld : {v : Bool} → v ≡ true → None ≡ last_up_to x rs → Previous (mem rs) v x None
  previous-unheld f e = subst (λ b. Previous (mem rs) b x None) (sym f) (no_run e)

  -- from a held position: what precedes its run, unless that starts at 0
  pub previous-free : {v : Bool} (r : Run) → v ≡ false → Some r ≡ last_up_to x rs → x ≤ r.«end»
      → (o : Option ℕ) → SomeIff o (1 ≤ r.start) (r.start - 1) → Previous (mem rs) v x o
  previous-free r f e h o s = subst (λ a. Previous (mem rs) a x o) (sym f) (go o s)
    where
      b : Before rs size x r
      b = before r e

      go : (o : Option ℕ) → SomeIff o (1 ≤ r.start) (r.start - 1) → Previous (mem rs) false x o
      go None q = λ z u. b.member.held z (omega (arith, q)) (omega arith)
      go (Some y) q = (
        omega (arith, q.1, b.starts),
        ap (mem rs) q.1 ∙ b.member.under (r.start - 1) (omega (arith, q.0)),
        λ z l u. b.member.held z (omega (arith, q.1)) (omega arith),
      )
