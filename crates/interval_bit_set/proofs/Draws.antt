-- What a draw from either end of a listing answers, by what the listing still has. A listing whose first position is past its last
-- has nothing left. Assumes nothing.
use Rattle.std.specs.Prelude.{Option, None, Some}
use Rattle.std.specs.Prelude.{◌≡◌, suc, ◌+◌, ◌-◌, ◌<◌, ◌≤◌, []}
use mathlib.Core.Path.{sym, ◌∙◌}
use native.Mathlib.Omega.{arith}
use native.Mathlib.Numerals.{add-one}
use borrow.Author.Tests.{lt-ltb, le-ltb}
use Rattle.model.specs.declared.Listing.{Listing}
use Rattle.model.specs.declared.Run.{Run}
use Rattle.model.specs.Positions.{Positions, first_run, last_run, remaining, runs_in, ended, past_first, past_last}
use Rattle.model.proofs.Runs.{runs_in-none}
use Rattle.model.specs.Call.{drawn}

module _ (P : Positions) (l : Listing) where
  -- past its last position a listing has nothing left
  pub none_left : l.last < l.first → remaining P l ≡ []
  unfolding remaining
  none_left h = runs_in-none P l.value l.first (suc l.last - l.first) (λ y m k. absurd (omega arith))

  module _ {n m : Option Run} (k : n ≡ m) where
    -- else its first run is that from its first to its last position
    pub first-left : n ≡ first_run (runs_in P l.value l.first (suc l.last - l.first)) → first_run (remaining P l) ≡ m
    unfolding remaining
    first-left e = sym e ∙ k

    -- and so its last run
    pub last-left : n ≡ last_run (runs_in P l.value l.first (suc l.last - l.first)) → last_run (remaining P l) ≡ m
    unfolding remaining
    last-left e = sym e ∙ k

module _ (l : Listing) {o : Option Run} where
  -- with nothing left the listing ends, at the front
  pub front-none : {f : Listing} → o ≡ None → f ≡ ended l.value → drawn None f ≡ drawn o (past_first l o)
  unfolding past_first
  front-none e k = rw (e, k)

  -- and at the back
  pub back_none : {f : Listing} → o ≡ None → f ≡ ended l.value → drawn None f ≡ drawn o (past_last l o)
  unfolding past_last
  back_none e k = rw (e, k)

  module _ {r : Run} (e : o ≡ Some r) where
    -- else it moves past the run that it gives, at the front
    pub front-more : r.«end» < l.last → drawn (Some r) (record { first = r.«end» + 1; last = l.last; value = l.value }) ≡ drawn o (past_first l o)
    unfolding past_first
    front-more h = rw (e, lt-ltb r.«end» l.last h, add-one)

    -- and at the back
    pub back_more : l.first < r.start → drawn (Some r) (record { first = l.first; last = r.start - 1; value = l.value }) ≡ drawn o (past_last l o)
    unfolding past_last
    back_more h = rw (e, lt-ltb l.first r.start h)

    -- or ends, if that run reaches its last position
    pub front-end : {f : Listing} → l.last ≤ r.«end» → f ≡ ended l.value → drawn (Some r) f ≡ drawn o (past_first l o)
    unfolding past_first
    front-end h k = rw (e, le-ltb r.«end» l.last h, k)

    -- or its first
    pub back_end : {f : Listing} → r.start ≤ l.first → f ≡ ended l.value → drawn (Some r) f ≡ drawn o (past_last l o)
    unfolding past_last
    back_end h k = rw (e, le-ltb l.first r.start h, k)
