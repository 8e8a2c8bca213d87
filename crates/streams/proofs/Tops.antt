-- The nearest node on the path: its cell tells the first run to come, and its right side is put on the path in its place. Assumes nothing.
use Prim.Native.Nat.{ℕ, ◌+◌, ◌-◌, ◌≤◌}
use mathlib.Core.Path.{◌≡◌, refl, sym, ap, ap₂, ◌∙◌, subst}
use mathlib.Core.List.{List, [], ◌∷◌, ◌++◌}
use native.Mathlib.Omega.{arith}
use lib.Dec.{eqb}
use lib.ListN.{get_or, length, take}
use lib.Seq.{get_or-append_seam, take-append_seam, take-length}
use Rattle.std.specs.Prelude.{slice_get, Some}
use Rattle.std.proofs.lemmas.List.{length-append, take_more}
use Rattle.std.proofs.lemmas.Option.{slice_get_within, get_or_from_slice_get}
use Rattle.model.specs.declared.Run.{Run}
use Rattle.model.specs.Numbers.{size}
use Rattle.model.specs.RunList.{Canon}
use Rattle.model.proofs.RunList.{canon-weaken}
use Rattle.run_index.specs.declared.Node.{Node}
use Rattle.run_index.specs.Cells.{cell_at, Room}
use Rattle.run_index.specs.Tree.{Tree, height, inorder, cell, Rep}
use Rattle.run_index.proofs.Trees.{rep-room, rep-cell, rep-right}
use Rattle.model.specs.Positions.{run}
use Rattle.streams.specs.declared.source.Path.{Path}
use Rattle.streams.specs.Reading.{Rest, none, more, OnPath, Below, Descends, Taken, starts_at_zero}
use Rattle.streams.proofs.Dropping.{from_zero, canon-front}

-- the last of a list and those before it are told by the list
pub snoc-parts : (ks js : List ℕ) (n m : ℕ) → ks ++ n ∷ [] ≡ js ++ m ∷ [] → (ks ≡ js) × (n ≡ m)
snoc-parts ks js n m e =
    let l : length ks ≡ length js = omega (arith, length-append ks (n ∷ []), length-append js (m ∷ []), ap length e) in (
      sym (take-append_seam ks (n ∷ [])) ∙ ap₂ take l e ∙ take-append_seam js (m ∷ []),
      sym (get_or-append_seam ks n [] 0) ∙ ap₂ (λ us k. get_or us k 0) e l ∙ get_or-append_seam js m [] 0,
    )

-- the nearest node n, before which stand the nodes ks, with the first run r and its right side
pub record Top (w ks : List ℕ) (n : ℕ) (r : Run) (rs : List Run) : Type 0 where
  pub tag : ℕ
  pub left : Tree
  pub right : Tree
  pub later : List Run
  pub low : height right + length ks ≤ 22
  pub room : Room w n
  pub cell-is : cell_at w n ≡ cell r.start r.«end» left right tag
  pub rep : Rep w tag right
  pub rest : Rest w ks later
  pub is : rs ≡ inorder right ++ later

-- a path that has a nearest node has a first run
pub record Nearest (w ks : List ℕ) (n : ℕ) (rs : List Run) : Type 0 where
  pub first : Run
  pub others : List Run
  pub is : rs ≡ first ∷ others
  pub top : Top w ks n first others

pub rest-nearest : {w path ks : List ℕ} {n : ℕ} {rs : List Run} → path ≡ ks ++ n ∷ [] → Rest w path rs → Nearest w ks n rs
rest-nearest {ks = ks} {n = n} e none = absurd (omega (arith, length-append ks (n ∷ []), ap length e))
rest-nearest {w} {ks = ks} {n = n} e (more {ks = js} {n = m} {g = g} {l = l} {r = s} {rs = qs} p rep low rest) =
    let parts = snoc-parts js ks m n (sym p ∙ e) in
    record {
      first = _;
      others = _;
      is = refl;
      top = record {
        tag = g;
        left = l;
        right = s;
        later = qs;
        low = omega (arith, low, ap length parts.0);
        room = subst (Room w) parts.1 (rep-room rep);
        cell-is = sym (ap (cell_at w) parts.1) ∙ rep-cell rep;
        rep = rep-right rep;
        rest = subst (λ us. Rest w us qs) parts.0 rest;
        is = refl;
      };
    }

-- a path whose nearest node is n
module _ {w : List ℕ} (ks : List ℕ) (n : ℕ) {p : Path} (many : p.nodes.items ≡ ks ++ n ∷ []) {rs : List Run} (h : OnPath w p rs) where
  pub near : Nearest w ks n rs
  near = rest-nearest many h.rest

  -- it lies within the words
  pub top-room : Room w n
  top-room = near.top.room

  -- it was read as v
  module _ {v : Node} (e : v ≡ cell_at w n) where
    -- it has the first run
    same : run v.start v.«end» ≡ near.first
    same = ap (λ (u : Node). run u.start u.«end») (e ∙ near.top.cell-is)

    -- whether it starts at 0
    pub zero-some : eqb v.start 0 ≡ starts_at_zero rs
    zero-some = ap (λ (r : Run). eqb r.start 0) same ∙ sym (ap starts_at_zero near.is)

    -- what is in order after it
    ordered : Canon size (near.first.«end» + 2) near.others
    ordered = (subst (λ us. Canon size 0 us) near.is h.ordered).3

    -- with it taken off
    module _ {p' : Path} (kept : p'.nodes.items ≡ ks) where
      -- its right side is next
      pub pop-below : Below w p' v.right near.top.right near.top.later
      pop-below = record {
        tag = near.top.tag;
        at = record { rep = near.top.rep; linked = sym (ap (λ (u : Node). u.right) (e ∙ near.top.cell-is)) };
        ordered = canon-weaken size (near.first.«end» + 2) 0 (inorder near.top.right) (omega arith)
            (canon-front size (near.first.«end» + 2) (inorder near.top.right) near.top.later
            (subst (λ us. Canon size (near.first.«end» + 2) us) near.top.is ordered));
        low = omega (arith, near.top.low, ap length kept);
        rest = subst (λ us. Rest w us near.top.later) (sym kept) near.top.rest;
      }

      -- with that on the path, the others are to come
      pub pop-taken : {p'' : Path} → Descends w p' v.right 0 p'' → Taken w p'' (run v.start v.«end») rs
      pop-taken {p''} ds = record {
        others = near.others;
        is = near.is ∙ ap (λ r. r ∷ near.others) (sym same);
        on = record {
          rest = subst (λ us. Rest w p''.nodes.items us) (ap (λ us. us ++ near.top.later) (from_zero (inorder near.top.right)) ∙ sym near.top.is)
              (ds near.top.right near.top.later pop-below);
          ordered = canon-weaken size (near.first.«end» + 2) 0 near.others (omega arith) ordered;
        };
      }

-- the nearest node is the last of the list
last-of : (ks : List ℕ) (n : ℕ) → slice_get ks (length ks - 1) ≡ Some n → ks ≡ take (length ks - 1) ks ++ n ∷ []
last-of ks n e =
    let less = slice_get_within ks (length ks - 1) n e in
    let up-to : length ks ≡ length ks - 1 + 1 = omega (arith, less) in
    sym (take-length ks) ∙ ap (λ m. take m ks) up-to ∙ take_more ks (length ks - 1) 0 less
    ∙ ap (λ m. take (length ks - 1) ks ++ m ∷ []) (get_or_from_slice_get ks (length ks - 1) n 0 e)

module _ {w : List ℕ} {p : Path} {ks : List ℕ} {n : ℕ} (is : ks ≡ p.nodes.items) (e : Some n ≡ slice_get ks (length ks - 1)) {rs : List Run} (h : OnPath w p rs) where
  -- so it tells whether the nearest run starts at 0
  pub last-zero : {v : Node} → v ≡ cell_at w n → eqb v.start 0 ≡ starts_at_zero rs
  last-zero = zero-some _ _ (sym is ∙ last-of ks n (sym e)) h
