-- What setting a range does to the tree of a world without offset: a range that is to be held, and touches none of the tree's runs, is put in as
-- one run more. The numbers of the nodes are left open, so that nodes may be put elsewhere. Assumes nothing: these are definitions.
use Rattle.std.specs.Prelude.{ℕ, ◌≡◌, ◌-◌, ◌≤◌, Bool, true, List, Ok, Err}
use Rattle.model.specs.Answers.{OrRefusal}
use Rattle.model.specs.Ends.{Bound}
use Rattle.model.specs.Range.{first_allowed, past_allowed, extent}
use Rattle.model.specs.RunList.{TouchesNone}
use Rattle.run_index.specs.Shape.{inserted}
use Rattle.run_index.specs.Tree.{Tree, leaf, node, inorder}
use Rattle.pool.specs.Layout.{world_at, tree_at}

-- the tree without the numbers of its nodes: their runs, and how they hang together
abbrev pub shape : Tree → Tree
shape leaf = leaf
shape (node n a b l r) = node 0 a b (shape l) (shape r)

-- world i has no offset, so its runs lie at the positions that it holds
abbrev pub Unturned : List ℕ → ℕ → Type 0
Unturned w i = (world_at w i).offset ≡ 0

-- the range has a position, and neither meets nor touches a run of world i
pub record Clear (w : List ℕ) (i : ℕ) (l u : Bound) : Type 0 where
  pub some : 1 ≤ extent l u
  pub apart : TouchesNone (first_allowed l) (past_allowed u - 1) (inorder (tree_at w i))

-- the tree that world i has in w with the range put in
abbrev pub with_range : List ℕ → ℕ → Bound → Bound → Tree
with_range w i l u = inserted 0 (first_allowed l) (past_allowed u - 1) (tree_at w i)

-- in w' world i has no offset, and that tree, if the range was to be held and was clear
pub record PutIn (w : List ℕ) (i : ℕ) (l u : Bound) (v : Bool) (w' : List ℕ) : Type 0 where
  pub unturned : Unturned w' i
  pub tree : v ≡ true → Clear w i l u → shape (tree_at w' i) ≡ shape (with_range w i l u)

-- THE PROMISE OF A SET of the range to v in world i of the words w, which answered r and left w': so it is, if the world had no offset and the
-- call was not refused
abbrev pub Grows : {T : Type 0} → List ℕ → ℕ → Bound → Bound → Bool → OrRefusal T → List ℕ → Type 0
Grows w i l u v (Err e) w' = Unit
Grows w i l u v (Ok x) w' = Unturned w i → PutIn w i l u v w'
