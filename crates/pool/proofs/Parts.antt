-- The part of a pool's words from word 128 on, lent and come back: what the index promises of the part, it promises of the nodes; the words
-- before are as they were; and the cell of node n there is the cell 16 + n of the whole. Assumes nothing.
use Rattle.pool.proofs.Base.{◌≡◌, ℕ, ◌+◌, ◌-◌, ◌*◌, ◌<◌, ◌≤◌, List, [], ◌++◌, length, get_or, sym, ap, ◌∙◌, subst, arith, length-append, cell_at, same-node, nodes}
use Rattle.std.proofs.Common.{take, drop, append-nil, length-drop, take-append-drop, length-take-le, get_or-drop, take_all, get_or-take, take_at, drop_at}
use native.Mathlib.Decide.{dec_lt}
use lib.Seq.{drop-length}

-- the words before the nodes
unfoldable pub front : List ℕ → List ℕ
front w = take 128 w

-- the part as a call gets it, and the whole as it comes back with ys in the part's place
abbrev pub lent : List ℕ → List ℕ
lent w = take (length w - 128) (drop 128 w)

abbrev pub back : List ℕ → List ℕ → List ℕ
back w ys = take 128 w ++ (ys ++ drop (length w - 128) (drop 128 w))

-- the part is all the nodes
pub lent-nodes : (w : List ℕ) → lent w ≡ nodes w
unfolding nodes
lent-nodes w = take_all (length w - 128) (drop 128 w) (simp length-drop (omega arith))

-- a word of the nodes
word : (w : List ℕ) (n k : ℕ) → get_or (nodes w) (8 * n + k) 0 ≡ get_or w (8 * (16 + n) + k) 0
unfolding nodes
word w n k =
    let e : 128 + (8 * n + k) ≡ 8 * (16 + n) + k = omega arith in
    get_or-drop 128 w (8 * n + k) 0 ∙ ap (λ j. get_or w j 0) e

-- a cell of the nodes
pub cell-nodes : (w : List ℕ) (n : ℕ) → cell_at (nodes w) n ≡ cell_at w (16 + n)
unfolding cell_at nodes
cell-nodes w n =
    let e : 128 + 8 * n ≡ 8 * (16 + n) = omega arith in
    same-node (cell_at (nodes w) n) (cell_at w (16 + n))
    (get_or-drop 128 w (8 * n) 0 ∙ ap (λ j. get_or w j 0) e)
    (word w n 1) (word w n 2) (word w n 3) (word w n 4) (word w n 5) (word w n 6) (word w n 7)

-- what holds of the nodes holds of the part
pub of-nodes : (P : List ℕ → Type 0) (w : List ℕ) → P (nodes w) → P (lent w)
of-nodes P w h = subst P (sym (lent-nodes w)) h

-- nothing lies after it
rest-none : (w : List ℕ) → drop (length w - 128) (drop 128 w) ≡ []
rest-none w = ap (λ n. drop n (drop 128 w)) (sym (length-drop 128 w)) ∙ drop-length (drop 128 w)

-- so the whole is what it was before the nodes, and then ys
back_is : (w ys : List ℕ) → back w ys ≡ take 128 w ++ ys
back_is w ys = ap (λ l. take 128 w ++ (ys ++ l)) (rest-none w) ∙ ap (λ l. take 128 w ++ l) (append-nil ys)

-- the part put back as it was leaves the whole as it was
pub back-same : (w : List ℕ) → back w (lent w) ≡ w
back-same w = back_is w (lent w) ∙ ap (λ l. take 128 w ++ l) (take_all (length w - 128) (drop 128 w) (simp length-drop (omega arith))) ∙ take-append-drop 128 w

module _ (w ys : List ℕ) (le : 128 ≤ length w) where
  -- the nodes are ys
  pub back-nodes : nodes (back w ys) ≡ ys
  unfolding nodes
  back-nodes = ap nodes (back_is w ys) ∙ drop_at (take 128 w) ys 128 (length-take-le 128 w le)

  -- the rest is as it was
  pub back-front : front (back w ys) ≡ front w
  unfolding front
  back-front = ap front (back_is w ys) ∙ take_at (take 128 w) ys 128 (length-take-le 128 w le)

  -- all of it is as long as before, if the part is
  pub back_long : length ys ≡ length (lent w) → length (back w ys) ≡ length w
  unfolding nodes
  back_long long =
      ap length (back_is w ys) ∙ length-append (take 128 w) ys
      ∙ omega (arith, length-take-le 128 w le, long, ap length (lent-nodes w), length-drop 128 w)

-- a cell before the nodes, the header's (0) or a record's (1 to 16), where the words before the nodes agree
pub cell-front : (w w' : List ℕ) (m : ℕ) → m < 16 → front w' ≡ front w → cell_at w' m ≡ cell_at w m
unfolding cell_at front
cell-front w w' m lt e =
    same-node (cell_at w' m) (cell_at w m)
    (at (8 * m) (omega arith))
    (at (8 * m + 1) (omega arith))
    (at (8 * m + 2) (omega arith))
    (at (8 * m + 3) (omega arith))
    (at (8 * m + 4) (omega arith))
    (at (8 * m + 5) (omega arith))
    (at (8 * m + 6) (omega arith))
    (at (8 * m + 7) (omega arith))
  where
    at : (j : ℕ) → j < 128 → get_or w' j 0 ≡ get_or w j 0
    at j l = sym (get_or-take 128 w' j 0 l) ∙ ap (λ v. get_or v j 0) e ∙ get_or-take 128 w j 0 l

-- the header and all sixteen records: the last of them lies where the index would have a node 0
pub cells-before : (w w' : List ℕ) → front w' ≡ front w → cell_at (nodes w') 0 ≡ cell_at (nodes w) 0 → (m : ℕ) → m ≤ 16 → cell_at w' m ≡ cell_at w m
cells-before w w' e z m le = go (dec_lt m 16)
  where
    go : Dec (m < 16) → cell_at w' m ≡ cell_at w m
    go (yes lt) = cell-front w w' m lt e
    go (no ge) =
        let is : 16 + 0 ≡ m = omega arith in
        subst (λ (j : ℕ). cell_at w' j ≡ cell_at w j) is (sym (cell-nodes w' 0) ∙ z ∙ cell-nodes w 0)

-- equally long words have equally many nodes
pub nodes-long : (w w' : List ℕ) → length w' ≡ length w → length (nodes w') ≡ length (nodes w)
unfolding nodes
nodes-long w w' e = length-drop 128 w' ∙ ap (λ n. n - 128) e ∙ sym (length-drop 128 w)

-- how many words they are
pub nodes-length : (w : List ℕ) → length (nodes w) ≡ length w - 128
unfolding nodes
nodes-length w = length-drop 128 w

pub ruleset lending = (lent-nodes)
