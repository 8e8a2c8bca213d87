-- Bringing a world into agreement with its tree: the root's node and the searches tell its sums and bounds. And making a tree of free nodes
-- that were given runs: these are one balanced tree, and the others stay free. Assumes nothing.
use Rattle.pool.proofs.Base.{◌≡◌, ℕ, ◌+◌, ◌^◌, ◌<◌, ◌≤◌, List, [], ◌∷◌, length, sym, refl, ap, ◌∙◌, subst, arith, Run, size, Positions, mem, held_runs, stretches, stretches-cong, Canon, Node}
use Rattle.pool.proofs.Base.{cell_at, Room, Tree, leaf, count, inorder, At, Sums, runs_from, times, Free, sums-node, times-append, length_both, strung-kept, World, Set, Links, held, held_from, held_in}
use Rattle.pool.proofs.Base.{Chain, first_of, last_of, Footprint, SameFrame, Represents, Became, Strewn, LinksUp}
use Rattle.run_index.specs.declared.chains.Grown.{Grown}
use Rattle.run_index.specs.Strung.{Upright, Supply, Filled, Grew, Grows}
use Rattle.run_index.proofs.Trees.{at_none, room_at}
use Rattle.run_index.proofs.Balance.{halved-balanced}
use Rattle.run_index.proofs.Strings.{count-numbers, length-numbers}
use Rattle.run_index.proofs.Laying.{strung-laid}
use Rattle.pool.specs.Soundness.{Limited}
use Rattle.pool.specs.Settle.{Refreshes, Rooted}
use Rattle.pool.proofs.Turn.{turned_zero}
use Rattle.pool.proofs.Nodes.{node-once, kept-still}
use Rattle.pool.proofs.Reached.{kept-held, kept-seen}
use Rattle.pool.proofs.Emptying.{vacant_world, vacant-standing, rootless-empty}

-- ---- refreshing
module _ {w : List ℕ} {x : Links} where
  -- no root, no tree
  vacant-shows : (o : ℕ) → x.root ≡ 0 → Refreshes w x o (vacant_world x)
  vacant-shows o z s t ns k =
      let e : t ≡ leaf = at_none t k.linked z in
      let kl : Represents w s x leaf ns = subst (λ (u : Tree). Represents w s x u ns) e k in
      record {
        standing = vacant-standing z kl;
        holds = λ y l. ap (λ (P : Positions). P y) (rootless-empty w 0 0 refl ∙ sym (rootless-empty w x.root o z) ∙ kept-held k o);
      }

  pub refresh-empty : (o : ℕ) {r : World} → x.root ≡ 0 → r ≡ vacant_world x → Refreshes w x o r
  refresh-empty o z e = subst (Refreshes w x o) (sym e) (vacant-shows o z)

  -- the root's node has room
  pub root-room : {s : Footprint} {t : Tree} {ns : List ℕ} → (x.root ≡ 0 → ⊥) → Represents w s x t ns → Room w x.root
  root-room {t = t} nz k = room_at nz t k.linked

  -- what the searches tell of the positions held
  pub first-told : {s : Footprint} {t : Tree} {ns : List ℕ} {r : ℕ} (o : ℕ) → Represents w s x t ns → (z : Set) → z ≡ record { runs = runs_from w x.root; offset = o }
      → r ≡ first_of (held_runs (held z)) → r ≡ first_of (held_runs (held_from w x.root o))
  first-told o k z of e = e ∙ ap (λ (P : Positions). first_of (held_runs P)) (ap held of ∙ kept-seen k o)

  pub last-told : {s : Footprint} {t : Tree} {ns : List ℕ} {r : ℕ} (o : ℕ) → Represents w s x t ns → (z : Set) → z ≡ record { runs = runs_from w x.root; offset = o }
      → r ≡ last_of (held_runs (held z)) → r ≡ last_of (held_runs (held_from w x.root o))
  last-told o k z of e = e ∙ ap (λ (P : Positions). last_of (held_runs P)) (ap held of ∙ kept-seen k o)

  -- the world that the root's node v and the first and last position tell
  pub refresh-told : {o a b : ℕ} {v : Node} → (x.root ≡ 0 → ⊥) → v ≡ cell_at w x.root → a ≡ first_of (held_runs (held_from w x.root o))
      → b ≡ last_of (held_runs (held_from w x.root o))
      → Refreshes w x o (record { tag = x.tag; root = x.root; free = x.free; offset = o; ones = v.ones; runs = v.runs; first = a; last = b })
  refresh-told {o = o} {v = v} nz ev ea eb s t ns k =
      let su : Sums v t = sums-node w x.root v ev nz s.tag t k.linked in
      record {
        standing = record {
          tree = t;
          free = ns;
          kept = k;
          ones-are = su.ones_is;
          runs-are = su.runs-is;
          first-is = ea;
          last-is = eb;
          empty-offset = λ z. absurd (nz z);
        };
        holds = λ y l. ap (λ (P : Positions). P y) (kept-held k o);
      }

-- a world that holds nothing has the links' root, which is none, and no offset
pub rooted-empty : {x : Links} (o : ℕ) {r : World} → x.root ≡ 0 → r ≡ vacant_world x → Rooted x o r
rooted-empty o z e = record { root_is = ap (λ (h : World). h.root) e ∙ sym z; no-offset = λ q. ap (λ (h : World). h.offset) e }

-- ---- linking
-- canonical runs are upright
canon-upright : (total k : ℕ) (rs : List Run) → Canon total k rs → Upright rs
canon-upright total k [] c = tt
canon-upright total k (r ∷ rs) c = (c.1, canon-upright total (r.«end» + 2) rs c.3)

module _ {v w : List ℕ} {s : Footprint} {x : Links} {n q : ℕ} {ns : List ℕ} {rs : List Run} (st : Strewn v w s x n q ns rs) where
  abbrev fi : Filled v w x.free q n ns rs
  fi = st.filled

  -- each number stands in one part of the chain
  parted : (m : ℕ) → times m fi.xs + times m fi.ys ≡ times m ns
  parted m = sym (times-append m fi.xs fi.ys) ∙ sym (ap (times m) fi.is)

  -- the filled nodes can be made a tree
  pub link-supply : Supply w x.free n fi.xs q
  link-supply = record {
    strung = strung-laid w x.free fi.xs q (subst Upright (sym fi.runs-are) (canon-upright size 0 rs st.canonical)) fi.filled;
    many = fi.many;
    once = λ m. omega (arith, parted m, node-once st.kept m);
    few = omega (arith, fi.many, length_both fi.xs fi.ys, ap length fi.is, chain-few);
  }
    where
      chain-few : length ns < 2 ^ 60
      chain-few = omega (arith, st.kept.counted, st.kept.part, st.kept.few)

  module _ {w' : List ℕ} {g : Grown} (gr : Grew w w' g fi.xs q x.tag) where
    -- the tree that was made
    made-tree : inorder gr.tree ≡ rs
    made-tree = gr.runs-are ∙ fi.runs-are

    each : (m : ℕ) → count m gr.tree + times m fi.ys ≡ times m ns
    each m = omega (arith, count-numbers m gr.tree, ap (times m) gr.numbers-are, parted m)

    -- it and the rest of the chain are kept
    pub link-kept : Represents w' s (record { tag = x.tag; root = g.root; free = g.rest }) gr.tree fi.ys
    link-kept = record {
      sized = gr.long ∙ fi.long ∙ st.kept.sized;
      few = st.kept.few;
      part = st.kept.part;
      linked = subst (λ (j : ℕ). At w' j g.root gr.tree) st.kept.tagged gr.at;
      tagged = st.kept.tagged;
      once = λ m. omega (arith, each m, node-once st.kept m);
      ordered = subst (Canon size 0) (sym made-tree) st.canonical;
      balanced = halved-balanced gr.tree gr.halved;
      chained = subst (λ (j : ℕ). Chain w' j fi.ys) (sym gr.rest-is)
          (strung-kept Free w w' gr.long q fi.ys 0 (λ m i. gr.kept m (omega (arith, parted m, node-once st.kept m))) fi.free);
      shared = λ m p le. omega (arith, each m, st.kept.shared m p le);
      counted = omega (arith, length-numbers gr.tree, ap length gr.numbers-are, length_both fi.xs fi.ys, ap length fi.is, st.kept.counted);
    }

    -- others stand still
    link-still : SameFrame v w' s
    link-still = kept-still st.kept (λ m z. gr.kept m (omega (arith, parted m)) ∙ fi.kept m (omega (arith, parted m))) (gr.long ∙ fi.long)

-- the world of the tree has the runs
pub link-links : {w w' : List ℕ} {x : Links} {n : ℕ} {g : Grown} {r : World} → Grows w w' g x.free n x.tag
    → Refreshes w' (record { tag = x.tag; root = g.root; free = g.rest }) 0 r → LinksUp w w' x n r
link-links gs re v s q ns rs st =
    let gr = gs st.filled.xs q (link-supply st) in
    let sh = re s gr.tree st.filled.ys (link-kept st gr) in
    record {
      shows = record {
        standing = sh.standing;
        holds = λ x l. sh.holds x l ∙ turned_zero (mem (inorder gr.tree)) x l ∙ ap (λ (us : List Run). mem us x) (made-tree st gr);
      };
      still = link-still st gr;
    }

-- a world that became another one with few enough runs is within its limit
pub became-limited : {w w' : List ℕ} {s : Footprint} {h k : World} {limit : ℕ} {Q : Positions} → Limited w s h limit → Became w w' s k Q → stretches Q ≤ limit → Limited w' s k limit
became-limited {w' = w'} {k = k} {Q = Q} l b few =
    record { standing = b.shows.standing; fits = omega (arith, few, stretches-cong (held_in w' k) Q b.shows.holds); enough = l.enough }
