-- A world of a sound pool, opened: its tree is the one that its root leads to, so its part of the nodes is the pool's but for the other
-- worlds' trees; and it may have its allowance, since the trees of at most sixteen worlds have at most sixteen runs more than these claim.
-- What a world claims is told by the count of its logical runs, and its allowance by the claims of the others, one by one. Assumes nothing.
use Rattle.pool.proofs.Base.{◌≡◌, ℕ, zero, suc, ◌+◌, ◌-◌, ◌*◌, ◌<◌, ◌≤◌, min, max, Bool, true, false, ◌&&◌, List, length, sym, refl, ap, ◌∙◌, subst, ap₂, arith, ℕ_discrete, Run, size}
use Rattle.pool.proofs.Base.{Positions, one_if, stretches, mem, Canon, claim, other_claims, stretches-is, Room, Tree, runs, count, inorder, Indexed, runs_from, runs-length, index-runs, World, Record, physical_of, opened_at, record_at}
use Rattle.pool.proofs.Base.{world_at, ceiling_at, nodes, capacity, turned, held_by, tree_at, plain_at, worlds_of, allowance, Standing, sum_to, without, runs_at, count_at, footprint_of, Planted, Sound, Openable, Opened}
use Rattle.model.specs.Pools.{allowance_of}
use Rattle.model.specs.Pools
use Rattle.pool.proofs.Sums.{sum_more, sum-nothing, sum-most, sum_both, sum-front, without-here, without-there, sum-split}
use Rattle.pool.proofs.WorldLists.{opened-world, claims-all, claims-others}
use Rattle.pool.proofs.Parts.{lent, lent-nodes, of-nodes, nodes-length}
use Rattle.pool.proofs.Turn.{stretches-zero, stretches-turned}
use Rattle.pool.proofs.Nodes.{sized-length}
use Rattle.pool.proofs.Reached.{tree-reached, tree-held}
use Rattle.pool.proofs.Sharing.{others_apart}
use Rattle.pool.proofs.Hanging.{planted-index, world-stands}

-- ---- a planted tree
module _ (w : List ℕ) (k : ℕ) (P : Planted (nodes w) (world_at w k)) where
  -- its tree is the one that its root leads to
  pub planted-tree : tree_at w k ≡ P.tree
  unfolding tree_at
  planted-tree = tree-reached P.linked P.low

  -- its positions are the tree's, turned by its offset
  planted-held : held_by w k ≡ turned (world_at w k).offset (mem (inorder P.tree))
  unfolding held_by
  planted-held = tree-held (world_at w k).offset P.linked P.low

  -- it can be searched in the part that is lent, for the world h that was read
  pub planted-indexed : (h : World) → h ≡ world_at w k → Indexed (lent w) h.root
  planted-indexed h e =
      of-nodes (λ (v : List ℕ). Indexed v h.root) w
      (subst (λ (z : World). Indexed (nodes w) z.root) (sym e) (k, P.tree, planted-index P))

  -- and as the count of logical runs asks it
  pub planted-counted : (h : World) → h ≡ world_at w k → h.runs ≡ length (runs_from (lent w) h.root)
  planted-counted h e =
      of-nodes (λ (v : List ℕ). h.runs ≡ length (runs_from v h.root)) w
      (subst (λ (z : World). z.runs ≡ length (runs_from (nodes w) z.root)) (sym e)
      (P.runs-are ∙ runs-length P.tree ∙ ap length (sym (index-runs (planted-index P)))))

  -- what that count tells
  pub runs-told : (h : World) (n : ℕ) → h ≡ world_at w k → n ≡ stretches (turned h.offset (mem (runs_from (lent w) h.root))) → n ≡ stretches (held_by w k)
  runs-told h n e t =
      let told = subst (λ (z : World). n ≡ stretches (turned z.offset (mem (runs_from (lent w) z.root)))) e t in
      subst (λ (v : List ℕ). n ≡ stretches (turned (world_at w k).offset (mem (runs_from v (world_at w k).root)))) (lent-nodes w) told
      ∙ ap (λ (rs : List Run). stretches (turned (world_at w k).offset (mem rs))) (index-runs (planted-index P)) ∙ ap stretches (sym planted-held)

  -- the larger of it and the floor is what the world claims
  pub claim-told : (h : World) (v : Record) (n : ℕ) → h ≡ world_at w k → v ≡ record_at w k → n ≡ stretches (turned h.offset (mem (runs_from (lent w) h.root)))
      → max n v.floor ≡ claim (plain_at w k)
  claim-told h v n e ev t = ap₂ (λ i (z : Record). max i z.floor) (runs-told h n e t) ev

-- ---- runs of a tree, and logical runs
-- a test counts at most once
one-most : (b : Bool) → one_if b ≤ 1
one-most true = omega arith
one-most false = omega arith

-- a tree has at most one run more than there are logical runs: turning joins at most two of them
pub runs-logical : (o : ℕ) (t : Tree) → o < size → Canon size 0 (inorder t) → runs t ≤ stretches (turned o (mem (inorder t))) + 1
runs-logical o t small ordered = go (ℕ_discrete o 0)
  where
    many : runs t ≡ stretches (mem (inorder t))
    many = runs-length t ∙ sym (stretches-is (mem (inorder t)) (inorder t) ordered (λ x h. refl))

    go : Dec (o ≡ 0) → runs t ≤ stretches (turned o (mem (inorder t))) + 1
    go (yes z) = omega (arith, many, ap (λ j. stretches (turned j (mem (inorder t)))) z, stretches-zero (mem (inorder t)))
    go (no nz) =
        let z : ℕ = physical_of 0 o in
        let P : Positions = mem (inorder t) in
        omega (arith, many, stretches-turned o z P small (omega arith) refl, one-most (P (size - 1) && P 0))

-- ---- what worlds claim
-- what world j claims
abbrev pub claim_at : List ℕ → ℕ → ℕ
claim_at w j = claim (plain_at w j)

-- the claims of all but world k
abbrev pub others_claim : List ℕ → ℕ → ℕ
others_claim w k = sum_to (opened_at w) (without k (claim_at w))

-- the allowance of an opened world
pub allowance-is : (w : List ℕ) (k : ℕ) → k < opened_at w → allowance w k ≡ min (ceiling_at w k) (capacity w - others_claim w k)
unfolding allowance Pools.allowance
allowance-is w k l =
    ap (λ o. allowance_of (capacity w) (other_claims (worlds_of w) k) o) (opened-world w k l)
    ∙ ap (λ n. min (ceiling_at w k) (capacity w - n)) (claims-others w k l)

-- ---- counting the claims of others, world by world
-- of the capacity, what the first j worlds but k leave
abbrev pub LeftOver : List ℕ → ℕ → ℕ → ℕ → Type 0
LeftOver w k left j = left + sum_to j (without k (claim_at w)) ≡ capacity w

-- none of them leave all
pub leaves_none : (w : List ℕ) (k left : ℕ) → left ≡ capacity w → LeftOver w k left 0
leaves_none w k left e = omega (arith, sum-nothing (without k (claim_at w)))

-- one more that is not k
pub leaves-more : (w : List ℕ) (k left j c : ℕ) → LeftOver w k left j → (j ≡ k → ⊥) → c ≡ claim_at w j → c ≤ left → LeftOver w k (left - c) (j + 1)
leaves-more w k left j c h ne e le =
    let q : j + 1 ≡ suc j = omega arith in
    omega (arith, ap (λ i. sum_to i (without k (claim_at w))) q, sum_more j (without k (claim_at w)), without-there k (claim_at w) j ne)

-- k itself
pub leaves-same : (w : List ℕ) (k left j : ℕ) → LeftOver w k left j → j ≡ k → LeftOver w k left (j + 1)
leaves-same w k left j h e =
    let q : j + 1 ≡ suc j = omega arith in
    omega (arith, ap (λ i. sum_to i (without k (claim_at w))) q, sum_more j (without k (claim_at w)), without-here k (claim_at w) j e)

-- all of them leave what the ceiling is compared with
pub leaves_all : (w : List ℕ) (k left j : ℕ) → k < opened_at w → LeftOver w k left j → j ≡ opened_at w → allowance w k ≡ min (ceiling_at w k) left
leaves_all w k left j l h e = omega (arith, allowance-is w k l, ap (λ i. sum_to i (without k (claim_at w))) e)

-- ---- a sound pool
-- n ones
sum_ones : (n : ℕ) → sum_to n (λ j. 1) ≡ n
sum_ones zero = sum-nothing (λ j. 1)
sum_ones (suc n) = omega (arith, sum_more n (λ j. 1), sum_ones n)

module _ {w : List ℕ} (S : Sound w) where
  -- how long it is
  pub sound-length : (length w ≡ 8 * (capacity w + 49)) × (capacity w ≤ 65536)
  sound-length = sized-length w S.sized

  -- there is room for the header and all records
  pub sound-room : (m : ℕ) → m ≤ 16 → Room w m
  sound-room m le = omega (arith, sound-length.0)

  -- one claim and those of the others fit
  pub claims-fit : (k : ℕ) → k < opened_at w → claim_at w k + others_claim w k ≤ capacity w
  claims-fit k l = omega (arith, S.fits, claims-all w, sum-split (opened_at w) k (claim_at w) l)

  -- so another world's claim fits in what those before it leave
  pub claim-left : (k left j : ℕ) → k < opened_at w → j < opened_at w → (j ≡ k → ⊥) → LeftOver w k left j → claim_at w j ≤ left
  claim-left k left j l m ne h =
      let f : ℕ → ℕ = without k (claim_at w) in
      omega (arith, claims-fit k l, sum-front (opened_at w) (suc j) f (omega arith), sum_more j f, without-there k (claim_at w) j ne)

  module _ (k : ℕ) (l : k < opened_at w) where
    abbrev T : Tree
    T = (S.planted k l).tree

    -- is the one that its root leads to
    T-is : tree_at w k ≡ T
    T-is = planted-tree w k (S.planted k l)

    -- it stands, with all nodes but those of the others
    pub world-standing : Standing (nodes w) (footprint_of w k) (world_at w k)
    world-standing =
        world-stands (S.planted k l) S.free
        (omega (arith, nodes-length w, sound-length.0))
        (omega (arith, sound-length.1))
        (omega arith)
        refl
        S.chained
        (λ m p le. omega (arith, S.shared m p le, sum-split (opened_at w) k (count_at w m) l, ap (count m) T-is))
        (omega (arith, S.counted, sum-split (opened_at w) k (runs_at w) l, ap runs T-is))

    -- its tree has at most one run more than it claims
    pub runs-claimed : (world_at w k).offset < size → runs_at w k ≤ claim_at w k + 1
    runs-claimed small =
        let P = S.planted k l in
        omega (arith, ap runs T-is, runs-logical (world_at w k).offset T small P.ordered, ap stretches (planted-held w k P))

  -- the trees of the others have at most sixteen runs more than these claim
  pub others-claimed : ((j : ℕ) → (world_at w j).offset < size) → (k : ℕ) → sum_to (opened_at w) (without k (runs_at w)) ≤ others_claim w k + 16
  others-claimed small k =
      let n = opened_at w in
      omega (
        arith,
        sum-most n (without k (runs_at w)) (λ j. without k (claim_at w) j + 1) (λ j l. one j l (ℕ_discrete j k)),
        sum_both n (without k (claim_at w)) (λ j. 1),
        sum_ones n,
        S.few,
      )
    where
      one : (j : ℕ) → j < opened_at w → Dec (j ≡ k) → without k (runs_at w) j ≤ without k (claim_at w) j + 1
      one j l (yes e) = omega (arith, without-here k (runs_at w) j e)
      one j l (no ne) = omega (arith, without-there k (runs_at w) j ne, without-there k (claim_at w) j ne, runs-claimed j l (small j))

-- an opened world is within its allowance
pub held-allowed : (w : List ℕ) (k : ℕ) → Openable w k → stretches (held_by w k) ≤ allowance w k
held-allowed w k o =
    let S = o.sound in
    let l = o.named in
    omega (arith, (S.limited k l).ceiling, claims-fit S k l, allowance-is w k l)

-- and has nodes for two runs more; offsets are words
pub opened-told : (w : List ℕ) (k : ℕ) → Openable w k → ((j : ℕ) → (world_at w j).offset < size) → Opened w k (world_at w k)
unfolding held_by
opened-told w k o small =
    let S = o.sound in
    let l = o.named in
    record {
      is = refl;
      limited = record {
        standing = world-standing S k l;
        fits = held-allowed w k o;
        enough = omega (arith, allowance-is w k l, others-claimed S small k, claims-fit S k l);
      };
      held = refl;
      apart = λ m i. others_apart w (opened_at w) k S.planted m i;
    }

pub ruleset leaving = (leaves_none, leaves-more, leaves-same, leaves_all, claim-left)

pub ruleset claiming = (planted-indexed, planted-counted, claim-told)
