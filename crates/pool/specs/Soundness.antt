-- What a sound pool is, sentence by sentence (document 01, "The store", and document 02, Ticket 3). Assumes nothing: these are definitions.
use Rattle.std.specs.Prelude.{◌≡◌, ℕ, zero, suc, ◌+◌, ◌-◌, ◌*◌, ◌<◌, ◌≤◌, cond, List, [], ◌∷◌, length, ◌==◌, ◌≢◌}
use Rattle.model.specs.declared.Run.{Run}
use Rattle.model.specs.Numbers.{size, most_worlds}
use Rattle.model.specs.Positions.{held_runs, last_after, stretches}
use Rattle.model.specs.RunList.{Canon}
use Rattle.model.specs.Pools.{claims}
use Rattle.run_index.specs.Cells.{cell_at}
use Rattle.run_index.specs.Tree.{Tree, height, runs, ones, count, Distinct, inorder, At, Balanced}
use Rattle.run_index.specs.Strung.{times, Strung, Free}
use Rattle.pool.specs.declared.World.{World}
use Rattle.pool.specs.declared.Links.{Links}
use Rattle.pool.specs.Layout.{
  opened_at,
  free_head,
  record_at,
  no_record,
  IsPadded,
  world_at,
  floor_at,
  ceiling_at,
  nodes,
  links_of,
  capacity,
  node_count,
  highest,
  held_in,
  held_by,
  tree_at,
  worlds_of,
}

-- from the link k the free nodes ns, in order, and then 0
abbrev pub Chain : List ℕ → ℕ → List ℕ → Type 0
Chain w k ns = Strung Free w k ns 0

-- the first and the last position of rising runs, 0 if there is none
abbrev pub first_of : List Run → ℕ
first_of [] = 0
first_of (r ∷ rs) = r.start

abbrev pub last_of : List Run → ℕ
last_of [] = 0
last_of (r ∷ rs) = (last_after r rs).«end»

-- what stays the same while a world changes: its tag, how many nodes there are, how many of them are in its tree or free, and how often
-- each stands in the trees of other worlds
pub record Footprint : Type 0 where
  pub tag : ℕ
  pub nodes : ℕ
  pub own : ℕ
  pub others : ℕ → ℕ

-- m is neither in the world's tree nor free
abbrev pub Foreign : Footprint → ℕ → Type 0
Foreign s m = 1 ≤ m → m ≤ s.nodes → 1 ≤ s.others m

-- others stand still: whatever is neither in the world's tree nor free is as it was
pub record SameFrame (w w' : List ℕ) (s : Footprint) : Type 0 where
  pub cells : (m : ℕ) → Foreign s m → cell_at w' m ≡ cell_at w m
  pub long : length w' ≡ length w

-- no node of another world has this one's tag
abbrev pub Apart : List ℕ → Footprint → Type 0
Apart w s = (m : ℕ) → 1 ≤ s.others m → (cell_at w m).tag ≢ s.tag

-- the tree t and the free chain ns of the links x share the nodes out, beside those of other worlds: what holds also within a call
pub record Represents (w : List ℕ) (s : Footprint) (x : Links) (t : Tree) (ns : List ℕ) : Type 0 where
  -- w has as many nodes, and no more than the largest pool
  pub sized : length w ≡ 8 * (s.nodes + 1)
  pub few : s.nodes ≤ 65568
  pub part : s.own ≤ s.nodes
  -- links name nodes, and each has the world's tag; heights and sums are right
  pub linked : At w s.tag x.root t
  pub tagged : x.tag ≡ s.tag
  -- links from the root meet each node at most once
  pub once : Distinct t
  -- in order, start ≤ end and each start ≥ previous end + 2
  pub ordered : Canon size 0 (inorder t)
  -- child heights differ by at most 1
  pub balanced : Balanced t
  -- the free chain meets each node that no tree has once, and ends in 0
  pub chained : Chain w x.free ns
  pub shared : (m : ℕ) → 1 ≤ m → m ≤ s.nodes → count m t + times m ns + s.others m ≡ 1
  pub counted : runs t + length ns ≡ s.own

-- the world h stands in the nodes w: it is kept, and its sums and bounds agree
pub record Standing (w : List ℕ) (s : Footprint) (h : World) : Type 0 where
  pub tree : Tree
  pub free : List ℕ
  pub kept : Represents w s (links_of h) tree free
  pub ones-are : h.ones ≡ ones tree
  pub runs-are : h.runs ≡ runs tree
  pub first-is : h.first ≡ first_of (held_runs (held_in w h))
  pub last-is : h.last ≡ last_of (held_runs (held_in w h))
  -- an empty world has offset 0
  pub empty-offset : h.root ≡ 0 → h.offset ≡ 0

-- the same, whatever share it has
abbrev pub Stands : List ℕ → World → Type 0
Stands w h = (s : Footprint) × Standing w s h

-- it has no more runs than it may have, and there are nodes for two more than these
pub record Limited (w : List ℕ) (s : Footprint) (h : World) (limit : ℕ) : Type 0 where
  pub standing : Standing w s h
  pub fits : stretches (held_in w h) ≤ limit
  pub enough : limit + 2 ≤ s.own

abbrev pub Editable : List ℕ → World → ℕ → Type 0
Editable w h limit = (s : Footprint) × Limited w s h limit

-- the sum of f over 0 .. n - 1, and f without its value at k
unfoldable pub sum_to : ℕ → (ℕ → ℕ) → ℕ
sum_to zero f = 0
sum_to (suc n) f = sum_to n f + f n

abbrev pub without : ℕ → (ℕ → ℕ) → ℕ → ℕ
without k f j = cond (j == k) 0 (f j)

-- how many nodes the trees of all worlds have, and how often m stands in them
abbrev pub runs_at : List ℕ → ℕ → ℕ
runs_at w j = runs (tree_at w j)

abbrev pub count_at : List ℕ → ℕ → ℕ → ℕ
count_at w m j = count m (tree_at w j)

-- the share of world k of a pool: the nodes of the other worlds are not its own
abbrev pub footprint_of : List ℕ → ℕ → Footprint
footprint_of w k = record {
  tag = k;
  nodes = node_count w;
  own = node_count w - sum_to (opened_at w) (without k (runs_at w));
  others = λ m. sum_to (opened_at w) (without k (count_at w m));
}

-- the tree of a world, and what its record tells of it
pub record Planted (w : List ℕ) (h : World) : Type 0 where
  pub tree : Tree
  -- links name nodes, and each has the world's number; heights and sums are right; links from the root meet each node at most once
  pub linked : At w h.tag h.root tree
  pub once : Distinct tree
  -- in order, start ≤ end and each start ≥ previous end + 2
  pub ordered : Canon size 0 (inorder tree)
  -- child heights differ by at most 1, and the tree's height is at most 22
  pub balanced : Balanced tree
  pub low : height tree ≤ highest
  -- the record agrees
  pub ones-are : h.ones ≡ ones tree
  pub runs-are : h.runs ≡ runs tree
  pub first-is : h.first ≡ first_of (held_runs (held_in w h))
  pub last-is : h.last ≡ last_of (held_runs (held_in w h))
  -- an empty world has offset 0
  pub empty-offset : h.root ≡ 0 → h.offset ≡ 0

-- world k keeps the limits that 11 tests, and its own ceiling
pub record KeepsLimits (w : List ℕ) (k : ℕ) : Type 0 where
  pub limits : floor_at w k ≤ ceiling_at w k
  pub ceiling : stretches (held_by w k) ≤ ceiling_at w k

pub record Sound (w : List ℕ) : Type 0 where
  -- the length is right
  pub sized : 1 ≤ capacity w
  -- 1 to 16 worlds were opened, and the header's padding is zeros; so are the records of worlds that were not opened
  pub some : 1 ≤ opened_at w
  pub few : opened_at w ≤ most_worlds
  pub padded : IsPadded w
  pub unopened : (k : ℕ) → opened_at w ≤ k → k < most_worlds → record_at w k ≡ no_record
  -- each opened world has a tree with which its record agrees
  pub planted : (k : ℕ) → k < opened_at w → Planted (nodes w) (world_at w k)
  -- no node is in two trees; the free chain meets each node of no tree once, and ends in 0
  pub free : List ℕ
  pub chained : Chain (nodes w) (free_head w) free
  pub shared : (m : ℕ) → 1 ≤ m → m ≤ node_count w → sum_to (opened_at w) (count_at w m) + times m free ≡ 1
  pub counted : sum_to (opened_at w) (runs_at w) + length free ≡ node_count w
  -- each world keeps its limits, and the sum of the larger of runs and floor is at most C
  pub limited : (k : ℕ) → k < opened_at w → KeepsLimits w k
  pub fits : claims (worlds_of w) ≤ capacity w
