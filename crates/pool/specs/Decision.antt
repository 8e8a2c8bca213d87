-- Whether words are a sound pool, as tests that the code makes one by one. Assumes nothing: these are definitions.
use Rattle.std.specs.Prelude.{◌≡◌, ℕ, zero, suc, ◌+◌, ◌-◌, ◌/◌, ◌%◌, ◌^◌, ◌≤◌, max, Bool, true}
use Rattle.std.specs.Prelude.{false, not, Option, Some, None, if◌then◌else◌, ◌&&◌, ◌||◌, List, length, ◌==◌, nat_le, nat_lt}
use Rattle.model.specs.Numbers.{size, most_worlds}
use Rattle.model.specs.Positions.{one_if, held_runs, stretches}
use Rattle.model.specs.Pools.{claim, claims}
use Rattle.run_index.specs.declared.Node.{Node}
use Rattle.run_index.specs.Cells.{cell_at, Room}
use Rattle.run_index.specs.Tree.{width}
use Rattle.run_index.specs.Strung.{free_cell}
use Rattle.pool.specs.declared.World.{World}
use Rattle.pool.specs.declared.layout.Record.{Record}
use Rattle.pool.specs.Layout.{
  opened_at,
  padded_b,
  free_head,
  record_at,
  world_at,
  floor_at,
  ceiling_at,
  nodes,
  capacity,
  node_count,
  highest,
  held_in,
  held_by,
  plain_at,
  worlds_from,
  worlds_of,
}
use Rattle.pool.specs.declared.soundness.Bounds.{Bounds}
use Rattle.pool.specs.declared.soundness.Place.{Place}
use Rattle.pool.specs.Soundness.{first_of, last_of, sum_to}

-- node n has all its words in w; so has what lies at 0
unfoldable pub inside_b : List ℕ → ℕ → Bool
inside_b w n = nat_lt n (length w / 8)

-- the words of the node at a link, zeros where there is none
unfoldable pub below_of : List ℕ → ℕ → Node
below_of w zero = free_cell 0
below_of w (suc n) = cell_at w (suc n)

-- the run lies within lo .. total - 1
unfoldable pub within_b : ℕ → ℕ → ℕ → ℕ → Bool
within_b a b lo total = nat_le lo a && (nat_le a b && nat_lt b total)

-- the tag is k, and the run lies within lo .. total - 1
unfoldable pub run_b : ℕ → ℕ → ℕ → ℕ → ℕ → ℕ → Bool
run_b a b g k lo total = g == k && within_b a b lo total

-- h is one more than the greater of h1 and h2, which differ by at most 1
unfoldable pub heights_b : ℕ → ℕ → ℕ → Bool
heights_b h h1 h2 = h == 1 + max h1 h2 && (nat_le h1 (h2 + 1) && nat_le h2 (h1 + 1))

-- the words for runs and ones are those of the two sides and the node's own
unfoldable pub sums_b : ℕ → ℕ → ℕ → ℕ → ℕ → ℕ → ℕ → ℕ → Bool
sums_b k k1 k2 o o1 o2 a b = k == k1 + k2 + 1 && o == ((o1 + o2) % 2 ^ 64 + width a b) % 2 ^ 64

-- the words v of a node, but for its height, against those of its two sides: k is the tag that it is to have
unfoldable pub words_b : Node → Node → Node → ℕ → ℕ → ℕ → Bool
words_b v x y k lo total =
    run_b v.start v.«end» v.tag k lo total && sums_b v.runs x.runs y.runs v.ones x.ones y.ones v.start v.«end»

-- the words v of a node against those of its two sides
unfoldable pub agrees_b : Node → Node → Node → Bool
agrees_b v x y =
    heights_b v.height x.height y.height
    && sums_b v.runs x.runs y.runs v.ones x.ones y.ones v.start v.«end»

-- the tests of a node by itself: v is its words, x and y are those at its links, and k is the tag that it is to have
unfoldable pub cell_b : Node → Node → Node → ℕ → ℕ → ℕ → Bool
cell_b v x y k lo total = run_b v.start v.«end» v.tag k lo total && agrees_b v x y

-- the same of a node of height 1, which has no links
unfoldable pub leaf_b : Node → ℕ → ℕ → ℕ → Bool
leaf_b v k lo total =
    run_b v.start v.«end» v.tag k lo total
    && (v.left == 0 && (v.right == 0 && (v.runs == 1 && v.ones == width v.start v.«end»)))

-- the tree of nodes with the tag g at the link k, d nodes deep at most, whose runs lie within lo .. total - 1
unfoldable pub tree_b : ℕ → List ℕ → ℕ → ℕ → ℕ → ℕ → Bool
tree_b zero w g k lo total = k == 0
tree_b (suc d) w g zero lo total = true
tree_b (suc d) w g (suc n) lo total =
    inside_b w (suc n)
    && (cell_b (cell_at w (suc n)) (below_of w (cell_at w (suc n)).left) (below_of w (cell_at w (suc n)).right) g lo total
    && (tree_b d w g (cell_at w (suc n)).left lo ((cell_at w (suc n)).start - 1)
    && tree_b d w g (cell_at w (suc n)).right ((cell_at w (suc n)).«end» + 2) total))

-- all words are 0 but the link
unfoldable pub zeros_b : Node → Bool
zeros_b v =
    (v.start == 0)
    && (v.«end» == 0 && (v.right == 0 && (v.height == 0 && (v.runs == 0 && (v.ones == 0 && v.tag == 0)))))

-- n is a free node
unfoldable pub free_b : List ℕ → ℕ → Bool
free_b w n = nat_lt 0 n && (inside_b w n && zeros_b (cell_at w n))

-- c links from n lead over free nodes to 0
unfoldable pub chain_b : ℕ → List ℕ → ℕ → Bool
chain_b zero w n = n == 0
chain_b (suc c) w n = free_b w n && chain_b c w (cell_at w n).left

-- where c links from n lead, or the first node on the way that is not free
unfoldable pub along_of : ℕ → List ℕ → ℕ → ℕ
along_of zero w n = n
along_of (suc c) w n = if free_b w n then along_of c w (cell_at w n).left else n

-- the end of a stride of 64 links from n
abbrev pub stride : List ℕ → ℕ → ℕ
stride w n = along_of 1 w (along_of 63 w n)

-- c strides from n: how many end with a link back
unfoldable pub falls : ℕ → List ℕ → ℕ → ℕ
falls zero w n = 0
falls (suc c) w n = one_if (nat_lt (stride w n) (along_of 63 w n)) + falls c w (stride w n)

-- how worn a chain of c links from n is, if they lead over free nodes to 0
unfoldable pub chain_of : ℕ → List ℕ → ℕ → Option ℕ
chain_of c w n = if chain_b c w n then Some (falls ((c - 1) / 64) w n) else None

-- of n nodes the trees have r, and the others are the free chain from f
unfoldable pub rest_b : List ℕ → ℕ → ℕ → ℕ → Bool
rest_b w n r f = nat_le r n && chain_b (n - r) w f

-- how worn that chain is, if it is so
unfoldable pub rest_of : List ℕ → ℕ → ℕ → ℕ → Option ℕ
rest_of w n r f = if rest_b w n r f then Some (falls ((n - r - 1) / 64) w f) else None

-- the tree of the world h, its sums and its bounds; an empty world has offset 0
unfoldable pub world_b : List ℕ → World → Bool
world_b w h =
    tree_b highest w h.tag h.root 0 size
    && (h.ones == (below_of w h.root).ones
    && (h.runs == (below_of w h.root).runs
    && (h.first == first_of (held_runs (held_in w h))
    && (h.last == last_of (held_runs (held_in w h)) && (not (h.root == 0) || h.offset == 0)))))

-- 1 to 16 worlds were opened, and the padding of the header is zeros
unfoldable pub header_b : List ℕ → Bool
header_b w = nat_le 1 (opened_at w) && (nat_le (opened_at w) most_worlds && padded_b w)

-- world k of a pool: the tests of its tree and its record, and its limits
unfoldable pub place_b : List ℕ → ℕ → Bool
place_b w k =
    world_b (nodes w) (world_at w k) && (nat_le (floor_at w k) (ceiling_at w k) && nat_le (stretches (held_by w k)) (ceiling_at w k))

-- the first n worlds
unfoldable pub worlds_b : List ℕ → ℕ → Bool
worlds_b w zero = true
worlds_b w (suc n) = worlds_b w n && place_b w n

-- all words of a record are 0
unfoldable pub nothing_b : Record → Bool
nothing_b v =
    v.root == 0
    && (v.offset == 0
    && (v.ones == 0 && (v.runs == 0 && (v.first == 0 && (v.last == 0 && (v.floor == 0 && v.ceiling == 0))))))

-- the records of worlds k and above, n of them, are zeros
unfoldable pub unopened_b : List ℕ → ℕ → ℕ → Bool
unopened_b w k zero = true
unopened_b w k (suc n) = nothing_b (record_at w k) && unopened_b w (suc k) n

-- the runs that the records of the first n worlds tell
abbrev pub told_runs : List ℕ → ℕ → ℕ
told_runs w n = sum_to n (λ k. (world_at w k).runs)

-- whether words of a pool's length are a sound pool
unfoldable pub sound_b : List ℕ → Bool
sound_b w =
    header_b w
    && (worlds_b w (opened_at w)
    && (unopened_b w (opened_at w) (most_worlds - opened_at w)
    && (nat_le (claims (worlds_of w)) (capacity w) && rest_b (nodes w) (node_count w) (told_runs w (opened_at w)) (free_head w))))

-- how worn the free chain of such a pool is: how many of its strides end with a link back
abbrev pub worn : List ℕ → ℕ
worn w = falls ((node_count w - told_runs w (opened_at w) - 1) / 64) (nodes w) (free_head w)

-- what the check tells: that, of a sound pool
unfoldable pub checked : List ℕ → Option ℕ
checked w = if sound_b w then Some (worn w) else None

-- r says whether a tree within the bounds b hangs at the link k
abbrev pub Tells : List ℕ → Bounds → ℕ → Bool → Type 0
Tells w b k r = (d : ℕ) → (below_of w k).height ≤ d → r ≡ tree_b d w b.tag k b.low (b.high + 1)

-- the node n has the words v
pub record Seen (w : List ℕ) (n : ℕ) (v : Node) : Type 0 where
  pub some : ¬ (n ≡ 0)
  pub room : Room w n
  pub is : v ≡ below_of w n

-- r says whether such a tree hangs at the node with the words v
abbrev pub TellsNode : List ℕ → Node → Bounds → Bool → Type 0
TellsNode w v b r = (n : ℕ) → Seen w n v → Tells w b n r

-- the words are those of a leaf within the bounds, if there are any
abbrev pub side_b : Node → Option Bounds → Bool
side_b v None = false
side_b v (Some b) = v.height == 1 && leaf_b v b.tag b.low (b.high + 1)

-- what world k claims, and how many runs its tree has, if it fits
unfoldable pub place_of : List ℕ → ℕ → Option Place
place_of w k = if place_b w k then Some (record { claim = claim (plain_at w k); runs = (world_at w k).runs }) else None

-- how many runs the first n worlds have, if they fit and do not claim too much together
unfoldable pub runs_of : List ℕ → ℕ → Option ℕ
runs_of w n = if worlds_b w n && nat_le (claims (worlds_from w 0 n)) (capacity w) then Some (told_runs w n) else None
