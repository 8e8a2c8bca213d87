-- How a pool lies in its words (document 01, "The store", and document 02, Ticket 3), and which positions its worlds hold.
-- Assumes nothing: these are definitions.
use Rattle.std.specs.Prelude.{◌≡◌, ℕ, zero, suc, ◌+◌, ◌-◌, ◌*◌, ◌/◌, ◌%◌, ◌≤◌, Bool, cond, ◌&&◌, List, [], ◌∷◌, length, drop, ◌==◌, ◌≢◌, nat_le, nat_lt, slice_index}
use Rattle.model.specs.declared.Run.{Run}
use Rattle.model.specs.Numbers.{size}
use Rattle.model.specs.Positions.{Positions, mem}
use Rattle.model.specs.Pools
use Rattle.model.specs.Pools.{PlainWorld}
use Rattle.run_index.specs.Cells.{cell_at}
use Rattle.run_index.specs.Tree.{Tree, inorder, tree_from}
use Rattle.pool.specs.Places.{physical_of}
use Rattle.pool.specs.declared.World.{World}
use Rattle.pool.specs.declared.Links.{Links}
use Rattle.pool.specs.declared.Set.{Set}
use Rattle.pool.specs.declared.layout.Header.{Header}
use Rattle.pool.specs.declared.layout.Record.{Record}

-- the header: word 0 is how many worlds were opened, word 1 is the head of the free list
unfoldable pub header_at : List ℕ → Header
header_at w = record { opened = slice_index w 0; free = slice_index w 1 }

abbrev pub opened_at : List ℕ → ℕ
opened_at w = (header_at w).opened

abbrev pub free_head : List ℕ → ℕ
free_head w = (header_at w).free

-- the words 2 to 7 are its padding, which a sound pool has as zeros; and the test of this
unfoldable pub padding : List ℕ → List ℕ
padding w =
    slice_index w 2 ∷ slice_index w 3 ∷ slice_index w 4 ∷ slice_index w 5 ∷ slice_index w 6 ∷ slice_index w 7 ∷ []

abbrev pub IsPadded : List ℕ → Type 0
IsPadded w = padding w ≡ 0 ∷ 0 ∷ 0 ∷ 0 ∷ 0 ∷ 0 ∷ []

unfoldable pub padded_b : List ℕ → Bool
padded_b w =
    slice_index w 2 == 0
    && (slice_index w 3 == 0 && (slice_index w 4 == 0 && (slice_index w 5 == 0 && (slice_index w 6 == 0 && slice_index w 7 == 0))))

-- the record of world k has the words 8(k + 1) on
unfoldable pub record_at : List ℕ → ℕ → Record
record_at w k = record {
  root = slice_index w (8 * (k + 1));
  offset = slice_index w (8 * (k + 1) + 1);
  ones = slice_index w (8 * (k + 1) + 2);
  runs = slice_index w (8 * (k + 1) + 3);
  first = slice_index w (8 * (k + 1) + 4);
  last = slice_index w (8 * (k + 1) + 5);
  floor = slice_index w (8 * (k + 1) + 6);
  ceiling = slice_index w (8 * (k + 1) + 7);
}

-- that of a world that was not opened
abbrev pub no_record : Record
no_record = record { root = 0; offset = 0; ones = 0; runs = 0; first = 0; last = 0; floor = 0; ceiling = 0 }

-- w' is w with the header v; the padding is as it was
pub record WroteHeader (w w' : List ℕ) (v : Header) : Type 0 where
  pub here : header_at w' ≡ v
  pub padding : padding w' ≡ padding w
  pub there : (m : ℕ) → 1 ≤ m → cell_at w' m ≡ cell_at w m
  pub long : length w' ≡ length w

-- the padding is zeros
pub record MadeHeader (w w' : List ℕ) (v : Header) : Type 0 where
  pub here : header_at w' ≡ v
  pub padded : IsPadded w'
  pub there : (m : ℕ) → 1 ≤ m → cell_at w' m ≡ cell_at w m
  pub long : length w' ≡ length w

-- w' is w with v as the record of world k
pub record WroteRecord (w w' : List ℕ) (k : ℕ) (v : Record) : Type 0 where
  pub here : record_at w' k ≡ v
  pub there : (m : ℕ) → (m ≢ k + 1) → cell_at w' m ≡ cell_at w m
  pub long : length w' ≡ length w

-- a world as its record and the header tell it; its nodes have its number as their tag
abbrev pub world_by : ℕ → ℕ → Record → World
world_by k free v = record {
  tag = k;
  root = v.root;
  free = free;
  offset = v.offset;
  ones = v.ones;
  runs = v.runs;
  first = v.first;
  last = v.last;
}

abbrev pub world_at : List ℕ → ℕ → World
world_at w k = world_by k (free_head w) (record_at w k)

abbrev pub floor_at : List ℕ → ℕ → ℕ
floor_at w k = (record_at w k).floor

abbrev pub ceiling_at : List ℕ → ℕ → ℕ
ceiling_at w k = (record_at w k).ceiling

-- node n, from 1 on, has the words 8(16 + n) on: so the nodes are what lies from word 128 on. No node is 0; record 15 lies there
unfoldable pub nodes : List ℕ → List ℕ
nodes w = drop 128 w

-- the record of a world with these limits
abbrev pub record_of : World → ℕ → ℕ → Record
record_of h floor ceiling = record {
  root = h.root;
  offset = h.offset;
  ones = h.ones;
  runs = h.runs;
  first = h.first;
  last = h.last;
  floor = floor;
  ceiling = ceiling;
}

-- w' is w with the world h in the record of its number, and its free head in the header
pub record Headed (w w' : List ℕ) (h : World) : Type 0 where
  pub header : header_at w' ≡ record { opened = opened_at w; free = h.free }
  pub padding : padding w' ≡ padding w
  pub here : record_at w' h.tag ≡ record_of h (floor_at w h.tag) (ceiling_at w h.tag)
  pub there : (m : ℕ) → 1 ≤ m → (m ≢ h.tag + 1) → cell_at w' m ≡ cell_at w m
  pub long : length w' ≡ length w

-- a world's tag, its root and the head of the free chain
abbrev pub links_of : World → Links
links_of h = record { tag = h.tag; root = h.root; free = h.free }

-- a length of 8 × (C + 49) for a capacity C from 1 to 65,536 has that capacity, and any other length 0
abbrev pub capacity_of : ℕ → ℕ
capacity_of n = cond (n % 8 == 0 && (nat_le 50 (n / 8) && nat_le (n / 8) 65585)) (n / 8 - 49) 0

abbrev pub capacity : List ℕ → ℕ
capacity w = capacity_of (length w)

-- how many nodes there are
abbrev pub node_count : List ℕ → ℕ
node_count w = capacity w + 32

-- the greatest height of a tree: higher ones have more nodes than a pool
abbrev pub highest : ℕ
highest = 22

-- the physical runs: of the nodes reached from the root p, at most so deep
unfoldable pub physical_runs : List ℕ → ℕ → List Run
physical_runs w p = inorder (tree_from highest w p)

-- physical positions Q as logical ones, each plus the offset o, modulo 2^64
unfoldable pub turned : ℕ → Positions → Positions
turned o Q x = nat_lt x size && Q (physical_of x o)

-- the positions kept under the root p with the offset o: those from start to end of each node reached from it, each plus o, modulo 2^64
unfoldable pub held_from : List ℕ → ℕ → ℕ → Positions
held_from w p o = turned o (mem (physical_runs w p))

-- the positions of a set that is read
abbrev pub held : Set → Positions
held s = turned s.offset (mem s.runs)

-- the positions of a world whose nodes are in w
abbrev pub held_in : List ℕ → World → Positions
held_in w h = held_from w h.root h.offset

-- the positions of world k of a pool, and the tree that its root leads to
unfoldable pub held_by : List ℕ → ℕ → Positions
held_by w k = held_in (nodes w) (world_at w k)

unfoldable pub tree_at : List ℕ → ℕ → Tree
tree_at w k = tree_from highest (nodes w) (world_at w k).root

-- a pool as the plain model has it: the opened worlds, n of them from world k on
abbrev pub plain_at : List ℕ → ℕ → PlainWorld
plain_at w k = record { positions = held_by w k; floor = floor_at w k; ceiling = ceiling_at w k }

unfoldable pub worlds_from : List ℕ → ℕ → ℕ → List PlainWorld
worlds_from w k zero = []
worlds_from w k (suc n) = plain_at w k ∷ worlds_from w (suc k) n

unfoldable pub worlds_of : List ℕ → List PlainWorld
worlds_of w = worlds_from w 0 (opened_at w)

-- the most runs that world k may have
unfoldable pub allowance : List ℕ → ℕ → ℕ
allowance w k = Pools.allowance (capacity w) (worlds_of w) k
