-- The header and the records as cells: they are as they were where their cells are, and what the writes of `layout` make of the words.
-- Assumes nothing.
use Rattle.pool.proofs.Base.{◌≡◌, ℕ, ◌+◌, ◌*◌, ◌≤◌, List, [], ◌∷◌, get_or, refl, ap, ◌∙◌, arith, Node, cell_at, Room, same-node, Header, Record, World, header_at, record_at, record_of, opened_at}
use Rattle.pool.proofs.Base.{floor_at, ceiling_at, padding, MadeHeader, WroteRecord, Headed}
use Rattle.std.proofs.Common.{set, length-set, get_or-set_other, get_or-set_same}
use Rattle.run_index.proofs.Words.{stored, stored-wrote}
use Rattle.pool.specs.Layout.{WroteHeader}

-- the eight words of a record, and back
abbrev cell_of : Record → Node
cell_of v = record {
  start = v.root;
  «end» = v.offset;
  left = v.ones;
  right = v.runs;
  height = v.first;
  runs = v.last;
  ones = v.floor;
  tag = v.ceiling;
}

abbrev record_in : Node → Record
record_in c = record {
  root = c.start;
  offset = c.«end»;
  ones = c.left;
  runs = c.right;
  first = c.height;
  last = c.runs;
  floor = c.ones;
  ceiling = c.tag;
}

abbrev header_in : Node → Header
header_in c = record { opened = c.start; free = c.«end» }

abbrev padding_in : Node → List ℕ
padding_in c = c.left ∷ c.right ∷ c.height ∷ c.runs ∷ c.ones ∷ c.tag ∷ []

-- a record is as its cell is
pub record-same : (w w' : List ℕ) (k : ℕ) → cell_at w' (k + 1) ≡ cell_at w (k + 1) → record_at w' k ≡ record_at w k
unfolding cell_at record_at
record-same w w' k e = ap record_in e

-- so is the header
pub header-same : (w w' : List ℕ) → cell_at w' 0 ≡ cell_at w 0 → header_at w' ≡ header_at w
unfolding cell_at header_at
header-same w w' e = ap header_in e

-- with its padding
pub padding-same : (w w' : List ℕ) → cell_at w' 0 ≡ cell_at w 0 → padding w' ≡ padding w
unfolding cell_at padding
padding-same w w' e = ap padding_in e

-- ---- what is written
-- eight stores write a record
pub record-wrote : (w : List ℕ) (k : ℕ) (v : Record) → Room w (k + 1) → WroteRecord w (stored w (k + 1) (cell_of v)) k v
unfolding cell_at record_at
record-wrote w k v room =
    let o = stored-wrote w (k + 1) (cell_of v) room in
    record { here = ap record_in o.here; there = o.there; long = o.long }

-- and a header with its padding
abbrev padded_cell : Header → Node
padded_cell v = record { start = v.opened; «end» = v.free; left = 0; right = 0; height = 0; runs = 0; ones = 0; tag = 0 }

pub header-made : (w : List ℕ) (v : Header) → Room w 0 → MadeHeader w (stored w 0 (padded_cell v)) v
unfolding cell_at header_at padding
header-made w v room =
    let o = stored-wrote w 0 (padded_cell v) room in
    record { here = ap header_in o.here; padded = ap padding_in o.here; there = λ m pos. o.there m (λ e. omega arith); long = o.long }

-- two stores write a header
module _ (w : List ℕ) (v : Header) (room : Room w 0) where
  abbrev w' : List ℕ
  w' = set (set w 0 v.opened) 1 v.free

  past : (j : ℕ) → 2 ≤ j → get_or w' j 0 ≡ get_or w j 0
  past j l = get_or-set_other (set w 0 v.opened) 1 j v.free 0 (λ e. omega arith) ∙ get_or-set_other w 0 j v.opened 0 (λ e. omega arith)

  pub header-wrote : WroteHeader w w' v
  unfolding cell_at header_at padding
  header-wrote = record {
    here = λ i. record {
      opened = (get_or-set_other (set w 0 v.opened) 1 0 v.free 0 (λ e. omega arith) ∙ get_or-set_same w 0 v.opened 0 (omega arith)) i;
      free = get_or-set_same (set w 0 v.opened) 1 v.free 0 (simp length-set (omega arith)) i;
    };
    padding = λ i.
        past 2 (omega arith) i ∷ past 3 (omega arith) i ∷ past 4 (omega arith) i ∷ past 5 (omega arith) i ∷ past 6 (omega arith) i
        ∷ past 7 (omega arith) i ∷ [];
    there = λ m pos.
        same-node (cell_at w' m) (cell_at w m) (past (8 * m) (omega arith)) (past (8 * m + 1) (omega arith)) (past (8 * m + 2) (omega arith))
        (past (8 * m + 3) (omega arith)) (past (8 * m + 4) (omega arith)) (past (8 * m + 5) (omega arith)) (past (8 * m + 6) (omega arith))
        (past (8 * m + 7) (omega arith));
    long = simp length-set;
  }

-- both make a world the pool's again
pub headed : {w w₁ w₂ : List ℕ} {h : World} {a : Header} {v : Record} → a ≡ header_at w → v ≡ record_at w₁ h.tag
    → WroteHeader w w₁ (record { opened = a.opened; free = h.free }) → WroteRecord w₁ w₂ h.tag (record_of h v.floor v.ceiling) → Headed w w₂ h
headed {w} {w₁} {w₂} {h} ea ev p q = record {
  header = header-same w₁ w₂ (q.there 0 (λ i. omega arith)) ∙ p.here ∙ ap (λ (z : Header). record { opened = z.opened; free = h.free }) ea;
  padding = padding-same w₁ w₂ (q.there 0 (λ i. omega arith)) ∙ p.padding;
  here = q.here ∙ ap (λ (z : Record). record_of h z.floor z.ceiling) (ev ∙ record-same w w₁ h.tag (p.there (h.tag + 1) (omega arith)));
  there = λ m pos ne. q.there m ne ∙ p.there m pos;
  long = q.long ∙ p.long;
}

-- so the words can be made such
pub headed-there : (w : List ℕ) (h : World) → Room w 0 → Room w (h.tag + 1) → (w' : List ℕ) × Headed w w' h
headed-there w h r q =
    let a = header-wrote w (record { opened = opened_at w; free = h.free }) r in
    let v : Record = record_of h (floor_at (set (set w 0 (opened_at w)) 1 h.free) h.tag) (ceiling_at (set (set w 0 (opened_at w)) 1 h.free) h.tag) in
    (_, headed refl refl a (record-wrote (set (set w 0 (opened_at w)) 1 h.free) h.tag v (omega (arith, a.long))))
