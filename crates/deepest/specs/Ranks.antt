-- Ranks put into a slice as runs, start and end of each in turn: what it asks and promises. Assumes nothing: these are definitions.
use Rattle.std.specs.Prelude.{ℕ, ◌+◌, ◌-◌, ◌*◌, ◌≤◌, ◌≡◌, List, length}
use Rattle.model.specs.Deepest.{least, middles, runs_at, words_of, deepest_words}
use Rattle.codec.specs.Placed.{placed}

-- the ranks ks were put from p on: the next one goes to q, and out became out'
pub record Put (ks : List ℕ) (p q : ℕ) (out out' : List ℕ) : Type 0 where
  pub next : q ≡ p + 2 * length ks
  pub slice : out' ≡ placed p (words_of (runs_at ks)) out

-- there is room for the middle ranks after d partings of those from k on, of which a and b are in the two parts
pub record Puttable (out : List ℕ) (p d h k a b : ℕ) : Type 0 where
  pub low : h ≤ 22
  pub few : k + least h ≤ 46367
  pub lesser : a ≡ least (h - 1)
  pub greater : b ≡ least (h - 2)
  pub room : p + 2 * length (middles d h k) ≤ length out

-- there is room for the whole list for the height h, which has n runs
pub record Listable (out : List ℕ) (h n : ℕ) : Type 0 where
  pub some : 1 ≤ h
  pub low : h ≤ 22
  pub many : n ≡ least h
  pub room : length (deepest_words h) ≤ length out
