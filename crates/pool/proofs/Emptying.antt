-- What an empty world has: the numbers of a chain through all nodes, each once, and no run, so its set is empty and it stands where no node is
-- in its tree. Assumes nothing.
use Rattle.pool.proofs.Base.{◌≡◌, ℕ, zero, suc, ◌+◌, ◌<◌, ◌≤◌, ◌&&◌, ltb, List, [], length, sym, refl, ap, ◌∙◌, arith, fun_ext, and-false, ℕ_discrete, Run, size, physical_of, mem, empty, held_runs}
use Rattle.pool.proofs.Base.{stretches, held_runs-is, stretches-is, leaf, δ, inorder, tree_from, times, δ-same, δ-other, leaf-at}
use Rattle.pool.proofs.Base.{World, Links, highest, physical_runs, turned, held_from, first_of, last_of, Footprint, Represents, Standing}
use Rattle.pool.proofs.Base.{after}

-- none of the k numbers after n is n or less
pub after_none : (n k m : ℕ) → m ≤ n → times m (after n k) ≡ 0
after_none n zero m le = refl
after_none n (suc k) m le = omega (arith, δ-other m (suc n) (λ (e : m ≡ suc n). omega arith), after_none (suc n) k m (omega arith))

-- each of the k greater ones is there once
pub after_one : (n k m : ℕ) → n < m → m ≤ n + k → times m (after n k) ≡ 1
after_one n zero m lt le = absurd (omega arith)
after_one n (suc k) m lt le = go (ℕ_discrete m (suc n)) (after_one (suc n) k m)
  where
    go : Dec (m ≡ suc n) → (suc n < m → m ≤ suc n + k → times m (after (suc n) k) ≡ 1) → δ m (suc n) + times m (after (suc n) k) ≡ 1
    go (yes e) ih = omega (arith, ap (λ (j : ℕ). δ j (suc n)) e, δ-same (suc n), after_none (suc n) k m (omega arith))
    go (no ne) ih = omega (arith, δ-other m (suc n) ne, ih (omega arith) (omega arith))

-- n itself is none of them
pub after-apart : (n k m : ℕ) → 1 ≤ times m (after n k) → m ≡ n → ⊥
after-apart n k m i e = omega (arith, after_none n k m (omega arith))

-- how many they are
pub after-length : (n k : ℕ) → length (after n k) ≡ k
after-length n zero = refl
after-length n (suc k) = ap suc (after-length (suc n) k)

-- ---- empty worlds
-- a world without a root holds nothing
pub rootless-empty : (w : List ℕ) (p o : ℕ) → p ≡ 0 → held_from w p o ≡ empty
unfolding held_from turned physical_runs tree_from mem empty
rootless-empty w p o e =
    fun_ext (λ x. ap (λ (rs : List Run). ltb x size && mem rs (physical_of x o)) (ap (λ (k : ℕ). inorder (tree_from highest w k)) e) ∙ and-false (ltb x size))

-- the empty set has no run
pub empty_runs : held_runs empty ≡ []
unfolding mem empty
empty_runs = held_runs-is empty [] tt (λ x h. refl)

-- so a world without a root has no run
pub rootless-runs : (w : List ℕ) → held_runs (held_from w 0 0) ≡ []
rootless-runs w = ap held_runs (rootless-empty w 0 0 refl) ∙ empty_runs

-- the empty set has no stretch
pub empty-stretches : stretches empty ≡ 0
unfolding mem empty
empty-stretches = stretches-is empty [] tt (λ x h. refl)

-- a world that holds nothing
abbrev pub vacant_world : Links → World
vacant_world x = record { tag = x.tag; root = 0; free = x.free; offset = 0; ones = 0; runs = 0; first = 0; last = 0 }

-- it stands where no node is in its tree
pub vacant-standing : {w : List ℕ} {s : Footprint} {x : Links} {ns : List ℕ} → x.root ≡ 0 → Represents w s x leaf ns → Standing w s (vacant_world x)
vacant-standing {w} {s} {x} {ns} z k =
    record {
      tree = leaf;
      free = ns;
      kept = record {
        sized = k.sized;
        few = k.few;
        part = k.part;
        linked = leaf-at;
        tagged = k.tagged;
        once = k.once;
        ordered = k.ordered;
        balanced = k.balanced;
        chained = k.chained;
        shared = k.shared;
        counted = k.counted;
      };
      ones-are = refl;
      runs-are = refl;
      first-is = sym (ap first_of (rootless-runs w));
      last-is = sym (ap last_of (rootless-runs w));
      empty-offset = λ _. refl;
    }
