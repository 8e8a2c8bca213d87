-- Runs put into the free chain one after the other. Assumes nothing.
use Rattle.std.proofs.Common.{◌≡◌, ℕ, ◌+◌, ◌<◌, ◌≤◌, List, [], ◌∷◌, ◌++◌, length, sym, refl, ap, ◌∙◌, subst, append_assoc, arith}
use Rattle.model.specs.declared.Run.{Run}
use Rattle.run_index.specs.declared.Node.{Node}
use Rattle.run_index.specs.Cells.{cell_at, Room, Wrote}
use Rattle.run_index.specs.Tree.{δ}
use Rattle.run_index.specs.Strung.{times, Strung, Laid, Free, Any, runs_of, laid_cell, Lays, FreeChain, Filled, Upright}
use Rattle.run_index.proofs.Trees.{δ-same}
use Rattle.run_index.proofs.Strings.{times-append, length_both, runs_of-append, runs_of-kept, strung-kept, strung-append}

-- one node is read and written
pub lays : {w w' : List ℕ} {n a b : ℕ} {v : Node} → v ≡ cell_at w n → Wrote w w' n (laid_cell a b v.left) → Lays w w' v.left n a b
lays {w} {w'} {n} {a} {b} e wr = record {
  next-is = ap (λ (u : Node). u.left) e;
  wrote = subst (λ (u : Node). Wrote w w' n (laid_cell a b u.left)) e wr;
}

-- nothing is filled yet
pub filled_none : {w : List ℕ} {k : ℕ} (ns : List ℕ) → FreeChain w k ns → Filled w w k k 0 ns []
filled_none ns c = record {
  xs = [];
  ys = ns;
  is = refl;
  many = refl;
  filled = refl;
  free = c.chain;
  runs-are = refl;
  kept = λ m z. refl;
  long = refl;
}

-- the next node has room
pub next-room : (w : List ℕ) (q : ℕ) (ys : List ℕ) → Strung Free w q ys 0 → 1 ≤ length ys → Room w q
next-room w q [] c l = absurd (omega arith)
next-room w q (n ∷ ys) c l = let ro : Room w n = c.2 in omega (arith, c.0)

-- how many are left
pub left_over : {w w' : List ℕ} {k q c : ℕ} {ns : List ℕ} {rs : List Run} (f : Filled w w' k q c ns rs) → length ns ≡ c + length f.ys
left_over f = ap length f.is ∙ length_both f.xs f.ys ∙ omega (arith, f.many)

-- one more run
step : {w w₁ w₂ : List ℕ} {k q r c a b : ℕ} {ns : List ℕ} {rs : List Run} (xs ys : List ℕ) → ((m : ℕ) → times m ns ≤ 1) → ns ≡ xs ++ ys → length xs ≡ c
    → Strung Any w₁ k xs q → Strung Free w₁ q ys 0 → runs_of w₁ xs ≡ rs → ((m : ℕ) → times m xs ≡ 0 → cell_at w₁ m ≡ cell_at w m) → length w₁ ≡ length w
    → 1 ≤ length ys → Lays w₁ w₂ r q a b → Filled w w₂ k r (c + 1) ns (rs ++ record { start = a; «end» = b } ∷ [])
step xs [] once is many filled free are kept long some ly = absurd (omega arith)
step {w} {w₁} {w₂} {k} {q} {r} {c} {a} {b} {ns} {rs} xs (n ∷ ys) once is many filled free are kept long some ly = record {
  xs = xs ++ n ∷ [];
  ys = ys;
  is = is ∙ sym (append_assoc xs (n ∷ []) ys);
  many = length_both xs (n ∷ []) ∙ omega arith;
  filled = strung-append Any w₂ k xs (n ∷ []) q r
      (strung-kept Any w₁ w₂ wr.long k xs q (λ m i. wr.there m (λ e. off m i (e ∙ free.0))) filled)
      (free.0, free.1, (let ro : Room w₁ n = free.2 in omega (arith, wr.long)), tt, ap (λ (v : Node). v.left) (ap (cell_at w₂) (sym free.0) ∙ wr.here) ∙ sym ly.next-is);
  free = subst (λ (j : ℕ). Strung Free w₂ j ys 0) (ap (λ (j : ℕ). (cell_at w₁ j).left) (sym free.0) ∙ sym ly.next-is)
      (strung-kept Free w₁ w₂ wr.long (cell_at w₁ n).left ys 0 (λ m i. wr.there m (λ e. late m i (e ∙ free.0))) free.4);
  runs-are = runs_of-append w₂ xs (n ∷ [])
      ∙ (λ i. (runs_of-kept w₁ w₂ xs (λ m l. wr.there m (λ e. off m l (e ∙ free.0))) ∙ are) i ++ record { start = (here i).start; «end» = (here i).«end» } ∷ []);
  kept = λ m z. wr.there m (λ e. omega (arith, z, times-append m xs (n ∷ []), self m (e ∙ free.0))) ∙ kept m (omega (arith, times-append m xs (n ∷ [])));
  long = wr.long ∙ long;
}
  where
    wr : Wrote w₁ w₂ q (laid_cell a b (cell_at w₁ q).left)
    wr = ly.wrote

    here : cell_at w₂ n ≡ laid_cell a b (cell_at w₁ q).left
    here = ap (cell_at w₂) (sym free.0) ∙ wr.here

    self : (m : ℕ) → m ≡ n → δ m n ≡ 1
    self m e = ap (λ (j : ℕ). δ j n) e ∙ δ-same n

    all : (m : ℕ) → times m xs + (δ m n + times m ys) ≤ 1
    all m = omega (arith, once m, ap (times m) is, times-append m xs (n ∷ ys))

    off : (m : ℕ) → 1 ≤ times m xs → m ≡ n → ⊥
    off m i e = omega (arith, all m, self m e)

    late : (m : ℕ) → 1 ≤ times m ys → m ≡ n → ⊥
    late m i e = omega (arith, all m, self m e)

pub filled-step : {w w₁ w₂ : List ℕ} {k q r c a b : ℕ} {ns : List ℕ} {rs : List Run} → FreeChain w k ns → (f : Filled w w₁ k q c ns rs) → c < length ns → Lays w₁ w₂ r q a b
    → Filled w w₂ k r (c + 1) ns (rs ++ record { start = a; «end» = b } ∷ [])
filled-step h f l ly =
    step f.xs f.ys h.once f.is f.many f.filled f.free f.runs-are f.kept f.long (omega (arith, left_over f)) ly

-- nodes with upright runs hold runs
pub strung-laid : (w : List ℕ) (k : ℕ) (ns : List ℕ) (r : ℕ) → Upright (runs_of w ns) → Strung Any w k ns r → Strung Laid w k ns r
strung-laid w k [] r u c = c
strung-laid w k (n ∷ ns) r u c = (c.0, c.1, c.2, u.0, strung-laid w (cell_at w n).left ns r u.1 c.4)
