-- Threading the nodes that have no height, from the last on down, each before the one threaded last: so at each step the chain goes through those
-- after the nodes left. Assumes nothing.
use Rattle.pool.proofs.Base.{ℕ_discrete, Node, cell_at, Room, Wrote, times, free_cell, Free, δ-same, δ-other, strung-kept, Chain, lows}
use Prim.Native.Nat.{ℕ, zero, suc, ◌+◌, ◌-◌, ◌*◌, ◌≤◌, ◌<◌}
use mathlib.Core.Path.{◌≡◌, refl, sym, ap, ◌∙◌, subst}
use mathlib.Core.Logic.{inl, inr}
use mathlib.Core.Bool.{cond}
use mathlib.Core.List.{List, [], ◌∷◌}
use native.Mathlib.Omega.{arith}
use lib.ListN.{length}
use borrow.Author.Tests.{eq-eqb, ne_eqb}
use Rattle.run_index.proofs.Trees.{δ-zero}
use Rattle.pool.specs.Relink.{Threads}

-- ---- the nodes that have no height
module _ (w : List ℕ) where
  abbrev height_of : ℕ → ℕ
  height_of m = (cell_at w m).height

  -- the first of them, or none
  lows-here : (k n : ℕ) → height_of (suc k) ≡ 0 → lows w k (suc n) ≡ suc k ∷ lows w (suc k) n
  lows-here k n e = ap (λ b. cond b (suc k ∷ lows w (suc k) n) (lows w (suc k) n)) (eq-eqb (height_of (suc k)) 0 e)

  lows-past : (k n : ℕ) → (height_of (suc k) ≡ 0 → ⊥) → lows w k (suc n) ≡ lows w (suc k) n
  lows-past k n ne = ap (λ b. cond b (suc k ∷ lows w (suc k) n) (lows w (suc k) n)) (ne_eqb (height_of (suc k)) 0 ne)

  -- how often a number stands among them, by the first
  times-here : (k n m : ℕ) → height_of (suc k) ≡ 0 → times m (lows w k (suc n)) ≡ times m (suc k ∷ lows w (suc k) n)
  times-here k n m e = ap (times m) (lows-here k n e)

  times-past : (k n m : ℕ) → (height_of (suc k) ≡ 0 → ⊥) → times m (lows w k (suc n)) ≡ times m (lows w (suc k) n)
  times-past k n m ne = ap (times m) (lows-past k n ne)

  -- none that is before them
  pub lows-before : (k n m : ℕ) → m ≤ k → times m (lows w k n) ≡ 0
  lows-before k zero m l = refl
  lows-before k (suc n) m l = go (ℕ_discrete (height_of (suc k)) 0) (lows-before (suc k) n m (omega arith))
    where
      go : Dec (height_of (suc k) ≡ 0) → times m (lows w (suc k) n) ≡ 0 → times m (lows w k (suc n)) ≡ 0
      go (yes e) ih = omega (arith, times-here k n m e, δ-other m (suc k) (λ (q : m ≡ suc k). omega arith))
      go (no ne) ih = times-past k n m ne ∙ ih

  -- none that has a height
  pub lows-high : (k n m : ℕ) → (height_of m ≡ 0 → ⊥) → times m (lows w k n) ≡ 0
  lows-high k zero m h = refl
  lows-high k (suc n) m h = go (ℕ_discrete (height_of (suc k)) 0) (lows-high (suc k) n m h)
    where
      go : Dec (height_of (suc k) ≡ 0) → times m (lows w (suc k) n) ≡ 0 → times m (lows w k (suc n)) ≡ 0
      go (yes e) ih = omega (arith, times-here k n m e, δ-other m (suc k) (λ (q : m ≡ suc k). h (ap height_of q ∙ e)))
      go (no ne) ih = times-past k n m ne ∙ ih

  -- each other one once
  pub lows-once : (k n m : ℕ) → k < m → m ≤ k + n → height_of m ≡ 0 → times m (lows w k n) ≡ 1
  lows-once k zero m l u h = absurd (omega arith)
  lows-once k (suc n) m l u h = go (ℕ_discrete m (suc k)) (ℕ_discrete (height_of (suc k)) 0) (lows-once (suc k) n m)
    where
      go : Dec (m ≡ suc k) → Dec (height_of (suc k) ≡ 0) → (suc k < m → m ≤ suc k + n → height_of m ≡ 0 → times m (lows w (suc k) n) ≡ 1)
          → times m (lows w k (suc n)) ≡ 1
      go (yes q) (yes e) ih = omega (arith, times-here k n m e, lows-before (suc k) n m (omega arith), ap (λ (j : ℕ). times j (m ∷ [])) q, δ-same m, ap (λ (j : ℕ). times m (j ∷ [])) q)
      go (yes q) (no ne) ih = absurd (ne (sym (ap height_of q) ∙ h))
      go (no d) (yes e) ih = omega (arith, times-here k n m e, δ-other m (suc k) d, ih (omega arith) (omega arith) h)
      go (no d) (no ne) ih = times-past k n m ne ∙ ih (omega arith) (omega arith) h

-- ---- threading them
-- the words w, made from w₀ with its n nodes: the low ones after the first `left` nodes are the free chain from `next`, and no other cell has changed
pub record Threading (w₀ w : List ℕ) (n left next : ℕ) : Type 0 where
  pub sized : length w₀ ≡ 8 * (n + 1)
  pub long : length w ≡ length w₀
  pub done : ℕ
  pub all : left + done ≡ n
  pub chain : Chain w next (lows w₀ left done)
  pub kept : (m : ℕ) → times m (lows w₀ left done) ≡ 0 → cell_at w m ≡ cell_at w₀ m

-- the node at hand has room
pub threading-room : {w₀ w : List ℕ} {n left next : ℕ} → Threading w₀ w n left next → Room w left
threading-room t = omega (arith, t.all, t.long, t.sized)

module _ {w₀ w : List ℕ} {n l next : ℕ} (t : Threading w₀ w n (suc l) next) where
  abbrev rest : List ℕ
  rest = lows w₀ (suc l) t.done

  -- its cell is as it was
  same-cell : cell_at w (suc l) ≡ cell_at w₀ (suc l)
  same-cell = t.kept (suc l) (lows-before w₀ (suc l) t.done (suc l) (omega arith))

  -- the low ones after the nodes left then are ls
  threading-as : {v : List ℕ} {f : ℕ} (ls : List ℕ) → lows w₀ l (suc t.done) ≡ ls → length v ≡ length w₀ → Chain v f ls
      → ((m : ℕ) → times m ls ≡ 0 → cell_at v m ≡ cell_at w₀ m) → Threading w₀ v n l f
  threading-as {v} {f} ls e long chain kept = record {
    sized = t.sized;
    long = long;
    done = suc t.done;
    all = omega (arith, t.all);
    chain = subst (Chain v f) (sym e) chain;
    kept = λ m z. kept m (ap (times m) (sym e) ∙ z);
  }

  -- one that has no height is the first
  threaded-low : {w' : List ℕ} {r : ℕ} → (cell_at w (suc l)).height ≡ 0 → r ≡ suc l → Wrote w w' (suc l) (free_cell next) → Threading w₀ w' n l r
  threaded-low {w'} h er wr =
      let low : (cell_at w₀ (suc l)).height ≡ 0 = ap (λ (v : Node). v.height) (sym same-cell) ∙ h in
      let chain : Chain w' next rest =
      strung-kept Free w w' wr.long next rest 0 (λ m i. wr.there m (λ q. omega (arith, lows-before w₀ (suc l) t.done m (omega arith)))) t.chain in
      threading-as (suc l ∷ rest) (lows-here w₀ l t.done low) (wr.long ∙ t.long)
      (er, omega arith, omega (arith, wr.long, threading-room t), wr.here ∙ ap (λ (v : Node). free_cell v.left) (sym wr.here), subst (λ (v : Node). Chain w' v.left rest) (sym wr.here) chain)
      (λ m z. wr.there m (δ-zero m (suc l) (omega arith)) ∙ t.kept m (omega arith))

  -- another one is passed by
  threaded-high : {w' : List ℕ} {r : ℕ} → ((cell_at w (suc l)).height ≡ 0 → ⊥) → r ≡ next → w' ≡ w → Threading w₀ w' n l r
  threaded-high {r = r} h er ew =
      let high : (cell_at w₀ (suc l)).height ≡ 0 → ⊥ = λ e. h (ap (λ (v : Node). v.height) same-cell ∙ e) in
      subst (λ v. Threading w₀ v n l r) (sym ew)
      (subst (Threading w₀ w n l) (sym er) (threading-as rest (lows-past w₀ l t.done high) t.long t.chain t.kept))

-- the same of any number but 0
pub threading-more : {w₀ w w' : List ℕ} {n next r : ℕ} (left : ℕ) → 0 < left → Threading w₀ w n left next → Threads w w' (left - 1 + 1) next r → Threading w₀ w' n (left - 1) r
threading-more zero some t th = absurd (omega arith)
threading-more {w₀} {w} {w'} {n} {next} {r} (suc l) some t th =
    subst (λ (j : ℕ). Threading w₀ w' n j r) (omega arith) (go (subst (λ (j : ℕ). Threads w w' j next r) (omega arith) th))
  where
    go : Threads w w' (suc l) next r → Threading w₀ w' n l r
    go (inl p) = threaded-low t p.0 p.1 p.2
    go (inr p) = threaded-high t p.0 p.1 p.2

pub ruleset threading_rules = (threading-more)
