-- A chain that ends meets no node twice: a link leads to one chain, and a chain that came back to a node would be longer than itself. Its
-- nodes are free. Assumes nothing.
use Rattle.pool.proofs.Base.{◌≡◌, ℕ, suc, ◌+◌, ◌≤◌, List, [], ◌∷◌, length, sym, refl, ap, ◌∙◌, subst, arith, ℕ_discrete, Node, cell_at, δ, δ-other, δ≤1, times, Chain, cell_at, Room, free_cell}

-- a free node of the pool
pub record FreeAt (w : List ℕ) (n : ℕ) : Type 0 where
  pub some : 1 ≤ n
  pub room : Room w n
  pub zeros : cell_at w n ≡ free_cell (cell_at w n).left

-- a link leads to chains of one length
one-length : (w : List ℕ) (k j : ℕ) (xs ys : List ℕ) → k ≡ j → Chain w k xs → Chain w j ys → length xs ≡ length ys
one-length w k j [] [] e p q = refl
one-length w k j [] (y ∷ ys) e p q = absurd (let a : k ≡ 0 = p in let b = q.0 in let f = q.1 in omega arith)
one-length w k j (x ∷ xs) [] e p q = absurd (let a : j ≡ 0 = q in let b = p.0 in let f = p.1 in omega arith)
one-length w k j (x ∷ xs) (y ∷ ys) e p q =
    ap suc (one-length w (cell_at w x).left (cell_at w y).left xs ys
    (ap (λ (n : ℕ). (cell_at w n).left) (sym p.0 ∙ e ∙ q.0)) p.4 q.4)

-- a node of a chain: it is free, and a chain no longer than the whole starts there
pub record InChain (w : List ℕ) (m c : ℕ) : Type 0 where
  pub free : FreeAt w m
  pub rest : List ℕ
  pub chain : Chain w m rest
  pub short : length rest ≤ c

-- each node of a chain is in-chain so
pub in-chain : (w : List ℕ) (k : ℕ) (ns : List ℕ) → Chain w k ns → (m : ℕ) → 1 ≤ times m ns → InChain w m (length ns)
in-chain w k [] c m i = absurd (omega arith)
in-chain w k (n ∷ ns) c m i = go (ℕ_discrete m n) (in-chain w (cell_at w n).left ns c.4 m)
  where
    go : Dec (m ≡ n) → (1 ≤ times m ns → InChain w m (length ns)) → InChain w m (length (n ∷ ns))
    go (yes e) ih =
        subst (λ (j : ℕ). InChain w j (length (n ∷ ns))) (sym e) (record {
          free = record { some = c.1; room = c.2; zeros = c.3 };
          rest = n ∷ ns;
          chain = (refl, c.1, c.2, c.3, c.4);
          short = omega arith;
        })
    go (no ne) ih =
        let h = ih (omega (arith, δ-other m n ne)) in
        record { free = h.free; rest = h.rest; chain = h.chain; short = omega (arith, h.short) }

-- no node is in-chain twice
pub chain-once : (w : List ℕ) (k : ℕ) (ns : List ℕ) → Chain w k ns → (m : ℕ) → times m ns ≤ 1
chain-once w k [] c m = omega arith
chain-once w k (n ∷ ns) c m =
    go (ℕ_discrete m n) (ℕ_discrete (times m ns) 0) (chain-once w (cell_at w n).left ns c.4 m) (in-chain w (cell_at w n).left ns c.4 m)
  where
    go : Dec (m ≡ n) → Dec (times m ns ≡ 0) → times m ns ≤ 1 → (1 ≤ times m ns → InChain w m (length ns)) → δ m n + times m ns ≤ 1
    go (no ne) d ih h = omega (arith, δ-other m n ne)
    go (yes e) (yes z) ih h = omega (arith, δ≤1 m n)
    go (yes e) (no some) ih h =
        let x = h (omega arith) in
        let l = one-length w m k x.rest (n ∷ ns) (e ∙ sym c.0) x.chain c in
        absurd (omega (arith, x.short))

-- a node of a chain is free
pub chain-free : (w : List ℕ) (k : ℕ) (ns : List ℕ) → Chain w k ns → (m : ℕ) → 1 ≤ times m ns → FreeAt w m
chain-free w k ns c m i = (in-chain w k ns c m i).free

-- its height word is 0
pub free-low : {w : List ℕ} {m : ℕ} → FreeAt w m → (cell_at w m).height ≡ 0
free-low f = ap (λ (v : Node). v.height) f.zeros
