-- The free chain followed in strides of 64 links: whether it fits is decided by the links left. Assumes nothing.
use Rattle.pool.proofs.Base.{◌≡◌, ℕ, zero, suc, ◌+◌, ◌-◌, ◌*◌, ◌/◌, ◌%◌, ◌<◌, ◌≤◌, Bool, true, false, ◌&&◌, List, sym, refl, ap, ◌∙◌, arith, bool_byte, one_if, Node, cell_at, free_b}
use Rattle.pool.proofs.Base.{chain_b, along_of, falls, nat_tests}
use Rattle.std.proofs.Common.{if◌then◌else◌, nat_lt, ◌==◌}
use Rattle.pool.specs.Decision.{stride}
use Rattle.pool.proofs.Tests.{free-out}
use Rattle.pool.proofs.Truths.{byte-one, byte-small}

-- ---- following links
-- none is left
pub along-end : (c : ℕ) (w : List ℕ) (k : ℕ) → c ≡ 0 → k ≡ along_of c w k
unfolding along_of
along-end c w k e = rw (e)

module _ (n i : ℕ) (w : List ℕ) (k : ℕ) (left : i < n) (b : Bool) (eb : b ≡ free_b w k) where
  along-step : along_of (n - i) w k ≡ (if b then along_of (n - (i + 1)) w (cell_at w k).left else k)
  unfolding along_of
  along-step = let e : n - i ≡ suc (n - (i + 1)) = omega arith in rw (e, eb)

  -- the node at hand is not free
  pub along-stays : b ≡ false → k ≡ along_of (n - i) w k
  along-stays t = sym (along-step ∙ ap (λ (f : Bool). if f then along_of (n - (i + 1)) w (cell_at w k).left else k) t)

  -- it is
  pub along-more : b ≡ true → (v : Node) → v ≡ cell_at w k → along_of (n - (i + 1)) w v.left ≡ along_of (n - i) w k
  along-more t v ev =
      ap (λ (u : Node). along_of (n - (i + 1)) w u.left) ev
      ∙ sym (along-step ∙ ap (λ (f : Bool). if f then along_of (n - (i + 1)) w (cell_at w k).left else k) t)

-- ---- the chain that is left
-- the first link of a chain
chain-first : (c d : ℕ) (w : List ℕ) (k : ℕ) → c ≡ suc d → chain_b c w k ≡ (free_b w k && chain_b d w (cell_at w k).left)
unfolding chain_b
chain-first c d w k e = rw (e)

-- j links were followed, and one at least is left: it does not go on from a node that is not free
chain-along : (j d : ℕ) (w : List ℕ) (k : ℕ) → chain_b (j + suc d) w k ≡ chain_b (suc d) w (along_of j w k)
unfolding along_of
chain-along zero d w k = ap (λ (c : ℕ). chain_b c w k) (omega arith)
chain-along (suc j) d w k =
    chain-first (suc j + suc d) (j + suc d) w k (omega arith)
    ∙ go (free_b w k) (chain-along j d w (cell_at w k).left) (chain-first (suc d) d w k refl)
  where
    m : ℕ
    m = (cell_at w k).left

    go : (b : Bool) → chain_b (j + suc d) w m ≡ chain_b (suc d) w (along_of j w m) → chain_b (suc d) w k ≡ (b && chain_b d w m)
        → (b && chain_b (j + suc d) w m) ≡ chain_b (suc d) w (if b then along_of j w m else k)
    go true rest here = rest
    go false rest here = sym here

-- a whole stride was
chain-stride : (c : ℕ) (w : List ℕ) (k : ℕ) → 64 < c → chain_b c w k ≡ chain_b (c - 64) w (stride w k)
chain-stride c w k more =
    ap (λ (n : ℕ). chain_b n w k) (omega arith) ∙ chain-along 63 (c - 64) w k
    ∙ ap (λ (n : ℕ). chain_b n w (along_of 63 w k)) (omega arith) ∙ chain-along 1 (c - 65) w (along_of 63 w k)
    ∙ ap (λ (n : ℕ). chain_b n w (stride w k)) (omega arith)

-- a node that leads to itself, or that is not free, leads to no end
chain-stays : (d : ℕ) (w : List ℕ) (k : ℕ) → along_of 1 w k ≡ k → chain_b (suc d) w k ≡ false
unfolding along_of chain_b
chain-stays d w k e = chain-first (suc d) d w k refl ∙ go (free_b w k) refl e
  where
    m : ℕ
    m = (cell_at w k).left

    round : (n : ℕ) → free_b w k ≡ true → m ≡ k → chain_b n w m ≡ false
    round zero f t = rw (t) (let some = (free-out w k f).some in grind (arith, nat_tests))
    round (suc n) f t = ap (chain_b (suc n) w) t ∙ chain-first (suc n) n w k refl ∙ rw (f) (round n f t)

    go : (b : Bool) → free_b w k ≡ b → (if b then m else k) ≡ k → (b && chain_b d w m) ≡ false
    go true f t = round d f t
    go false f t = refl

-- and what is counted of the strides left
falls-more : (s : ℕ) (w : List ℕ) (k : ℕ) → 0 < s → falls s w k ≡ one_if (nat_lt (stride w k) (along_of 63 w k)) + falls (s - 1) w (stride w k)
unfolding falls
falls-more zero w k some = absurd (omega arith)
falls-more (suc d) w k some = ap (λ (n : ℕ). one_if (nat_lt (stride w k) (along_of 63 w k)) + falls n w (stride w k)) (omega arith)

-- ---- the whole
-- of a chain of c links from k, i strides led to l, and b of them ended with a link back
pub record Following (w : List ℕ) (c k i l b : ℕ) : Type 0 where
  pub chain : chain_b (c - 64 * i) w l ≡ chain_b c w k
  pub counted : b + falls ((c - 1) / 64 - i) w l ≡ falls ((c - 1) / 64) w k
  pub few : b ≤ i

-- at first none did
pub following-none : (w : List ℕ) (c k : ℕ) → Following w c k 0 k 0
following-none w c k =
    let all : (c - 1) / 64 - 0 ≡ (c - 1) / 64 = omega arith in
    record { chain = ap (λ (n : ℕ). chain_b n w k) (omega arith); counted = omega (arith, ap (λ (s : ℕ). falls s w k) all); few = omega arith }

module _ {w : List ℕ} {c k i l b : ℕ} (f : Following w c k i l b) where
  -- one more does
  pub following-more : {m n j : ℕ} → i < (c - 1) / 64 → m ≡ along_of 63 w l → n ≡ along_of 1 w m → j ≡ bool_byte (nat_lt n m) → Following w c k (i + 1) n (b + j)
  following-more {m} {n} {j} more em en ej =
      let left : (c - 1) / 64 - i - 1 ≡ (c - 1) / 64 - (i + 1) = omega arith in
      let back : j ≡ bool_byte (nat_lt (stride w l) (along_of 63 w l)) = rw (en, em) at ej in
      rw (en, em) (record {
        chain = ap (λ (d : ℕ). chain_b d w (stride w l)) (omega arith) ∙ sym (chain-stride (c - 64 * i) w l (omega arith)) ∙ f.chain;
        counted =
            omega (
              arith,
              f.counted,
              back,
              falls-more ((c - 1) / 64 - i) w l (omega arith),
              byte-one (nat_lt (stride w l) (along_of 63 w l)),
              ap (λ (s : ℕ). falls s w (stride w l)) left,
            );
        few = omega (arith, f.few, back, byte-small (nat_lt (stride w l) (along_of 63 w l)));
      })

  -- one does not, or leads nowhere else
  pub chain-broken : {m n : ℕ} → i < (c - 1) / 64 → m ≡ along_of 63 w l → n ≡ along_of 1 w m → n ≡ m → chain_b c w k ≡ false
  chain-broken {m} more em en stays =
      sym f.chain ∙ ap (λ (d : ℕ). chain_b d w l) (omega arith) ∙ chain-along 63 (c - 64 * i - 64) w l
      ∙ ap (chain_b (suc (c - 64 * i - 64)) w) (sym em) ∙ chain-stays (c - 64 * i - 64) w m (sym en ∙ stays)

  -- all did: the last link decides
  pub chain-last : i ≡ (c - 1) / 64 → 0 < c → {m : ℕ} → m ≡ along_of ((c - 1) % 64) w l → chain_b c w k ≡ (free_b w m && (cell_at w m).left == 0)
  unfolding chain_b
  chain-last all some em =
      sym f.chain ∙ ap (λ (n : ℕ). chain_b n w l) (omega arith) ∙ chain-along ((c - 1) % 64) 0 w l
      ∙ ap (chain_b 1 w) (sym em)

  -- and all are counted
  pub all-counted : i ≡ (c - 1) / 64 → falls ((c - 1) / 64) w k ≡ b
  unfolding falls
  all-counted all = let z : falls ((c - 1) / 64 - i) w l ≡ 0 = rw (let e : (c - 1) / 64 - i ≡ 0 = omega arith in e) refl in omega (arith, f.counted)

pub ruleset along_rules = (along-stays, along-more, along-end)

pub ruleset following = (following-none, following-more, chain-broken, chain-last, all-counted)
