-- What a world that agreed before a .. b got a value tells of the positions held after it: the first and the last one, unless they
-- were freed. Assumes nothing.
use Rattle.pool.proofs.Base.{◌≡◌, ℕ, suc, ◌-◌, ◌<◌, ◌≤◌, max, min, Bool, true, false, ◌⊎◌, List, sym, ap, ◌∙◌, subst, inl, inr, arith, size, split, Positions, held_runs, World, Links, held_from}
use Rattle.pool.proofs.Base.{first_of, last_of}
use Rattle.model.specs.Positions.{set_range}
use Rattle.model.proofs.After.{set-inside, set_below, set-above}
use Rattle.pool.specs.Settle.{Altered, Resettable}
use Rattle.pool.proofs.Ends.{Ends, held_first, held-last, held_none, held-ends}
use Rattle.pool.proofs.Reached.{kept-held}

module _ {w : List ℕ} {ls : Links} {h : World} {a b : ℕ} {v : Bool} (re : Resettable w ls h a b v) where
  -- the positions held
  abbrev held : Positions
  held = held_from w ls.root h.offset

  -- and those that the world tells of
  abbrev before : Positions
  before = re.3

  alt : Altered h re.1 a b v before
  alt = re.5

  -- the positions held are those that the world tells of, with a .. b set
  held-set : (x : ℕ) → x < size → held x ≡ set_range a (suc b - a) v before x
  held-set x l = ap (λ (P : Positions). P x) (kept-held re.4 h.offset) ∙ alt.set_to x l

  inside_is : (x : ℕ) → a ≤ x → x ≤ b → held x ≡ v
  inside_is x l m = held-set x (omega (arith, alt.below)) ∙ set-inside a (suc b - a) v before x l (omega arith)

  below-is : (x : ℕ) → x < a → held x ≡ before x
  below-is x l = held-set x (omega (arith, alt.ordered, alt.below)) ∙ set_below a (suc b - a) v before x l

  above-is : (x : ℕ) → b < x → x < size → held x ≡ before x
  above-is x l m = held-set x m ∙ set-above a (suc b - a) v before x (omega (arith, alt.ordered))

  -- with runs it tells the ends of those that there were
  ends-were : (h.runs ≡ 0 → ⊥) → Ends before h.first h.last
  ends-were nz =
      let g = alt.some-were nz in
      subst (λ (x : ℕ). Ends before x h.last) (sym alt.first-was)
      (subst (Ends before (first_of (held_runs before))) (sym alt.last-was) (held-ends before g.0 g.1 g.2))

  -- ---- held
  module _ (ev : v ≡ true) where
    -- a is the first, if nothing was held below it
    raised-first : ((y : ℕ) → y < a → before y ≡ false) → a ≡ first_of (held_runs held)
    raised-first f =
        sym (held_first held a (omega (arith, alt.ordered, alt.below)) (inside_is a (omega arith) alt.ordered ∙ ev) (λ y l. below-is y l ∙ f y l))

    -- b is the last, if nothing was held above it
    raised-last : ((y : ℕ) → b < y → y < size → before y ≡ false) → b ≡ last_of (held_runs held)
    raised-last f =
        sym (held-last held b alt.below (inside_is b alt.ordered (omega arith) ∙ ev) (λ y l m. above-is y l m ∙ f y l m))

    -- so where nothing was
    pub alone-first : h.runs ≡ 0 → a ≡ first_of (held_runs held)
    alone-first z = raised-first (λ y l. alt.none-were z y (omega (arith, alt.ordered, alt.below)))

    pub alone-last : h.runs ≡ 0 → b ≡ last_of (held_runs held)
    alone-last z = raised-last (λ y l m. alt.none-were z y m)

    -- and before the first, after the last
    new-first : (h.runs ≡ 0 → ⊥) → a < h.first → a ≡ first_of (held_runs held)
    new-first nz q = raised-first (λ y l. (ends-were nz).under y (omega arith))

    new-last : (h.runs ≡ 0 → ⊥) → h.last < b → b ≡ last_of (held_runs held)
    new-last nz q = raised-last (λ y l m. (ends-were nz).over y (omega arith) m)

  -- ---- what was an end, and is held, is one still
  still-first : (h.runs ≡ 0 → ⊥) → h.first ≤ a → held h.first ≡ true → h.first ≡ first_of (held_runs held)
  still-first nz q e =
      sym (held_first held h.first (omega (arith, alt.ordered, alt.below)) e (λ y l. below-is y (omega arith) ∙ (ends-were nz).under y l))

  still-last : (h.runs ≡ 0 → ⊥) → b ≤ h.last → held h.last ≡ true → h.last ≡ last_of (held_runs held)
  still-last nz q e =
      sym (held-last held h.last (ends-were nz).small e (λ y l m. above-is y (omega arith) m ∙ (ends-were nz).over y l m))

  -- so of a .. b held
  module _ (ev : v ≡ true) (nz : h.runs ≡ 0 → ⊥) where
    same_first : h.first ≤ a → h.first ≡ first_of (held_runs held)
    same_first q = still-first nz q (go (split h.first a))
      where
        go : (h.first < a) ⊎ (a ≤ h.first) → held h.first ≡ true
        go (inl l) = below-is h.first l ∙ (ends-were nz).first
        go (inr l) = inside_is h.first l (omega (arith, alt.ordered)) ∙ ev

    same-last : b ≤ h.last → h.last ≡ last_of (held_runs held)
    same-last q = still-last nz q (go (split b h.last))
      where
        go : (b < h.last) ⊎ (h.last ≤ b) → held h.last ≡ true
        go (inl l) = above-is h.last l (ends-were nz).small ∙ (ends-were nz).last
        go (inr l) = inside_is h.last (omega (arith, alt.ordered)) l ∙ ev

    -- the earlier of the two is the first, and the later the last
    pub earlier_first : {r : ℕ} → r ≡ min a h.first → r ≡ first_of (held_runs held)
    earlier_first {r} e = go (split a h.first)
      where
        go : (a < h.first) ⊎ (h.first ≤ a) → r ≡ first_of (held_runs held)
        go (inl l) = (let q : r ≡ a = omega arith in q) ∙ new-first ev nz l
        go (inr l) = (let q : r ≡ h.first = omega arith in q) ∙ same_first l

    pub later_last : {r : ℕ} → r ≡ max b h.last → r ≡ last_of (held_runs held)
    later_last {r} e = go (split h.last b)
      where
        go : (h.last < b) ⊎ (b ≤ h.last) → r ≡ last_of (held_runs held)
        go (inl l) = (let q : r ≡ b = omega arith in q) ∙ new-last ev nz l
        go (inr l) = (let q : r ≡ h.last = omega arith in q) ∙ same-last l

  -- ---- freed
  module _ (ev : v ≡ false) where
    -- nothing is held where nothing was
    none-are : h.runs ≡ 0 → (x : ℕ) → x < size → held x ≡ false
    none-are z x l = go (split x a) (split b x)
      where
        go : (x < a) ⊎ (a ≤ x) → (b < x) ⊎ (x ≤ b) → held x ≡ false
        go (inl p) q = below-is x p ∙ alt.none-were z x l
        go (inr p) (inl q) = above-is x q l ∙ alt.none-were z x l
        go (inr p) (inr q) = inside_is x p q ∙ ev

    -- an end outside a .. b is one still
    pub spared-first : h.first < a → h.first ≡ first_of (held_runs held)
    spared-first l = go (split 0 h.runs)
      where
        go : (0 < h.runs) ⊎ (h.runs ≤ 0) → h.first ≡ first_of (held_runs held)
        go (inl p) = let nz : h.runs ≡ 0 → ⊥ = λ z. omega arith in still-first nz (omega arith) (below-is h.first l ∙ (ends-were nz).first)
        go (inr p) =
            let z : h.runs ≡ 0 = omega arith in
            alt.first-was ∙ ap first_of (held_none before (alt.none-were z)) ∙ sym (ap first_of (held_none held (none-are z)))

    pub spared-last : b < h.last → h.last ≡ last_of (held_runs held)
    spared-last l = go (split 0 h.runs)
      where
        go : (0 < h.runs) ⊎ (h.runs ≤ 0) → h.last ≡ last_of (held_runs held)
        go (inl p) = let nz : h.runs ≡ 0 → ⊥ = λ z. omega arith in still-last nz (omega arith) (above-is h.last l (ends-were nz).small ∙ (ends-were nz).last)
        go (inr p) =
            let z : h.runs ≡ 0 = omega arith in
            alt.last-was ∙ ap last_of (held_none before (alt.none-were z)) ∙ sym (ap last_of (held_none held (none-are z)))
