-- Resizing a run leaves the nodes where they are: the tree has the numbers that it had, so neither the links nor the free chain change. The
-- runs are those with the new one in the old one's place, which are asked to be canonical. Assumes nothing.
use Rattle.pool.proofs.Base.{◌≡◌, ℕ, ◌+◌, ◌-◌, ◌%◌, ◌^◌, ◌≤◌, List, [], ◌∷◌, sym, ap, ◌∙◌, subst}
use Rattle.pool.proofs.Base.{inl, inr, arith, Run, size, Canon, Tree, inorder, Made, Free, strung-kept, Links, Footprint, Represents}
use native.Mathlib.Nat.{mod-add-mod}
use Rattle.model.specs.Positions.{run}
use Rattle.run_index.specs.Order.{replace_run, Has}
use Rattle.run_index.specs.Shape.{resized}
use Rattle.run_index.specs.Promises.{MayResize, Resizes}
use Rattle.run_index.proofs.Resized.{resize-count, resize-runs, resize-balanced, resize-inorder}
use Rattle.run_index.proofs.Leading.{has-leads}
use Rattle.pool.specs.Free.{Alterable, Changes}
use Rattle.pool.proofs.Nodes.{node-once, kept-still}
use Rattle.pool.proofs.Freeing.{kept-rising, kept-owned, world-tag}

-- a run of canonical runs has its ends in order
has-ordered : (k l total lo : ℕ) (rs : List Run) → Canon total lo rs → Has k l rs → k ≤ l
has-ordered k l total lo [] c h = absurd h
has-ordered k l total lo (r ∷ rs) c (inl e) = omega (arith, c.1, e.0, e.1)
has-ordered k l total lo (r ∷ rs) c (inr h) = has-ordered k l total (r.«end» + 2) rs c.3 h

-- the difference of two widths is that of their ends
gain-width : (u v more : ℕ) → (more + u) % 2 ^ 64 ≡ v → ((u + 1) % 2 ^ 64 + more) % 2 ^ 64 ≡ (v + 1) % 2 ^ 64
gain-width u v more e = simp mod-add-mod (ap (λ n. n % 2 ^ 64) (omega arith) ∙ sym (mod-add-mod (more + u) (2 ^ 64) 1) ∙ ap (λ n. (n + 1) % 2 ^ 64) e)

module _ {w : List ℕ} {s : Footprint} {x : Links} {k l a b : ℕ} {t : Tree} {ns : List ℕ} (r : Alterable w s x k l a b t ns) where
  -- the run has its ends in order
  pub old-ordered : k ≤ l
  old-ordered = has-ordered k l size 0 (inorder t) r.kept.ordered r.has

  -- it may become a .. b, which has more positions by the difference of the widths
  pub alter-resizes : (more : ℕ) → (more + (l - k)) % 2 ^ 64 ≡ b - a → MayResize w x.root k l a b more x.tag t
  alter-resizes more e = record {
    owned = kept-owned r.kept;
    leads = has-leads k l 0 t (kept-rising r.kept) r.has;
    ordered = r.ordered;
    gains = gain-width (l - k) (b - a) more e;
  }

module _ {w w' : List ℕ} {s : Footprint} {x : Links} {k l a b : ℕ} {t : Tree} {ns : List ℕ} (r : Alterable w s x k l a b t ns)
    (md : Made w w' x.tag x.root t (resized k a b t)) where
  -- the runs are those with the new one
  runs-replaced : inorder (resized k a b t) ≡ replace_run k (run a b) (inorder t)
  runs-replaced = resize-inorder k a b 0 t (kept-rising r.kept)

  -- the resized tree and the chain share the nodes out as before
  resized-kept : Represents w' s x (resized k a b t) ns
  resized-kept = record {
    sized = md.long ∙ r.kept.sized;
    few = r.kept.few;
    part = r.kept.part;
    linked = world-tag r.kept md.at;
    tagged = r.kept.tagged;
    once = λ m. omega (arith, resize-count k a b m t, r.kept.once m);
    ordered = subst (Canon size 0) (sym runs-replaced) r.fits;
    balanced = resize-balanced k a b t r.kept.balanced;
    chained = strung-kept Free w w' md.long x.free ns 0 (λ m i. md.kept m (omega (arith, node-once r.kept m))) r.kept.chained;
    shared = λ m q le. omega (arith, resize-count k a b m t, r.kept.shared m q le);
    counted = omega (arith, resize-runs k a b t, r.kept.counted);
  }

-- the run is changed
pub change-becomes : {w w' : List ℕ} {x : Links} {k l a b : ℕ} (more : ℕ) → (more + (l - k)) % 2 ^ 64 ≡ b - a → Resizes w w' x.root k a b more → Changes w w' x k l a b
change-becomes {x = x} {k = k} {l = l} {a = a} {b = b} more e rs s t ns r =
    let md = rs l x.tag t (alter-resizes r more e) in
    record {
      tree = resized k a b t;
      nodes = ns;
      kept = resized-kept r md;
      runs-are = runs-replaced r md;
      still = kept-still r.kept (λ m z. md.kept m (omega arith)) md.long;
    }
