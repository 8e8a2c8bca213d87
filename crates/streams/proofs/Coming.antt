-- A list as it comes from an iterator, element by element. Assumes nothing.
use Rattle.std.proofs.Common.{◌≡◌, ℕ, ◌+◌, ◌<◌, ◌≤◌, ◌⊎◌, Option, None, Some, List, length, get_or, drop, inl, inr, add-one, drop-cons}
use lib.ListN.{drop_of_length-le}
use Rattle.std.specs.Iterator.{AlwaysYields}
use Rattle.model.proofs.Numbers.{split}

module _ {S A : Type 0} (steps : S → Option A → S → Type 0) (xs : List A) (i : ℕ) (d : A) (s t : S) (y : AlwaysYields steps (λ x. x) s (drop i xs)) where
  -- where i came, the next one is element i
  pub comes-next : (x : A) → steps s (Some x) t → (i < length xs) × (x ≡ get_or xs i d) × AlwaysYields steps (λ x. x) t (drop (i + 1) xs)
  comes-next x p = go (split i (length xs))
    where
      go : (i < length xs) ⊎ (length xs ≤ i) → (i < length xs) × (x ≡ get_or xs i d) × AlwaysYields steps (λ x. x) t (drop (i + 1) xs)
      go (inl l) = let k = (rw (drop-cons xs i d l) at y).1 x t p in (l, k.0, rw add-one k.1)
      go (inr l) = absurd ((rw (drop_of_length-le xs l) at y) x t p)

  -- or all came
  pub comes-none : steps s None t → length xs ≤ i
  comes-none p = go (split i (length xs))
    where
      go : (i < length xs) ⊎ (length xs ≤ i) → length xs ≤ i
      go (inl l) = absurd ((rw (drop-cons xs i d l) at y).0 t p)
      go (inr l) = l
