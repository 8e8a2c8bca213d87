-- Decimals: `decimal` is what std writes of a number of positions. Assumes nothing.
use Prim.Native.Nat.{ℕ, zero, suc, ◌/◌, ◌%◌, ◌^◌, ◌≤◌, ◌<◌}
use mathlib.Core.Path.{◌≡◌, sym, ap, ◌∙◌}
use mathlib.Core.Logic.{◌⊎◌, inl, inr}
use mathlib.Core.Bool.{false, cond}
use mathlib.Core.List.{List, [], ◌∷◌, ◌++◌, append_assoc, append-nil}
use native.Mathlib.Omega.{arith}
use lib.Dec.{ltb}
use borrow.Author.Tests.{lt-ltb, le-ltb, eq-eqb, ne_eqb}
use Rattle.std.specs.Fmt
use Rattle.std.specs.Fmt.{digits_onto}
use Rattle.model.proofs.Numbers.{split}
use Rattle.listset.specs.Digits.{last_digits, hex_digit_ascii}
use Rattle.listset.specs.Text.{places, decimal}

-- std's digits of a number, put before what follows them: the last digit, and before it those of a tenth of the number
module _ (k n : ℕ) (acc : List ℕ) where
  abbrev digit : ℕ
  digit = hex_digit_ascii (n % 10)

  last-one : n < 10 → digits_onto (suc k) 10 false n acc ≡ digit ∷ acc
  last-one h = ap (λ t. cond t (digit ∷ acc) (digits_onto k 10 false (n / 10) (digit ∷ acc))) (eq-eqb (n / 10) 0 (omega arith))

  one-more : 10 ≤ n → digits_onto (suc k) 10 false n acc ≡ digits_onto k 10 false (n / 10) (digit ∷ acc)
  one-more h = ap (λ t. cond t (digit ∷ acc) (digits_onto k 10 false (n / 10) (digit ∷ acc))) (ne_eqb (n / 10) 0 (λ e. omega (arith, e)))

-- they are as many as its places
onto : (f k n : ℕ) (acc : List ℕ) → n < 10 ^ suc f → f < k → digits_onto k 10 false n acc ≡ last_digits 10 (places f n) n ++ acc
unfolding places
onto f zero n acc h l = absurd (omega (arith, l))
onto zero (suc k) n acc h l = last-one k n acc (omega (arith, h))
onto (suc f) (suc k) n acc h l = go (split n 10) (λ g. onto f k (n / 10) (hex_digit_ascii (n % 10) ∷ acc) (omega (arith, h)) (omega (arith, l)))
  where
    go : (n < 10) ⊎ (10 ≤ n)
        → (10 ≤ n → digits_onto k 10 false (n / 10) (hex_digit_ascii (n % 10) ∷ acc) ≡ last_digits 10 (places f (n / 10)) (n / 10) ++ hex_digit_ascii (n % 10) ∷ acc)
        → digits_onto (suc k) 10 false n acc ≡ last_digits 10 (cond (ltb n 10) 1 (suc (places f (n / 10)))) n ++ acc
    go (inl g) rest = last-one k n acc g ∙ ap (λ t. last_digits 10 (cond t 1 (suc (places f (n / 10)))) n ++ acc) (sym (lt-ltb n 10 g))
    go (inr g) rest =
        one-more k n acc g
        ∙ rest g
        ∙ sym (append_assoc (last_digits 10 (places f (n / 10)) (n / 10)) (hex_digit_ascii (n % 10) ∷ []) acc)
        ∙ ap (λ t. last_digits 10 (cond t 1 (suc (places f (n / 10)))) n ++ acc) (sym (le-ltb n 10 g))

-- std's decimal of a number of positions is the same
pub decimal-is : (n : ℕ) → n ≤ 2 ^ 64 → Fmt.decimal n ≡ decimal n
unfolding decimal Fmt.digits
decimal-is n h = onto 19 64 n [] (omega (arith, h)) (omega arith) ∙ append-nil (last_digits 10 (places 19 n) n)
