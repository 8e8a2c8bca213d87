-- Bytes that are read into a slice, one reading after another. Assumes nothing.
use Rattle.std.proofs.Common.{◌≡◌, ℕ, ◌+◌, ◌≤◌, List, ◌++◌, length, take, drop, sym, ap, ◌∙◌, subst, arith, append-nil, length-take, take_all}
use Rattle.std.proofs.lemmas.List.{take_at}
use Rattle.std.specs.Prelude.{Option, None, Some, IfSome}
use Rattle.std.specs.Io.KnownBytes.{Consumes, IsAtEnd}
use Rattle.std.proofs.KnownBytes.{Consumes-trans}
use lib.Seq.{take-add}

-- k bytes were read behind n
pub read-next : (a b c : Option (List ℕ)) (n k m : ℕ) (old new : List ℕ) → m ≡ n + k → Consumes a b (take n old) → take n new ≡ take n old
    → Consumes b c (take k (drop n new)) → Consumes a c (take m new)
read-next a b c n k m old new e p same q =
    subst (Consumes a c) (ap (λ l. l ++ take k (drop n new)) (sym same) ∙ sym (take-add n k new) ∙ ap (λ j. take j new) (sym e)) (Consumes-trans a b c _ _ p q)

-- an input that has ended gave all its bytes, if they are no more than m
pub read-whole : (m n : ℕ) (a b : Option (List ℕ)) (xs : List ℕ) → n ≤ m → Consumes a b (take n xs) → IsAtEnd b → IfSome a (λ all. take n xs ≡ take m all)
read-whole m n None b xs h p q = tt
read-whole m n (Some x) None xs h p q = absurd p
read-whole m n (Some x) (Some y) xs h p q =
    sym (take_all m (take n xs) (omega (arith, h, length-take n xs))) ∙ ap (take m) (sym (p ∙ ap (λ l. take n xs ++ l) q ∙ append-nil (take n xs)))

-- m bytes that were read are its first
pub read-full : (m n : ℕ) (a b : Option (List ℕ)) (xs : List ℕ) → m ≤ n → length xs ≡ m → Consumes a b (take n xs) → IfSome a (λ all. take n xs ≡ take m all)
read-full m n None b xs h l p = tt
read-full m n (Some x) None xs h l p = absurd p
read-full m n (Some x) (Some y) xs h l p = sym (take_at (take n xs) y m (omega (arith, h, l, length-take n xs))) ∙ ap (take m) (sym p)
