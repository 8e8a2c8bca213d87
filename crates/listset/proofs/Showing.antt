-- What is read of an input, a byte more than is taken, prints as the whole of it does; so what is written of those bytes is written of the input.
-- Assumes nothing.
use Rattle.std.proofs.Common.{◌≡◌, ℕ, ◌<◌, ◌≤◌, ◌⊎◌, inl, inr, List, length, take, sym, ap, ◌∙◌, subst, arith}
use Rattle.std.proofs.Common.{take_all, length-take}
use Rattle.std.specs.Prelude.{Option, None, Some, Result, Ok, Err, IfSome}
use Rattle.std.specs.Io.KnownBytes.{Appends}
use Rattle.model.proofs.Numbers.{split}
use Rattle.listset.specs.declared.Failure.{Failure}
use Rattle.listset.specs.declared.Failure.TheVariants.{Input, Output}
use Rattle.listset.specs.Text.{printed}
use Rattle.listset.specs.Shown.{Shows, Lists}
use Rattle.listset.proofs.Answering.{too_long}

-- so many bytes tell whether there are too many
printed-front : (all : List ℕ) → printed (take 15206 all) ≡ printed all
printed-front all = go (split (length all) 15206)
  where
    go : (length all < 15206) ⊎ (15206 ≤ length all) → printed (take 15206 all) ≡ printed all
    go (inl l) = ap printed (take_all 15206 all (omega arith))
    go (inr l) = too_long (take 15206 all) (omega (arith, length-take 15206 all)) ∙ sym (too_long all (omega arith))

-- what was read and shown
pub lists-read : (left old new : Option (List ℕ)) (bs : List ℕ) (r : Result Unit Failure) → IfSome left (λ all. bs ≡ take 15206 all)
    → Shows old new bs r → Lists left old new r
lists-read None old new bs (Ok u) e s = tt
lists-read (Some all) old new bs (Ok u) e s = subst (Appends old new) (ap printed e ∙ printed-front all) s
lists-read left old new bs (Err Input) e s = absurd s
lists-read left old new bs (Err Output) e s = s
