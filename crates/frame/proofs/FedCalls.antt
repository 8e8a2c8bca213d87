-- Each record is a call, each call has one answer, and each answer one record. Assumes nothing.
use Rattle.std.specs.Prelude.{◌≡◌, ℕ, zero, suc, ◌*◌, List, [], ◌∷◌, length}
use mathlib.Core.Path.{refl, ap}
use native.Mathlib.Omega.{arith}
use Rattle.model.specs.Call.{PoolCall, Answer}
use Rattle.model.specs.Model.{Plan}
use Rattle.model.specs.Pools.{PlainWorld, step, answers}
use Rattle.frame.specs.Records.{calls_from}
use Rattle.flat.specs.Records.{records_of}

pub calls-length : (ws : List ℕ) (i n : ℕ) → length (calls_from ws i n) ≡ n
unfolding calls_from
calls-length ws i zero = refl
calls-length ws i (suc n) = ap suc (calls-length ws (suc i) n)

pub answers-length : (C : ℕ) (ws : List PlainWorld) (cs : List (PoolCall Plan)) → length (answers C ws cs) ≡ length cs
unfolding answers
answers-length C ws [] = refl
answers-length C ws (c ∷ cs) = ap suc (answers-length C (step C ws c).worlds cs)

-- a record is eight words
pub records-length : (rs : List Answer) → length (records_of rs) ≡ 8 * length rs
unfolding records_of
records-length [] = refl
records-length (a ∷ rs) = omega (arith, records-length rs)
