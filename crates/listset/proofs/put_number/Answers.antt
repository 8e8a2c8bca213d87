-- What std writes of a number of positions is `decimal`.
use mathlib.Core.Path.{◌∙◌, ap}
use mathlib.Core.List.{List, ◌++◌}
use Rattle.std.proofs.Common.{ℕ, ◌≡◌, ◌≤◌, ◌^◌}
use Rattle.std.specs.Fmt
use Rattle.listset.specs.Text.{decimal}
use Rattle.listset.proofs.Decimals.{decimal-is}
use Rattle.listset.proofs.Putting.{and_then, cut_short, same_text}
use Rattle.listset.proofs.put_number.Goals as goal

spelled : (n : ℕ) (after text : List ℕ) → text ≡ Fmt.decimal n → n ≤ 2 ^ 64 → text ++ after ≡ decimal n ++ after
spelled n after text e h = ap (λ d. d ++ after) (e ∙ decimal-is n h)

pub returns-in_err-put : goal.returns-in_err-put
returns-in_err-put c =
    same_text (spelled c.args.n c.args.after.now c.format.result.now c.format.ensures.text c.requires)
    (cut_short c.args.after.now c.in_err-put.ensures c.from_residual.ensures.0)

pub returns : goal.returns
returns c = same_text (spelled c.args.n c.args.after.now c.format.result.now c.format.ensures.text c.requires) (and_then c.in_ok-put.ensures c.put-2.ensures)
