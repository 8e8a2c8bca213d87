-- `word_at` meets its contract: the array has the eight bytes, and the number that they are, the lowest first, is the word. Assumes nothing.
use Rattle.std.proofs.Common.{◌≡◌, ◌∙◌, ◌+◌, ◌-◌, take, drop, ap, get_or, rules, arith}
use Rattle.std.proofs.lemmas.List.{places}
use Rattle.maps.proofs.Words.{word-is}
use Rattle.maps.proofs.word.word_at.Goals as goal

pub returns : goal.returns
returns c =
    let a = c.args in
    let b : c.unwrap-word.result ≡ take (a.j + 8 - a.j) (drop a.j a.bytes.now) = search rules in
    c.from_le_bytes.ensures ∙ word-is a.bytes.now _ a.j (λ j. omega (arith, c.type_inv.bytes j)) (λ i h. ap (λ xs. get_or xs i 0) b ∙ search (rules, places))
