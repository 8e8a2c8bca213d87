-- `fill_words` meets its contract: each byte of the part is filled with ones. Assumes nothing.
use Rattle.std.proofs.Common.{rules}
use Rattle.std.proofs.lemmas.List.{places}
use Rattle.maps.proofs.Painting.{fill-paints}
use Rattle.maps.proofs.paint.fill_words.Goals as goal

pub returns : goal.returns
returns c = fill-paints _ _ _ c.requires.p_le_q c.requires.q_in_bounds (search (rules, places)) (c.fill.ensures.after (λ y e. e))
