-- `set_of` meets its contract: a search sees the runs that the world's root leads to. Assumes nothing.
use Rattle.pool.proofs.Base.{length, sym, ap, ◌∙◌, Set, held}
use Rattle.pool.proofs.Opening.{standing-counted}
use Rattle.pool.proofs.Reached.{kept-seen}
use Rattle.pool.proofs.set_of.Goals as goal

pub returns : goal.returns
returns c = record {
  is = c.of.ensures;
  positions = ap held c.of.ensures ∙ kept-seen c.requires.1.kept c.args.h.offset;
  runs = standing-counted c.requires.1 ∙ ap (λ (s : Set). length s.runs) (sym c.of.ensures);
}
