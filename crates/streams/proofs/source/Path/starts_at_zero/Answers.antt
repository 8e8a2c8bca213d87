-- `starts_at_zero` meets its contract: the nearest node on the path has the first run to come. Assumes nothing.
use Rattle.streams.proofs.Tops.{last-zero}
use Rattle.streams.proofs.source.Path.starts_at_zero.Goals as goal

pub returns-in-Some : goal.returns-in-Some
returns-in-Some c = λ rs h. last-zero c.as_slice.ensures.value c.in-Some.ensures.value h c.read_node.ensures
