-- `find` meets its contract: where the reader stands tells the part. Assumes nothing.
use Rattle.streams.proofs.Readers.{find-first, find-last}
use Rattle.streams.proofs.source.Reader.find.Goals as goal

pub returns-then-from-seam : goal.returns-then-from-seam
returns-then-from-seam c = find-first _ _ _ _ c.first.result c.seam.ensures c.if-from-seam.true c.first.ensures

pub returns-else-from-seam : goal.returns-else-from-seam
returns-else-from-seam c = find-last _ _ _ _ c.last.result c.seam.ensures c.if-from-seam.false c.last.ensures
