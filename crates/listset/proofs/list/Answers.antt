-- `list` meets its contract: what is read of the input is shown. Assumes nothing.
use Rattle.std.proofs.Common.{take}
use Rattle.listset.proofs.Showing.{lists-read}
use Rattle.listset.proofs.list.Goals as goal

pub returns : goal.returns
returns g c = lists-read _ _ _ (take c.in-Ok.n c.read_all.new.room) c.show.result c.in-Ok.ensures.bytes c.show.ensures
