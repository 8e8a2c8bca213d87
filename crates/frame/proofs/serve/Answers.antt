-- `serve`: a record that asks at no world is refused with 12, and any other is answered as its call is. Assumes nothing.
use mathlib.Core.Path.{sym, ap}
use Rattle.frame.specs.Records.{numbered}
use Rattle.frame.proofs.Arms.{withdrawn-served}
use Rattle.frame.proofs.serve.Goals as goal

pub returns-in_default-clause-serves : goal.returns-in_default-clause-serves
returns-in_default-clause-serves c = withdrawn-served c.args.e c.args.pool.now.checked (ap numbered (sym c.in_default.ensures)) c.lay.ensures
