use Rattle.std.proofs.Common.{sym, drop}
use Rattle.point_log.proofs.Serving.{same_served}
use Rattle.point_log.proofs.served.gone_on.Goals as goal

pub returns-then-eq-clause-state : goal.returns-then-eq-clause-state
returns-then-eq-clause-state c = same_served c.args.served.at c.args.at.now c.args.log.now.items (drop c.args.served.done c.args.cells.now) c.args.served.state (sym c.if-eq.ensures)
