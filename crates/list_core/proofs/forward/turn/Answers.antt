use Rattle.list_core.proofs.Places.{turned}
use Rattle.list_core.proofs.forward.turn.Goals as goal

pub returns : goal.returns
returns g c = turned c.args.items.now _ c.args.place c.requires c.rotate_right.ensures.after
