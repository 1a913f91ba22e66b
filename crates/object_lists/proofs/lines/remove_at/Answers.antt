use Rattle.object_lists.proofs.Turned.{cleared}
use Rattle.object_lists.proofs.lines.remove_at.Goals as goal

pub returns : goal.returns
returns g c = cleared _ _ _ c.requires c.remove.ensures.updates.0
