use Rattle.std.proofs.Common.{sym, ap}
use Rattle.std.specs.Fn.{CalledAt}
use Rattle.object_lists.specs.Listed.{listed}
use Rattle.object_lists.proofs.Turned.{filtered_same}
use Rattle.object_lists.proofs.lists.ObjectLists.retain.Goals as goal

pub returns-then-retain_at-clause-there : goal.returns-then-retain_at-clause-there
returns-then-retain_at-clause-there g c = filtered_same (CalledAt g.F.FnMut) c.args.keeps _ _ _ _ (ap (λ lists. listed lists c.args.object.now) (sym c.self.view_is)) (c.remove_at.ensures c.args.object.now) c.retain_at.ensures.there
