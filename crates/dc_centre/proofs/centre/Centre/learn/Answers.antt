use Rattle.dc_centre.proofs.Going.{centre_learned}
use Rattle.dc_centre.proofs.centre.Centre.learn.Goals as goal

pub invariant_of-self : goal.invariant_of-self
invariant_of-self c =
    let s = c.self.inside in
    centre_learned s.settings s.applied s.told c.learn-fresh.new.self s.mark s.trimmed c.args.from c.args.vector.now c.self.invariant c.learn-fresh.ensures.table c.learn-fresh.ensures.row
