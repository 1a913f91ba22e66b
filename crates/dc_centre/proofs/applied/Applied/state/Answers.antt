use Rattle.std.proofs.Common.{sym, subst}
use Rattle.vv_core.specs.Vectors.{Covers}
use Rattle.dc_centre.specs.Applied.{AppliedView}
use Rattle.dc_centre.proofs.applied.Applied.state.Goals as goal

pub invariant_of-self : goal.invariant_of-self
invariant_of-self c = record {
  width = c.self.invariant.width;
  based = c.self.invariant.based;
  within = c.self.invariant.within;
  stamps = c.self.invariant.stamps;
  numbers = c.self.invariant.numbers;
  updates = c.self.invariant.updates;
  logged = c.self.invariant.logged;
  states = record {
    states = c.serve.ensures.served;
    here = c.serve.ensures.here c.self.inside.vector (subst (λ (x : AppliedView). Covers x.counts c.args.at.now) (sym c.self.view_is) c.requires.here) c.self.invariant.states.here;
  };
  told = c.self.invariant.told;
  passed = c.self.invariant.passed;
}
