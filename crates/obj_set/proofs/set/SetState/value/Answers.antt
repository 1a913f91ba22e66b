use Rattle.obj_set.proofs.set.SetState.value.Goals as goal

pub returns-clause-exact : goal.returns-clause-exact
returns-clause-exact c = rw (← c.self.view_is) c.names.ensures.exact
