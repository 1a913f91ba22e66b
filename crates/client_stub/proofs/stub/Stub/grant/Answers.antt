use Rattle.client_stub.proofs.stub.Stub.grant.Goals as goal

pub returns-clause-grows : goal.returns-clause-grows
returns-clause-grows g c = c.in_ok-add.ensures.adds (g.D.Door.shown c.args.door.now)
