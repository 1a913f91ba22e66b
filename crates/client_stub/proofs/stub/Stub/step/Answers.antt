use Rattle.std.proofs.Common.{ap}
use Rattle.client_stub.specs.Playing.{StubView, beside}
use Rattle.client_stub.proofs.Stepping.{arm_takes, look_takes}
use Rattle.client_stub.proofs.stub.Stub.step.Goals as goal

pub returns-in-Arm-clause-takes : goal.returns-in-Arm-clause-takes
returns-in-Arm-clause-takes g c = arm_takes c.args.step.now (beside c.args.self.now (g.D.Door.shown c.args.door.now) c.args.log.now) c.self.inside.session c.in-Arm.fault c.in-Arm.is (ap (λ (s : StubView). s.client) c.self.view_is)

pub returns-in-Look-clause-takes : goal.returns-in-Look-clause-takes
returns-in-Look-clause-takes g c = look_takes c.args.step.now (beside c.args.self.now (g.D.Door.shown c.args.door.now) c.args.log.now) c.in-Look.centre c.in-Look.object c.in-Look.is
