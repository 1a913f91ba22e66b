use Rattle.dc_talk.specs.Acting.{acting}
use Rattle.client_stub.proofs.Sending.{again_none}
use Rattle.client_stub.proofs.send.ask_again.Goals as goal

pub returns-in-None-clause-asks : goal.returns-in-None-clause-asks
returns-in-None-clause-asks g c = again_none c.args.centre c.args.copy (acting (g.D.Door.shown c.args.door.now) c.args.log.now) c.in-None.is
