use Rattle.std.proofs.Common.{◌≡◌, ap, ◌∙◌}
use Rattle.dc_talk.specs.Rule.{hello_of}
use Rattle.client_stub.specs.Playing.{StubView, beside}
use Rattle.client_stub.proofs.Stepping.{connect_takes}
use Rattle.client_stub.proofs.stub.Stub.connect.Goals as goal

pub returns-clause-takes : goal.returns-clause-takes
returns-clause-takes g c =
    let hello : c.ask_hello.result ≡ hello_of c.args.self.now.client = c.ask_hello.ensures.ask ∙ ap (λ (s : StubView). hello_of s.client) c.self.view_is in
    connect_takes (beside c.args.self.now (g.D.Door.shown c.args.door.now) c.args.log.now) (beside c.send.new.self (g.D.Door.shown c.send.new.door) c.send.new.log) c.args.centre c.ask_hello.result c.in_ok-send.field-0 hello c.in_ok-send.ensures.runs
