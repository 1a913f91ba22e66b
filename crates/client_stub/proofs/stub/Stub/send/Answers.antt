use Rattle.std.proofs.Common.{◌≡◌, refl, ap, ◌∙◌}
use Rattle.dc_talk.specs.Acting.{acting}
use Rattle.client_stub.specs.Playing.{StubView, beside}
use Rattle.client_stub.specs.Errands.{second_of}
use Rattle.dc_talk.proofs.Acting.{cut_none}
use Rattle.client_stub.proofs.Growth.{on_err, cut_done}
use Rattle.client_stub.proofs.Sending.{runs, cut_asked_for}
use Rattle.client_stub.proofs.stub.Stub.send.Goals as goal

pub returns-in_err-copy-clause-short : goal.returns-in_err-copy-clause-short
returns-in_err-copy-clause-short g c = on_err _ (cut_none _ _ _ refl)

pub returns-in_err-ask_again-clause-short : goal.returns-in_err-ask_again-clause-short
returns-in_err-ask_again-clause-short g c =
    let p = beside c.args.self.now (g.D.Door.shown c.args.door.now) c.args.log.now in
    let q = beside c.ask.new.self (g.D.Door.shown c.ask.new.door) c.ask.new.log in
    let b = acting (g.D.Door.shown c.ask_again.new.door) c.ask_again.new.log in
    on_err _ (cut_asked_for c.args.errand p q (c.in_ok-line.line, c.in_ok-line.next) b c.in_ok-line.ensures.asked c.in_err-ask_again.ensures.short)

pub returns-in_err-tell-clause-short : goal.returns-in_err-tell-clause-short
returns-in_err-tell-clause-short g c =
    let p = beside c.args.self.now (g.D.Door.shown c.args.door.now) c.args.log.now in
    let q = beside c.ask.new.self (g.D.Door.shown c.ask.new.door) c.ask.new.log in
    let b = acting (g.D.Door.shown c.ask_again.new.door) c.ask_again.new.log in
    let short = cut_done (acting q.door q.log) b c.tell.new.log _ c.in_ok-ask_again.ensures.asks.leaves c.in_err-tell.ensures.err in
    on_err _ (cut_asked_for c.args.errand p q (c.in_ok-line.line, c.in_ok-line.next) (acting b.door c.tell.new.log) c.in_ok-line.ensures.asked short)

pub returns-clause-runs : goal.returns-clause-runs
returns-clause-runs g c =
    let p = beside c.args.self.now (g.D.Door.shown c.args.door.now) c.args.log.now in
    let q = beside c.ask.new.self (g.D.Door.shown c.ask.new.door) c.ask.new.log in
    let copy : c.in_ok-copy.copy ≡ second_of c.args.self.now.armed c.args.errand.ask = c.in_ok-copy.ensures ∙ ap (λ (s : StubView). second_of s.armed c.args.errand.ask) c.self.view_is in
    runs c.args.errand p q (acting (g.D.Door.shown c.ask_again.new.door) c.ask_again.new.log) c.tell.new.log c.in_ok-copy.copy (c.in_ok-line.line, c.in_ok-line.next) c.in_ok-line.ensures.asked copy c.in_ok-ask_again.ensures.asks c.in_ok-tell.ensures.ok
