use Rattle.std.proofs.Common.{ap, ◌∙◌}
use Rattle.dc_talk.specs.Clients.{Client}
use Rattle.dc_talk.proofs.Acting.{cut_none}
use Rattle.dc_worker.proofs.Work.{on_turn, err_turn}
use Rattle.client_stub.specs.Playing.{beside}
use Rattle.run_table.proofs.Looks.{look_within, step_looked, step_other}
use Rattle.run_table.proofs.looking.take_step.Goals as goal

pub look-requires : goal.look-requires
look-requires g c = look_within (g.D.Door.shown c.args.door.now).centres c.in-Some.centre c.in-Some.object c.args.step.now c.in-Some.ensures c.requires.fits

pub returns-in-Some-clause-takes : goal.returns-in-Some-clause-takes
returns-in-Some-clause-takes g c =
    on_turn c.look.result _ _
    (λ log. step_looked c.args.taps.now c.args.step.now (beside c.args.stub.now (g.D.Door.shown c.args.door.now) c.args.log.now) c.look.new.log c.client.result c.in-Some.centre c.in-Some.object c.in-Some.ensures (c.client.ensures ∙ ap (λ (s : Client). s.client) c.session.ensures) log)
    c.look.ensures.ok

pub returns-in-Some-clause-short : goal.returns-in-Some-clause-short
returns-in-Some-clause-short g c = err_turn c.look.result _ _ (λ same. cut_none _ _ _ same) c.look.ensures.err

pub returns-in-None-clause-takes : goal.returns-in-None-clause-takes
returns-in-None-clause-takes g c =
    on_turn c.step.result _ _
    (λ takes. step_other c.args.taps.now c.args.step.now (beside c.args.stub.now (g.D.Door.shown c.args.door.now) c.args.log.now) (beside c.step.new.self (g.D.Door.shown c.step.new.door) c.step.new.log) c.in-None.ensures takes)
    c.step.ensures.takes
