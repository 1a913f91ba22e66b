use Rattle.client_stub.specs.Playing.{beside}
use Rattle.dc_worker.proofs.Work.{on_turn}
use Rattle.run_table.proofs.Looks.{look_within}
use Rattle.phase_actors.proofs.Reading.{read_same, step_reads, step_blind}
use Rattle.phase_actors.proofs.looking.take_step.Goals as goal

pub look-requires-clause-centre : goal.look-requires-clause-centre
look-requires-clause-centre g c = look_within (g.D.Door.shown c.args.door.now).centres c.in-Some.centre c.in-Some.object c.args.step.now c.in-Some.ensures c.requires.fits

pub returns-in-Some-clause-takes : goal.returns-in-Some-clause-takes
returns-in-Some-clause-takes g c =
    on_turn c.look.result _ _
    (λ looked. step_reads c.args.taps.now c.look.new.readers.items c.args.step.now (beside c.args.stub.now (g.D.Door.shown c.args.door.now) c.args.log.now) c.look.new.log c.args.client c.in-Some.centre c.in-Some.object c.in-Some.ensures c.requires.own looked)
    c.look.ensures.looked

pub returns-in-None-clause-read : goal.returns-in-None-clause-read
returns-in-None-clause-read g c = read_same c.args.readers.now.items

pub returns-in-None-clause-takes : goal.returns-in-None-clause-takes
returns-in-None-clause-takes g c =
    on_turn c.step.result _ _
    (λ takes. step_blind c.args.taps.now c.args.readers.now.items c.args.client c.args.step.now (beside c.args.stub.now (g.D.Door.shown c.args.door.now) c.args.log.now) (beside c.step.new.self (g.D.Door.shown c.step.new.door) c.step.new.log) c.in-None.ensures takes)
    c.step.ensures.takes
