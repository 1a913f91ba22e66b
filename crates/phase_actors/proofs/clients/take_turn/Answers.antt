use Rattle.std.proofs.Common.{◌≡◌, ◌-◌, Some, None, ap, sym, ◌∙◌, subst, rules}
use Rattle.std.specs.Prelude.{slice_get}
use Rattle.dc_talk.specs.Clients.{Client}
use Rattle.script_core.specs.Scripts.{header_of}
use Rattle.script_core.specs.Steps.{IsStep}
use Rattle.run_book.specs.Moves.{client_steps}
use Rattle.run_table.specs.Dealing.{line_of}
use Rattle.run_table.proofs.Allowing.{client_step_in}
use Rattle.phase_actors.proofs.Reading.{read_same, own_stays}
use Rattle.phase_actors.proofs.Seating.{step_dealt}
use Rattle.phase_actors.proofs.Turns.{turn_more, turn_taken, turn_idle}
use Rattle.phase_actors.proofs.clients.take_turn.Goals as goal

pub take_step-requires-clause-fits : goal.take_step-requires-clause-fits
take_step-requires-clause-fits g c =
    let scene = c.args.scene in
    let place = c.args.turn - 1 in
    let there : slice_get (client_steps c.args.client scene.section.now) place ≡ Some c.in-Some.step = step_dealt scene.script.now scene.section.now scene.dealt.now c.args.client place (Some c.in-Some.step) c.requires.scene.phase c.requires.client c.in-Some.ensures in
    subst (λ n. IsStep n c.in-Some.step) (sym c.requires.centres) (client_step_in (header_of scene.script.now) scene.section.now c.requires.scene.phase.phase c.args.client place c.in-Some.step there).1

pub returns-in_ok-take_step-clause-own : goal.returns-in_ok-take_step-clause-own
returns-in_ok-take_step-clause-own g c =
    let grown = c.in_ok-take_step.ensures.takes.takes in
    ap (λ (s : Client). s.client) grown.grows.client ∙ (own_stays c.args.stub.now.client grown.deeds ∙ c.requires.own)

pub returns-in_ok-take_step-clause-turned : goal.returns-in_ok-take_step-clause-turned
returns-in_ok-take_step-clause-turned g c = λ first was.
    let scene = c.args.scene in
    let taps = scene.taps.now in
    let readers = c.args.readers.now.items in
    let later = c.take_step.new.readers.items in
    let there : slice_get (client_steps c.args.client scene.section.now) (c.args.turn - 1) ≡ Some c.in-Some.step = step_dealt scene.script.now scene.section.now scene.dealt.now c.args.client (c.args.turn - 1) (Some c.in-Some.step) c.requires.scene.phase c.requires.client c.in-Some.ensures in
    let more = turn_more taps readers later scene.section.now scene.number (c.args.turn - 1) first _ c.in_ok-take_step.ensures.read was in
    turn_taken taps later scene.section.now scene.number c.args.turn c.args.client first c.args.stub.now (g.D.Door.shown c.args.door.now) c.args.log.now c.requires.turn more c.in-Some.step c.take_step.new.stub (g.D.Door.shown c.take_step.new.door) c.set.new.self c.take_step.new.log there c.set.ensures c.in_ok-take_step.ensures.takes c.in_ok-take_step.ensures.linked

pub returns-in_default-clause-read : goal.returns-in_default-clause-read
returns-in_default-clause-read g c = read_same c.args.readers.now.items

pub returns-in_default-clause-turned : goal.returns-in_default-clause-turned
returns-in_default-clause-turned g c = λ first was.
    let scene = c.args.scene in
    let none : None ≡ slice_get (line_of scene.dealt.now c.args.client) (c.args.turn - 1) = search rules in
    let there : slice_get (client_steps c.args.client scene.section.now) (c.args.turn - 1) ≡ None = step_dealt scene.script.now scene.section.now scene.dealt.now c.args.client (c.args.turn - 1) None c.requires.scene.phase c.requires.client none in
    turn_idle scene.taps.now c.args.readers.now.items scene.section.now scene.number c.args.turn c.args.client first c.args.stub.now (g.D.Door.shown c.args.door.now) c.args.log.now c.requires.turn was there
