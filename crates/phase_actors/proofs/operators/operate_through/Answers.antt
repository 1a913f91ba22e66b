use Rattle.std.proofs.Common.{◌≡◌, subst, ◌∙◌, rules, arith}
use Rattle.dc_talk.specs.Acting.{Acting, acting}
use Rattle.dc_host.specs.HostDoors.{shown_over}
use Rattle.script_core.specs.Scripts.{header_of}
use Rattle.run_book.specs.Moves.{operator_steps}
use Rattle.phase_actors.specs.Taps.{shows_kept}
use Rattle.phase_actors.specs.Workers.{PlaysOperator}
use Rattle.phase_actors.specs.Playing.{seen_by}
use Rattle.phase_actors.proofs.Passing.{door_width, seen_before, same_caller, seen_behind, orders_fit, orders_few}
use Rattle.phase_actors.proofs.operators.operate_through.Goals as goal

pub take_orders-requires-clause-centres : goal.take_orders-requires-clause-centres
take_orders-requires-clause-centres g c = door_width c.args.scene.hosts.now.hosts c.args.caller c.args.scene.script.now.n c.new-door.result.passes c.requires.caller c.requires.scene.hosts c.new-door.ensures.passes

pub take_orders-requires-clause-steps : goal.take_orders-requires-clause-steps
take_orders-requires-clause-steps g c =
    let line : c.args.scene.dealt.now.operator.items ≡ operator_steps c.args.scene.section.now = c.requires.scene.phase.steps_are.operator in
    orders_fit (header_of c.args.scene.script.now) c.args.scene.section.now c.requires.scene.phase.phase c.args.scene.dealt.now.operator.items line

pub take_orders-requires-clause-few : goal.take_orders-requires-clause-few
take_orders-requires-clause-few g c =
    let line : c.args.scene.dealt.now.operator.items ≡ operator_steps c.args.scene.section.now = c.requires.scene.phase.steps_are.operator in
    let few = orders_few (header_of c.args.scene.script.now) c.args.scene.section.now c.requires.scene.phase.phase c.args.scene.dealt.now.operator.items line in
    omega (arith, few)

pub returns : goal.returns
returns g c =
    let scene = c.args.scene in
    let taps = scene.taps.now in
    let old = c.args.caller in
    let first = c.new-door.result in
    let last = c.take_orders.new.door in
    let row = c.part-row.result in
    let log = c.take_orders.new.log in
    let shows = shows_kept taps c.args.feeders.items in
    let later = shows_kept taps c.take_orders.new.feeders.items in
    let actor : first.actor ≡ old.log.actor = c.new-door.ensures.actor ∙ c.actor.ensures in
    let rows : row.items ≡ last.passes = search rules in
    let line : scene.dealt.now.operator.items ≡ operator_steps scene.section.now = c.requires.scene.phase.steps_are.operator in
    let played : PlaysOperator taps scene.script.now.n scene.number shows (operator_steps scene.section.now) (acting (shown_over first) old.log) (acting (shown_over last) log) later =
    subst (λ steps. PlaysOperator taps scene.script.now.n scene.number shows steps (acting (shown_over first) old.log) (acting (shown_over last) log) later) line c.in_ok-take_orders.ensures.plays in
    let numbered : log.actor ≡ old.log.actor = played.acted.actor in
    let place = c.in_ok-take_orders.ensures.place in
    record {
      same = same_caller old row log first last actor c.new-door.ensures.passes place rows numbered;
      plays =
          subst (λ (before : Acting). PlaysOperator taps scene.script.now.n scene.number shows (operator_steps scene.section.now) before (seen_by (record { row = row; log = log })) later) (seen_before old first actor c.new-door.ensures.passes)
          (subst (λ (behind : Acting). PlaysOperator taps scene.script.now.n scene.number shows (operator_steps scene.section.now) (acting (shown_over first) old.log) behind later) (seen_behind old row log first last actor c.new-door.ensures.passes place rows numbered) played);
      fed = c.in_ok-take_orders.ensures.fed;
    }
