use Rattle.std.proofs.Common.{◌≡◌, ◌+◌, ◌∷◌, ◌++◌, [], length, take, get_or, refl, sym, ◌∙◌, subst, arith}
use Rattle.std.proofs.lemmas.List.{length-take-le, take_more, take_all}
use Rattle.dc_talk.specs.Acting.{acting}
use Rattle.script_core.specs.declared.steps.OperatorStep.TheVariants.{Down}
use Rattle.phase_actors.specs.Taps.{shows_kept}
use Rattle.phase_actors.specs.Workers.{OrderGoes, PlaysOperator}
use Rattle.phase_actors.proofs.Feeders.{fed_same, fed_then, feeders_stay}
use Rattle.phase_actors.proofs.Growing.{plays_none}
use Rattle.phase_actors.proofs.Rounds.{operator_more}
use Rattle.phase_actors.proofs.operators.take_orders.Goals as goal

pub steps-init : goal.steps-init
steps-init g c =
    let scene = c.args.scene in
    let feeders = c.args.feeders.now.items in
    record {
      place = refl;
      number = refl;
      fed = fed_same feeders;
      plays = plays_none (OrderGoes scene.taps.now scene.script.now.n) scene.number (shows_kept scene.taps.now feeders) (acting (g.D.Door.shown c.args.door.now) c.args.log.now);
    }

pub take_order-requires-clause-feeders : goal.take_order-requires-clause-feeders
take_order-requires-clause-feeders g c = feeders_stay c.args.scene.script.now.n c.args.scene.taps.now c.args.feeders.now.items c.steps.feeders.items c.steps.invariant.fed c.requires.feeders

pub steps-preserved : goal.steps-preserved
steps-preserved g c =
    let scene = c.args.scene in
    let first = c.args.feeders.now.items in
    let later = c.take_order.new.feeders.items in
    let a = acting (g.D.Door.shown c.args.door.now) c.args.log.now in
    let b = acting (g.D.Door.shown c.steps.door) c.steps.log in
    let e = acting (g.D.Door.shown c.take_order.new.door) c.take_order.new.log in
    let all = c.operator_line-steps.result.now in
    let place = c.steps.step-index in
    let step = get_or all place (Down 0) in
    let longer : take (place + 1) all ≡ take place all ++ step ∷ [] = take_more all place (Down 0) (omega (arith, c.steps-test.true)) in
    let number : c.steps.number + 1 ≡ 1 + length (take place all) = omega (arith, c.steps.invariant.number, length-take-le place all (omega (arith, c.steps-test.true))) in
    record {
      place = c.in_ok-take_order.ensures.place ∙ c.steps.invariant.place;
      number = omega (arith, c.steps.invariant.number);
      fed = fed_then first c.steps.feeders.items later c.steps.invariant.fed c.in_ok-take_order.ensures.takes.fed;
      plays = subst (λ steps. PlaysOperator scene.taps.now scene.script.now.n scene.number (shows_kept scene.taps.now first) steps a e (shows_kept scene.taps.now later)) (sym longer)
          (operator_more scene.taps.now scene.script.now.n scene.number (c.steps.number + 1) (shows_kept scene.taps.now first) c.steps.feeders.items later (take place all) step a b e c.set.new.self number c.set.ensures c.steps.invariant.plays c.in_ok-take_order.ensures.takes);
    }

pub returns-clause-plays : goal.returns-clause-plays
returns-clause-plays g c =
    let scene = c.args.scene in
    let a = acting (g.D.Door.shown c.args.door.now) c.args.log.now in
    let e = acting (g.D.Door.shown c.steps.door) c.steps.log in
    let all = c.operator_line-steps.result.now in
    let whole : take c.steps.step-index all ≡ all = take_all c.steps.step-index all (omega (arith, c.steps-test.false)) in
    subst (λ steps. PlaysOperator scene.taps.now scene.script.now.n scene.number (shows_kept scene.taps.now c.args.feeders.now.items) steps a e (shows_kept scene.taps.now c.steps.feeders.items)) (whole ∙ c.operator_line-steps.ensures) c.steps.invariant.plays
