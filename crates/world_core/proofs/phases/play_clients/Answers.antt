use Rattle.std.proofs.Common.{◌≡◌, ◌+◌, ◌-◌, Some, None, take, [], ◌∷◌, ◌++◌, sym, ◌∙◌, subst, rules}
use Rattle.std.specs.Prelude.{slice_get, slice_index_or}
use Rattle.std.specs.List.{filter_map}
use Rattle.std.proofs.lemmas.List.{take_more}
use Rattle.script_core.specs.declared.script.Script.{Script}
use Rattle.script_core.specs.Scripts.{header_of}
use Rattle.script_core.specs.Steps.{IsCount, IsStep}
use Rattle.run_book.specs.Moves.{client_steps, client_turn}
use Rattle.run_table.specs.Dealing.{line_of}
use Rattle.world_core.specs.Runs.{MakesMoves}
use Rattle.world_core.proofs.Making.{client_makes}
use Rattle.run_table.proofs.Allowing.{client_step_in}
use Rattle.world_core.proofs.Phasing.{line_is, client_took, client_idle}
use Rattle.world_core.proofs.phases.play_clients.Goals as goal
use Rattle.world_core.proofs.phases.play_clients.Goals.{in-Some+in_ok-take, in_default}

pub client_step-requires-clause-client : goal.client_step-requires-clause-client
client_step-requires-clause-client c =
    let client = slice_index_or c.args.clients.now c.those.client-index 0 in
    let count : IsCount c.args.world.now.script.clients client = c.requires.clients c.those.client-index 0 c.those-test.true in
    subst (λ n. IsCount n client) (sym c.requires.phase.steps_are.count) count

pub take-requires-clause-client : goal.take-requires-clause-client
take-requires-clause-client c =
    let client = slice_index_or c.args.clients.now c.those.client-index 0 in
    let count : IsCount c.args.world.now.script.clients client = c.requires.clients c.those.client-index 0 c.those-test.true in
    subst (λ (script : Script). IsCount script.clients client) (sym c.those.invariant.script) count

pub take-requires-clause-fits : goal.take-requires-clause-fits
take-requires-clause-fits c =
    let a = c.args.world.now in
    let client = slice_index_or c.args.clients.now c.those.client-index 0 in
    let count : IsCount a.script.clients client = c.requires.clients c.those.client-index 0 c.those-test.true in
    let there : slice_get (client_steps client c.args.section.now) (c.args.turn - 1) ≡ Some c.in-Some.step = sym (c.in-Some.ensures ∙ line_is a.script.clients c.args.section.now c.args.dealt.now c.requires.phase.steps_are c.args.number c.args.turn client count.0 count.1) in
    subst (λ (script : Script). IsStep script.n c.in-Some.step) (sym c.those.invariant.script) (client_step_in (header_of a.script) c.args.section.now c.requires.phase.phase client (c.args.turn - 1) c.in-Some.step there).1

pub those-preserved : goal.those-preserved
those-preserved c =
    let a = c.args.world.now in
    let mid = c.those.world in
    let all = c.args.clients.now in
    let place = c.those.client-index in
    let client = slice_index_or all place 0 in
    let count : IsCount a.script.clients client = c.requires.clients place 0 c.those-test.true in
    let taken : take (place + 1) all ≡ take place all ++ client ∷ [] = take_more all place 0 c.those-test.true in
    let turns = client_turn c.args.number c.args.section.now c.args.turn in
    elim c.match-client_step.branch [
      | in-Some+in_ok-take w ↦
          let step = w.in-Some.step in
          let range : IsCount mid.script.clients client = subst (λ (script : Script). IsCount script.clients client) (sym c.those.invariant.script) count in
          let there : slice_get (client_steps client c.args.section.now) (c.args.turn - 1) ≡ Some step = sym (w.in-Some.ensures ∙ line_is a.script.clients c.args.section.now c.args.dealt.now c.requires.phase.steps_are c.args.number c.args.turn client count.0 count.1) in
          let fits : IsStep mid.script.n step = subst (λ (script : Script). IsStep script.n step) (sym c.those.invariant.script) (client_step_in (header_of a.script) c.args.section.now c.requires.phase.phase client (c.args.turn - 1) step there).1 in
          subst (MakesMoves (filter_map turns (take (place + 1) all)) a) (sym w.world-is)
          (subst (λ those. MakesMoves (filter_map turns those) a w.take.new.self) (sym taken)
          (client_took a.script.clients c.args.section.now c.args.dealt.now c.requires.phase.steps_are c.args.number c.args.turn (take place all) client step a mid w.take.new.self count w.in-Some.ensures c.those.invariant
          (client_makes c.args.number c.args.turn client step mid w.take.new.self range fits w.in_ok-take.ensures.takes)))
      | in_default w ↦
          let none : None ≡ slice_get (line_of c.args.dealt.now client) (c.args.turn - 1) = search rules in
          subst (MakesMoves (filter_map turns (take (place + 1) all)) a) (sym w.world-is)
          (subst (λ those. MakesMoves (filter_map turns those) a mid) (sym taken)
          (client_idle a.script.clients c.args.section.now c.args.dealt.now c.requires.phase.steps_are c.args.number c.args.turn (take place all) client a mid count none c.those.invariant))
    ]
