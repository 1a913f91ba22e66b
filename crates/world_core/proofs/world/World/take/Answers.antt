use Rattle.std.proofs.Common.{◌≡◌, ◌≤◌, ◌<◌, ◌+◌, ◌-◌, false, true, length, sym, ap, ◌∙◌, subst, arith, rules}
use Rattle.script_core.specs.Steps.{IsStep}
use Rattle.world_core.specs.Worlds.{WorldView, seen_of}
use Rattle.world_core.specs.Events.{TakesStep, TakesStepPart}
use Rattle.world_core.specs.Runs.{IsSound}
use Rattle.world_core.proofs.Worlds.{centre_count, goes_sound}
use Rattle.world_core.proofs.Turns.{links_behind, step_taken}
use Rattle.world_core.proofs.Parts.{step_part}
use Rattle.world_core.proofs.world.World.take.Goals as goal

pub step-requires-clause-fits : goal.step-requires-clause-fits
step-requires-clause-fits c =
    let inside = c.self.inside in
    let sound : IsSound (seen_of inside.script.now inside.spent inside.table) = c.self.invariant (ap (λ (w : WorldView). w.spent) c.self.view_is ∙ c.requires.fresh) in
    subst (λ n. IsStep n c.args.step.now) (ap (λ (w : WorldView). w.script.n) (sym c.self.view_is) ∙ sym (centre_count (seen_of inside.script.now inside.spent inside.table) sound.all sound.world)) c.requires.fits

pub step-requires-clause-linked : goal.step-requires-clause-linked
step-requires-clause-linked c =
    let inside = c.self.inside in
    let sound : IsSound (seen_of inside.script.now inside.spent inside.table) = c.self.invariant (ap (λ (w : WorldView). w.spent) c.self.view_is ∙ c.requires.fresh) in
    links_behind inside.script.now inside.spent inside.table sound.all sound.world (c.args.client - 1)

pub invariant_of-self-2 : goal.invariant_of-self-2
invariant_of-self-2 c =
    let inside = c.self.inside in
    let fresh : inside.spent ≡ false = ap (λ (w : WorldView). w.spent) c.self.view_is ∙ c.requires.fresh in
    let sound : IsSound (seen_of inside.script.now inside.spent inside.table) = c.self.invariant fresh in
    let high : c.args.client ≤ inside.script.now.clients = subst (λ (w : WorldView). c.args.client ≤ w.script.clients) (sym c.self.view_is) c.requires.client.1 in
    let within : c.args.client < length inside.table.logs.items = omega (arith, sound.world.log_count, high) in
    let taken = step_taken inside.script.now c.args.client c.args.section c.args.number c.args.step.now inside.table c.step.new.self c.in_ok-step.ensures.steps (c.requires.client.0, within) high inside.spent fresh in
    λ same. goes_sound _ _ _ _ sound taken.acts

pub returns-clause-takes : goal.returns-clause-takes
returns-clause-takes c =
    let inside = c.self.inside in
    let fresh : inside.spent ≡ false = ap (λ (w : WorldView). w.spent) c.self.view_is ∙ c.requires.fresh in
    let sound : IsSound (seen_of inside.script.now inside.spent inside.table) = c.self.invariant fresh in
    let high : c.args.client ≤ inside.script.now.clients = subst (λ (w : WorldView). c.args.client ≤ w.script.clients) (sym c.self.view_is) c.requires.client.1 in
    let within : c.args.client < length inside.table.logs.items = omega (arith, sound.world.log_count, high) in
    let taken = step_taken inside.script.now c.args.client c.args.section c.args.number c.args.step.now inside.table c.step.new.self c.in_ok-step.ensures.steps (c.requires.client.0, within) high inside.spent fresh in
    subst (λ (old : WorldView). TakesStep (record { actor = c.args.client + 1; section = c.args.section; step = c.args.number }) c.args.step.now old (seen_of inside.script.now false c.step.new.self)) c.self.view_is taken

pub returns-in_err-step-clause-part : goal.returns-in_err-step-clause-part
returns-in_err-step-clause-part c =
    let inside = c.self.inside in
    let sound : IsSound (seen_of inside.script.now inside.spent inside.table) = c.self.invariant (ap (λ (w : WorldView). w.spent) c.self.view_is ∙ c.requires.fresh) in
    let high : c.args.client ≤ inside.script.now.clients = subst (λ (w : WorldView). c.args.client ≤ w.script.clients) (sym c.self.view_is) c.requires.client.1 in
    let within : c.args.client < length inside.table.logs.items = omega (arith, sound.world.log_count, high) in
    let part : TakesStepPart c.args.client c.args.self.now (seen_of inside.script.now true c.step.new.self) = subst (λ (old : WorldView). TakesStepPart c.args.client old (seen_of inside.script.now true c.step.new.self)) c.self.view_is (step_part inside.script.now inside.spent true inside.table c.step.new.self c.args.client c.args.section c.args.number within c.in_err-step.ensures.part) in
    search rules
