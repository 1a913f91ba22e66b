use Rattle.std.proofs.Common.{◌≡◌, ◌≤◌, false, true, length, sym, ap, ◌∙◌, subst, arith, rules}
use Rattle.script_core.specs.Steps.{IsOperatorStep}
use Rattle.world_core.specs.Worlds.{WorldView, seen_of}
use Rattle.world_core.specs.Events.{TakesOrder, TakesOrderPart}
use Rattle.world_core.specs.Runs.{IsSound}
use Rattle.world_core.proofs.Worlds.{centre_count, goes_sound}
use Rattle.world_core.proofs.Turns.{order_taken}
use Rattle.world_core.proofs.Parts.{order_part}
use Rattle.world_core.proofs.world.World.order.Goals as goal

pub order-requires-clause-centres : goal.order-requires-clause-centres
order-requires-clause-centres c =
    let inside = c.self.inside in
    let sound : IsSound (seen_of inside.script.now inside.spent inside.table) = c.self.invariant (ap (λ (w : WorldView). w.spent) c.self.view_is ∙ c.requires.fresh) in
    sym (centre_count (seen_of inside.script.now inside.spent inside.table) sound.all sound.world)

pub invariant_of-self-2 : goal.invariant_of-self-2
invariant_of-self-2 c =
    let inside = c.self.inside in
    let fresh : inside.spent ≡ false = ap (λ (w : WorldView). w.spent) c.self.view_is ∙ c.requires.fresh in
    let sound : IsSound (seen_of inside.script.now inside.spent inside.table) = c.self.invariant fresh in
    let within : 1 ≤ length inside.table.logs.items = omega (arith, sound.world.log_count) in
    let fits : IsOperatorStep inside.script.now.n c.args.step.now = subst (λ (w : WorldView). IsOperatorStep w.script.n c.args.step.now) (sym c.self.view_is) c.requires.fits in
    let taken = order_taken inside.script.now c.args.section c.args.number c.args.step.now inside.table c.order.new.self c.in_ok-order.ensures.operates within (centre_count (seen_of inside.script.now inside.spent inside.table) sound.all sound.world) fits inside.spent fresh in
    λ same. goes_sound _ _ _ _ sound taken.acts

pub returns-clause-takes : goal.returns-clause-takes
returns-clause-takes c =
    let inside = c.self.inside in
    let fresh : inside.spent ≡ false = ap (λ (w : WorldView). w.spent) c.self.view_is ∙ c.requires.fresh in
    let sound : IsSound (seen_of inside.script.now inside.spent inside.table) = c.self.invariant fresh in
    let within : 1 ≤ length inside.table.logs.items = omega (arith, sound.world.log_count) in
    let fits : IsOperatorStep inside.script.now.n c.args.step.now = subst (λ (w : WorldView). IsOperatorStep w.script.n c.args.step.now) (sym c.self.view_is) c.requires.fits in
    let taken = order_taken inside.script.now c.args.section c.args.number c.args.step.now inside.table c.order.new.self c.in_ok-order.ensures.operates within (centre_count (seen_of inside.script.now inside.spent inside.table) sound.all sound.world) fits inside.spent fresh in
    subst (λ (old : WorldView). TakesOrder (record { actor = 1; section = c.args.section; step = c.args.number }) c.args.step.now old (seen_of inside.script.now false c.order.new.self)) c.self.view_is taken

pub returns-in_err-order-clause-part : goal.returns-in_err-order-clause-part
returns-in_err-order-clause-part c =
    let inside = c.self.inside in
    let sound : IsSound (seen_of inside.script.now inside.spent inside.table) = c.self.invariant (ap (λ (w : WorldView). w.spent) c.self.view_is ∙ c.requires.fresh) in
    let within : 1 ≤ length inside.table.logs.items = omega (arith, sound.world.log_count) in
    let part : TakesOrderPart c.args.self.now (seen_of inside.script.now true c.order.new.self) = subst (λ (old : WorldView). TakesOrderPart old (seen_of inside.script.now true c.order.new.self)) c.self.view_is (order_part inside.script.now inside.spent true inside.table c.order.new.self c.args.section c.args.number within c.in_err-order.ensures.part) in
    search rules
