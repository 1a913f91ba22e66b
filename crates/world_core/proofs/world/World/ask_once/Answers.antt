use Rattle.std.proofs.Common.{◌≡◌, ◌≤◌, false, true, length, sym, ap, ◌∙◌, subst, arith, rules}
use Rattle.world_core.specs.Worlds.{WorldView, seen_of}
use Rattle.world_core.specs.Events.{AsksOnce, AsksOncePart, MayAsk}
use Rattle.world_core.specs.Runs.{IsSound}
use Rattle.world_core.proofs.Worlds.{centre_count, goes_sound}
use Rattle.world_core.proofs.Turns.{ask_made}
use Rattle.world_core.proofs.Parts.{ask_part}
use Rattle.world_core.proofs.world.World.ask_once.Goals as goal

pub ask-requires-clause-centre : goal.ask-requires-clause-centre
ask-requires-clause-centre c =
    let inside = c.self.inside in
    let sound : IsSound (seen_of inside.script.now inside.spent inside.table) = c.self.invariant (ap (λ (w : WorldView). w.spent) c.self.view_is ∙ c.requires.fresh) in
    let count = centre_count (seen_of inside.script.now inside.spent inside.table) sound.all sound.world in
    let n : inside.script.now.n ≡ c.args.self.now.script.n = ap (λ (w : WorldView). w.script.n) c.self.view_is in
    (c.requires.centre.0, omega (arith, c.requires.centre.1, count, n))

pub invariant_of-self-2 : goal.invariant_of-self-2
invariant_of-self-2 c =
    let inside = c.self.inside in
    let fresh : inside.spent ≡ false = ap (λ (w : WorldView). w.spent) c.self.view_is ∙ c.requires.fresh in
    let may : MayAsk c.args.actor c.args.centre c.args.ask (seen_of inside.script.now inside.spent inside.table) = subst (MayAsk c.args.actor c.args.centre c.args.ask) (sym c.self.view_is) c.requires.may in
    let high : c.args.actor ≤ length inside.table.logs.items = subst (λ (w : WorldView). c.args.actor ≤ length w.logs) (sym c.self.view_is) c.requires.actor.1 in
    let made = ask_made inside.script.now c.args.actor c.args.centre c.args.ask inside.table c.ask.new.self c.in_ok-ask.ensures.asks (c.requires.actor.0, high) inside.spent fresh may in
    λ same. goes_sound _ _ _ _ (c.self.invariant fresh) made.acts

pub returns-clause-asks : goal.returns-clause-asks
returns-clause-asks c =
    let inside = c.self.inside in
    let fresh : inside.spent ≡ false = ap (λ (w : WorldView). w.spent) c.self.view_is ∙ c.requires.fresh in
    let may : MayAsk c.args.actor c.args.centre c.args.ask (seen_of inside.script.now inside.spent inside.table) = subst (MayAsk c.args.actor c.args.centre c.args.ask) (sym c.self.view_is) c.requires.may in
    let high : c.args.actor ≤ length inside.table.logs.items = subst (λ (w : WorldView). c.args.actor ≤ length w.logs) (sym c.self.view_is) c.requires.actor.1 in
    let made = ask_made inside.script.now c.args.actor c.args.centre c.args.ask inside.table c.ask.new.self c.in_ok-ask.ensures.asks (c.requires.actor.0, high) inside.spent fresh may in
    subst (λ (old : WorldView). AsksOnce c.args.actor c.args.centre c.args.ask old (seen_of inside.script.now false c.ask.new.self)) c.self.view_is made

pub returns-in_err-ask-clause-part : goal.returns-in_err-ask-clause-part
returns-in_err-ask-clause-part c =
    let inside = c.self.inside in
    let high : c.args.actor ≤ length inside.table.logs.items = subst (λ (w : WorldView). c.args.actor ≤ length w.logs) (sym c.self.view_is) c.requires.actor.1 in
    let made = ask_part inside.script.now inside.spent true inside.table c.ask.new.self c.args.actor c.args.centre c.args.ask (c.requires.actor.0, high) c.in_err-ask.ensures.part in
    let part : AsksOncePart c.args.centre c.args.self.now (seen_of inside.script.now true c.ask.new.self) = subst (λ (old : WorldView). AsksOncePart c.args.centre old (seen_of inside.script.now true c.ask.new.self)) c.self.view_is made in
    search rules
