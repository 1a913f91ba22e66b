use Rattle.std.proofs.Common.{◌≡◌, ◌≤◌, false, true, length, sym, ap, ◌∙◌, subst, arith, rules}
use Rattle.script_core.specs.Steps.{IsCount}
use Rattle.run_table.specs.Works.{work_of}
use Rattle.world_core.specs.Worlds.{WorldView, seen_of}
use Rattle.run_table.specs.Tables.{Turn}
use Rattle.world_core.specs.Events.{TakesRound, TakesRoundPart, turn_of}
use Rattle.world_core.specs.Runs.{IsSound}
use Rattle.world_core.proofs.Worlds.{centre_count, goes_sound}
use Rattle.run_table.proofs.Acting.{worker_range}
use Rattle.world_core.proofs.Rounds.{round_taken}
use Rattle.world_core.proofs.Parts.{round_part}
use Rattle.world_core.proofs.world.World.work.Goals as goal

pub work-requires-clause-centres : goal.work-requires-clause-centres
work-requires-clause-centres c =
    let inside = c.self.inside in
    let sound : IsSound (seen_of inside.script.now inside.spent inside.table) = c.self.invariant (ap (λ (w : WorldView). w.spent) c.self.view_is ∙ c.requires.fresh) in
    sym (centre_count (seen_of inside.script.now inside.spent inside.table) sound.all sound.world)

pub invariant_of-self-2 : goal.invariant_of-self-2
invariant_of-self-2 c =
    let inside = c.self.inside in
    let fresh : inside.spent ≡ false = ap (λ (w : WorldView). w.spent) c.self.view_is ∙ c.requires.fresh in
    let sound : IsSound (seen_of inside.script.now inside.spent inside.table) = c.self.invariant fresh in
    let range : IsCount inside.script.now.n c.args.centre = subst (λ (w : WorldView). IsCount w.script.n c.args.centre) (sym c.self.view_is) c.requires.centre in
    let taken = round_taken inside.script.now c.args.section c.args.number c.args.centre c.args.does inside.table c.work.new.self c.in_ok-work.ensures.works range sound.world.log_count sound.range sound.world.settings (centre_count (seen_of inside.script.now inside.spent inside.table) sound.all sound.world) inside.spent fresh in
    λ same. goes_sound _ _ _ _ sound taken.acts

pub returns-clause-works : goal.returns-clause-works
returns-clause-works c =
    let inside = c.self.inside in
    let fresh : inside.spent ≡ false = ap (λ (w : WorldView). w.spent) c.self.view_is ∙ c.requires.fresh in
    let sound : IsSound (seen_of inside.script.now inside.spent inside.table) = c.self.invariant fresh in
    let range : IsCount inside.script.now.n c.args.centre = subst (λ (w : WorldView). IsCount w.script.n c.args.centre) (sym c.self.view_is) c.requires.centre in
    let taken = round_taken inside.script.now c.args.section c.args.number c.args.centre c.args.does inside.table c.work.new.self c.in_ok-work.ensures.works range sound.world.log_count sound.range sound.world.settings (centre_count (seen_of inside.script.now inside.spent inside.table) sound.all sound.world) inside.spent fresh in
    subst (λ (old : WorldView). TakesRound (turn_of old.script c.args.section c.args.number (work_of c.args.centre c.args.does)) (work_of c.args.centre c.args.does) old (seen_of inside.script.now false c.work.new.self)) c.self.view_is taken

pub returns-in_err-work-clause-part : goal.returns-in_err-work-clause-part
returns-in_err-work-clause-part c =
    let inside = c.self.inside in
    let sound : IsSound (seen_of inside.script.now inside.spent inside.table) = c.self.invariant (ap (λ (w : WorldView). w.spent) c.self.view_is ∙ c.requires.fresh) in
    let who = worker_range inside.script.now.clients inside.script.now.n c.args.centre c.args.does (subst (λ (w : WorldView). IsCount w.script.n c.args.centre) (sym c.self.view_is) c.requires.centre) in
    let turn : Turn = turn_of inside.script.now c.args.section c.args.number (work_of c.args.centre c.args.does) in
    let within : (1 ≤ turn.actor) × (turn.actor ≤ length inside.table.logs.items) = (omega (arith, who.0), omega (arith, who.1, sound.world.log_count)) in
    let made = round_part inside.script.now inside.spent true inside.table c.work.new.self turn c.args.centre c.args.does within (centre_count (seen_of inside.script.now inside.spent inside.table) sound.all sound.world) c.in_err-work.ensures.part in
    let part : TakesRoundPart (turn_of c.args.self.now.script c.args.section c.args.number (work_of c.args.centre c.args.does)) c.args.centre c.args.does c.args.self.now (seen_of inside.script.now true c.work.new.self) = subst (λ (old : WorldView). TakesRoundPart (turn_of old.script c.args.section c.args.number (work_of c.args.centre c.args.does)) c.args.centre c.args.does old (seen_of inside.script.now true c.work.new.self)) c.self.view_is made in
    search rules
