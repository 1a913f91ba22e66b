use Rattle.std.proofs.Common.{◌≡◌, ◌≤◌, ◌+◌, sym, ◌∙◌, subst}
use Rattle.script_core.specs.declared.script.Script.{Script}
use Rattle.script_core.specs.declared.rounds.Role.TheVariants.{Sender, Receiver, Reporter, Pruner}
use Rattle.script_core.specs.Steps.{IsCount}
use Rattle.run_table.specs.declared.works.Work.TheVariants.{Round, Close}
use Rattle.world_core.specs.Worlds.{WorldView}
use Rattle.world_core.proofs.Making.{round_makes}
use Rattle.world_core.proofs.Phasing.{centre_round, centre_close}
use Rattle.world_core.proofs.phases.play_centre.Goals as goal

pub returns-in_ok-work-4 : goal.returns-in_ok-work-4
returns-in_ok-work-4 c =
    let a = c.args.world.now in
    let b = c.work.new.self in
    let d = c.work-then-turn-rounds.new.self in
    let e = c.work-then-turn-rounds-2.new.self in
    let f = c.work-then-turn-rounds-3.new.self in
    let one : b.script ≡ a.script = c.in_ok-work.ensures.script in
    let two : d.script ≡ a.script = c.in_ok-work-2.ensures.script ∙ one in
    let three : e.script ≡ a.script = c.in_ok-work-3.ensures.script ∙ two in
    centre_round c.args.number a.script.rounds c.args.turn c.args.centre a b d e f (subst (λ (w : WorldView). c.args.turn ≤ w.script.rounds) c.world.view_is c.if-turn-rounds.true)
    (round_makes c.args.number c.args.turn c.args.centre (Round Sender) a b c.requires.centre c.in_ok-work.ensures.works)
    (round_makes c.args.number c.args.turn c.args.centre (Round Receiver) b d (subst (λ (script : Script). IsCount script.n c.args.centre) (sym one) c.requires.centre) c.in_ok-work-2.ensures.works)
    (round_makes c.args.number c.args.turn c.args.centre (Round Reporter) d e (subst (λ (script : Script). IsCount script.n c.args.centre) (sym two) c.requires.centre) c.in_ok-work-3.ensures.works)
    (round_makes c.args.number c.args.turn c.args.centre (Round Pruner) e f (subst (λ (script : Script). IsCount script.n c.args.centre) (sym three) c.requires.centre) c.in_ok-work-4.ensures.works)

pub returns-in_ok-work-5 : goal.returns-in_ok-work-5
returns-in_ok-work-5 c =
    let a = c.args.world.now in
    centre_close c.args.number a.script.rounds c.args.turn c.args.centre a c.work-then-turn-rounds-2-2.new.self (subst (λ (w : WorldView). c.args.turn ≡ w.script.rounds + 1) c.world.view_is c.if-turn-rounds-2.true)
    (round_makes c.args.number c.args.turn c.args.centre Close a c.work-then-turn-rounds-2-2.new.self c.requires.centre c.in_ok-work-5.ensures.works)
