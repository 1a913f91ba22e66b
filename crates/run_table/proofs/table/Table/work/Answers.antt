use Rattle.std.proofs.Common.{◌≤◌, length, refl, arith}
use Rattle.std.proofs.lemmas.Result.{on_ok_weaker}
use Rattle.run_table.specs.Works.{work_of}
use Rattle.run_table.proofs.Acting.{worker_range, round_left, on_err_both, round_cut}
use Rattle.run_table.proofs.table.Table.work.Goals as goal

pub returns-clause-works : goal.returns-clause-works
returns-clause-works c =
    let who = worker_range c.args.clients c.args.n c.args.centre c.args.does c.requires.centre in
    let range : (1 ≤ c.actor-actor.result) × (c.actor-actor.result ≤ length c.args.self.now.logs.items) = (omega (arith, who.0, c.actor-actor.ensures), omega (arith, who.1, c.actor-actor.ensures, c.requires.logs)) in
    on_ok_weaker c.make_round-ended.result
    (λ works.
    round_left c.actor-actor.result _ c.args.n c.args.section c.args.number (work_of c.args.centre c.args.does) c.args.self.now _ c.set.new.self c.index_mut-log.result.now c.set-2.new.self c.make_round-ended.new.log c.actor-actor.ensures range c.requires.centres c.set.ensures.door c.index_mut-log.ensures.value c.set-2.ensures
    c.make_round-ended.ensures.place works refl refl refl c.histories.ensures)
    c.make_round-ended.ensures.works

pub returns-clause-part : goal.returns-clause-part
returns-clause-part c =
    let who = worker_range c.args.clients c.args.n c.args.centre c.args.does c.requires.centre in
    let range : (1 ≤ c.actor-actor.result) × (c.actor-actor.result ≤ length c.args.self.now.logs.items) = (omega (arith, who.0, c.actor-actor.ensures), omega (arith, who.1, c.actor-actor.ensures, c.requires.logs)) in
    on_err_both c.make_round-ended.result _ _ _
    (λ short part.
    round_cut c.actor-actor.result _ c.args.n c.args.section c.args.number c.args.centre c.args.does c.args.self.now _ c.set.new.self c.index_mut-log.result.now c.set-2.new.self c.make_round-ended.new.log c.actor-actor.ensures range c.requires.centres c.set.ensures.door c.index_mut-log.ensures.value c.set-2.ensures
    c.make_round-ended.ensures.place short part refl refl refl c.histories.ensures)
    c.make_round-ended.ensures.short c.make_round-ended.ensures.part
