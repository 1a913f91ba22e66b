use Rattle.std.proofs.Common.{◌-◌, inl, inr, refl, ap}
use Rattle.std.specs.Prelude.{slice_set}
use Rattle.std.proofs.lemmas.Result.{on_ok_weaker, on_err_weaker}
use Rattle.run_table.proofs.Acting.{ask_left, ask_cut}
use Rattle.run_table.proofs.table.Table.ask.Goals as goal

pub returns-in-Ok-clause-asks : goal.returns-in-Ok-clause-asks
returns-in-Ok-clause-asks c =
    on_ok_weaker c.push-ended.result
    (λ noted.
    ask_left c.args.actor c.args.centre c.args.ask c.in-Ok.say c.args.self.now _ c.set.new.self c.index_mut-log.result.now c.set-2.new.self c.push-ended.new.self c.requires.actor c.requires.centre c.set.ensures.door c.index_mut-log.ensures.value c.set-2.ensures
    c.in-Ok.ensures.place c.in-Ok.ensures.asked noted refl refl refl refl c.histories.ensures)
    c.push-ended.ensures.ok

pub returns-in-Ok-clause-part : goal.returns-in-Ok-clause-part
returns-in-Ok-clause-part c =
    on_err_weaker c.push-ended.result
    (λ same.
    ask_cut c.args.actor c.args.centre c.args.ask c.args.self.now _ c.set.new.self c.index_mut-log.result.now c.set-2.new.self c.requires.actor c.set.ensures.door c.index_mut-log.ensures.value c.set-2.ensures
    c.in-Ok.ensures.place (inr (c.in-Ok.say, c.in-Ok.ensures.asked)) refl refl refl (ap (slice_set c.args.self.now.logs.items (c.args.actor - 1)) same) c.histories.ensures)
    c.push-ended.ensures.err

pub returns-in-Err-clause-part : goal.returns-in-Err-clause-part
returns-in-Err-clause-part c =
    ask_cut c.args.actor c.args.centre c.args.ask c.args.self.now _ c.set.new.self c.index_mut-log.result.now c.set-2.new.self c.requires.actor c.set.ensures.door c.index_mut-log.ensures.value c.set-2.ensures
    c.in-Err.ensures.place (inl c.in-Err.ensures.none) refl refl refl refl c.histories-in-Err.ensures
