use Rattle.std.proofs.Common.{refl, subst}
use Rattle.std.proofs.lemmas.Result.{on_ok_weaker, on_err_weaker}
use Rattle.dc_door.specs.KeptDoors.{shown_of}
use Rattle.client_stub.specs.Playing.{beside}
use Rattle.run_table.specs.Taps.{TakesWith}
use Rattle.run_table.proofs.Acting.{linked_then, step_left, step_cut}
use Rattle.run_table.proofs.table.Table.step.Goals as goal

pub take_step-ended-requires-clause-behind : goal.take_step-ended-requires-clause-behind
take_step-ended-requires-clause-behind c = linked_then c.args.client c.args.self.now.stubs.items c.args.self.now.door c.set.new.self c.index_mut-stub.result.now c.requires.linked c.set.ensures.door c.requires.stub c.requires.client.0 c.index_mut-stub.ensures.value

pub returns-clause-steps : goal.returns-clause-steps
returns-clause-steps c =
    let before = beside c.index_mut-stub.result.now (shown_of c.set.new.self) c.set-2.new.self in
    let behind = beside c.take_step-ended.new.stub (shown_of c.take_step-ended.new.door) c.take_step-ended.new.log in
    on_ok_weaker c.take_step-ended.result
    (λ takes.
    step_left c.args.client c.args.section c.args.number c.args.step.now c.args.self.now _ c.set.new.self c.index_mut-stub.result.now c.take_step-ended.new.stub c.index_mut-log.result.now c.set-2.new.self c.take_step-ended.new.log (c.requires.client.0, c.requires.stub) c.requires.log c.set.ensures.door c.index_mut-stub.ensures.value c.index_mut-log.ensures.value c.set-2.ensures
    c.take_step-ended.ensures.place (subst (λ taps. TakesWith taps c.args.step.now before behind) c.as_slice-taps.ensures.value takes) refl refl refl refl c.histories.ensures)
    c.take_step-ended.ensures.takes

pub returns-clause-part : goal.returns-clause-part
returns-clause-part c =
    on_err_weaker c.take_step-ended.result
    (λ short.
    step_cut c.args.client c.args.section c.args.number c.args.self.now _ c.set.new.self c.take_step-ended.new.stub c.index_mut-log.result.now c.set-2.new.self c.take_step-ended.new.log c.requires.log c.set.ensures.door c.index_mut-log.ensures.value c.set-2.ensures
    c.take_step-ended.ensures.place short c.take_step-ended.ensures.linked refl refl refl refl c.histories.ensures)
    c.take_step-ended.ensures.short
