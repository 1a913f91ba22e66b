use Rattle.std.proofs.Common.{refl}
use Rattle.run_table.proofs.Acting.{order_left, turn_cut}
use Rattle.run_table.proofs.table.Table.order.Goals as goal

pub returns-in-Ok-clause-operates : goal.returns-in-Ok-clause-operates
returns-in-Ok-clause-operates c =
    order_left c.args.n c.args.section c.args.number c.args.step.now c.args.self.now _ c.set.new.self c.index_mut-log.result.now c.set-2.new.self c.order_step.new.log c.requires.centres c.requires.log c.set.ensures.door c.index_mut-log.ensures.value c.set-2.ensures
    c.in-Ok.ensures.place c.in-Ok.ensures.operates refl c.set_link.ensures refl c.histories.ensures

pub returns-in-Err-clause-part : goal.returns-in-Err-clause-part
returns-in-Err-clause-part c = record {
  stubs = refl;
  posts = refl;
  taps = c.in-Err.ensures.stays;
  cut = turn_cut (record { actor = 1; section = c.args.section; step = c.args.number }) 0 c.args.self.now _ c.set.new.self c.index_mut-log.result.now c.set-2.new.self c.order_step.new.log refl c.requires.log c.set.ensures.door c.index_mut-log.ensures.value c.set-2.ensures c.in-Err.ensures.place c.in-Err.ensures.short refl c.histories-in-Err.ensures;
}
