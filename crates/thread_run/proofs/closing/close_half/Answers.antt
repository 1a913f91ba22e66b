use Rattle.std.proofs.Common.{refl}
use Rattle.thread_run.proofs.Halving.{half_parted}
use Rattle.thread_run.proofs.closing.close_half.Goals as goal

pub returns : goal.returns
returns g c = record {
  receiver = c.in_ok-caller.field-0;
  closed = c.in_ok-caller.ensures;
  more = half_parted _ c.add.new.self c.add-2.new.self c.add-3.new.self c.add-4.new.self _ c.args.half c.in_ok-caller.field-0 c.in_ok-add.ensures c.in_ok-add-2.ensures c.in_ok-add-3.ensures c.in_ok-add-4.ensures refl refl refl refl c.in_ok-push.ensures.items c.in_ok-push-2.ensures.items;
}
