use Rattle.std.proofs.Common.{rules}
use Rattle.std.proofs.lemmas.Int.{wraps}
use Rattle.obj_counter.specs.Counter.{total}
use Rattle.obj_bounded.proofs.Wrapping.{difference_is}
use Rattle.obj_bounded.proofs.holder_rights.difference.Goals as goal

pub returns : goal.returns
returns c = difference_is c.sum_of.result c.sum_of-2.result (total c.args.gains.now) (total c.args.losses.now) (search (rules, wraps)) c.sum_of.ensures c.sum_of-2.ensures
