use Rattle.std.proofs.Common.{◌≡◌, fold, drop, None}
use Rattle.obj_map.specs.Puts.{later}
use Rattle.obj_map.proofs.put.greatest.Given as goal

abbrev pub invariant-loop-id : goal.invariant-loop-id
invariant-loop-id l = fold later l.best (drop l.id-index l.puts) ≡ fold later None l.fn.puts
