use Rattle.std.proofs.Common.{◌≡◌, ◌++◌, take}
use Rattle.std.specs.List.{flat_map}
use Rattle.wire_codec.specs.Spelling.{update_bytes}
use Rattle.wire_codec.proofs.encoding.put_updates.Given as goal

abbrev pub invariant-loop-update : goal.invariant-loop-update
invariant-loop-update l = l.out.items ≡ l.fn.out.items ++ flat_map update_bytes (take l.update-index l.updates)
