use Rattle.std.proofs.Common.{◌≡◌, ◌++◌, take}
use Rattle.std.specs.List.{flat_map}
use Rattle.wire_codec.specs.Spelling.{tag_bytes}
use Rattle.wire_codec.proofs.encoding.put_ids.Given as goal

abbrev pub invariant-loop-id : goal.invariant-loop-id
invariant-loop-id l = l.out.items ≡ l.fn.out.items ++ flat_map tag_bytes (take l.id-index l.ids)
