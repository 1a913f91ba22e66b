use Rattle.std.proofs.Common.{◌≡◌, ◌++◌, take}
use Rattle.wire_codec.specs.Spelling.{entries_bytes}
use Rattle.wire_codec.proofs.encoding.put_entries.Given as goal

abbrev pub invariant-loop-entry : goal.invariant-loop-entry
invariant-loop-entry l = l.out.items ≡ l.fn.out.items ++ entries_bytes (take l.entry-index l.entries)
