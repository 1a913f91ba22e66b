use Rattle.std.proofs.Common.{◌≡◌, ◌++◌, take}
use Rattle.std.specs.List.{flat_map}
use Rattle.state_codec.specs.Spelling.{member_bytes}
use Rattle.state_codec.proofs.writing.put_each_member.Given as goal

abbrev pub invariant-loop-member : goal.invariant-loop-member
invariant-loop-member l = l.out.items ≡ l.fn.out.items ++ flat_map member_bytes (take l.member-index l.list)
