use Rattle.std.proofs.Common.{◌≡◌, ◌++◌, take}
use Rattle.std.specs.Prelude.{All}
use Rattle.std.specs.List.{flat_map}
use Rattle.parts_codec.proofs.lists.put_each.Given as goal

abbrev pub invariant-loop-item : goal.invariant-loop-item
invariant-loop-item g l = record {
  bytes : l.out.items ≡ l.fn.out.items ++ flat_map g.T.Spell.spelled (take l.item-index l.items);
  fit : All g.T.Spell.has_bytes (take l.item-index l.items);
}
