use Rattle.std.proofs.Common.{◌≡◌, take}
use Rattle.std.specs.Prelude.{All, map}
use Rattle.parts_codec.specs.Plain.{plain_part, IsOfKind}
use Rattle.parts_codec.proofs.states.states_of.Given as goal

abbrev pub invariant-loop-part : goal.invariant-loop-part
invariant-loop-part l = record {
  made : map plain_part l.parts ≡ take l.part-index l.plain;
  kinds : All IsOfKind l.parts;
}
