use Rattle.std.proofs.Common.{◌≡◌, take}
use Rattle.std.specs.Prelude.{All, map}
use Rattle.parts_codec.specs.Plain.{plain_part, HasPart}
use Rattle.parts_codec.proofs.states.plain_states.Given as goal

abbrev pub invariant-loop-part : goal.invariant-loop-part
invariant-loop-part l = record {
  plain : l.plain ≡ map plain_part (take l.part-index l.parts);
  fit : All HasPart l.plain;
}
