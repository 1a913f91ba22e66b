use Rattle.std.proofs.Common.{take}
use Rattle.std.specs.Prelude.{All}
use Rattle.wire_codec.specs.Spelling.{IsSpelledUpdate}
use Rattle.link_frames.proofs.frames.see_updates.Given as goal

abbrev pub invariant-loop-update : goal.invariant-loop-update
invariant-loop-update l = All IsSpelledUpdate (take l.update-index l.updates)
