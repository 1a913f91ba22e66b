use Rattle.std.proofs.Common.{◌≡◌, ℕ, drop}
use Rattle.std.specs.Option.{option_or}
use Rattle.dup_guard.specs.Parts.{note_of, part_of}
use Rattle.dup_guard.proofs.guard.Guard.of_parts.Given as goal

abbrev pub invariant-loop-part : goal.invariant-loop-part
invariant-loop-part l = (client : ℕ) → option_or (part_of (drop l.part-index l.parts) client) (note_of l.guard client) ≡ part_of l.parts client
