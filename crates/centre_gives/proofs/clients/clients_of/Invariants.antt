use Rattle.std.proofs.Common.{◌≡◌, take}
use Rattle.centre_gives.specs.Parts.{client_parts}
use Rattle.centre_gives.proofs.clients.clients_of.Given as goal

abbrev pub invariant-loop-note : goal.invariant-loop-note
invariant-loop-note l = l.parts ≡ client_parts (take l.note-index l.notes) l.numbers
