use Rattle.std.proofs.Common.{◌≡◌, take}
use Rattle.print_text.specs.Parts.{texts_in}
use Rattle.print_text.proofs.text.joined.Given as goal

abbrev pub invariant-loop-part : goal.invariant-loop-part
invariant-loop-part l = l.text.items ≡ texts_in (take l.part-index l.parts)
