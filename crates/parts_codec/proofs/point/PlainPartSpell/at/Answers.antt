use Rattle.std.proofs.Common.{Some, sym, ap, ◌∙◌, subst}
use Rattle.std.proofs.lemmas.List.{take_rest}
use Rattle.wire_codec.proofs.Answering.{bytes_of}
use Rattle.state_codec.specs.Spelling.{part_bytes, IsSpelledPart}
use Rattle.state_codec.specs.Fronts.{IsFront}
use Rattle.state_codec.proofs.Spelled.{named_tells}
use Rattle.parts_codec.proofs.Picking.{front_read, none_read}
use Rattle.parts_codec.proofs.point.PlainPartSpell.at.Goals as goal

pub returns-in-Ok-Some : goal.returns-in-Ok-Some
returns-in-Ok-Some c =
    let bytes = c.args.bytes.now in
    let front = subst (IsFront IsSpelledPart part_bytes bytes) c.in-Ok-Some.field-0-is c.in-Ok-Some.ensures in
    front_read named_tells bytes c.in-Ok-Some.part c.in-Ok-Some.count front ∙ ap (λ rest. Some (c.in-Ok-Some.part, rest)) (sym (take_rest bytes c.in-Ok-Some.count))

pub returns-in-Ok-None : goal.returns-in-Ok-None
returns-in-Ok-None c =
    let bytes = c.args.bytes.now in
    none_read named_tells bytes (bytes_of bytes c.type_inv.bytes) (subst (IsFront IsSpelledPart part_bytes bytes) c.in-Ok-None.field-0-is c.in-Ok-None.ensures)
