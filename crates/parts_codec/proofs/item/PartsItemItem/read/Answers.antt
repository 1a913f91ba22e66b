use Rattle.std.proofs.Common.{subst}
use Rattle.state_codec.specs.Fronts.{IsFront}
use Rattle.parts_codec.specs.Spelling.{centre_bytes, IsSpelledCentre}
use Rattle.parts_codec.proofs.Items.{item_found, none_found}
use Rattle.parts_codec.proofs.item.PartsItemItem.read.Goals as goal

pub returns-in-Ok-Some-clause-found : goal.returns-in-Ok-Some-clause-found
returns-in-Ok-Some-clause-found c = λ x rest begins.
    let front = subst (IsFront IsSpelledCentre centre_bytes c.args.bytes.now) c.in-Ok-Some.field-0-is c.in-Ok-Some.ensures in
    item_found c.args.bytes.now _ x c.in-Ok-Some.count rest front begins

pub returns-in-Ok-None-clause-found : goal.returns-in-Ok-None-clause-found
returns-in-Ok-None-clause-found c = λ x rest begins.
    let front = subst (IsFront IsSpelledCentre centre_bytes c.args.bytes.now) c.in-Ok-None.field-0-is c.in-Ok-None.ensures in
    absurd (none_found c.args.bytes.now x rest front begins)
