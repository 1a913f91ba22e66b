use Rattle.journal_asks.proofs.Fronts.{bare_front}
use Rattle.journal_asks.proofs.item.bare.Goals as goal

pub returns : goal.returns
returns c = bare_front c.args.kind c.args.bytes.now _ c.requires.kind c.requires.none
