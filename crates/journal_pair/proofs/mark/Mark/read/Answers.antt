use Rattle.journal_pair.proofs.Marks.{mark_front}
use Rattle.journal_pair.proofs.mark.Mark.read.Goals as goal

pub returns : goal.returns
returns c = mark_front c.args.bytes.now _ c.if-bytes-lt8.false c.type_inv.bytes c.from_be_bytes-number.ensures
