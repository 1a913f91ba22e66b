use Rattle.link_frames.proofs.Whole.{record_in, frame_is}
use Rattle.link_frames.proofs.frame.Frame.of.Goals as goal

pub invariant_of-result : goal.invariant_of-result
invariant_of-result c = frame_is c.args.sent.now c.in_ok-spell_item.field-0.items c.requires c.in_ok-spell_item.ensures

pub returns : goal.returns
returns c = record_in c.args.sent.now c.in_ok-spell_item.field-0.items c.requires c.in_ok-spell_item.ensures
