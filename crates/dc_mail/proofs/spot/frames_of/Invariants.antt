use Rattle.std.proofs.Common.{◌≡◌, take}
use Rattle.link_frames.specs.Frames.{framed}
use Rattle.dc_mail.proofs.spot.frames_of.Given as goal

abbrev pub invariant-items : goal.invariant-items
invariant-items l = l.frames.items ≡ framed (take l.item-index l.items)
