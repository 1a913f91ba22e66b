-- The bytes of a record with its hops.
use Rattle.std.specs.Prelude.{ℕ, List}
use Rattle.dc_talk.specs.declared.sent.Sent.{Sent}
use Rattle.wire_codec.specs.declared.item.Item.{Item}
use Rattle.wire_codec.specs.declared.item.Item.TheVariants.{Rec}
use Rattle.wire_codec.specs.declared.item.TheConstants.{VERSION}
use Rattle.wire_codec.specs.Spelling.{spelled}

-- what the frame holds
abbrev pub frame_of : Sent → Item
frame_of sent = Rec sent.item sent.hops

-- the bytes of the frame, in the version that is written
unfoldable pub spelling : Sent → List ℕ
spelling sent = spelled VERSION (frame_of sent)
