-- Which records have a frame.
use Rattle.std.specs.Prelude.{Bool, List, length, filter}
use Rattle.dc_talk.specs.declared.ask.Ask.TheVariants.{Deliver}
use Rattle.dc_talk.specs.declared.sent.Sent.{Sent}
use Rattle.dc_talk.specs.Answers.{fits}
use Rattle.wire_codec.specs.declared.item.TheConstants.{VERSION}
use Rattle.wire_codec.specs.Spelling.{IsSpelled}
use Rattle.link_frames.specs.Spelling.{frame_of}

-- the frame has a spelling in the version that is written
abbrev pub HasFrame : Sent → Type 0
HasFrame sent = IsSpelled VERSION (frame_of sent)

-- the record can be delivered with its hops among as many centres as its dependencies have entries
abbrev pub is_deliverable : Sent → Bool
is_deliverable sent = fits (length sent.item.deps) (Deliver sent.item sent.hops)

-- those of some records that can be, in their order
abbrev pub framed : List Sent → List Sent
framed items = filter is_deliverable items
