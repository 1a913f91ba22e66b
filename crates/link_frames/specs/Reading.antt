-- What the bytes of an item are.
use Rattle.std.specs.Prelude.{◌==◌, ℕ, List, length, Result, Ok, Err, if◌then◌else◌}
use Rattle.dc_talk.specs.declared.sent.Sent.{Sent}
use Rattle.dc_talk.specs.Sents.{with_hops}
use Rattle.wire_codec.specs.declared.item.Item.{Item}
use Rattle.wire_codec.specs.declared.item.Item.TheVariants.{Rec, Rep}
use Rattle.wire_codec.specs.declared.item.Decoded.{Decoded}
use Rattle.wire_codec.specs.declared.item.Decoded.TheVariants as decoded
use Rattle.wire_codec.specs.Fields.{read}
use Rattle.wire_codec.specs.Grammar.{frame}
use Rattle.wire_codec.specs.Answers.{told}
use Rattle.dc_talk.specs.declared.links.FrameFault.{FrameFault}
use Rattle.dc_talk.specs.declared.links.FrameFault.TheVariants.{Short, Bad, Rest, Report}

-- what the fields of a frame tell of the bytes
abbrev pub decoded_of : List ℕ → Decoded
decoded_of bytes = told (length bytes) (read frame bytes)

-- the record with its hops in a frame, if it holds one
abbrev pub record_in : Item → Result Sent FrameFault
record_in (Rec item hops) = Ok (with_hops item hops)
record_in (Rep centre vector) = Err Report

-- what so many bytes are that tell this: the record of a frame that ends where they do, or why there is none
abbrev pub whole_of : ℕ → Decoded → Result Sent FrameFault
whole_of count (decoded.Whole item used) = if used == count then record_in item else Err (Rest used)
whole_of count decoded.Short = Err Short
whole_of count (decoded.Bad place) = Err (Bad place)

-- the record with its hops whose frame the bytes are, or why they are the frame of none
unfoldable pub read_whole : List ℕ → Result Sent FrameFault
read_whole bytes = whole_of (length bytes) (decoded_of bytes)
