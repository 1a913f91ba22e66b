-- The record in the bytes of a frame.
use Rattle.std.specs.Prelude.{◌≡◌, ℕ, List, [], Result, Ok, Err}
use Rattle.dc_talk.specs.declared.sent.Sent.{Sent}
use Rattle.dc_talk.specs.Sents.{with_hops}
use Rattle.dc_talk.specs.declared.links.FrameFault.{FrameFault}
use Rattle.link_frames.specs.Spelling.{spelling}
use Rattle.link_frames.specs.Frames.{HasFrame}
use Rattle.link_frames.specs.Reading.{read_whole}

-- stands for the record of bytes that are the frame of none
abbrev no_sent : Sent
no_sent = with_hops (record { stamp = record { centre = 0; seq = 0 }; deps = []; tx = record { dot = record { client = 0; number = 0 }; rank = 0; snap = []; updates = [] } }) 0

-- the record that was read
abbrev pub sent_of : Result Sent FrameFault → Sent
sent_of (Ok sent) = sent
sent_of (Err fault) = no_sent

-- the record with its hops whose frame the bytes are
unfoldable pub sent_in : List ℕ → Sent
sent_in bytes = sent_of (read_whole bytes)

-- the bytes are the frame of a record
pub record IsFrame (bytes : List ℕ) : Type 0 where
  pub has : HasFrame (sent_in bytes)
  pub are : bytes ≡ spelling (sent_in bytes)
