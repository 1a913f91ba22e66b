-- What is put on a link, beside what is done over a door meanwhile.
use Rattle.std.specs.Prelude.{◌≡◌, ℕ, List, ◌++◌, length}
use Rattle.dc_talk.specs.declared.sent.Sent.{Sent}
use Rattle.dc_talk.specs.Acting.{Acting}
use Rattle.link_frames.specs.Frames.{framed}
use Rattle.script_core.specs.Carrying.{Route}
use Rattle.script_core.specs.Rounds.{Mails}
use Rattle.dc_worker.specs.Work.{CarriesSuch}

-- the end of a link that puts: what was put, beside the door and the log of the sender
pub record Outgoing : Type 0 where
  pub acting : Acting
  pub put : List Sent

-- a sender by its door and log and what it put
abbrev pub outgoing : Acting → List Sent → Outgoing
outgoing acting put = record { acting = acting; put = put }

-- the asks over a route, with just the records of the answer put on the link that have a frame, which are so many
pub record Posts (r : Route) (number : ℕ) (old new : Outgoing) : Type 0 where
  pub items : List Sent
  pub mails : CarriesSuch (λ deeds. Mails r deeds items) old.acting new.acting
  pub put : new.put ≡ old.put ++ framed items
  pub count : number ≡ length (framed items)
