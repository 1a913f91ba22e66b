-- What a round of a worker leaves in its log and on the links.
use Rattle.std.specs.Prelude.{◌≡◌, ◌≢◌, ◌<◌, ℕ, ◌+◌, ◌==◌, nat_le, ◌&&◌, not, Bool, cond, List, []}
use Rattle.dc_talk.specs.declared.sent.Sent.{Sent}
use Rattle.dc_talk.specs.declared.links.Arrival.{Arrival}
use Rattle.dc_talk.specs.declared.log.Deed.{Deed}
use Rattle.dc_talk.specs.Acting.{Acting, IsCutShort}
use Rattle.link_frames.specs.Frames.{framed}
use Rattle.script_core.specs.Provenance.{CarriesAll}
use Rattle.script_core.specs.Mail.{Post, post_put}
use Rattle.script_core.specs.Rounds.{SenderDeeds, mailed, ReceiverDeeds}
use Rattle.dc_worker.specs.Work.{Adds}
use Rattle.dc_mail.specs.Posts.{post_at, IsCentre, PostsPart}

-- the sender of a centre made a round over the links to the others of the first n: a log and what a door shows grow by
-- its deeds, and what they mail lies on the links from the centre, so far as it has frames
pub record HasSent (n i : ℕ) (old new : List Post) (a b : Acting) : Type 0 where
  pub deeds : List Deed
  pub such : SenderDeeds n i deeds
  pub adds : Adds a b deeds
  pub carries : CarriesAll [] deeds
  pub posts : (from to : ℕ) → IsCentre from → IsCentre to → post_at new from to ≡ cond (from == i && not (to == i)) (post_put (framed (mailed to deeds)) (post_at old from to)) (post_at old from to)

-- a link to a centre from another one of the first n
abbrev pub is_inward : ℕ → ℕ → ℕ → ℕ → Bool
is_inward n i from to = (to == i && not (from == i)) && nat_le from n

-- the receiver of a centre made a round over the links from the others of the first n: of each it delivers what is due,
-- and the link is then as a round leaves it
pub record HasReceived (due : Post → List (Arrival Sent)) (later : Post → Post) (n i : ℕ) (old new : List Post) (a b : Acting) : Type 0 where
  pub deeds : List Deed
  pub such : ReceiverDeeds n i (λ from. due (post_at old from i)) deeds
  pub adds : Adds a b deeds
  pub posts : (from to : ℕ) → IsCentre from → IsCentre to → post_at new from to ≡ cond (is_inward n i from to) (later (post_at old from to)) (post_at old from to)

-- ---- an early end

-- a sender's round that came to an early end: it was made over the links to the others of some first centres, and nothing was
-- put on the link to the next one
pub record SentPart (n i : ℕ) (old new : List Post) (a b : Acting) : Type 0 where
  pub before : ℕ
  pub few : before < n
  pub other : before + 1 ≢ i
  pub between : Acting
  pub sent : HasSent before i old new a between
  pub short : IsCutShort between b

-- a receiver's round that came to an early end: it was made over the links from the others of some first centres, and over
-- the link from the next one in part
pub record ReceivedPart (due : Post → List (Arrival Sent)) (later : Post → Post) (n i : ℕ) (old new : List Post) (a b : Acting) : Type 0 where
  pub before : ℕ
  pub few : before < n
  pub other : before + 1 ≢ i
  pub mid : List Post
  pub between : Acting
  pub received : HasReceived due later before i old mid a between
  pub takes : PostsPart (before + 1) i mid new between b
