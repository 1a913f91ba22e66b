-- What a round of a sender or a receiver leaves in its log and at its ends of the links.
use Rattle.std.specs.Prelude.{◌≡◌, ◌≢◌, ◌≤◌, ◌<◌, ◌⊎◌, ℕ, ◌+◌, List, [], ◌++◌, length}
use Rattle.dc_talk.specs.declared.sent.Sent.{Sent}
use Rattle.dc_talk.specs.declared.links.Arrival.{Arrival}
use Rattle.dc_talk.specs.declared.log.Deed.{Deed}
use Rattle.dc_talk.specs.Acting.{Acting, IsCutShort}
use Rattle.link_frames.specs.Frames.{framed}
use Rattle.mail_link.specs.Ends.{GiverView, TakerView}
use Rattle.script_core.specs.declared.rounds.TheConstants.{MOST_MAILED}
use Rattle.script_core.specs.Carrying.{route}
use Rattle.script_core.specs.Provenance.{CarriesAll}
use Rattle.script_core.specs.Links.{Inlet, arrivals, arrived, inlet_after, inlet_closed}
use Rattle.script_core.specs.Rounds.{SenderDeeds, Mails, mailed, Brings, ReceiverDeeds}
use Rattle.dc_worker.specs.Work.{Adds, AddsSuch, CarriesSuch}
use Rattle.dc_worker.specs.Brings.{ReceivesPart, incoming}
use Rattle.dc_links.specs.Links.{IsMore, IsOther, put_to, put_between, taken_from, inlet_from}

-- what arrives of records that are taken of a link
abbrev pub Due : Type 0
Due = Inlet Sent → List Sent → List (Arrival Sent)

-- how the inlet of a link is after records are taken
abbrev pub Later : Type 0
Later = Inlet Sent → List Sent → Inlet Sent

-- ---- a sender

-- the sender of a centre made a round over the links to the others of the first n: a log and what a door shows grow by
-- its deeds, and it put what they mailed, so far as it has frames
pub record SendsOver (n i : ℕ) (old new : List (GiverView Sent)) (a b : Acting) : Type 0 where
  pub deeds : List Deed
  pub such : SenderDeeds n i deeds
  pub adds : Adds a b deeds
  pub carries : CarriesAll [] deeds
  pub put : (to : ℕ) → 1 ≤ to → put_to new to ≡ put_to old to ++ framed (mailed to deeds)

-- it asked for what one centre lacks, and put the records of the answer that have frames on the link to that one
pub record SendsTo (i to : ℕ) (old new : List (GiverView Sent)) (a b : Acting) : Type 0 where
  pub items : List Sent
  pub mails : CarriesSuch (λ deeds. Mails (route i to) deeds items) a b
  pub put : put_to new to ≡ put_to old to ++ framed items
  pub rest : (j : ℕ) → 1 ≤ j → j ≢ to → put_to new j ≡ put_to old j

-- some first ones of the records for one centre were put on its link
pub record PutsPart (to : ℕ) (old new : List (GiverView Sent)) : Type 0 where
  pub more : IsMore (put_to old to) (put_to new to)
  pub rest : (j : ℕ) → 1 ≤ j → j ≢ to → put_to new j ≡ put_to old j

-- a round that came to an early end: it was made over the links to the others of some first centres, and over the link to
-- the next one in part
pub record SendsPart (n i : ℕ) (old new : List (GiverView Sent)) (a b : Acting) : Type 0 where
  pub before : ℕ
  pub few : before < n
  pub other : before + 1 ≢ i
  pub mid : List (GiverView Sent)
  pub between : Acting
  pub sends : SendsOver before i old mid a between
  pub puts : PutsPart (before + 1) mid new
  pub short : IsCutShort between b

-- ---- a receiver

-- the ends of a receiver: those that take, and the fault of each link with what it holds
pub record Inward : Type 0 where
  pub takers : List (TakerView Sent)
  pub inlets : List (Inlet Sent)

-- a receiver by these
abbrev pub inward : List (TakerView Sent) → List (Inlet Sent) → Inward
inward takers inlets = record { takers = takers; inlets = inlets }

-- the receiver of a centre made a round over the links from the others of the first n: of each it took some records and
-- delivered what was due of them; of no other link it took any
pub record TakesOver (due : Due) (later : Later) (n j : ℕ) (old new : Inward) (a b : Acting) : Type 0 where
  pub items : ℕ → List Sent
  pub deeds : List Deed
  pub such : ReceiverDeeds n j (λ from. due (inlet_from old.inlets from) (items from)) deeds
  pub adds : Adds a b deeds
  pub taken : (from : ℕ) → 1 ≤ from → taken_from new.takers from ≡ taken_from old.takers from ++ items from
  pub inlets : (from : ℕ) → IsOther n j from → inlet_from new.inlets from ≡ later (inlet_from old.inlets from) (items from)
  pub none : (from : ℕ) → 1 ≤ from → (from ≡ j) ⊎ (n < from) → items from ≡ []
  pub same : (from : ℕ) → 1 ≤ from → (from ≡ j) ⊎ (n < from) → inlet_from new.inlets from ≡ inlet_from old.inlets from

-- it took some records of one link and delivered what was due of them
pub record TakesFrom (due : Due) (later : Later) (from j : ℕ) (old new : Inward) (a b : Acting) : Type 0 where
  pub items : List Sent
  pub brings : AddsSuch (Brings (route from j) (due (inlet_from old.inlets from) items)) a b
  pub taken : taken_from new.takers from ≡ taken_from old.takers from ++ items
  pub inlet : inlet_from new.inlets from ≡ later (inlet_from old.inlets from) items
  pub rest : (i : ℕ) → 1 ≤ i → i ≢ from → (taken_from new.takers i ≡ taken_from old.takers i) × (inlet_from new.inlets i ≡ inlet_from old.inlets i)

-- a round while more may come: it took at most so many records of each link
pub record ReceivesOver (n j : ℕ) (old new : Inward) (a b : Acting) : Type 0 where
  pub takes : TakesOver arrived inlet_after n j old new a b
  pub few : (from : ℕ) → length (takes.items from) ≤ MOST_MAILED

-- the same of one link
pub record ReceivesFrom (from j : ℕ) (old new : Inward) (a b : Acting) : Type 0 where
  pub takes : TakesFrom arrived inlet_after from j old new a b
  pub few : length takes.items ≤ MOST_MAILED

-- a closing round, where no more come: all that was put was taken then
pub record DrainsOver (n j : ℕ) (givers : List (List (GiverView Sent))) (old new : Inward) (a b : Acting) : Type 0 where
  pub takes : TakesOver arrivals inlet_closed n j old new a b
  pub all : (from : ℕ) → IsOther n j from → length (taken_from new.takers from) ≡ length (put_between givers from j)

-- the same of one link
pub record DrainsFrom (from j : ℕ) (givers : List (List (GiverView Sent))) (old new : Inward) (a b : Acting) : Type 0 where
  pub takes : TakesFrom arrivals inlet_closed from j old new a b
  pub all : length (taken_from new.takers from) ≡ length (put_between givers from j)

-- ---- an early end of a receiver

-- it took some records of one link, and delivered a part of what comes of them
pub record StopsFrom (from j : ℕ) (old new : Inward) (a b : Acting) : Type 0 where
  pub part : ReceivesPart (route from j) (incoming a (inlet_from old.inlets from) (taken_from old.takers from)) (incoming b (inlet_from new.inlets from) (taken_from new.takers from))
  pub rest : (i : ℕ) → 1 ≤ i → i ≢ from → (taken_from new.takers i ≡ taken_from old.takers i) × (inlet_from new.inlets i ≡ inlet_from old.inlets i)

-- a round that came to an early end: it was made over the links from the others of some first centres, and over the link
-- from the next one in part
pub record TakesPart (due : Due) (later : Later) (n j : ℕ) (old new : Inward) (a b : Acting) : Type 0 where
  pub before : ℕ
  pub few : before < n
  pub other : before + 1 ≢ j
  pub mid : Inward
  pub between : Acting
  pub takes : TakesOver due later before j old mid a between
  pub stops : StopsFrom (before + 1) j mid new between b
