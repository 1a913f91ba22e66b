-- What is taken at the end of a link, beside what is delivered over a door meanwhile.
use Rattle.std.specs.Prelude.{◌≡◌, ◌≤◌, ◌⊎◌, ℕ, List, [], ◌++◌, length}
use Rattle.dc_talk.specs.declared.sent.Sent.{Sent}
use Rattle.dc_talk.specs.Acting.{Acting, IsCutShort}
use Rattle.script_core.specs.Links.{Inlet, arrivals, arrived, inlet_after, inlet_closed}
use Rattle.script_core.specs.Carrying.{Route}
use Rattle.script_core.specs.Rounds.{Brings}
use Rattle.dc_worker.specs.Work.{AddsSuch}

-- the end of a link that takes: what was taken, and the fault with what it holds, beside the door and the log of the
-- receiver
pub record Incoming : Type 0 where
  pub acting : Acting
  pub inlet : Inlet Sent
  pub taken : List Sent

-- a receiver by its door and log, its inlet and what it took
abbrev pub incoming : Acting → Inlet Sent → List Sent → Incoming
incoming acting inlet taken = record { acting = acting; inlet = inlet; taken = taken }

-- so many records were taken of the link over a route, and what comes of them while more may come was delivered, or noted
-- where it was spoilt
pub record Receives (r : Route) (number : ℕ) (old new : Incoming) : Type 0 where
  pub items : List Sent
  pub taken : new.taken ≡ old.taken ++ items
  pub brings : AddsSuch (Brings r (arrived old.inlet items)) old.acting new.acting
  pub inlet : new.inlet ≡ inlet_after old.inlet items
  pub count : number ≡ length items

-- the same where no more come
pub record Closes (r : Route) (number : ℕ) (old new : Incoming) : Type 0 where
  pub items : List Sent
  pub taken : new.taken ≡ old.taken ++ items
  pub brings : AddsSuch (Brings r (arrivals old.inlet items)) old.acting new.acting
  pub inlet : new.inlet ≡ inlet_closed old.inlet items
  pub count : number ≡ length items

-- ---- an early end

-- a receiver came to an early end at one record more, which it took, or at what was held: a part of what comes of it may
-- have been delivered
pub record StopsAt (old new : Incoming) : Type 0 where
  pub last : List Sent
  pub one : length last ≤ 1
  pub taken : new.taken ≡ old.taken ++ last
  pub inlet : (new.inlet ≡ old.inlet) ⊎ (new.inlet ≡ inlet_after old.inlet last) ⊎ (new.inlet ≡ record old.inlet { held = [] })
  pub short : IsCutShort old.acting new.acting

-- some records were taken of the link over a route, and what comes of them was delivered, before it came to an early end
pub record ReceivesPart (r : Route) (old new : Incoming) : Type 0 where
  pub number : ℕ
  pub between : Incoming
  pub receives : Receives r number old between
  pub stops : StopsAt between new

-- so it is where the first of these records were taken
pub record BringsPart (r : Route) (items : List Sent) (old new : Inlet Sent) (a b : Acting) : Type 0 where
  pub taken : List Sent
  pub rest : List Sent
  pub whole : items ≡ taken ++ rest
  pub part : ReceivesPart r (incoming a old []) (incoming b new taken)
