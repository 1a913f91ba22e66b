-- A door to the centres beside the log of the actor that asks through it, and how both grow by its deeds.
use Rattle.std.specs.Prelude.{◌≡◌, map, List, ◌++◌, All}
use Rattle.dc_talk.specs.declared.log.Deed.{Deed}
use Rattle.dc_talk.specs.declared.log.Deed.TheVariants.{Asked}
use Rattle.dc_talk.specs.declared.log.Note.{Note}
use Rattle.dc_talk.specs.Logs.{Logged, marked}
use Rattle.dc_talk.specs.Doors.{DoorView, IsBehind, HasDone, MayHaveAsked}

-- a door to the centres, and the log of the actor that asks through it
pub record Acting : Type 0 where
  pub door : DoorView
  pub log : Logged

-- a log beside a door
abbrev pub acting : DoorView → Logged → Acting
acting door log = record { door = door; log = log }

-- the log with more deeds, at the section and step that it is at
abbrev pub noted_all : Logged → List Deed → Logged
noted_all log deeds = record log { notes = log.notes ++ map (marked log.section log.step) deeds }

-- the centre of an ask is behind the door
abbrev pub IsAskBehind : DoorView → Deed → Type 0
IsAskBehind door (Asked i ask fate) = IsBehind door i
IsAskBehind door _ = Unit {0}

-- a log and what the door shows grow by these deeds
pub record Leaves (old new : Acting) (deeds : List Deed) : Type 0 where
  pub log : new.log ≡ noted_all old.log deeds
  pub door : HasDone old.door new.door deeds
  pub behind : All (IsAskBehind old.door) deeds

-- a step that came to an early end: notes were put behind those of the log, and the door may have been asked
pub record IsCutShort (old new : Acting) : Type 0 where
  pub notes : List Note
  pub log : new.log ≡ record old.log { notes = old.log.notes ++ notes }
  pub door : MayHaveAsked old.door new.door
