-- What an actor does in a section through a door, beside its log.
use Rattle.std.specs.Prelude.{◌≡◌, ℕ, map, List, ◌++◌}
use Rattle.dc_talk.specs.declared.log.Note.{Note}
use Rattle.dc_talk.specs.Logs.{entries_made}
use Rattle.dc_talk.specs.Doors.{IsSameDoor}
use Rattle.dc_talk.specs.Acting.{Acting, acting}
use Rattle.dc_host.specs.HostDoors.{CentreHost, shown_by, bare, ArePasses}
use Rattle.run_sections.specs.Orders.{deeds_of, InOrder}
use Rattle.phase_actors.specs.declared.callers.Caller.{Caller}

-- ---- through a door

-- a log grows by notes, and what a door made by their entries
pub record Acted (old new : Acting) (mine : List Note) : Type 0 where
  pub actor : new.log.actor ≡ old.log.actor
  pub log : new.log.notes ≡ old.log.notes ++ mine
  pub same : IsSameDoor old.door new.door
  pub made : (i : ℕ) → new.door.made i ≡ old.door.made i ++ entries_made old.door.actor i (deeds_of mine)

module _ {S M : Type 0} where
  -- an actor does these things one after another in a section, from a state on to another
  pub record Plays (Does : S → ℕ → M → List Note → S → Type 0) (section : ℕ) (first : S) (moves : List M) (old new : Acting) (last : S) : Type 0 where
    pub mine : List Note
    pub acted : Acted old new mine
    pub order : InOrder Does section 1 first moves mine last

-- ---- over hosts

-- what a caller's passes and its log are seen as
abbrev pub seen_by : Caller → Acting
seen_by caller = acting (shown_by caller.log.actor caller.row.items) caller.log

-- the caller has a pass of each of these hosts, in order, with its number
abbrev pub IsCaller : List CentreHost → Caller → Type 0
IsCaller hosts caller = ArePasses hosts caller.log.actor caller.row.items

-- it has the same passes, with what more was done with them
abbrev pub IsSameCaller : Caller → Caller → Type 0
IsSameCaller old new = (new.log.actor ≡ old.log.actor) × (map bare new.row.items ≡ map bare old.row.items)
