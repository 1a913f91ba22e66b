-- A door that owns the centres, on one thread.
use Rattle.std.specs.Prelude.{◌≡◌, ◌≤◌, ◌<◌, ◌^◌, ℕ, zero, suc, ◌+◌, true, length, drop, List, [], ◌∷◌, ◌++◌, map, Option, Some, None, slice_get, slice_set, All}
use Rattle.ids_core.specs.declared.limits.TheConstants.{MOST_CENTRES}
use Rattle.vv_core.specs.Vectors.{at}
use Rattle.dc_talk.specs.declared.settings.Settings.{Settings}
use Rattle.dc_talk.specs.Entries.{Entry}
use Rattle.dc_talk.specs.Answers.{answer}
use Rattle.dc_talk.specs.Doors.{DoorView}
use Rattle.dc_door.specs.declared.kept_door.KeptPlace.{KeptPlace}
use Rattle.dc_door.specs.Centres.{CentreTrail, KeptCentre, all_seen, IsKeptCentre}

-- the actor, the centres in order, and for each how many entries of its trail were there before those that were
-- made for the actor
pub record KeptView : Type 0 where
  pub actor : ℕ
  pub centres : List CentreTrail
  pub since : List ℕ

-- centre i, counted from 1
abbrev pub centre_at : List CentreTrail → ℕ → Option CentreTrail
centre_at centres zero = None
centre_at centres (suc i) = slice_get centres i

-- the entries of a centre's trail, and none where there is no centre
abbrev pub entries_of : Option CentreTrail → List Entry
entries_of None = []
entries_of (Some centre) = centre.entries

-- the trail of centre i, and no entries where there is no such centre
abbrev pub trail_at : List CentreTrail → ℕ → List Entry
trail_at centres i = entries_of (centre_at centres i)

-- the settings of the centres in order
abbrev pub settings_of : List CentreTrail → List Settings
settings_of centres = map (λ centre. centre.settings) centres

-- what is seen of it as a door: it is alone, knows the trails, and made what is behind the entries that were there
-- before
abbrev pub shown_of : KeptView → DoorView
shown_of door = record {
  actor = door.actor;
  centres = length door.centres;
  alone = true;
  made = λ i. drop (at door.since i) (trail_at door.centres i);
  seen = λ i. trail_at door.centres i;
}

-- what no ask changes
abbrev pub place_of : KeptView → KeptPlace
place_of door = record { actor = door.actor; settings = settings_of door.centres }

-- how many entries each trail has
abbrev pub lengths_of : List CentreTrail → List ℕ
lengths_of centres = map (λ centre. length centre.entries) centres

-- a door over these centres at which nothing was made for its actor
abbrev pub begun : ℕ → List CentreTrail → KeptView
begun actor centres = record { actor = actor; centres = centres; since = lengths_of centres }

-- a door as it may be: there are 1 to MOST_CENTRES centres, each is kept, and no trail has fewer entries than were
-- there before
pub record IsKeptDoor (kept : List KeptCentre) (since : List ℕ) : Type 0 where
  pub number : (1 ≤ length kept) × (length kept ≤ MOST_CENTRES)
  pub all : All IsKeptCentre kept
  pub before : (i : ℕ) → at since i ≤ length (trail_at (all_seen kept) i)

-- the centre at a place, counted from 0, has one entry more, with its answer, and the others stay
pub record HasAnswered (old new : List CentreTrail) (place : ℕ) (entry : Entry) : Type 0 where
  pub centre : CentreTrail
  pub there : slice_get old place ≡ Some centre
  pub say : entry.say ≡ answer centre.settings centre.entries entry.ask
  pub after : new ≡ slice_set old place (record centre { entries = centre.entries ++ entry ∷ [] })
  pub short : length centre.entries + 1 < 2 ^ 62
