-- What a centre was asked at a place of its trail, and what its objects were by then.
use Rattle.std.specs.Prelude.{◌≡◌, ℕ, suc, List, map, take, slice_get, Some}
use Rattle.ids_core.specs.declared.object.ObjectId.{ObjectId}
use Rattle.tx_core.specs.declared.state.State.{State}
use Rattle.dc_talk.specs.declared.ask.Ask.TheVariants.{Fetch, Prune}
use Rattle.dc_talk.specs.declared.say.Say.TheVariants.{Object, Base}
use Rattle.dc_talk.specs.declared.settings.Settings.{Settings}
use Rattle.dc_talk.specs.Entries.{Entry}
use Rattle.dc_talk.specs.Objects.{state_at}
use Rattle.dc_talk.specs.Trails.{applied}

-- the trail up to the entry at a place, and with it
abbrev pub through : ℕ → List Entry → List Entry
through place trail = take (suc place) trail

-- the entry at a place of the trail is a prune that was answered with this base
pub record IsPrunedAt (trail : List Entry) (place : ℕ) (base : List ℕ) : Type 0 where
  pub entry : Entry
  pub there : slice_get trail place ≡ Some entry
  pub asks : entry.ask ≡ Prune
  pub folded : ℕ
  pub trimmed : ℕ
  pub says : entry.say ≡ Base base folded trimmed

-- the entry at a place of the trail is a fetch of an object at a vector that was answered with this state
pub record IsFetchedAt (trail : List Entry) (place : ℕ) (object : ObjectId) (vector : List ℕ) (state : State) : Type 0 where
  pub entry : Entry
  pub there : slice_get trail place ≡ Some entry
  pub asks : entry.ask ≡ Fetch object vector
  pub says : entry.say ≡ Object state

-- the states of these objects at a vector, over the records that a trail applied
abbrev pub states_at : Settings → List Entry → List ObjectId → List ℕ → List State
states_at s trail objects vector = map (λ object. state_at object (applied s.n trail) vector) objects
