-- The shows of a trail: what chosen objects were at the base of its centre, behind a prune.
use Rattle.std.specs.Prelude.{◌≡◌, ◌≤◌, ℕ, suc, List, [], ◌∷◌, ◌++◌}
use Rattle.ids_core.specs.declared.object.ObjectId.{ObjectId}
use Rattle.dc_talk.specs.declared.ask.Ask.TheVariants.{Prune}
use Rattle.dc_talk.specs.declared.say.Say.TheVariants.{Base}
use Rattle.dc_talk.specs.declared.settings.Settings.{Settings}
use Rattle.dc_talk.specs.declared.log.Fate.TheVariants.{Unheard}
use Rattle.dc_talk.specs.declared.log.Deed.{Deed}
use Rattle.dc_talk.specs.declared.log.Deed.TheVariants.{Asked}
use Rattle.dc_talk.specs.Entries.{Entry}
use Rattle.dc_talk.specs.Trails.{horizon}
use Rattle.script_core.specs.declared.taps.Show.{Show}
use Rattle.dc_talk.specs.declared.seen.Fed.{Fed}
use Rattle.dc_talk.specs.declared.seen.Fed.TheVariants.{Shown}
use Rattle.script_core.specs.Taps.{opening}
use Rattle.script_core.specs.Feeds.{FetchesAll}
use Rattle.read_tap.specs.Feeds.{Feeds}
use Rattle.show_law.specs.Fronts.{through, IsPrunedAt, states_at}

-- the prune at a place of the trail left the show's vector as the base, and the show's states are those that the objects
-- had there by then
pub record IsShowAt (s : Settings) (trail : List Entry) (objects : List ObjectId) (place : ℕ) (show : Show) : Type 0 where
  pub pruned : IsPrunedAt trail place show.vector
  pub base : show.vector ≡ (horizon s (through place trail)).base
  pub states : show.states ≡ states_at s (through place trail) objects show.vector

-- the show is one of the trail
pub record IsShowOf (s : Settings) (trail : List Entry) (objects : List ObjectId) (show : Show) : Type 0 where
  pub place : ℕ
  pub at : IsShowAt s trail objects place show

-- the shows are those of prunes that stand in the trail in the order of the shows, from a place on
abbrev pub AreShowsFrom : ℕ → Settings → List Entry → List ObjectId → List Show → Type 0
AreShowsFrom place s trail objects [] = Unit {0}
AreShowsFrom place s trail objects (show ∷ shows) = (p : ℕ) × (place ≤ p) × IsShowAt s trail objects p show × AreShowsFrom (suc p) s trail objects shows

-- the shows are those of a tap of these objects: the opening one, and shows of the trail in their order
pub record AreTapShows (s : Settings) (trail : List Entry) (objects : List ObjectId) (shows : List Show) : Type 0 where
  pub later : List Show
  pub whole : shows ≡ opening s.n objects ∷ later
  pub are : AreShowsFrom 0 s trail objects later

-- ---- feeds

-- the deeds of a feed that found a show: a prune, answered with the show's vector, and the fetches of all objects there,
-- answered with its states
pub record IsFeedOf (centre : ℕ) (objects : List ObjectId) (show : Show) (deeds : List Deed) : Type 0 where
  pub folded : ℕ
  pub trimmed : ℕ
  pub later : List Deed
  pub whole : deeds ≡ Asked centre Prune (Unheard (Base show.vector folded trimmed)) ∷ later
  pub fetches : FetchesAll centre show.vector objects show.states later

-- a feed added the show that it found
pub record HasShown (centre : ℕ) (objects : List ObjectId) (old new : List Show) (fed : Fed) (deeds : List Deed) : Type 0 where
  pub show : Show
  pub ends : fed ≡ Shown show.vector
  pub shows : new ≡ old ++ show ∷ []
  pub feed : IsFeedOf centre objects show deeds

-- feeds, one after another, with these deeds, from some shows of a tap to others
abbrev pub FeedsAll : ℕ → List ObjectId → List Show → List Show → List (List Deed) → Type 0
FeedsAll centre objects old new [] = new ≡ old
FeedsAll centre objects old new (deeds ∷ feeds) = (between : List Show) × (fed : Fed) × Feeds centre objects old between fed deeds × FeedsAll centre objects between new feeds
