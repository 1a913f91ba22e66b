-- What a feed of a tap adds to its shows.
use Rattle.std.specs.Prelude.{◌≡◌, ℕ, List, [], ◌∷◌, ◌++◌}
use Rattle.ids_core.specs.declared.object.ObjectId.{ObjectId}
use Rattle.dc_talk.specs.declared.seen.Fed.{Fed}
use Rattle.dc_talk.specs.declared.seen.Fed.TheVariants.{Shown}
use Rattle.dc_talk.specs.declared.log.Deed.{Deed}
use Rattle.script_core.specs.declared.taps.Show.{Show}
use Rattle.script_core.specs.declared.taps.Found.{Found}
use Rattle.script_core.specs.declared.taps.Found.TheVariants.{Whole, Ended}
use Rattle.script_core.specs.Feeds.{Finds}

-- the shows after a feed: one more where a whole show was found
abbrev pub IsShown : List Show → Found → Fed → List Show → Type 0
IsShown old (Whole show) fed new = (fed ≡ Shown show.vector) × (new ≡ old ++ show ∷ [])
IsShown old (Ended end) fed new = (fed ≡ end) × (new ≡ old)

-- the deeds are those of a feed with this outcome, and the shows are the old ones with what it found
pub record Feeds (centre : ℕ) (objects : List ObjectId) (old new : List Show) (fed : Fed) (deeds : List Deed) : Type 0 where
  pub found : Found
  pub finds : Finds centre objects found deeds
  pub shown : IsShown old found fed new
