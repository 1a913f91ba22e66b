-- What a fetch of a feed came to, and what its asks found.
use Rattle.std.specs.Prelude.{◌≡◌, ℕ, List, [], ◌∷◌, Option, Some, None}
use Rattle.ids_core.specs.declared.object.ObjectId.{ObjectId}
use Rattle.dc_talk.specs.declared.say.Say.{Say}
use Rattle.dc_talk.specs.declared.say.Say.TheVariants as said
use Rattle.dc_talk.specs.Acting.{Acting}
use Rattle.script_core.specs.declared.taps.Show.{Show}
use Rattle.script_core.specs.declared.taps.Found.{Found}
use Rattle.script_core.specs.declared.taps.Found.TheVariants.{Whole, Ended}
use Rattle.script_core.specs.Feeds.{end_by, fetch_of}
use Rattle.dc_worker.specs.declared.feeds.Fetched.{Fetched}
use Rattle.dc_worker.specs.declared.feeds.Fetched.TheVariants as fetch
use Rattle.dc_worker.specs.Work.{Adds}

-- what an answer to a fetch is for the feed
abbrev pub IsFetched : Say → Fetched → Type 0
IsFetched answer (fetch.Got state) = answer ≡ said.Object state
IsFetched answer (fetch.Ended fed) = end_by answer ≡ Some fed

-- one object was fetched at a vector, and it came to this
pub record HasFetched (centre : ℕ) (vector : List ℕ) (object : ObjectId) (it : Fetched) (old new : Acting) : Type 0 where
  pub answer : Say
  pub adds : Adds old new (fetch_of centre vector object answer ∷ [])
  pub came_to : IsFetched answer it

-- the show that was found, where one was
abbrev pub show_found : Found → Option Show
show_found (Whole show) = Some show
show_found (Ended fed) = None
