-- A feed: what is asked of a centre for a show of its tap, what comes of the answers, and the line. No session hears any
-- of the answers.
use Rattle.std.specs.Prelude.{◌≡◌, ℕ, length, List, [], ◌∷◌, ◌++◌, Option, Some, None, slice_get}
use Rattle.std.specs.List.{filter_map}
use Rattle.std.specs.Option.{option_map}
use Rattle.ids_core.specs.declared.object.ObjectId.{ObjectId}
use Rattle.tx_core.specs.declared.state.State.{State}
use Rattle.dc_talk.specs.declared.ask.Ask.TheVariants.{Prune, Fetch}
use Rattle.dc_talk.specs.declared.say.Say.{Say}
use Rattle.dc_talk.specs.declared.say.Say.TheVariants as said
use Rattle.dc_talk.specs.declared.log.Fate.TheVariants.{Unheard}
use Rattle.dc_talk.specs.declared.log.Deed.{Deed}
use Rattle.dc_talk.specs.declared.log.Deed.TheVariants.{Asked, Told}
use Rattle.dc_talk.specs.declared.line.Line.TheVariants as line
use Rattle.dc_talk.specs.declared.seen.Fed.{Fed}
use Rattle.dc_talk.specs.declared.seen.Fed.TheVariants.{Shown, Down, Pruned, Refused}
use Rattle.script_core.specs.declared.taps.Show.{Show}
use Rattle.script_core.specs.declared.taps.Found.{Found}
use Rattle.script_core.specs.declared.taps.Found.TheVariants.{Whole, Ended}

-- how a feed ends by an answer; none where it goes on
abbrev pub end_by : Say → Option Fed
end_by said.Down = Some Down
end_by (said.Pruned centre base low) = Some Pruned
end_by (said.Lacks centre wanted have) = Some Refused
end_by said.Misfit = Some Refused
end_by _ = None

-- ---- fetches

-- the fetch of an object at a vector, with its answer
abbrev pub fetch_of : ℕ → List ℕ → ObjectId → Say → Deed
fetch_of centre vector object answer = Asked centre (Fetch object vector) (Unheard answer)

-- the fetches of these objects at a vector, each answered with its state
abbrev pub fetches_of : ℕ → List ℕ → List ObjectId → List State → List Deed
fetches_of centre vector [] states = []
fetches_of centre vector (object ∷ objects) [] = []
fetches_of centre vector (object ∷ objects) (state ∷ states) = fetch_of centre vector object (said.Object state) ∷ fetches_of centre vector objects states

-- the deeds are the fetches of all these objects at a vector, and were answered with these states
pub record FetchesAll (centre : ℕ) (vector : List ℕ) (objects : List ObjectId) (states : List State) (deeds : List Deed) : Type 0 where
  pub number : length states ≡ length objects
  pub deeds_are : deeds ≡ fetches_of centre vector objects states

-- the deeds are the fetches of the first of these objects at a vector, and the last of them ended the feed so
pub record FetchesSome (centre : ℕ) (vector : List ℕ) (objects : List ObjectId) (fed : Fed) (deeds : List Deed) : Type 0 where
  pub before : List ObjectId
  pub object : ObjectId
  pub later : List ObjectId
  pub objects_are : objects ≡ before ++ object ∷ later
  pub states : List State
  pub first : List Deed
  pub all_before : FetchesAll centre vector before states first
  pub answer : Say
  pub deeds_are : deeds ≡ first ++ fetch_of centre vector object answer ∷ []
  pub ends : end_by answer ≡ Some fed

-- what the fetches of these objects at a vector came to
abbrev pub Fetches : ℕ → List ℕ → List ObjectId → Found → List Deed → Type 0
Fetches centre vector objects (Whole show) deeds = (show.vector ≡ vector) × FetchesAll centre vector objects show.states deeds
Fetches centre vector objects (Ended fed) deeds = FetchesSome centre vector objects fed deeds

-- ---- feeds

-- the answer to the prune ended the feed so
abbrev pub IsEnd : Say → Found → Type 0
IsEnd answer (Whole show) = ⊥
IsEnd answer (Ended fed) = end_by answer ≡ Some fed

-- what follows the answer to the prune: fetches at the base, or nothing
abbrev pub AfterPrune : ℕ → List ObjectId → Found → Say → List Deed → Type 0
AfterPrune centre objects found (said.Base base folded trimmed) deeds = Fetches centre base objects found deeds
AfterPrune centre objects found answer deeds = (deeds ≡ []) × IsEnd answer found

-- the asks of a feed, and what they came to: a prune, and what follows it
pub record Finds (centre : ℕ) (objects : List ObjectId) (found : Found) (deeds : List Deed) : Type 0 where
  pub answer : Say
  pub later : List Deed
  pub whole : deeds ≡ Asked centre Prune (Unheard answer) ∷ later
  pub follows : AfterPrune centre objects found answer later

-- how the feed ended, by what its asks came to
abbrev pub fed_of : Found → Fed
fed_of (Whole show) = Shown show.vector
fed_of (Ended fed) = fed

-- a feed of a tap of these objects: its asks, and then its line
pub record FeedsThem (centre : ℕ) (objects : List ObjectId) (deeds : List Deed) : Type 0 where
  pub found : Found
  pub asks : List Deed
  pub finds : Finds centre objects found asks
  pub whole : deeds ≡ asks ++ Told (line.Feed centre (fed_of found)) ∷ []

-- a feed of the tap of a centre; one that has no object is not fed
abbrev pub FeedDeeds : ℕ → List ObjectId → List Deed → Type 0
FeedDeeds centre [] deeds = deeds ≡ []
FeedDeeds centre (object ∷ objects) deeds = FeedsThem centre (object ∷ objects) deeds

-- ---- the show that a feed found

-- the state that a deed fetched, where it did
abbrev pub state_got : Deed → Option State
state_got (Asked centre (Fetch object vector) (Unheard (said.Object state))) = Some state
state_got _ = None

-- the vector at which a show was found, where a deed tells that
abbrev pub vector_told : Deed → Option (List ℕ)
vector_told (Told (line.Feed centre (Shown vector))) = Some vector
vector_told _ = None

-- the show that these deeds of a feed found, where they did
abbrev pub show_in : List Deed → Option Show
show_in deeds = option_map (λ (vector : List ℕ). record { vector = vector; states = filter_map state_got deeds }) (slice_get (filter_map vector_told deeds) 0)

-- a feed of the tap of a centre that found this show, or none
abbrev pub FeedGives : ℕ → List ObjectId → Option Show → List Deed → Type 0
FeedGives centre objects show deeds = FeedDeeds centre objects deeds × (show_in deeds ≡ show)
