-- What feeds add to the shows of a tap.
use Rattle.std.proofs.Common.{◌≡◌, ℕ, length, List, [], ◌∷◌, ◌++◌, refl, sym, ap, ◌∙◌, subst}
use Rattle.ids_core.specs.declared.object.ObjectId.{ObjectId}
use Rattle.dc_talk.specs.declared.ask.Ask.TheVariants.{Prune}
use Rattle.dc_talk.specs.declared.say.Say.{Say}
use Rattle.dc_talk.specs.declared.say.Say.TheVariants as said
use Rattle.dc_talk.specs.declared.seen.Fed.{Fed}
use Rattle.dc_talk.specs.declared.seen.Fed.TheVariants.{Shown}
use Rattle.dc_talk.specs.declared.log.Fate.TheVariants.{Unheard}
use Rattle.dc_talk.specs.declared.log.Deed.{Deed}
use Rattle.dc_talk.specs.declared.log.Deed.TheVariants.{Asked}
use Rattle.dc_talk.specs.Acting.{Acting}
use Rattle.script_core.specs.declared.taps.Show.{Show}
use Rattle.script_core.specs.declared.taps.Found.{Found}
use Rattle.script_core.specs.declared.taps.Found.TheVariants.{Whole, Ended}
use Rattle.script_core.specs.Feeds.{FetchesAll, AfterPrune, Finds}
use Rattle.dc_worker.specs.Work.{AddsSuch}
use Rattle.read_tap.specs.Feeds.{IsShown, Feeds}

-- a show that follows a prune has a state for each object
pub wide_after : (centre : ℕ) (objects : List ObjectId) (show : Show) (answer : Say) (deeds : List Deed) → AfterPrune centre objects (Whole show) answer deeds → length show.states ≡ length objects
wide_after centre objects show (said.Base base folded trimmed) deeds follows = follows.1.number
wide_after centre objects show answer deeds follows = absurd follows.1

-- so has one that was found
pub found_wide : (centre : ℕ) (objects : List ObjectId) (show : Show) (a b : Acting) → AddsSuch (Finds centre objects (Whole show)) a b → length show.states ≡ length objects
found_wide centre objects show a b so = wide_after centre objects show so.such.answer so.such.later so.such.follows

-- a show that was found is one more
pub feeds_show : (centre : ℕ) (objects : List ObjectId) (old new : List Show) (fed : Fed) (show : Show) (a b : Acting) → AddsSuch (Finds centre objects (Whole show)) a b → fed ≡ Shown show.vector → new ≡ old ++ show ∷ [] → AddsSuch (Feeds centre objects old new fed) a b
feeds_show centre objects old new fed show a b so shown more = record { deeds = so.deeds; such = record { found = Whole show; finds = so.such; shown = (shown, more) }; adds = so.adds }

-- without one the shows stay
pub feeds_end : (centre : ℕ) (objects : List ObjectId) (shows : List Show) (fed : Fed) (a b : Acting) → AddsSuch (Finds centre objects (Ended fed)) a b → AddsSuch (Feeds centre objects shows shows fed) a b
feeds_end centre objects shows fed a b so = record { deeds = so.deeds; such = record { found = Ended fed; finds = so.such; shown = (refl, refl) }; adds = so.adds }

-- what holds where a feed found a show, and where it found none, holds of each feed. Where it found one its prune was
-- answered with the show's vector, and its fetches are those of all objects there, answered with the show's states.
pub by_feed : (P : Type 0) (centre : ℕ) (objects : List ObjectId) (old new : List Show) (fed : Fed) (deeds : List Deed) → Feeds centre objects old new fed deeds
    → ((show : Show) (folded trimmed : ℕ) (later : List Deed) → fed ≡ Shown show.vector → new ≡ old ++ show ∷ [] → deeds ≡ Asked centre Prune (Unheard (said.Base show.vector folded trimmed)) ∷ later → FetchesAll centre show.vector objects show.states later → P)
    → (new ≡ old → P)
    → P
by_feed P centre objects old new fed deeds feeds whole none = go feeds.found feeds.finds feeds.shown
  where
    based : (show : Show) (answer : Say) (later : List Deed) → fed ≡ Shown show.vector → new ≡ old ++ show ∷ [] → deeds ≡ Asked centre Prune (Unheard answer) ∷ later → AfterPrune centre objects (Whole show) answer later → P
    based show (said.Base base folded trimmed) later shown more is follows = whole show folded trimmed later shown more (is ∙ ap (λ v. Asked centre Prune (Unheard (said.Base v folded trimmed)) ∷ later) (sym follows.0)) (subst (λ v. FetchesAll centre v objects show.states later) (sym follows.0) follows.1)
    based show answer later shown more is follows = absurd follows.1

    go : (found : Found) → Finds centre objects found deeds → IsShown old found fed new → P
    go (Whole show) finds shown = based show finds.answer finds.later shown.0 shown.1 finds.whole finds.follows
    go (Ended end) finds shown = none shown.1
