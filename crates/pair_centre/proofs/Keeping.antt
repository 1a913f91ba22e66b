-- A centre with its journal in two files that was asked, and what a crash leaves of these.
use Rattle.std.proofs.Common.{◌≡◌, inl, inr, ℕ, List, [], ◌++◌, map, refl, sym, ◌∙◌, ap, subst, append_assoc}
use Rattle.std.proofs.lemmas.List.{map-append}
use Rattle.std.proofs.lemmas.Simd.{map-map}
use Rattle.list_core.proofs.Moments.{each_none}
use Rattle.journal_disk.specs.declared.disk.Disk.{Ghosts}
use Rattle.journal_disk.specs.declared.disk.Moment.{Moment}
use Rattle.journal_disk.specs.Disk.{MayLeave}
use Rattle.journal_disk.proofs.Histories.{ran_none, ran_weaker}
use Rattle.journal_pair.specs.declared.entry.Entry.{Entry as FileEntry}
use Rattle.journal_pair.specs.declared.entry.Entry.TheVariants.{Behind}
use Rattle.journal_pair.specs.declared.pair.Pair.{Pair}
use Rattle.journal_pair.specs.Files.{IsEitherPair, RanBeside, RanBoth}
use Rattle.journal_pair.specs.Pairs.{Has}
use Rattle.journal_pair.proofs.States.{pair_left}
use Rattle.dc_talk.specs.declared.ask.Ask.{Ask}
use Rattle.dc_talk.specs.declared.say.Say.{Say}
use Rattle.dc_talk.specs.declared.settings.Settings.{Settings}
use Rattle.dc_talk.specs.Answers.{History, IsAnswer}
use Rattle.dc_talk.specs.Entries.{Entry}
use Rattle.dc_centre.specs.Centre.{CentreView, StandsFor}
use Rattle.journal_asks.specs.declared.kept_ask.KeptAsk.{KeptAsk}
use Rattle.dc_journal.specs.Asks.{AreAsksOf}
use Rattle.dc_journal.specs.Answered.{answered, AreSame}
use Rattle.dc_journal.specs.Steps.{TakesAsks}
use Rattle.dc_journal.proofs.Stepping.{asks_both}
use Rattle.dc_journal.proofs.Published.{due_same}
use Rattle.pair_centre.specs.declared.item.PairItem.{PairItem}
use Rattle.pair_centre.specs.declared.item.PairItem.TheVariants.{Asked}
use Rattle.pair_centre.specs.declared.pair_centre.PairCentre.{PairCentre}
use Rattle.pair_centre.specs.Items.{item_bytes, ask_behind}
use Rattle.pair_centre.specs.States.{IsStateOf, IsPairFileOf, IsPairFileAround}
use Rattle.pair_centre.specs.Open.{centre_of, settings_of, IsPairOf}

-- asks of a rest that goes on stand behind the checkpoint
pub state_more : (s : Settings) (trail more : List Entry) (checkpoint behind : List PairItem) (asks : List KeptAsk) → AreAsksOf s.me asks more → IsStateOf s trail checkpoint behind → IsStateOf s (trail ++ more) checkpoint (behind ++ map Asked asks)
state_more s trail more checkpoint behind asks due st = record {
  front = st.front;
  rest = st.rest ++ more;
  trail_is = ap (λ (l : List Entry). l ++ more) st.trail_is ∙ append_assoc st.front st.rest more;
  starts = st.starts;
  items = st.items ++ asks;
  goes_on = ap (λ (l : List PairItem). l ++ map Asked asks) st.goes_on ∙ sym (map-append Asked st.items asks);
  asks = asks_both s.me st.items asks st.rest more st.asks due;
}

-- nothing was asked yet
pub state_none : (s : Settings) → IsStateOf s [] [] []
state_none s = record { front = []; rest = []; trail_is = refl; starts = refl; items = []; goes_on = refl; asks = refl }

-- their entries
pub entries_of : (asks : List KeptAsk) → map ask_behind asks ≡ map Behind (map Asked asks)
entries_of asks = sym (map-map Behind Asked asks)

module _ {D : Type 0} {disk : Ghosts D} where
  -- what a crash leaves between two calls
  pub between : (p : PairCentre D disk) (h k : List Moment) (trail : List Entry) (x y : List ℕ) → IsPairOf p h k trail → MayLeave h x → MayLeave k y → IsPairFileOf (settings_of p) trail x y
  between p h k trail x y is live other = (
    is.checkpoint,
    (is.behind, (is.state, pair_left item_bytes p.pair.mark p.pair.live.end p.pair.other.end p.pair.size h k is.checkpoint is.behind is.files x y live other)),
  )

  -- no call of a disk was made
  pub untouched : (p : PairCentre D disk) (stands : List Moment → Type 0) (h k : List Moment) (trail : List Entry) (asks : List Ask) (Q : List Moment → Type 0) → stands h → IsPairOf p h k trail → Q h → RanBeside stands h k (IsPairFileAround (settings_of p) trail asks) Q
  untouched p stands h k trail asks Q stood is q = ran_none stands h (λ x. (y : List ℕ) → MayLeave k y → IsPairFileAround (settings_of p) trail asks x y) (λ x live y other. inl (between p h k trail x y is live other)) Q stood q

  -- nothing has changed
  pub same_pair : (old new : PairCentre D disk) (h k : List Moment) (trail : List Entry) → new.centre ≡ old.centre → new.pair ≡ old.pair → IsPairOf old h k trail → IsPairOf new h k trail
  same_pair old new h k trail centre pair is = record {
    history = subst (λ (c : CentreView). History c.settings trail) (sym centre) is.history;
    centre = subst (λ (c : CentreView). StandsFor c trail) (sym centre) is.centre;
    checkpoint = is.checkpoint;
    behind = is.behind;
    state = subst (λ (c : CentreView). IsStateOf c.settings trail is.checkpoint is.behind) (sym centre) is.state;
    files = subst (λ (q : Pair D disk). Has item_bytes q h k is.checkpoint is.behind) (sym pair) is.files;
  }

  -- a centre that was asked nothing, with two files that were made
  pub made : (p : PairCentre D disk) (first second : List Moment → Type 0) (h k : List Moment) → StandsFor (centre_of p) [] → RanBoth first second h k (λ _ _. Unit {0}) (λ l m. Has item_bytes p.pair l m [] []) → RanBoth first second h k (λ _ _. Unit {0}) (λ l m. IsPairOf p l m [])
  made p first second h k stood ran = record {
    later = ran.later;
    stands_for = ran.stands_for;
    always = ran.always;
    ends = ran_weaker second k (λ y. (x : List ℕ) → MayLeave (ran.later ++ h) x → Unit {0}) (λ y. (x : List ℕ) → MayLeave (ran.later ++ h) x → Unit {0}) (λ m. Has item_bytes p.pair (ran.later ++ h) m [] []) (λ m. IsPairOf p (ran.later ++ h) m []) (λ y none. none) (λ m has. empty m has) ran.ends;
  }
    where
      empty : (m : List Moment) → Has item_bytes p.pair (ran.later ++ h) m [] [] → IsPairOf p (ran.later ++ h) m []
      empty m has = record { history = each_none (λ before e. IsAnswer (settings_of p) before e.ask e.say); centre = stood; checkpoint = []; behind = []; state = state_none (settings_of p); files = has }

  module _ (old : PairCentre D disk) (after : CentreView) (h k : List Moment) (trail : List Entry) (asks : List Ask) (says : List Say) (items : List (FileEntry PairItem)) (is : IsPairOf old h k trail) (takes : TakesAsks ask_behind (settings_of old) (centre_of old) after asks says items) where
    -- what stands behind the checkpoint with all of them
    abbrev pub whole : List PairItem
    whole = is.behind ++ map Asked takes.taken

    -- the files of the trail, or those with all of them
    around_all : (x : List ℕ) → ((y : List ℕ) → MayLeave k y → IsEitherPair item_bytes is.checkpoint is.behind is.checkpoint whole x y) → (y : List ℕ) → MayLeave k y → IsPairFileAround (settings_of old) trail asks x y
    around_all x either y left = go (either y left)
      where
        go : IsEitherPair item_bytes is.checkpoint is.behind is.checkpoint whole x y → IsPairFileAround (settings_of old) trail asks x y
        go (inl files) = inl (is.checkpoint, (is.behind, (is.state, files)))
        go (inr files) = inr (is.checkpoint, (whole, (state_more (settings_of old) trail (answered (settings_of old) trail asks) is.checkpoint is.behind takes.taken (takes.asks_are trail is.centre) is.state, files)))

    pub ran_around : (stands : List Moment → Type 0) (Q S : List Moment → Type 0) → ((l : List Moment) → Q l → S l) → RanBeside stands h k (IsEitherPair item_bytes is.checkpoint is.behind is.checkpoint whole) Q → RanBeside stands h k (IsPairFileAround (settings_of old) trail asks) S
    ran_around stands Q S ends ran = ran_weaker stands h (λ x. (y : List ℕ) → MayLeave k y → IsEitherPair item_bytes is.checkpoint is.behind is.checkpoint whole x y) (λ x. (y : List ℕ) → MayLeave k y → IsPairFileAround (settings_of old) trail asks x y) Q S around_all ends ran

    -- and once they are all there
    pub stands_all : (new : PairCentre D disk) → centre_of new ≡ after → settings_of new ≡ settings_of old → (l : List Moment) (more : List Entry) → AreSame more (answered (settings_of old) trail asks) → Has item_bytes new.pair l k is.checkpoint whole → IsPairOf new l k (trail ++ more)
    stands_all new centre same l more are files =
        let me = (settings_of old).me in
        let due_is : AreAsksOf me takes.taken more = takes.asks_are trail is.centre ∙ due_same me (answered (settings_of old) trail asks) more (sym are) in
        record {
          history = subst (λ (g : Settings). History g (trail ++ more)) (sym same) (takes.history trail more is.centre are is.history);
          centre = subst (λ (c : CentreView). StandsFor c (trail ++ more)) (sym centre) (takes.stands trail more is.centre are);
          checkpoint = is.checkpoint;
          behind = whole;
          state = subst (λ (g : Settings). IsStateOf g (trail ++ more) is.checkpoint whole) (sym same) (state_more (settings_of old) trail more is.checkpoint is.behind takes.taken due_is is.state);
          files = files;
        }
