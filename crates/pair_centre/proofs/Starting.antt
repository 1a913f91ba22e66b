-- A centre goes on from a checkpoint with the items behind it, and stands for each trail of which these are.
use Rattle.std.proofs.Common.{◌≡◌, ℕ, Bool, true, false, cond, List, [], ◌∷◌, ◌++◌, map, refl, sym, ◌∙◌, ap, subst, append_assoc}
use Rattle.std.proofs.lemmas.List.{map-id}
use Rattle.std.proofs.lemmas.List.Elements.{filter-append}
use Rattle.dc_talk.specs.declared.settings.Settings.{Settings}
use Rattle.dc_talk.specs.Entries.{Entry}
use Rattle.dc_talk.specs.Answers.{History, answer}
use Rattle.dc_centre.specs.Centre.{CentreView, StandsFor}
use Rattle.trail_kept.specs.Kept.{is_kept, kept, IsSameState}
use Rattle.trail_kept.proofs.Left.{left_out}
use Rattle.trail_kept.proofs.Histories.{history_kept}
use Rattle.journal_asks.specs.declared.kept_ask.KeptAsk.{KeptAsk}
use Rattle.journal_asks.specs.Spellings.{by_of}
use Rattle.dc_journal.specs.Asks.{asked, due, AreAsksOf}
use Rattle.dc_journal.proofs.Opened.{stands_same}
use Rattle.dc_journal.proofs.Trails.{place_of, history_front, history_here}
use Rattle.pair_centre.specs.declared.item.PairItem.{PairItem}
use Rattle.pair_centre.specs.declared.item.PairItem.TheVariants.{Parts, Asked}
use Rattle.pair_centre.specs.declared.faults.CentreFault.{CentreFault}
use Rattle.pair_centre.specs.declared.faults.CentreFault.TheVariants.{Pair, BadCheckpoint, BadAsk}
use Rattle.pair_centre.specs.States.{IsCheckpointOf, IsStateOf}
use Rattle.pair_centre.specs.Causes.{IsStart, IsTakenItem, AreTaken, IsBadAsk, HasFault}
use Rattle.pair_centre.specs.Faults.{IsBadCentre}
use Rattle.pair_centre.specs.Replays.{TakesItems, StopsAt, HasStopped}

-- the same the other way round
other_way : (s : Settings) (a b : List Entry) → IsSameState s a b → IsSameState s b a
other_way s a b same = record {
  same_carried = sym same.same_carried;
  same_told = λ j. sym (same.same_told j);
  same_stopped = sym same.same_stopped;
  same_horizon = sym same.same_horizon;
}

-- items are the same asks in one way
one_way : (a b : List KeptAsk) → map Asked a ≡ map Asked b → a ≡ b
one_way [] [] same = refl
one_way [] (y ∷ b) same = absurd (cc same)
one_way (x ∷ a) [] same = absurd (cc same)
one_way (x ∷ a) (y ∷ b) same =
    let first : x ≡ y = cc same in
    let tails : map Asked a ≡ map Asked b = cc same in
    (λ i. first i ∷ one_way a b tails i)

-- ---- an entry that is kept, in its trail

record HasKept (trail front : List Entry) (here : Entry) : Type 0 where
  pub before : List Entry
  pub later : List Entry
  pub is : trail ≡ before ++ here ∷ later
  pub kept_is : kept before ≡ front
  pub said : is_kept here.say ≡ true

kept_at : (trail front : List Entry) (here : Entry) (later : List Entry) → kept trail ≡ front ++ here ∷ later → HasKept trail front here
kept_at [] [] here later same = absurd (cc same)
kept_at [] (x ∷ front) here later same = absurd (cc same)
kept_at (e ∷ trail) front here later same = go (λ f. kept_at trail f here later) (is_kept e.say) refl front same
  where
    one_more : (front : List Entry) → HasKept trail front here → is_kept e.say ≡ true → HasKept (e ∷ trail) (e ∷ front) here
    one_more front r said = record {
      before = e ∷ r.before;
      later = r.later;
      is = ap (λ (l : List Entry). e ∷ l) r.is;
      kept_is = ap (λ (b : Bool). cond b (e ∷ kept r.before) (kept r.before)) said ∙ ap (λ (l : List Entry). e ∷ l) r.kept_is;
      said = r.said;
    }

    go : ((f : List Entry) → kept trail ≡ f ++ here ∷ later → HasKept trail f here) → (b : Bool) → is_kept e.say ≡ b → (f : List Entry) → cond b (e ∷ kept trail) (kept trail) ≡ f ++ here ∷ later → HasKept (e ∷ trail) f here
    go rest true said [] e_is =
        let first : e ≡ here = cc e_is in
        record { before = []; later = trail; is = ap (λ (x : Entry). x ∷ trail) first; kept_is = refl; said = ap (λ (x : Entry). is_kept x.say) (sym first) ∙ said }
    go rest true said (x ∷ f) e_is =
        let first : e ≡ x = cc e_is in
        let tails : kept trail ≡ f ++ here ∷ later = cc e_is in
        subst (λ (y : Entry). HasKept (e ∷ trail) (y ∷ f) here) first (one_more f (rest f tails) said)
    go rest false said f e_is =
        let r = rest f e_is in
        record {
          before = e ∷ r.before;
          later = r.later;
          is = ap (λ (l : List Entry). e ∷ l) r.is;
          kept_is = ap (λ (b : Bool). cond b (e ∷ kept r.before) (kept r.before)) said ∙ r.kept_is;
          said = r.said;
        }

-- ---- what a checkpoint with items behind it stands for

-- a trail with the items up to one of them, which is taken behind it
pub record IsCut (s : Settings) (checkpoint front : List PairItem) (item : PairItem) : Type 0 where
  pub trail : List Entry
  pub history : History s trail
  pub state : IsStateOf s trail checkpoint front
  pub taken : IsTakenItem s trail item

-- an item behind the checkpoint of a trail was taken there
pub cut_at : (s : Settings) (checkpoint front : List PairItem) (item : PairItem) (more : List PairItem) (trail : List Entry) → History s trail → IsStateOf s trail checkpoint (front ++ item ∷ more) → IsCut s checkpoint front item
cut_at s checkpoint front item more trail history state =
    let p = place_of (λ (i : PairItem). i) Asked front item more state.items (map-id (front ++ item ∷ more) ∙ state.goes_on) in
    let q = place_of asked (due s.me) p.front p.here p.later (kept state.rest) (ap (map asked) (sym p.is) ∙ state.asks) in
    let r = kept_at state.rest q.front q.here q.later q.is in
    let split : trail ≡ (state.front ++ r.before) ++ q.here ∷ r.later = state.trail_is ∙ ap (λ (l : List Entry). state.front ++ l) r.is ∙ sym (append_assoc state.front r.before (q.here ∷ r.later)) in
    let whole : History s ((state.front ++ r.before) ++ q.here ∷ r.later) = subst (λ l. History s l) split history in
    let ask_is : p.here.ask ≡ q.here.ask = ap (λ z. z.1) q.there in
    let by_is : p.here.by ≡ by_of s.me p.here.ask = ap (λ z. z.0) q.there ∙ ap (by_of s.me) (sym ask_is) in
    let reply : is_kept (answer s (state.front ++ r.before) p.here.ask) ≡ true = ap is_kept (ap (λ a. answer s (state.front ++ r.before) a) ask_is ∙ sym (history_here s (state.front ++ r.before) q.here r.later whole)) ∙ r.said in
    record {
      trail = state.front ++ r.before;
      history = history_front s (state.front ++ r.before) q.here r.later whole;
      state = record {
        front = state.front;
        rest = r.before;
        trail_is = refl;
        starts = state.starts;
        items = p.front;
        goes_on = sym (map-id front) ∙ p.same;
        asks = q.same ∙ ap (map (due s.me)) (sym r.kept_is);
      };
      taken = subst (λ (i : PairItem). IsTakenItem s (state.front ++ r.before) i) (sym p.there) (by_is, reply);
    }

module _ (s : Settings) (checkpoint : List PairItem) (first : CentreView) (settings : first.settings ≡ s) (starts : (front : List Entry) → IsCheckpointOf s front checkpoint → StandsFor first front) where
  -- the centre after the items stands for each trail of which they are
  pub stands_for : (c : CentreView) (behind : List PairItem) → c.settings ≡ s → TakesItems s first c behind → (trail : List Entry) → History s trail → IsStateOf s trail checkpoint behind → StandsFor c trail
  stands_for c behind same takes trail history state =
      let before : StandsFor first (kept state.front) = stands_same first state.front (kept state.front) (subst (λ (g : Settings). IsSameState g state.front (kept state.front)) (sym settings) (other_way s (kept state.front) state.front (left_out s state.front))) (starts state.front state.starts) in
      let kept_is : kept trail ≡ kept state.front ++ kept state.rest = ap kept state.trail_is ∙ filter-append (λ (e : Entry). is_kept e.say) state.front state.rest in
      let whole : History s (kept state.front ++ kept state.rest) = subst (λ l. History s l) kept_is (history_kept s trail history) in
      let asks_are : takes.asks ≡ state.items = one_way takes.asks state.items (sym takes.items_are ∙ state.goes_on) in
      let stood : StandsFor c (kept state.front ++ kept state.rest) = takes.stands (kept state.front) (kept state.rest) before whole (ap (map asked) asks_are ∙ state.asks) in
      stands_same c (kept trail) trail (subst (λ (g : Settings). IsSameState g (kept trail) trail) (sym same) (left_out s trail)) (subst (λ l. StandsFor c l) (sym kept_is) stood)

  -- the items are taken
  pub are_taken : (c : CentreView) (behind : List PairItem) → IsStart s checkpoint → TakesItems s first c behind → AreTaken s checkpoint behind
  are_taken c behind start takes = record {
    start = start;
    goes_on = λ front history is.
        let went = takes.goes_on front (starts front is) history in (
          went.0,
          (
            went.1.history,
            record {
              front = front;
              rest = went.0;
              trail_is = refl;
              starts = is;
              items = takes.asks;
              goes_on = takes.items_are;
              asks = went.1.asks_are ∙ ap (map (due s.me)) (sym went.1.all);
            },
          ),
        );
  }

  -- one is not
  pub stops_at : (behind : List PairItem) (place : ℕ) → IsStart s checkpoint → StopsAt s first behind place → IsBadAsk s checkpoint behind place
  stops_at behind place start stops = record {
    front = stops.front;
    item = stops.item;
    more = stops.more;
    behind_is = stops.items_are;
    at = stops.at;
    taken = are_taken stops.last stops.front start stops.takes;
    bad = λ trail history state. stops.none trail (stands_for stops.last stops.front (stops.same ∙ settings) stops.takes trail history state);
  }

  -- why not all are taken
  pub fault_of : (why : CentreFault) (behind : List PairItem) → IsStart s checkpoint → HasStopped s first behind why → HasFault s why checkpoint behind
  fault_of (Pair why) behind start stopped = stopped
  fault_of BadCheckpoint behind start stopped = absurd stopped
  fault_of (BadAsk place) behind start stopped = stops_at behind place start stopped

-- ---- the items of a trail have no fault

-- a checkpoint of a trail is one
starts_of : (s : Settings) (front : List Entry) (checkpoint : List PairItem) → IsCheckpointOf s front checkpoint → IsStart s checkpoint
starts_of s front [] is = tt
starts_of s front (Parts item ∷ []) is = (is.parts, is.has)
starts_of s front (Asked ask ∷ []) is = absurd is
starts_of s front (Parts item ∷ (next ∷ more)) is = absurd is
starts_of s front (Asked ask ∷ (next ∷ more)) is = absurd is

pub no_fault : (s : Settings) (why : CentreFault) (checkpoint behind : List PairItem) (trail : List Entry) → HasFault s why checkpoint behind → History s trail → IsStateOf s trail checkpoint behind → IsBadCentre why → ⊥
no_fault s (Pair why) checkpoint behind trail fault history state bad = subst (λ w. IsBadCentre (Pair w)) fault bad
no_fault s BadCheckpoint checkpoint behind trail fault history state bad = fault (starts_of s state.front checkpoint state.starts)
no_fault s (BadAsk place) checkpoint behind trail fault history state bad =
    let cut = cut_at s checkpoint fault.front fault.item fault.more trail history (subst (IsStateOf s trail checkpoint) fault.behind_is state) in
    fault.bad cut.trail cut.history cut.state cut.taken
