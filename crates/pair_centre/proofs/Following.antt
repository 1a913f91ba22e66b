-- A centre takes items one after another.
use Rattle.std.proofs.Common.{◌≡◌, ◌+◌, ◌<◌, ℕ, List, [], ◌∷◌, ◌++◌, map, length, get_or, take, drop, refl, sym, ◌∙◌, ap, subst, arith, append_assoc, take-append-drop}
use Rattle.std.proofs.lemmas.List.{append-nil, map-append, take_more, drop_more, length-take-le}
use Rattle.machine_trail.specs.History.{entry}
use Rattle.machine_trail.proofs.Histories.{history_more}
use Rattle.dc_talk.specs.declared.settings.Settings.{Settings}
use Rattle.dc_talk.specs.Entries.{Entry}
use Rattle.dc_talk.specs.Answers.{History, IsAnswer, answer}
use Rattle.dc_centre.specs.Centre.{CentreView, StandsFor}
use Rattle.trail_kept.specs.Kept.{kept}
use Rattle.trail_kept.proofs.Histories.{kept_last}
use Rattle.journal_asks.specs.declared.kept_ask.KeptAsk.{KeptAsk}
use Rattle.dc_journal.specs.Asks.{asked, due}
use Rattle.dc_journal.specs.Replays.{Takes}
use Rattle.dc_journal.proofs.Trails.{place_of, none_there, history_front, history_here}
use Rattle.pair_centre.specs.declared.item.PairItem.{PairItem}
use Rattle.pair_centre.specs.declared.item.PairItem.TheVariants.{Asked}
use Rattle.pair_centre.specs.Causes.{IsTakenItem}
use Rattle.pair_centre.specs.Replays.{TakesItem, TakesItems, IsRestOf, StopsAt}

module _ (s : Settings) where
  -- none so far
  pub takes_none : (c : CentreView) → TakesItems s c c []
  takes_none c = record {
    asks = [];
    items_are = refl;
    stands = λ front rest stood history same. subst (λ l. StandsFor c l) (sym (ap (λ (l : List Entry). front ++ l) (none_there asked (due s.me) rest same) ∙ append-nil front)) stood;
    goes_on = λ front stood history. ([], record { history = subst (λ l. History s l) (sym (append-nil front)) history; asks_are = refl; all = refl });
  }

  module _ (first old new : CentreView) (items : List PairItem) (x : KeptAsk) (r : TakesItems s first old items) (t : Takes s old new x) where
    abbrev last : Entry
    last = entry 0 x.ask t.say

    -- behind a front it stands for each history with one ask more
    on : (front rest : List Entry) → StandsFor first front → History s (front ++ rest) → map asked (r.asks ++ x ∷ []) ≡ map (due s.me) rest → StandsFor new (front ++ rest)
    on front rest stood history same =
        let p = place_of asked (due s.me) r.asks x [] rest same in
        let end : rest ≡ p.front ++ p.here ∷ [] = p.is ∙ ap (λ (l : List Entry). p.front ++ p.here ∷ l) (none_there asked (due s.me) p.later p.behind) in
        let split : front ++ rest ≡ (front ++ p.front) ++ p.here ∷ [] = ap (λ (l : List Entry). front ++ l) end ∙ sym (append_assoc front p.front (p.here ∷ [])) in
        let whole : History s ((front ++ p.front) ++ p.here ∷ []) = subst (λ l. History s l) split history in
        let stood_old = r.stands front p.front stood (history_front s (front ++ p.front) p.here [] whole) p.same in
        let ask_is : x.ask ≡ p.here.ask = ap (λ q. q.1) p.there in
        let say_is : t.say ≡ p.here.say = t.answer (front ++ p.front) stood_old ∙ ap (λ a. answer s (front ++ p.front) a) ask_is ∙ sym (history_here s (front ++ p.front) p.here [] whole) in
        let entry_is : entry p.here.caller x.ask t.say ≡ p.here = (λ i. record { caller = p.here.caller; ask = ask_is i; say = say_is i }) in
        subst (λ l. StandsFor new l) (ap (λ (e : Entry). (front ++ p.front) ++ e ∷ []) entry_is ∙ sym split) (t.stands (front ++ p.front) p.here.caller stood_old)

    -- and there is one
    goes : (front : List Entry) → StandsFor first front → History s front → (rest : List Entry) × IsRestOf s (r.asks ++ x ∷ []) front rest
    goes front stood history =
        let went = r.goes_on front stood history in
        let rest = went.0 in
        let is = went.1 in (
          rest ++ last ∷ [],
          record {
            history = subst (λ l. History s l) (append_assoc front rest (last ∷ []))
                (history_more (IsAnswer s) (front ++ rest) last is.history (t.answer (front ++ rest) (r.stands front rest stood is.history is.asks_are)));
            asks_are = map-append asked r.asks (x ∷ []) ∙ ap (λ l. l ++ asked x ∷ []) is.asks_are ∙ (λ i. map (due s.me) rest ++ (t.by i, x.ask) ∷ []) ∙ sym (map-append (due s.me) rest (last ∷ []));
            all = kept_last rest last t.kept ∙ ap (λ (l : List Entry). l ++ last ∷ []) is.all;
          },
        )

    takes_ask : TakesItems s first new (items ++ Asked x ∷ [])
    takes_ask = record {
      asks = r.asks ++ x ∷ [];
      items_are = ap (λ (l : List PairItem). l ++ Asked x ∷ []) r.items_are ∙ sym (map-append Asked r.asks (x ∷ []));
      stands = on;
      goes_on = goes;
    }

  -- one more
  pub takes_more : (first old new : CentreView) (items : List PairItem) (item : PairItem) → TakesItems s first old items → TakesItem s old new item → TakesItems s first new (items ++ item ∷ [])
  takes_more first old new items item r t = subst (λ (i : PairItem). TakesItems s first new (items ++ i ∷ [])) (sym t.1.0) (takes_ask first old new items t.0 r t.1.1)

  -- so many of some items, and then the next
  pub takes_next : (now : Settings) (first old new : CentreView) (items : List PairItem) (i : ℕ) (item : PairItem) → now ≡ s → i < length items → item ≡ get_or items i item → TakesItems s first old (take i items) → TakesItem now old new item → TakesItems s first new (take (i + 1) items)
  takes_next now first old new items i item same below here r t =
      subst (λ (l : List PairItem). TakesItems s first new l) (sym (take_more items i item below ∙ ap (λ (x : PairItem). take i items ++ x ∷ []) (sym here)))
      (takes_more first old new (take i items) item r (subst (λ (g : Settings). TakesItem g old new item) same t))

  -- and the next is not taken
  pub stopped_at : (now : Settings) (first last : CentreView) (items : List PairItem) (i place : ℕ) (item : PairItem) → now ≡ s → last.settings ≡ first.settings → place ≡ i → i < length items → item ≡ get_or items i item → TakesItems s first last (take i items) → ((trail : List Entry) → StandsFor last trail → IsTakenItem now trail item → ⊥) → StopsAt s first items place
  stopped_at now first last items i place item same settings at below here r none = record {
    front = take i items;
    item = item;
    more = drop (i + 1) items;
    items_are = sym (take-append-drop i items) ∙ ap (λ (l : List PairItem). take i items ++ l) (drop_more items i item below ∙ ap (λ (x : PairItem). x ∷ drop (i + 1) items) (sym here));
    at = at ∙ sym (length-take-le i items (omega (arith, below)));
    last = last;
    same = settings;
    takes = r;
    none = λ trail stood taken. none trail stood (subst (λ (g : Settings). IsTakenItem g trail item) (sym same) taken);
  }
