-- A centre takes asks one after another before its journal has them.
use Rattle.std.proofs.Common.{◌≡◌, ◌+◌, ◌<◌, ℕ, List, [], ◌∷◌, ◌++◌, map, length, take, get_or, refl, sym, ◌∙◌, ap, subst, append_assoc}
use Rattle.std.proofs.lemmas.List.{append-nil, map-append, take_more}
use Rattle.std.proofs.lemmas.List.Elements.{filter-append}
use Rattle.machine_trail.specs.History.{entry}
use Rattle.machine_trail.proofs.Histories.{history_more}
use Rattle.dc_talk.specs.declared.ask.Ask.{Ask}
use Rattle.dc_talk.specs.declared.say.Say.{Say}
use Rattle.dc_talk.specs.declared.settings.Settings.{Settings}
use Rattle.dc_talk.specs.Answers.{History, IsAnswer, answer}
use Rattle.dc_talk.specs.Entries.{Entry}
use Rattle.dc_centre.specs.Centre.{CentreView, StandsFor}
use Rattle.trail_kept.specs.Kept.{is_kept, kept}
use Rattle.journal_asks.specs.declared.kept_ask.KeptAsk.{KeptAsk}
use Rattle.dc_journal.specs.Asks.{asked, due, AreAsksOf}
use Rattle.dc_journal.specs.Answered.{said_in, answered, of_any, AreSame}
use Rattle.dc_journal.specs.Steps.{TakesOne, TakesAsks, TakesSome}
use Rattle.dc_journal.proofs.Trails.{place_of, none_there}

-- the asks of a trail, and of one that goes on behind it
pub asks_both : (me : ℕ) (items more : List KeptAsk) (a b : List Entry) → AreAsksOf me items a → AreAsksOf me more b → AreAsksOf me (items ++ more) (a ++ b)
asks_both me items more a b first second =
    map-append asked items more
    ∙ (λ i. first i ++ second i)
    ∙ sym (map-append (due me) (kept a) (kept b))
    ∙ ap (map (due me)) (sym (filter-append (λ (e : Entry). is_kept e.say) a b))

-- one ask more
answered_more : (s : Settings) (trail : List Entry) (asks : List Ask) (ask : Ask) → answered s trail (asks ++ ask ∷ []) ≡ answered s trail asks ++ entry 0 ask (answer s (trail ++ answered s trail asks) ask) ∷ []
answered_more s trail [] ask = ap (λ (t : List Entry). entry 0 ask (answer s t ask) ∷ []) (sym (append-nil trail))
answered_more s trail (a ∷ asks) ask =
    let e = entry 0 a (answer s trail a) in
    let t = trail ++ e ∷ [] in
    ap (λ (l : List Entry). e ∷ l) (answered_more s t asks ask)
    ∙ ap (λ (l : List Entry). e ∷ (answered s t asks ++ entry 0 ask (answer s l ask) ∷ [])) (append_assoc trail (e ∷ []) (answered s t asks))

module _ {T : Type 0} (of_ask : KeptAsk → T) (s : Settings) where
  -- none so far
  pub takes_none : (c : CentreView) → TakesAsks of_ask s c c [] [] []
  takes_none c = record {
    says_are = λ trail stood. refl;
    taken = [];
    items_are = refl;
    asks_are = λ trail stood. refl;
    stands = λ trail more stood same. subst (λ l. StandsFor c l) (sym (none trail more same)) stood;
    history = λ trail more stood same history. subst (λ l. History s l) (sym (none trail more same)) history;
  }
    where
      none : (trail more : List Entry) → AreSame more [] → trail ++ more ≡ trail
      none trail more same = ap (λ (l : List Entry). trail ++ l) (none_there of_any of_any more (sym same)) ∙ append-nil trail

  module _ (old mid new : CentreView) (asks : List Ask) (says : List Say) (items : List T) (r : TakesAsks of_ask s old mid asks says items) (ask : Ask) (says_after : List Say) (items_after : List T) (t : TakesOne of_ask s mid new ask says items says_after items_after) where
    -- its entry, behind any trail
    abbrev last : List Entry → Entry
    last trail = entry 0 ask (answer s (trail ++ answered s trail asks) ask)

    say_is : (trail : List Entry) → StandsFor old trail → t.say ≡ answer s (trail ++ answered s trail asks) ask
    say_is trail stood = t.answer (trail ++ answered s trail asks) (r.stands trail (answered s trail asks) stood refl)

    -- a trail that goes on with these asks ends with this one
    record Ends (trail more : List Entry) : Type 0 where
      pub front : List Entry
      pub caller : ℕ
      pub same : AreSame front (answered s trail asks)
      pub is : trail ++ more ≡ (trail ++ front) ++ entry caller ask t.say ∷ []

    ends : (trail more : List Entry) → StandsFor old trail → AreSame more (answered s trail (asks ++ ask ∷ [])) → Ends trail more
    ends trail more stood same =
        let whole : map of_any (answered s trail asks ++ last trail ∷ []) ≡ map of_any more = sym (same ∙ ap (map of_any) (answered_more s trail asks ask)) in
        let p = place_of of_any of_any (answered s trail asks) (last trail) [] more whole in
        let end : more ≡ p.front ++ p.here ∷ [] = p.is ∙ ap (λ (l : List Entry). p.front ++ p.here ∷ l) (none_there of_any of_any p.later p.behind) in
        let ask_is : ask ≡ p.here.ask = ap (λ q. q.0) p.there in
        let there : t.say ≡ p.here.say = say_is trail stood ∙ ap (λ q. q.1) p.there in
        let here : p.here ≡ entry p.here.caller ask t.say = (λ i. record { caller = p.here.caller; ask = sym ask_is i; say = sym there i }) in
        record {
          front = p.front;
          caller = p.here.caller;
          same = sym p.same;
          is = ap (λ (l : List Entry). trail ++ l) (end ∙ ap (λ (e : Entry). p.front ++ e ∷ []) here) ∙ sym (append_assoc trail p.front (entry p.here.caller ask t.say ∷ []));
        }

    -- one more
    pub takes_more : TakesAsks of_ask s old new (asks ++ ask ∷ []) says_after items_after
    takes_more = record {
      says_are = λ trail stood.
          t.says_are
          ∙ (λ i. r.says_are trail stood i ++ say_is trail stood i ∷ [])
          ∙ sym (map-append said_in (answered s trail asks) (last trail ∷ []))
          ∙ ap (map said_in) (sym (answered_more s trail asks ask));
      taken = r.taken ++ t.more;
      items_are = t.items_are ∙ ap (λ (l : List T). l ++ map of_ask t.more) r.items_are ∙ sym (map-append of_ask r.taken t.more);
      asks_are = λ trail stood.
          asks_both s.me r.taken t.more (answered s trail asks) (last trail ∷ []) (r.asks_are trail stood) (subst (λ y. AreAsksOf s.me t.more (entry 0 ask y ∷ [])) (say_is trail stood) (t.asks (trail ++ answered s trail asks) (r.stands trail (answered s trail asks) stood refl)))
          ∙ ap (λ (l : List Entry). map (due s.me) (kept l)) (sym (answered_more s trail asks ask));
      stands = λ trail more stood same.
          let e = ends trail more stood same in
          subst (λ l. StandsFor new l) (sym e.is) (t.stands (trail ++ e.front) e.caller (r.stands trail e.front stood e.same));
      history = λ trail more stood same history.
          let e = ends trail more stood same in
          let front : History s (trail ++ e.front) = r.history trail e.front stood e.same history in
          subst (λ l. History s l) (sym e.is) (history_more (IsAnswer s) (trail ++ e.front) (entry e.caller ask t.say) front (t.answer (trail ++ e.front) (r.stands trail e.front stood e.same)));
    }

  -- so many of some asks, and then the next
  pub takes_next : (now : Settings) (old mid new : CentreView) (asks : List Ask) (i : ℕ) (ask : Ask) (says : List Say) (items : List T) (says_after : List Say) (items_after : List T) → now ≡ s → i < length asks → ask ≡ get_or asks i ask → TakesAsks of_ask s old mid (take i asks) says items → TakesOne of_ask now mid new ask says items says_after items_after → TakesAsks of_ask s old new (take (i + 1) asks) says_after items_after
  takes_next now old mid new asks i ask says items says_after items_after same below here r t =
      subst (λ (l : List Ask). TakesAsks of_ask s old new l says_after items_after) (sym (take_more asks i ask below ∙ ap (λ (a : Ask). take i asks ++ a ∷ []) (sym here)))
      (takes_more old mid new (take i asks) says items r ask says_after items_after (subst (λ (g : Settings). TakesOne of_ask g mid new ask says items says_after items_after) same t))

  -- the next has changed nothing
  pub takes_no_more : (old mid new : CentreView) (asks : List Ask) (i : ℕ) (says : List Say) (items : List T) (says_after : List Say) (items_after : List T) → new ≡ mid → says_after ≡ says → items_after ≡ items → TakesAsks of_ask s old mid (take i asks) says items → TakesSome of_ask s old new asks says_after items_after
  takes_no_more old mid new asks i says items says_after items_after centre says_are items_are r = record {
    count = i;
    takes = subst (λ (c : CentreView). TakesAsks of_ask s old c (take i asks) says_after items_after) (sym centre)
        (subst (λ (l : List Say). TakesAsks of_ask s old mid (take i asks) l items_after) (sym says_are)
        (subst (λ (l : List T). TakesAsks of_ask s old mid (take i asks) says l) (sym items_are) r));
  }
