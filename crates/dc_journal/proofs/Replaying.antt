-- A centre takes asks one after another, and stands for each history of just these.
use Rattle.std.proofs.Common.{◌≡◌, List, [], ◌∷◌, ◌++◌, map, refl, sym, ◌∙◌, ap, subst}
use Rattle.std.proofs.lemmas.List.{map-append}
use Rattle.list_core.proofs.Moments.{each_none}
use Rattle.machine_trail.specs.History.{entry}
use Rattle.machine_trail.proofs.Histories.{history_more}
use Rattle.dc_talk.specs.declared.settings.Settings.{Settings}
use Rattle.dc_talk.specs.Entries.{Entry}
use Rattle.dc_talk.specs.Answers.{History, IsAnswer, answer}
use Rattle.dc_centre.specs.Centre.{CentreView, StandsFor}
use Rattle.trail_kept.proofs.Histories.{kept_last}
use Rattle.journal_asks.specs.declared.kept_ask.KeptAsk.{KeptAsk}
use Rattle.dc_journal.specs.Asks.{asked, due}
use Rattle.dc_journal.specs.Replays.{Replayed, Takes}
use Rattle.dc_journal.proofs.Trails.{place_of, none_there, history_front, history_here}

module _ (s : Settings) where
  -- none so far
  pub replayed_none : (c : CentreView) → StandsFor c [] → Replayed s c []
  replayed_none c fresh = record {
    trail = [];
    history = each_none (λ before e. IsAnswer s before e.ask e.say);
    all = refl;
    asks = refl;
    stands = λ b history same. subst (λ l. StandsFor c l) (sym (none_there asked (due s.me) b same)) fresh;
  }

  -- one more
  pub replayed_more : (old new : CentreView) (items : List KeptAsk) (x : KeptAsk) → Replayed s old items → Takes s old new x → Replayed s new (items ++ x ∷ [])
  replayed_more old new items x r t = record {
    trail = r.trail ++ last ∷ [];
    history = history_more (IsAnswer s) r.trail last r.history (t.answer r.trail (r.stands r.trail r.history r.asks));
    all = kept_last r.trail last t.kept ∙ ap (λ (l : List Entry). l ++ last ∷ []) r.all;
    asks = map-append asked items (x ∷ []) ∙ ap (λ l. l ++ asked x ∷ []) r.asks ∙ (λ i. map (due s.me) r.trail ++ (t.by i, x.ask) ∷ []) ∙ sym (map-append (due s.me) r.trail (last ∷ []));
    stands = on;
  }
    where
      last : Entry
      last = entry 0 x.ask t.say

      on : (b : List Entry) → History s b → map asked (items ++ x ∷ []) ≡ map (due s.me) b → StandsFor new b
      on b history same =
          let p = place_of asked (due s.me) items x [] b same in
          let end : b ≡ p.front ++ p.here ∷ [] = p.is ∙ ap (λ (l : List Entry). p.front ++ p.here ∷ l) (none_there asked (due s.me) p.later p.behind) in
          let whole : History s (p.front ++ p.here ∷ []) = subst (λ l. History s l) end history in
          let stood = r.stands p.front (history_front s p.front p.here [] whole) p.same in
          let ask_is : x.ask ≡ p.here.ask = ap (λ q. q.1) p.there in
          let say_is : t.say ≡ p.here.say = t.answer p.front stood ∙ ap (λ a. answer s p.front a) ask_is ∙ sym (history_here s p.front p.here [] whole) in
          let entry_is : entry p.here.caller x.ask t.say ≡ p.here = (λ i. record { caller = p.here.caller; ask = ask_is i; say = say_is i }) in
          subst (λ l. StandsFor new l) (ap (λ (e : Entry). p.front ++ e ∷ []) entry_is ∙ sym end) (t.stands p.front p.here.caller stood)
