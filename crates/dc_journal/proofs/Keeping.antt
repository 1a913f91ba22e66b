-- A centre with a journal that was asked, and what a crash leaves of its file.
use Rattle.std.proofs.Common.{◌≡◌, inl, inr, ℕ, true, false, List, [], ◌∷◌, ◌++◌, Result, Ok, Err, IfOk, IfErr, MatchResult, sym, ◌∙◌, ap, subst}
use Rattle.machine_trail.specs.History.{entry}
use Rattle.machine_trail.proofs.Histories.{history_more}
use Rattle.journal_disk.specs.declared.disk.Disk.{Ghosts}
use Rattle.journal_disk.specs.declared.disk.Moment.{Moment}
use Rattle.journal_disk.specs.Disk.{MayLeave, Ran}
use Rattle.journal_disk.proofs.Histories.{ran_none}
use Rattle.journal_file.specs.Journal.{IsEither, IsAt}
use Rattle.journal_file.specs.declared.journal.Journal.{Journal}
use Rattle.journal_file.specs.declared.faults.JournalFault.{JournalFault}
use Rattle.journal_file.specs.declared.faults.JournalFault.TheVariants.{NoMemory}
use Rattle.journal_file.specs.Open as file
use Rattle.journal_file.proofs.Items.{at_file}
use Rattle.dc_talk.specs.declared.ask.Ask.{Ask}
use Rattle.dc_talk.specs.declared.say.Say.{Say}
use Rattle.dc_talk.specs.declared.settings.Settings.{Settings}
use Rattle.dc_talk.specs.Entries.{Entry}
use Rattle.dc_talk.specs.Answers.{History, IsAnswer, answer}
use Rattle.dc_centre.specs.Centre.{CentreView, StandsFor}
use Rattle.trail_kept.specs.Kept.{is_kept}
use Rattle.journal_asks.specs.declared.kept_ask.KeptAsk.{KeptAsk}
use Rattle.dc_journal.specs.declared.journal_centre.JournalCentre.{JournalCentre}
use Rattle.journal_asks.specs.Spellings.{by_of, is_kept_by}
use Rattle.journal_asks.specs.Asks.{spelled}
use Rattle.dc_journal.specs.Asks.{AreAsksOf}
use Rattle.dc_journal.specs.Files.{IsFileOf, IsFileAround}
use Rattle.dc_journal.specs.Open.{centre_of, settings_of, end_of, is_shut, IsSame, IsJournalOf}
use Rattle.dc_journal.proofs.Trails.{asks_more, asks_same}
use Rattle.dc_journal.proofs.Unkept.{unkept}

module _ {D : Type 0} {disk : Ghosts D} where
  -- what a crash leaves between two calls
  pub between : (j : JournalCentre D disk) (h : List Moment) (trail : List Entry) (c : List ℕ) → IsJournalOf j h trail → MayLeave h c → IsFileOf (settings_of j) trail c
  between j h trail c is left = (is.items, (is.asks, at_file spelled (end_of j) h is.items c is.file (is.file.settled.only c left)))

  -- no call of the disk was made
  pub untouched : (j : JournalCentre D disk) (stands : List Moment → Type 0) (h : List Moment) (trail : List Entry) (asks : List Ask) (Q : List Moment → Type 0) → stands h → IsJournalOf j h trail → Q h → Ran stands h (IsFileAround (settings_of j) trail asks) Q
  untouched j stands h trail asks Q stood is q = ran_none stands h (IsFileAround (settings_of j) trail asks) (λ c left. inl (between j h trail c is left)) Q stood q

  module _ (old new : JournalCentre D disk) (h l : List Moment) (trail : List Entry) (ask : Ask) (say : Say) (caller : ℕ) (is : IsJournalOf old h trail) (same : settings_of new ≡ settings_of old) (answers : say ≡ answer (settings_of old) trail ask) (stands : StandsFor (centre_of new) (trail ++ entry caller ask say ∷ [])) where
    history_after : History (settings_of new) (trail ++ entry caller ask say ∷ [])
    history_after = subst (λ g. History g (trail ++ entry caller ask say ∷ [])) (sym same) (history_more (IsAnswer (settings_of old)) trail (entry caller ask say) is.history answers)

    -- with a reply that is not kept
    pub stands_unkept : is_kept say ≡ false → IsAt spelled (end_of new) l is.items → IsJournalOf new l (trail ++ entry caller ask say ∷ [])
    stands_unkept is_not file = record {
      history = history_after;
      centre = stands;
      items = is.items;
      asks = subst (λ (g : Settings). AreAsksOf g.me is.items (trail ++ entry caller ask say ∷ [])) (sym same) (asks_same (settings_of old).me is.items trail (entry caller ask say) is_not is.asks);
      file = file;
    }

    -- with one that is kept
    pub stands_kept : (x : KeptAsk) → x.by ≡ by_of (settings_of old).me ask → x.ask ≡ ask → is_kept say ≡ true → IsAt spelled (end_of new) l (is.items ++ x ∷ []) → IsJournalOf new l (trail ++ entry caller ask say ∷ [])
    stands_kept x by ask_is is_it file = record {
      history = history_after;
      centre = stands;
      items = is.items ++ x ∷ [];
      asks = subst (λ (g : Settings). AreAsksOf g.me (is.items ++ x ∷ []) (trail ++ entry caller ask say ∷ [])) (sym same) (asks_more (settings_of old).me is.items x trail (entry caller ask say) by ask_is is_it is.asks);
      file = file;
    }

  -- nothing has changed
  pub same_journal : (old new : JournalCentre D disk) (h : List Moment) (trail : List Entry) → new.centre ≡ old.centre → new.journal ≡ old.journal → IsJournalOf old h trail → IsJournalOf new h trail
  same_journal old new h trail centre journal is = record {
    history = subst (λ (c : CentreView). History c.settings trail) (sym centre) is.history;
    centre = subst (λ (c : CentreView). StandsFor c trail) (sym centre) is.centre;
    items = is.items;
    asks = subst (λ (c : CentreView). AreAsksOf c.settings.me is.items trail) (sym centre) is.asks;
    file = subst (λ (j : Journal D disk). IsAt spelled (file.end_of j) h is.items) (sym journal) is.file;
  }

  -- an ask that no journal keeps was answered, or memory ran out
  pub answered : (old new : JournalCentre D disk) (h : List Moment) (trail : List Entry) (ask : Ask) (r : Result Say JournalFault) → new.journal ≡ old.journal → settings_of new ≡ settings_of old → is_kept_by (settings_of old) ask ≡ false
      → IfOk r (λ say. (t : List Entry) → StandsFor old.centre t → say ≡ answer (settings_of old) t ask) → IfOk r (λ say. (t : List Entry) (caller : ℕ) → StandsFor old.centre t → StandsFor new.centre (t ++ entry caller ask say ∷ []))
      → IfErr r (λ e. (e ≡ NoMemory) × (IsSame old new)) → IsJournalOf old h trail
      → MatchResult r (λ say. (say ≡ answer (settings_of old) trail ask) × ((caller : ℕ) → IsJournalOf new h (trail ++ entry caller ask say ∷ []))) (λ _. is_shut new ≡ false → IsJournalOf new h trail)
  answered old new h trail ask (Ok say) journal same other answers stands err is =
      let say_is = answers trail is.centre in
      (say_is, λ caller. stands_unkept old new h h trail ask say caller is same say_is (stands trail caller is.centre) (ap is_kept say_is ∙ unkept (settings_of old) trail ask other) (subst (λ (j : Journal D disk). IsAt spelled (file.end_of j) h is.items) (sym journal) is.file))
  answered old new h trail ask (Err e) journal same other answers stands err is = λ unshut. same_journal old new h trail err.1.0 err.1.1 is

-- the file of a trail, or that with an ask more
pub around : (s : Settings) (trail : List Entry) (items : List KeptAsk) (x : KeptAsk) (ask : Ask) (c : List ℕ) → AreAsksOf s.me items trail → x.by ≡ by_of s.me ask → x.ask ≡ ask → is_kept (answer s trail ask) ≡ true → IsEither spelled items (items ++ x ∷ []) c → IsFileAround s trail (ask ∷ []) c
around s trail items x ask c asks by ask_is is_it (inl file) = inl (items, (asks, file))
around s trail items x ask c asks by ask_is is_it (inr file) = inr (items ++ x ∷ [], (asks_more s.me items x trail (entry 0 ask (answer s trail ask)) by ask_is is_it asks, file))
