-- Asks that were answered stand behind one gate of the journal.
use Rattle.std.proofs.Common.{◌≡◌, inl, inr, ℕ, List, ◌++◌, map, filter, Bool, sym, ◌∙◌, ap, subst}
use Rattle.std.proofs.lemmas.List.{map-id}
use Rattle.std.proofs.lemmas.Simd.{map-map}
use Rattle.list_core.proofs.Images.{filter-map}
use Rattle.journal_disk.specs.declared.disk.Disk.{Ghosts}
use Rattle.journal_disk.specs.declared.disk.Moment.{Moment}
use Rattle.journal_file.specs.Journal.{IsEither, IsAt}
use Rattle.dc_talk.specs.declared.ask.Ask.{Ask}
use Rattle.dc_talk.specs.declared.say.Say.{Say}
use Rattle.dc_talk.specs.declared.settings.Settings.{Settings}
use Rattle.dc_talk.specs.Answers.{History}
use Rattle.dc_talk.specs.Entries.{Entry}
use Rattle.dc_centre.specs.Centre.{CentreView, StandsFor}
use Rattle.trail_kept.specs.Kept.{is_kept, kept}
use Rattle.journal_asks.specs.declared.kept_ask.KeptAsk.{KeptAsk}
use Rattle.journal_asks.specs.Spellings.{by_of}
use Rattle.journal_asks.specs.Asks.{spelled}
use Rattle.dc_journal.specs.declared.journal_centre.JournalCentre.{JournalCentre}
use Rattle.dc_journal.specs.Asks.{asked, due, AreAsksOf}
use Rattle.dc_journal.specs.Answered.{answered, of_any, AreSame}
use Rattle.dc_journal.specs.Files.{IsFileAround}
use Rattle.dc_journal.specs.Open.{centre_of, settings_of, end_of, IsJournalOf}
use Rattle.dc_journal.specs.Steps.{TakesAsks}
use Rattle.dc_journal.proofs.Stepping.{asks_both}

-- the reply to an ask is kept
abbrev keeps : Ask × Say → Bool
keeps p = is_kept p.1

-- what is due for an ask with its reply
abbrev due_of : ℕ → Ask × Say → ℕ × Ask
due_of me p = (by_of me p.0, p.0)

-- what is due in a journal does not depend on who asked
pub due_same : (me : ℕ) (a b : List Entry) → AreSame a b → map (due me) (kept a) ≡ map (due me) (kept b)
due_same me a b same = of_pairs a ∙ ap (λ l. map (due_of me) (filter keeps l)) same ∙ sym (of_pairs b)
  where
    of_pairs : (l : List Entry) → map (due me) (kept l) ≡ map (due_of me) (filter keeps (map of_any l))
    of_pairs l = sym (map-map (due_of me) of_any (kept l)) ∙ ap (map (due_of me)) (sym (filter-map keeps of_any l))

module _ {D : Type 0} {disk : Ghosts D} (old : JournalCentre D disk) (after : CentreView) (h : List Moment) (trail : List Entry) (asks : List Ask) (says : List Say) (items : List KeptAsk) (is : IsJournalOf old h trail) (takes : TakesAsks (λ x. x) (settings_of old) (centre_of old) after asks says items) where
  -- all that are kept are due
  asks_due : AreAsksOf (settings_of old).me items (answered (settings_of old) trail asks)
  asks_due = ap (map asked) (takes.items_are ∙ map-id takes.taken) ∙ takes.asks_are trail is.centre

  -- the file of the trail, or that with all of them
  pub around_all : (c : List ℕ) → IsEither spelled is.items (is.items ++ items) c → IsFileAround (settings_of old) trail asks c
  around_all c (inl file) = inl (is.items, (is.asks, file))
  around_all c (inr file) = inr (is.items ++ items, (asks_both (settings_of old).me is.items items trail (answered (settings_of old) trail asks) is.asks asks_due, file))

  -- and once they are all there
  pub stands_all : (new : JournalCentre D disk) → centre_of new ≡ after → settings_of new ≡ settings_of old → (l : List Moment) (more : List Entry) → AreSame more (answered (settings_of old) trail asks) → IsAt spelled (end_of new) l (is.items ++ items) → IsJournalOf new l (trail ++ more)
  stands_all new centre same l more are file =
      let me = (settings_of old).me in
      let due_is : AreAsksOf me items more = asks_due ∙ due_same me (answered (settings_of old) trail asks) more (sym are) in
      record {
        history = subst (λ (g : Settings). History g (trail ++ more)) (sym same) (takes.history trail more is.centre are is.history);
        centre = subst (λ (c : CentreView). StandsFor c (trail ++ more)) (sym centre) (takes.stands trail more is.centre are);
        items = is.items ++ items;
        asks = subst (λ (g : Settings). AreAsksOf g.me (is.items ++ items) (trail ++ more)) (sym same) (asks_both me is.items items trail more is.asks due_is);
        file = file;
      }
