-- A centre is opened on the file of a trail.
use Rattle.std.proofs.Common.{◌≡◌, ◌⊎◌, inr, ℕ, List, map, sym, ◌∙◌, ap, subst}
use Rattle.journal_disk.specs.declared.disk.Disk.{Ghosts}
use Rattle.journal_disk.specs.declared.disk.Moment.{Moment}
use Rattle.journal_disk.specs.Disk.{seen, MayLeave, IsSettled, Ran}
use Rattle.journal_disk.proofs.Histories.{ran_more, ran_weaker}
use Rattle.journal_file.specs.Journal.{EndsAt, FileOf, IsAt}
use Rattle.dc_talk.specs.declared.sent.Sent.{Sent}
use Rattle.dc_talk.specs.declared.settings.Settings.{Settings}
use Rattle.dc_talk.specs.Entries.{Entry}
use Rattle.dc_talk.specs.Answers.{History}
use Rattle.dc_centre.specs.Centre.{CentreView, Holds, StandsFor}
use Rattle.trail_kept.specs.Kept.{kept, IsSameState}
use Rattle.trail_kept.proofs.Left.{left_out}
use Rattle.trail_kept.proofs.Histories.{history_kept}
use Rattle.journal_asks.specs.declared.kept_ask.KeptAsk.{KeptAsk}
use Rattle.journal_asks.specs.Asks.{spelled}
use Rattle.dc_journal.specs.declared.journal_centre.JournalCentre.{JournalCentre}
use Rattle.dc_journal.specs.Asks.{asked, AreAsksOf}
use Rattle.dc_journal.specs.Files.{IsFileOf, IsFound}
use Rattle.dc_journal.specs.Replays.{TakesAll}
use Rattle.dc_journal.specs.Open.{centre_of, settings_of, end_of, IsJournalOf}
use Rattle.dc_journal.proofs.Reading.{only_read}

-- a centre stands for each trail with the same state
pub stands_same : (c : CentreView) (a b : List Entry) → IsSameState c.settings a b → StandsFor c a → StandsFor c b
stands_same c a b same is = record {
  holds = subst (λ (C : List Sent). Holds c C) same.same_carried is.holds;
  told = λ j other low high. is.told j other low high ∙ same.same_told j;
  pruned = is.pruned ∙ same.same_horizon;
  down = is.down ∙ same.same_stopped;
}

module _ (s : Settings) (c : CentreView) (bytes : List ℕ) (end : ℕ) (trail : List Entry) (takes : TakesAll s c bytes end) (file : IsFileOf s trail bytes) where
  -- what it took are the asks of the trail
  pub takes_asks : AreAsksOf s.me takes.items trail
  takes_asks = ap (map asked) (takes.only file.0 file.1.1) ∙ file.1.0

  -- and it stands for the trail
  pub takes_stands : c.settings ≡ s → History s trail → StandsFor c trail
  takes_stands settings history =
      stands_same c (kept trail) trail (subst (λ (g : Settings). IsSameState g (kept trail) trail) (sym settings) (left_out s trail))
      (takes.replayed.stands (kept trail) (history_kept s trail history) takes_asks)

-- where the file was settled and read, and then cut behind its gate
pub resumed : (s : Settings) (h : List Moment) (trail : List Entry) (mid stands : List Moment → Type 0) (items : List KeptAsk) (end : ℕ) (R S : List Moment → Type 0) → IsFileOf s trail (seen h) → AreAsksOf s.me items trail → EndsAt spelled items end (seen h)
    → Ran mid h (λ c. (MayLeave h c) ⊎ (c ≡ seen h)) (λ l. (IsSettled l) × (seen l ≡ seen h))
    → ((h1 : List Moment) → mid h1 → IsSettled h1 → EndsAt spelled items end (seen h1) → Ran stands h1 (FileOf spelled items) R) → ((l : List Moment) → R l → S l) → Ran stands h (IsFound s trail h) S
resumed s h trail mid stands items end R S file asks ends first second then =
    ran_more mid stands h (IsFound s trail h) same S (only_read s trail h mid mid same same file (λ l q. q) (λ l q. q) first)
    (λ h1 stood q. ran_weaker stands h1 (FileOf spelled items) (IsFound s trail h) R S (λ c f. inr (items, (asks, f))) then (second h1 stood q.0 (subst (EndsAt spelled items end) (sym q.1) ends)))
  where
    same : List Moment → Type 0
    same l = (IsSettled l) × (seen l ≡ seen h)

-- an open one stands for the trail
pub opened : {D : Type 0} {disk : Ghosts D} (j : JournalCentre D disk) (s : Settings) (h l : List Moment) (end : ℕ) (trail : List Entry) (takes : TakesAll s (centre_of j) (seen h) end) → IsFileOf s trail (seen h) → settings_of j ≡ s → end_of j ≡ end → History s trail → IsAt spelled end l takes.items → IsJournalOf j l trail
opened j s h l end trail takes file settings end_is history at = record {
  history = subst (λ (g : Settings). History g trail) (sym settings) history;
  centre = takes_stands s (centre_of j) (seen h) end trail takes file settings history;
  items = takes.items;
  asks = subst (λ (g : Settings). AreAsksOf g.me takes.items trail) (sym settings) (takes_asks s (centre_of j) (seen h) end trail takes file);
  file = subst (λ (n : ℕ). IsAt spelled n l takes.items) (sym end_is) at;
}
