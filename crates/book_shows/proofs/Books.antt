-- The shows of a book whose operator fed its taps section by section, by the trails of its centres.
use Rattle.std.proofs.Common.{◌≡◌, ℕ, ◌-◌, Bool, true, false, cond, List, [], ◌∷◌, map, Option, Some, None, refl, sym, ap, ◌∙◌, subst, arith}
use Rattle.std.specs.Prelude.{◌==◌, filter, flat_map}
use Rattle.std.specs.List.{cons_option}
use Rattle.std.specs.Option.{option_map}
use Rattle.std.proofs.lemmas.Bool.{eqb-true}
use Rattle.ids_core.specs.declared.object.ObjectId.{ObjectId}
use Rattle.dc_talk.specs.declared.ask.Ask.{Ask}
use Rattle.dc_talk.specs.declared.say.Say.{Say}
use Rattle.dc_talk.specs.declared.log.Note.{Note}
use Rattle.dc_talk.specs.Entries.{Entry}
use Rattle.dc_talk.specs.Logs.{entry_for, entries_made, exchanged_in}
use Rattle.script_core.specs.declared.script.Script.{Script}
use Rattle.script_core.specs.Scripts.{IsInRange}
use Rattle.script_core.specs.Steps.{IsCount}
use Rattle.script_core.specs.Taps.{objects_on, first_tap, opening}
use Rattle.run_book.specs.declared.book.Book.{Book}
use Rattle.run_book.specs.Fit.{FitsWith}
use Rattle.run_book.specs.Parts.{trail_of, notes_of, exchanged, entries_by}
use Rattle.run_book.specs.Played.{first_stage}
use Rattle.run_book.specs.Setups.{setup_of, centre_settings}
use Rattle.run_sections.specs.OneThread.{IsRunOf}
use Rattle.run_sections.specs.Orders.{deeds_of}
use Rattle.run_sections.specs.Runs.{IsSectionRunOf}
use Rattle.run_sections.specs.Sections.{first_between}
use Rattle.run_sections.specs.Taps.{shows_at}
use Rattle.run_laws.specs.Looks.{shows_before}
use Rattle.show_law.specs.Shows.{FeedsAll, AreTapShows}
use Rattle.show_law.specs.Subsequences.{IsSubsequence}
use Rattle.show_law.proofs.Feeding.{adds}
use Rattle.show_law.proofs.Subsequences.{sub_filter}
use Rattle.book_shows.specs.Shows.{AreBookShows}
use Rattle.book_shows.proofs.Sections.{AreFed, fed_adds, sections_fed}
use Rattle.book_shows.proofs.Turns.{turns_fed}

-- ---- the entries of one caller

-- they are what it exchanged
own_entries : (a : ℕ) (es : List Entry) → map (entry_for a) (entries_by a es) ≡ filter (λ (entry : Entry). entry.caller == a) es
own_entries a [] = refl
own_entries a (e ∷ es) = go (e.caller == a) refl (own_entries a es)
  where
    go : (test : Bool) → (e.caller == a) ≡ test → map (entry_for a) (entries_by a es) ≡ filter (λ (entry : Entry). entry.caller == a) es → map (entry_for a) (cons_option (cond test (Some (e.ask, e.say)) None) (entries_by a es)) ≡ cond test (e ∷ filter (λ (entry : Entry). entry.caller == a) es) (filter (λ (entry : Entry). entry.caller == a) es)
    go true is rest =
        let own : entry_for a (e.ask, e.say) ≡ e = (λ k. record { caller = sym (eqb-true e.caller a is) k; ask = e.ask; say = e.say }) in
        λ k. own k ∷ rest k
    go false is rest = rest

-- what notes of it exchanged are the entries that they made
own_made : (a i : ℕ) (notes : List Note) → map (entry_for a) (exchanged i notes) ≡ entries_made a i (deeds_of notes)
own_made a i [] = refl
own_made a i (note ∷ notes) = go (exchanged_in i note.deed) (own_made a i notes)
  where
    go : (o : Option (Ask × Say)) → map (entry_for a) (exchanged i notes) ≡ entries_made a i (deeds_of notes) → map (entry_for a) (cons_option o (exchanged i notes)) ≡ cons_option (option_map (entry_for a) o) (entries_made a i (deeds_of notes))
    go None rest = rest
    go (Some pair) rest = ap (λ es. entry_for a pair ∷ es) rest

-- ---- the book

module _ (script : Script) (b : Book) (n : b.n ≡ script.n) (fits : FitsWith b (setup_of script)) (centre : ℕ) (range : IsCount script.n centre) where
  -- the operator's entries of a trail are those that its notes made
  operator_made : filter (λ (entry : Entry). entry.caller == 1) (trail_of b centre) ≡ entries_made 1 centre (deeds_of (notes_of b 1))
  operator_made =
      let high = range.1 in
      let logs = fits.form.logs in
      sym (own_entries 1 (trail_of b centre)) ∙ (ap (map (entry_for 1)) (fits.paired centre 1 range.0 (omega (arith, high, n)) (omega arith) (omega (arith, logs))) ∙ own_made 1 centre (notes_of b 1))

  -- so the shows are those of the trail
  fed_shows : (number : ℕ) → AreFed centre (objects_on script.taps centre) 1 script.sections (notes_of b 1) → AreTapShows (centre_settings b (setup_of script) centre) (trail_of b centre) (objects_on script.taps centre) (shows_before script b number centre)
  fed_shows number fed =
      let objects : List ObjectId = objects_on script.taps centre in
      let high = range.1 in
      let a = fed_adds b centre objects 1 (number - 1) script.sections (notes_of b 1) (shows_at (first_tap script.n script.taps)) (λ at low. refl) fed in
      let part : IsSubsequence (flat_map (entries_made 1 centre) a.feeds) (trail_of b centre) = sub_filter (λ (entry : Entry). entry.caller == 1) (flat_map (entries_made 1 centre) a.feeds) (trail_of b centre) (subst (IsSubsequence (flat_map (entries_made 1 centre) a.feeds)) (sym operator_made) a.part) in
      let history = fits.histories centre range.0 (omega (arith, high, n)) in
      let feeds : FeedsAll centre objects (opening b.n objects ∷ []) (shows_before script b number centre) a.feeds = subst (λ k. FeedsAll centre objects (opening k objects ∷ []) (shows_before script b number centre) a.feeds) (sym n) a.all in
      let more = adds (centre_settings b (setup_of script) centre) (trail_of b centre) history 1 centre objects 0 (opening b.n objects ∷ []) (shows_before script b number centre) a.feeds feeds part in
      record { later = more.later; whole = more.whole; are = more.are }

-- so it is of a run section by section
pub section_shows : (script : Script) (b : Book) → IsSectionRunOf script b → AreBookShows script b
section_shows script b run = record {
  shows = λ centre number range. fed_shows script b run.n run.fits centre range number
      (subst (AreFed centre (objects_on script.taps centre) 1 script.sections) (sym (run.steps.notes 1 (omega arith, omega arith)))
      (sections_fed script centre range (objects_on script.taps centre) 1 (first_between script) run.steps.last script.sections run.steps.lefts refl run.steps.plays));
}

-- and of one on one thread
pub turn_shows : (script : Script) (b : Book) → IsInRange script → IsRunOf script b → AreBookShows script b
turn_shows script b sound run = record {
  shows = λ centre number range. fed_shows script b run.n run.fits centre range number
      (subst (AreFed centre (objects_on script.taps centre) 1 script.sections) (sym (run.steps.notes 1))
      (turns_fed script (first_tap script.n script.taps) centre 1 script.sections (first_stage script) run.steps.all sound.sections (λ i. refl) run.steps.plays));
}
