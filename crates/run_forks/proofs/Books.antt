-- Two books of runs of a script have the same notes and trails.
use Rattle.std.proofs.Common.{◌≡◌, ℕ, suc, ◌≤◌, [], length, Some, refl, sym, ap, ◌∙◌, subst, arith}
use Rattle.std.specs.Prelude.{slice_get}
use Rattle.std.proofs.lemmas.List.{ext_get_or}
use Rattle.list_core.specs.Members.{In}
use Rattle.list_core.proofs.Gets.{In_get}
use Rattle.list_core.proofs.Passing.{In_filter_map}
use Rattle.dc_talk.specs.declared.ask.Ask.{Ask}
use Rattle.dc_talk.specs.declared.log.Fate.{Fate}
use Rattle.dc_talk.specs.declared.log.Deed.{Deed}
use Rattle.dc_talk.specs.declared.log.Deed.TheVariants.{Did, Asked, Told, Spoilt}
use Rattle.dc_talk.specs.declared.settings.Settings.{Settings}
use Rattle.dc_talk.specs.Answers.{History}
use Rattle.script_core.specs.declared.script.Script.{Script}
use Rattle.run_book.specs.declared.book.Book.{Book}
use Rattle.run_book.specs.Setups.{setup_of, settings_among}
use Rattle.run_book.specs.Parts.{trail_of, notes_of}
use Rattle.run_book.specs.Fit.{FitsWith}
use Rattle.run_book.specs.Happenings.{Happened, note_by, notes_by, trail_in, GoesToOneOf}
use Rattle.run_book.specs.Moves.{moves_of}
use Rattle.run_book.specs.Played.{first_stage}
use Rattle.run_book.specs.Scripted.{HasSteps}
use Rattle.run_book.proofs.Happenings.Entries.{own_note}
use Rattle.run_forks.specs.Answered.{AreAnswered}
use Rattle.run_forks.proofs.OneRun.{one_run}

-- two books of runs of a script
pub record AreRuns (script : Script) (b c : Book) : Type 0 where
  pub n : b.n ≡ script.n
  pub also_n : c.n ≡ script.n
  pub k : b.k ≡ script.k
  pub also_k : c.k ≡ script.k
  pub one : FitsWith b (setup_of script)
  pub two : FitsWith c (setup_of script)
  pub steps : HasSteps script b
  pub again : HasSteps script c

-- what happened in a run of a script was answered by its centres
run_answered : (script : Script) (b : Book) → b.n ≡ script.n → b.k ≡ script.k → FitsWith b (setup_of script) → (steps : HasSteps script b) → AreAnswered script.n script.k (setup_of script) steps.all
run_answered script b n k fits steps = record {
  reach = λ one there. goes one.note.deed (λ i ask fate is.
      let at = noted one there in
      let range = fits.form.centres one.actor at.0 one.note i ask fate at.1 is in
      (range.0, omega (arith, range.1, n)));
  histories = λ i low high.
      subst (History (settings_among script.n script.k (setup_of script) i)) (steps.trails i)
      (subst (λ (s : Settings). History s (trail_of b i)) (settings i) (fits.histories i low (omega (arith, high, n))));
}
  where
    settings : (i : ℕ) → settings_among b.n b.k (setup_of script) i ≡ settings_among script.n script.k (setup_of script) i
    settings i = λ x. settings_among (n x) (k x) (setup_of script) i

    noted : (one : Happened) → In one steps.all → (m : ℕ) × (slice_get (notes_of b one.actor) m ≡ Some one.note)
    noted one there = In_get (notes_of b one.actor) one.note (subst (In one.note) (sym (steps.notes one.actor)) (In_filter_map (note_by one.actor) steps.all one one.note there (own_note one)))

    goes : (deed : Deed) → ((i : ℕ) (ask : Ask) (fate : Fate) → deed ≡ Asked i ask fate → (1 ≤ i) × (i ≤ script.n)) → GoesToOneOf script.n deed
    goes (Asked i ask fate) range = range i ask fate refl
    goes (Did call outcome) range = tt
    goes (Told line) range = tt
    goes (Spoilt from item why) range = tt

module _ (script : Script) (b c : Book) (runs : AreRuns script b c) where
  -- the same happened
  same_run : runs.steps.all ≡ runs.again.all
  same_run = one_run script.n script.k script.clients (setup_of script) (first_stage script) (moves_of script) runs.steps.all runs.again.all runs.steps.plays runs.again.plays (run_answered script b runs.n runs.k runs.one runs.steps) (run_answered script c runs.also_n runs.also_k runs.two runs.again)

  -- all notes are the same
  pub same_notes : (a : ℕ) → notes_of b a ≡ notes_of c a
  same_notes a = runs.steps.notes a ∙ (ap (notes_by a) same_run ∙ sym (runs.again.notes a))

  -- so are the trails
  pub same_trails : b.trails ≡ c.trails
  same_trails =
      let long : length b.trails ≡ length c.trails = runs.one.form.trails ∙ (runs.n ∙ (sym runs.also_n ∙ sym runs.two.form.trails)) in
      ext_get_or [] b.trails c.trails long (λ place lt. runs.steps.trails (suc place) ∙ (ap (trail_in (suc place)) same_run ∙ sym (runs.again.trails (suc place))))
