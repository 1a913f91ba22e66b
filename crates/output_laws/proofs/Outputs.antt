-- What is owed for the same words and bytes is the same.
use Rattle.std.proofs.Common.{◌≡◌, ◌≢◌, inl, inr, ℕ, Bool, true, false, List, ◌++◌, map, Option, Some, refl, sym, ap, ◌∙◌, subst}
use Rattle.io_edge.specs.Streams.{puts_behind}
use Rattle.journal_disk.specs.declared.steady.SteadyDisk.{SteadyDisk}
use Rattle.journal_disk.specs.Steady.{steady_bytes}
use Rattle.std.specs.Prelude.{Ok}
use Rattle.script_core.specs.declared.script.Script.{Script}
use Rattle.script_reader.specs.Scripts.{script_read}
use Rattle.script_reader.proofs.ScriptRanges.{script_in_range}
use Rattle.run_book.specs.declared.book.Book.{Book}
use Rattle.command_line.specs.declared.form.Form.{Form}
use Rattle.command_line.specs.declared.form.Form.TheVariants.{Run, Serial, Journal, Make, Load, Help, Version}
use Rattle.command_line.specs.Forms.{IsForm, spelled}
use Rattle.command_line.proofs.Spelled.{one_form}
use Rattle.load_maker.specs.Made.{made_script}
use Rattle.print_text.specs.Text.{text_of}
use Rattle.trail_text.specs.Trails.{trail_text}
use Rattle.run_book.specs.Setups.{Setup, setup_of}
use Rattle.top_call.specs.Runs.{HasText, IsBookOf, IsDone, IsOwed, IsPlay, IsPlayed, IsRead, IsRefusal, IsRefusedFor, IsUsage, Played, Made, Told, Done, Refused, Misused, Plays, Wrote, run_text, told_text}
use Rattle.top_call.proofs.Owing.{asked_said, asks, no_question, one_play, play_known, play_of, played_of, plays_by, question_known, read_known, read_of, read_plays}
use Rattle.std.proofs.lemmas.Option.{none-some}
use Rattle.top_call.specs.declared.engine.Fault.{Fault}
use Rattle.top_call.specs.declared.engine.Owed.{Owed}
use Rattle.top_call.specs.declared.ending.Ended.{Ended}
use Rattle.run_forks.proofs.Books.{AreRuns}
use Rattle.run_laws.specs.OneBook.{AreOne}
use Rattle.run_laws.proofs.InOrder.{IsInOrder, are_runs, one_self, ordered_book, run_in_order, sections_in_order}
use Rattle.run_laws.proofs.Scripts.{one_script}
use Rattle.output_laws.specs.Outputs.{given_bytes, AreAlike, AreFixed, HaveNoPhase, IsFixed, IsWhole, IsWholeRun, PrintAlike}
use Rattle.output_laws.proofs.JournalTexts.{same_journal_texts}
use Rattle.output_laws.proofs.Refusals.{not_refused, one_refusal}
use Rattle.output_laws.proofs.TrailTexts.{same_trail_texts}

-- the text of two runs of a script
run_texts : (trail : Bool) (b c : Book) (setup : Setup) → text_of b.logs ≡ text_of c.logs → trail_text b setup ≡ trail_text c setup → run_text trail b setup ≡ run_text trail c setup
run_texts true b c setup texts trails = λ i. texts i ++ trails i
run_texts false b c setup texts trails = texts

-- ---- forms whose output follows from their input

module _ (bytes : List ℕ) where
  -- such a form leaves a book whose steps happened one after another
  fixed_run : (form : Form) (script : Script) (book : Book) → IsFixed bytes form → script_read bytes ≡ Ok script → IsBookOf form script book → IsInOrder script book
  fixed_run (Run trail) script book fixed read run = sections_in_order script book (script_in_range bytes script (sym read)) (fixed script read) run
  fixed_run (Serial trail) script book fixed read run = run_in_order script book run
  fixed_run Journal script book fixed read run = run_in_order script book run
  fixed_run (Load num) script book fixed read run = absurd fixed
  fixed_run (Make num) script book fixed read run = absurd run
  fixed_run Help script book fixed read run = absurd run
  fixed_run Version script book fixed read run = absurd run

  -- and the text of that form of two runs of a script
  fixed_text : (form : Form) (script : Script) (b c : Book) (text also : List ℕ) (disks others : List SteadyDisk) → IsFixed bytes form → AreRuns script b c → text_of b.logs ≡ text_of c.logs → HasText form script b text disks → HasText form script c also others → text ≡ also
  fixed_text (Run trail) script b c text also disks others fixed runs texts is too = is.0 ∙ run_texts trail b c (setup_of script) texts (same_trail_texts script b c runs) ∙ sym too.0
  fixed_text (Serial trail) script b c text also disks others fixed runs texts is too = is.0 ∙ run_texts trail b c (setup_of script) texts (same_trail_texts script b c runs) ∙ sym too.0
  fixed_text Journal script b c text also disks others fixed runs texts is too = same_journal_texts script b c (map steady_bytes disks) (map steady_bytes others) text also runs is too
  fixed_text (Load num) script b c text also disks others fixed runs texts is too = absurd fixed
  fixed_text (Make num) script b c text also disks others fixed runs texts is too = is.0 ∙ sym too.0
  fixed_text Help script b c text also disks others fixed runs texts is too = is.0 ∙ sym too.0
  fixed_text Version script b c text also disks others fixed runs texts is too = is.0 ∙ sym too.0

  -- where it plays a script, it reads it
  fixed_read : (form : Form) → IsFixed bytes form → IsPlay form → IsRead form
  fixed_read (Run trail) fixed plays = tt
  fixed_read (Serial trail) fixed plays = tt
  fixed_read Journal fixed plays = tt
  fixed_read (Load num) fixed plays = absurd fixed
  fixed_read (Make num) fixed plays = plays
  fixed_read Help fixed plays = plays
  fixed_read Version fixed plays = plays

  module _ (words others : List (List ℕ)) (taken again : Option (List ℕ)) (one two : Owed) where
    -- two runs that the same bytes ask for, by forms that write the same
    played_alike : (p : IsPlayed (given_bytes words bytes taken) one) (q : IsPlayed (given_bytes others bytes again) two) → IsFixed bytes p.asked → IsFixed bytes q.asked → ((script : Script) (book : Book) (text : List ℕ) (disks : List SteadyDisk) → HasText q.asked script book text disks → HasText p.asked script book text disks) → AreAlike one two
    played_alike p q fixed also same =
        let said : script_read bytes ≡ Ok p.script = asked_said p.asked bytes p.script (fixed_read p.asked fixed p.plays) p.input in
        let told : script_read bytes ≡ Ok q.script = asked_said q.asked bytes q.script (fixed_read q.asked also q.plays) q.input in
        let read : p.script ≡ q.script = one_script bytes p.script q.script said told in
        let mine : IsInOrder p.script one.book = fixed_run p.asked p.script one.book fixed said p.run in
        let ran : IsInOrder p.script two.book = subst (λ script. IsInOrder script two.book) (sym read) (fixed_run q.asked q.script two.book also told q.run) in
        let book = ordered_book p.script one.book two.book mine ran in
        let also_text : HasText p.asked p.script two.book two.text.items two.disks.items = same p.script two.book two.text.items two.disks.items (subst (λ script. HasText q.asked script two.book two.text.items two.disks.items) (sym read) q.text) in
        let text : one.text.items ≡ two.text.items = fixed_text p.asked p.script one.book two.book one.text.items two.text.items one.disks.items two.disks.items fixed (are_runs p.script one.book two.book mine ran) book.texts p.text also_text in
        record { status = p.status ∙ sym q.status; text = text; book = book }

    -- bytes that are refused, are so by the same line
    refused_alike : IsRefusal (given_bytes words bytes taken) one → IsRefusal (given_bytes others bytes again) two → AreAlike one two
    refused_alike p q = record { status = p.status ∙ sym q.status; text = p.text ∙ (one_refusal bytes p.fault q.fault p.refused q.refused ∙ sym q.text); book = one_self one.book two.book (p.book ∙ sym q.book) }

-- two runs that the same words and bytes ask for
one_run : (words : List (List ℕ)) (bytes : List ℕ) (taken again : Option (List ℕ)) (one two : Owed) → AreFixed words bytes → IsPlayed (given_bytes words bytes taken) one → IsPlayed (given_bytes words bytes again) two → AreAlike one two
one_run words bytes taken again one two fixed p q =
    let form : p.asked ≡ q.asked = one_play p.asked q.asked p.plays q.plays (sym p.form ∙ q.form) in
    played_alike bytes words words taken again one two p q (fixed p.asked p.form) (fixed q.asked q.form) (λ script book text disks is. subst (λ asked. HasText asked script book text disks) (sym form) is)

-- what is done for the same words and bytes
one_done : (words : List (List ℕ)) (bytes : List ℕ) (taken again : Option (List ℕ)) (one two : Owed) → AreFixed words bytes → IsDone (given_bytes words bytes taken) one → IsDone (given_bytes words bytes again) two → AreAlike one two
one_done words bytes taken again one two fixed (Played p) (Played q) = one_run words bytes taken again one two fixed p q
one_done words bytes taken again one two fixed (Played p) (Made n) = absurd (play_of words (Make n.num) n.known n.form (asks (given_bytes words bytes taken) one p))
one_done words bytes taken again one two fixed (Played p) (Told t) = absurd (no_question t.question two.text.items t.text (play_of words t.question (question_known t.question two.text.items t.text) t.form (asks (given_bytes words bytes taken) one p)))
one_done words bytes taken again one two fixed (Made m) (Played q) = absurd (play_of words (Make m.num) m.known m.form (asks (given_bytes words bytes again) two q))
one_done words bytes taken again one two fixed (Told s) (Played q) = absurd (no_question s.question one.text.items s.text (play_of words s.question (question_known s.question one.text.items s.text) s.form (asks (given_bytes words bytes again) two q)))
one_done words bytes taken again one two fixed (Made m) (Made n) =
    let forms : Make m.num ≡ Make n.num = one_form (Make m.num) (Make n.num) m.known n.known (sym m.form ∙ n.form) in
    let num : m.num ≡ n.num = cc in
    record { status = m.status ∙ sym n.status; text = m.text ∙ (ap made_script num ∙ sym n.text); book = one_self one.book two.book (m.book ∙ sym n.book) }
one_done words bytes taken again one two fixed (Made m) (Told t) =
    let form : t.question ≡ Make m.num = one_form t.question (Make m.num) (question_known t.question two.text.items t.text) m.known (sym t.form ∙ m.form) in
    absurd (none-some two.text.items (sym (ap told_text form) ∙ t.text))
one_done words bytes taken again one two fixed (Told s) (Made n) =
    let form : s.question ≡ Make n.num = one_form s.question (Make n.num) (question_known s.question one.text.items s.text) n.known (sym s.form ∙ n.form) in
    absurd (none-some one.text.items (sym (ap told_text form) ∙ s.text))
one_done words bytes taken again one two fixed (Told s) (Told t) =
    let form : s.question ≡ t.question = one_form s.question t.question (question_known s.question one.text.items s.text) (question_known t.question two.text.items t.text) (sym s.form ∙ t.form) in
    let texts : Some one.text.items ≡ Some two.text.items = sym s.text ∙ (ap told_text form ∙ t.text) in
    record { status = s.status ∙ sym t.status; text = cc; book = one_self one.book two.book (s.book ∙ sym t.book) }

-- what was done was asked for by words of a form
no_usage : (words : List (List ℕ)) (bytes : List ℕ) (taken : Option (List ℕ)) (one : Owed) → IsDone (given_bytes words bytes taken) one → ((form : Form) → IsForm form → words ≢ spelled form) → ⊥
no_usage words bytes taken one (Played p) misused = misused p.asked (play_known p.asked p.plays) p.form
no_usage words bytes taken one (Made m) misused = misused (Make m.num) m.known m.form
no_usage words bytes taken one (Told t) misused = misused t.question (question_known t.question one.text.items t.text) t.form

-- bytes that were played are not refused
no_refusal : (words : List (List ℕ)) (bytes : List ℕ) (taken again : Option (List ℕ)) (one two : Owed) → IsDone (given_bytes words bytes taken) one → IsRefusal (given_bytes words bytes again) two → ⊥
no_refusal words bytes taken again one two done r =
    let plays : Plays words = plays_by words r.form.asked r.form.form (read_plays r.form.asked r.form.reads) in
    let p = played_of (given_bytes words bytes taken) one plays done in
    not_refused bytes p.asked p.script r.fault (read_of words p.asked (play_known p.asked p.plays) p.form r.form) p.input r.refused

-- what is owed for the same words and bytes
pub one_output : (words : List (List ℕ)) (bytes : List ℕ) (taken again : Option (List ℕ)) (one two : Owed) → AreFixed words bytes → IsOwed (given_bytes words bytes taken) one → IsOwed (given_bytes words bytes again) two → AreAlike one two
one_output words bytes taken again one two fixed (Done d) (Done e) = one_done words bytes taken again one two fixed d e
one_output words bytes taken again one two fixed (Done d) (Refused q) = absurd (no_refusal words bytes taken again one two d q)
one_output words bytes taken again one two fixed (Refused p) (Done e) = absurd (no_refusal words bytes again taken two one e p)
one_output words bytes taken again one two fixed (Refused p) (Refused q) = refused_alike bytes words words taken again one two p q
one_output words bytes taken again one two fixed (Misused p) (Misused q) = record { status = p.status ∙ sym q.status; text = p.text ∙ sym q.text; book = one_self one.book two.book (p.book ∙ sym q.book) }
one_output words bytes taken again one two fixed (Done d) (Misused q) = absurd (no_usage words bytes taken one d q.form)
one_output words bytes taken again one two fixed (Refused p) (Misused q) = absurd (q.form p.form.asked (read_known p.form.asked p.form.reads) p.form.form)
one_output words bytes taken again one two fixed (Misused p) (Done e) = absurd (no_usage words bytes again two e p.form)
one_output words bytes taken again one two fixed (Misused p) (Refused q) = absurd (p.form q.form.asked (read_known q.form.asked q.form.reads) q.form.form)

-- what a run in which nothing failed wrote
whole_text : (words : List (List ℕ)) (bytes : List ℕ) (taken now : Option (List ℕ)) (ended : Ended) → IsWholeRun words bytes taken ended now → Wrote IsOwed (given_bytes words bytes taken) ended now
whole_text words bytes taken now ended run = go run.status
  where
    go : IsWhole ended.status → Wrote IsOwed (given_bytes words bytes taken) ended now
    go (inl status) = let w = run.done status in record { owed = w.owed; kind = Done w.kind; status = w.status; script = w.script; book = w.book; disks = w.disks; fault = w.fault; all = w.all }
    go (inr (inl status)) = let w = run.misused status in record { owed = w.owed; kind = Misused w.kind; status = w.status; script = w.script; book = w.book; disks = w.disks; fault = w.fault; all = w.all }
    go (inr (inr status)) = let w = run.refused status in record { owed = w.owed; kind = Refused w.kind; status = w.status; script = w.script; book = w.book; disks = w.disks; fault = w.fault; all = w.all }

-- runs in which nothing failed, where what they owe is the same
print_alike : (words others : List (List ℕ)) (bytes : List ℕ) (taken again now later : Option (List ℕ)) (one two : Ended) → ((owed also : Owed) → IsOwed (given_bytes words bytes taken) owed → IsOwed (given_bytes others bytes again) also → AreAlike owed also) → IsWholeRun words bytes taken one now → IsWholeRun others bytes again two later → PrintAlike one two taken again now later
print_alike words others bytes taken again now later one two same first other =
    let left = whole_text words bytes taken now one first in
    let right = whole_text others bytes again later two other in
    let alike = same left.owed right.owed left.kind right.kind in
    record {
      status = left.status ∙ (alike.status ∙ sym right.status);
      book = subst (λ b. AreOne b two.book) (sym left.book) (subst (λ c. AreOne left.owed.book c) (sym right.book) alike.book);
      text = left.owed.text.items;
      first = left.all;
      other = right.all ∙ ap (λ text. puts_behind text again) (sym alike.text);
    }

-- by the same words, with the same bytes as their input
pub one_print : (words : List (List ℕ)) (bytes : List ℕ) (taken again now later : Option (List ℕ)) (one two : Ended) → AreFixed words bytes → IsWholeRun words bytes taken one now → IsWholeRun words bytes again two later → PrintAlike one two taken again now later
one_print words bytes taken again now later one two fixed first other = print_alike words words bytes taken again now later one two (λ owed also. one_output words bytes taken again owed also fixed) first other

-- ---- `run` beside `serial`

module _ (form : Form) (read : IsRead form) (bytes : List ℕ) (taken : Option (List ℕ)) (one : Owed) where
  -- what was done for a form that reads a script is a run by this form
  done_run : IsDone (given_bytes (spelled form) bytes taken) one → (p : IsPlayed (given_bytes (spelled form) bytes taken) one) × (p.asked ≡ form)
  done_run done =
      let p = played_of (given_bytes (spelled form) bytes taken) one (plays_by (spelled form) form refl (read_plays form read)) done in
      (p, one_play p.asked form p.plays (read_plays form read) (sym p.form))

  -- its words are not misused
  not_misused : IsUsage (given_bytes (spelled form) bytes taken) one → ⊥
  not_misused m = m.form form (read_known form read) refl

  -- bytes that are refused were not played
  not_played : (fault : Fault) → IsRefusedFor (Some bytes) fault → IsDone (given_bytes (spelled form) bytes taken) one → ⊥
  not_played fault refused done =
      let d = done_run done in
      not_refused bytes d.0.asked d.0.script fault (subst IsRead (sym d.1) read) d.0.input refused

-- where no phase is played, the same is owed
pub run_as_serial : (trail : Bool) (bytes : List ℕ) (taken again : Option (List ℕ)) (one two : Owed) → HaveNoPhase bytes → IsOwed (given_bytes (spelled (Run trail)) bytes taken) one → IsOwed (given_bytes (spelled (Serial trail)) bytes again) two → AreAlike one two
run_as_serial trail bytes taken again one two lines (Done d) (Done e) =
    let p = done_run (Run trail) tt bytes taken one d in
    let q = done_run (Serial trail) tt bytes again two e in
    played_alike bytes (spelled (Run trail)) (spelled (Serial trail)) taken again one two p.0 q.0 (subst (IsFixed bytes) (sym p.1) lines) (subst (IsFixed bytes) (sym q.1) tt)
    (λ script book text disks is. subst (λ form. HasText form script book text disks) (sym p.1) (subst (λ form. HasText form script book text disks) q.1 is))
run_as_serial trail bytes taken again one two lines (Done d) (Refused q) = absurd (not_played (Run trail) tt bytes taken one q.fault q.refused d)
run_as_serial trail bytes taken again one two lines (Refused p) (Done e) = absurd (not_played (Serial trail) tt bytes again two p.fault p.refused e)
run_as_serial trail bytes taken again one two lines (Refused p) (Refused q) = refused_alike bytes (spelled (Run trail)) (spelled (Serial trail)) taken again one two p q
run_as_serial trail bytes taken again one two lines (Misused p) two_owed = absurd (not_misused (Run trail) tt bytes taken one p)
run_as_serial trail bytes taken again one two lines (Done d) (Misused q) = absurd (not_misused (Serial trail) tt bytes again two q)
run_as_serial trail bytes taken again one two lines (Refused p) (Misused q) = absurd (not_misused (Serial trail) tt bytes again two q)

-- and printed
pub print_as_serial : (trail : Bool) (bytes : List ℕ) (taken again now later : Option (List ℕ)) (one two : Ended) → HaveNoPhase bytes → IsWholeRun (spelled (Run trail)) bytes taken one now → IsWholeRun (spelled (Serial trail)) bytes again two later → PrintAlike one two taken again now later
print_as_serial trail bytes taken again now later one two lines first other = print_alike (spelled (Run trail)) (spelled (Serial trail)) bytes taken again now later one two (λ owed also. run_as_serial trail bytes taken again owed also lines) first other
