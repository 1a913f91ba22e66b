-- What is owed for what is given, and how a run ends.
use Rattle.std.proofs.Common.{◌≡◌, ◌≢◌, ◌⊎◌, inl, inr, ◌↔◌, Bool, true, false, IsTrue, ◌++◌, ℕ, List, [], Option, Some, None, IfSome, IsSomeAnd, refl, sym, ap, ◌∙◌, subst, arith}
use Rattle.std.specs.Prelude.{Ok, Err}
use Rattle.std.proofs.lemmas.List.{append-nil}
use Rattle.std.proofs.lemmas.Option.{none-some}
use Rattle.io_edge.specs.Streams.{TookFront, puts_back, puts_behind}
use Rattle.script_core.specs.Limits.{PassesLimits}
use Rattle.script_reader.specs.declared.fault.Cause.{Cause}
use Rattle.script_reader.specs.declared.fault.ScriptFault.TheVariants.{Refused as RefusedAt}
use Rattle.script_core.specs.declared.script.Script.{Script}
use Rattle.script_reader.specs.Scripts.{script_read}
use Rattle.script_core.specs.Scripts.{IsInRange}
use Rattle.script_reader.proofs.CutOff.{cut_off, past_is_none}
use Rattle.script_reader.proofs.ScriptRanges.{script_in_range}
use Rattle.load_maker.specs.Made.{made_script}
use Rattle.run_laws.proofs.SectionLooks.{section_looks}
use Rattle.run_laws.proofs.TurnLooks.{turn_looks}
use Rattle.run_book.specs.Fit.{FitsWith}
use Rattle.run_book.specs.Setups.{setup_of}
use Rattle.run_book.proofs.Causal.Theorem.{causal as book_causal}
use Rattle.run_book.specs.declared.book.Book.{Book}
use Rattle.run_sections.specs.Runs.{IsSectionRunOf}
use Rattle.run_sections.specs.OneThread.{IsRunOf}
use Rattle.top_call.specs.declared.engine.Fault.{Fault}
use Rattle.top_call.specs.declared.engine.Owed.{Owed}
use Rattle.top_call.specs.declared.input.Task.{Task}
use Rattle.top_call.specs.declared.input.Task.TheVariants.{Play, Refuse}
use Rattle.top_call.specs.declared.ending.Ended.{Ended}
use Rattle.top_call.specs.Runs.{Given, AsksThreads, IsAnswerable, IsAsked, IsBookOf, IsDone, IsFitAndCausal, IsRefusedFor, IsOwed, IsPlay, IsRead, IsScriptIn, IsServed, IsTask, IsTaskIn, IsTaskOf, IsThreaded, IsToPlay, Played, Made, Told, Done, Refused, Misused, IsPlayed, IsSomeScript, IsStatus, EndsSo, HasText, Plays, Reads, Wrote, ShowsBy, empty_book, given_form, told_text}
use Rattle.command_line.specs.declared.form.Form.{Form}
use Rattle.command_line.specs.declared.form.Form.TheVariants.{Run, Serial, Journal, Make, Load, Help, Version}
use Rattle.command_line.specs.Forms.{IsForm, spelled}
use Rattle.command_line.proofs.Spelled.{one_form}

-- the book that a form leaves fits
pub book_fits : (form : Form) (script : Script) (book : Book) → IsBookOf form script book → FitsWith book (setup_of script)
book_fits (Run trail) script book run = run.fits
book_fits (Serial trail) script book run = run.fits
book_fits (Load num) script book run = run.fits
book_fits Journal script book run = run.fits
book_fits (Make num) script book run = absurd run
book_fits Help script book run = absurd run
book_fits Version script book run = absurd run

-- what is owed for a script that a form plays
pub run_plays : (form : Form) (left : Option (List ℕ)) (script : Script) (owed : Owed) → IsPlay form → IsAsked form left script → owed.status ≡ 0 → owed.script ≡ Some script
    → IsBookOf form script owed.book → HasText form script owed.book owed.text.items owed.disks.items → owed.fault ≡ None → IsOwed (given_form form left) owed
run_plays form left script owed plays input status kept run text sound = Done (Played (record {
  asked = form;
  plays = plays;
  form = refl;
  status = status;
  script = script;
  kept = kept;
  input = input;
  run = run;
  causal = record { fits = book_fits form script owed.book run; causal = book_causal owed.book (setup_of script) (book_fits form script owed.book run) };
  text = text;
  sound = sound;
}))

-- ---- the forms

-- a form that reads a script plays it
pub read_plays : (form : Form) → IsRead form → IsPlay form
read_plays (Run trail) read = tt
read_plays (Serial trail) read = tt
read_plays Journal read = tt
read_plays (Make num) read = read
read_plays (Load num) read = absurd read
read_plays Help read = read
read_plays Version read = read

-- a form that plays a script is one that the program knows
pub play_known : (form : Form) → IsPlay form → IsForm form
play_known (Run trail) play = tt
play_known (Serial trail) play = tt
play_known Journal play = tt
play_known (Make num) play = absurd play
play_known (Load num) play = play
play_known Help play = absurd play
play_known Version play = absurd play

-- so is one that reads it
pub read_known : (form : Form) → IsRead form → IsForm form
read_known form read = play_known form (read_plays form read)

-- and a question
pub question_known : (question : Form) (text : List ℕ) → told_text question ≡ Some text → IsForm question
question_known (Run trail) text told = tt
question_known (Serial trail) text told = tt
question_known Journal text told = tt
question_known (Make num) text told = absurd (none-some text told)
question_known (Load num) text told = absurd (none-some text told)
question_known Help text told = tt
question_known Version text told = tt

-- a question is no form that plays a script
pub no_question : (form : Form) (text : List ℕ) → told_text form ≡ Some text → IsPlay form → ⊥
no_question (Run trail) text told play = none-some text told
no_question (Serial trail) text told play = none-some text told
no_question Journal text told play = none-some text told
no_question (Make num) text told play = play
no_question (Load num) text told play = none-some text told
no_question Help text told play = play
no_question Version text told play = play

-- words that play a script spell no other form
pub play_of : (words : List (List ℕ)) (form : Form) → IsForm form → words ≡ spelled form → Plays words → IsPlay form
play_of words form known is plays = subst IsPlay (one_form plays.asked form (play_known plays.asked plays.plays) known (sym plays.form ∙ is)) plays.plays

-- words that have one read spell no other form
pub read_of : (words : List (List ℕ)) (form : Form) → IsForm form → words ≡ spelled form → Reads words → IsRead form
read_of words form known is reads = subst IsRead (one_form reads.asked form (read_known reads.asked reads.reads) known (sym reads.form ∙ is)) reads.reads

-- a form that plays a script is spelled by words that do
pub plays_by : (words : List (List ℕ)) (form : Form) → words ≡ spelled form → IsPlay form → Plays words
plays_by words form is play = record { asked = form; plays = play; form = is }

-- words ask for a script to be played by one form
pub one_play : (form again : Form) → IsPlay form → IsPlay again → spelled form ≡ spelled again → form ≡ again
one_play form again play too same = one_form form again (play_known form play) (play_known again too) same

-- ---- the forms with threads

-- a form that plays with threads plays
pub threaded_plays : (form : Form) → IsThreaded form → IsPlay form
threaded_plays (Run trail) threaded = tt
threaded_plays (Serial trail) threaded = absurd threaded
threaded_plays Journal threaded = absurd threaded
threaded_plays (Make num) threaded = threaded
threaded_plays (Load num) threaded = threaded
threaded_plays Help threaded = threaded
threaded_plays Version threaded = threaded

-- a book of a run section by section is one that it leaves
pub threaded_book : (form : Form) (script : Script) (book : Book) → IsThreaded form → IsSectionRunOf script book → IsBookOf form script book
threaded_book (Run trail) script book threaded run = run
threaded_book (Serial trail) script book threaded run = absurd threaded
threaded_book Journal script book threaded run = absurd threaded
threaded_book (Make num) script book threaded run = threaded
threaded_book (Load num) script book threaded run = run
threaded_book Help script book threaded run = threaded
threaded_book Version script book threaded run = threaded

-- a book of a run on one thread is one that each other form leaves which reads a script
pub alone_book : (form : Form) (script : Script) (book : Book) → IsRead form → (IsThreaded form → ⊥) → IsRunOf script book → IsBookOf form script book
alone_book (Run trail) script book read alone run = absurd (alone tt)
alone_book (Serial trail) script book read alone run = run
alone_book Journal script book read alone run = run
alone_book (Make num) script book read alone run = read
alone_book (Load num) script book read alone run = absurd read
alone_book Help script book read alone run = read
alone_book Version script book read alone run = read

-- the form for which words ask for threads is one that the program knows
asked_known : (words : List (List ℕ)) (asks : AsksThreads words) → IsForm asks.asked
asked_known words asks = play_known asks.asked (threaded_plays asks.asked asks.threaded)

-- words that spell another form ask for no threads
pub not_asked : (words : List (List ℕ)) (form : Form) → IsForm form → words ≡ spelled form → (IsThreaded form → ⊥) → AsksThreads words → ⊥
not_asked words form known is none asks = none (subst IsThreaded (one_form asks.asked form (asked_known words asks) known (sym asks.form ∙ is)) asks.threaded)

-- nor do words that spell no form
pub none_asked : (words : List (List ℕ)) → ((form : Form) → IsForm form → words ≢ spelled form) → AsksThreads words → ⊥
none_asked words none asks = none asks.asked (asked_known words asks) asks.form

-- where words ask for no threads, the form that they spell plays with none
pub alone_form : (words : List (List ℕ)) (form : Form) → words ≡ spelled form → (AsksThreads words → ⊥) → IsThreaded form → ⊥
alone_form words form is none threaded = none (record { asked = form; threaded = threaded; form = is })

-- ---- what was done

-- words by which a script was played ask for one
pub asks : (given : Given) (owed : Owed) → IsPlayed given owed → Plays given.words
asks given owed p = plays_by given.words p.asked p.form p.plays

-- what was done for words that play a script is a run
pub played_of : (given : Given) (owed : Owed) → Plays given.words → IsDone given owed → IsPlayed given owed
played_of given owed plays (Played p) = p
played_of given owed plays (Made m) = absurd (play_of given.words (Make m.num) m.known m.form plays)
played_of given owed plays (Told t) = absurd (no_question t.question owed.text.items t.text (play_of given.words t.question (question_known t.question owed.text.items t.text) t.form plays))

-- ---- the input

-- of a script nothing is left behind the bytes that were read
whole_of : (bytes : List ℕ) (past : Bool) (new : Option (List ℕ)) → (PassesLimits bytes → ⊥) → (IsTrue past ↔ PassesLimits bytes) → (past ≡ false → IfSome new (λ rest. rest ≡ [])) → IfSome new (λ rest. rest ≡ [])
whole_of bytes true new within limits whole = absurd (within (limits.0 refl))
whole_of bytes false new within limits whole = whole refl

-- a source that has no more than these bytes
all_read : (bytes : List ℕ) (new : Option (List ℕ)) → IfSome new (λ rest. rest ≡ []) → IfSome (puts_back bytes new) (λ all. all ≡ bytes)
all_read bytes None whole = tt
all_read bytes (Some rest) none = ap (λ l. bytes ++ l) none ∙ append-nil bytes

-- what is left behind the bytes that were read, where a source tells it
abbrev rest_of : Option (List ℕ) → List ℕ
rest_of None = []
rest_of (Some rest) = rest

tells_all : (bytes : List ℕ) (new : Option (List ℕ)) → IfSome (puts_back bytes new) (λ all. all ≡ bytes ++ rest_of new)
tells_all bytes None = tt
tells_all bytes (Some rest) = refl

-- all that a source had left is refused as the bytes that were read are
refused_left : (bytes : List ℕ) (past : Bool) (new : Option (List ℕ)) (line : ℕ) (cause : Cause) → script_read bytes ≡ Err (RefusedAt line cause) → (IsTrue past ↔ PassesLimits bytes) → (past ≡ false → IfSome new (λ rest. rest ≡ [])) → script_read (bytes ++ rest_of new) ≡ Err (RefusedAt line cause)
refused_left bytes past None line cause fault limits whole = ap script_read (append-nil bytes) ∙ fault
refused_left bytes true (Some rest) line cause fault limits whole = cut_off bytes rest (limits.0 refl) ∙ fault
refused_left bytes false (Some rest) line cause fault limits whole = ap script_read (ap (λ l. bytes ++ l) (whole refl) ∙ append-nil bytes) ∙ fault

-- they are all of that, or pass the limits
whole_or_past : (bytes : List ℕ) (past : Bool) (new : Option (List ℕ)) → (IsTrue past ↔ PassesLimits bytes) → (past ≡ false → IfSome new (λ rest. rest ≡ [])) → (rest_of new ≡ []) ⊎ PassesLimits bytes
whole_or_past bytes past None limits whole = inl refl
whole_or_past bytes true (Some rest) limits whole = inr (limits.0 refl)
whole_or_past bytes false (Some rest) limits whole = inl (whole refl)

-- bytes of a script are within the limits
within_limits : (bytes : List ℕ) (script : Script) → script_read bytes ≡ Ok script → PassesLimits bytes → ⊥
within_limits bytes script spells past = past_is_none bytes script past spells

-- the script that was found in an input is what its bytes say
script_said : (bytes : List ℕ) (script : Script) → IsScriptIn (Some bytes) script → script_read bytes ≡ Ok script
script_said bytes script found = ap script_read found.input ∙ found.spelled

-- so is the one that a form plays which reads it
pub asked_said : (form : Form) (bytes : List ℕ) (script : Script) → IsRead form → IsAsked form (Some bytes) script → script_read bytes ≡ Ok script
asked_said (Run trail) bytes script read asked = script_said bytes script asked
asked_said (Serial trail) bytes script read asked = script_said bytes script asked
asked_said Journal bytes script read asked = script_said bytes script asked
asked_said (Make num) bytes script read asked = absurd read
asked_said (Load num) bytes script read asked = absurd read
asked_said Help bytes script read asked = absurd read
asked_said Version bytes script read asked = absurd read

-- what an input asks for, a form asks for that reads it
pub task_asked : (form : Form) (left : Option (List ℕ)) (task : Task) → IsRead form → IsTaskIn left task → IsTask form left task
task_asked (Run trail) left (Play script) read is = is
task_asked (Run trail) left (Refuse fault) read is = (tt, is)
task_asked (Serial trail) left (Play script) read is = is
task_asked (Serial trail) left (Refuse fault) read is = (tt, is)
task_asked Journal left (Play script) read is = is
task_asked Journal left (Refuse fault) read is = (tt, is)
task_asked (Make num) left task read is = absurd read
task_asked (Load num) left task read is = absurd read
task_asked Help left task read is = absurd read
task_asked Version left task read is = absurd read

-- what the bytes that were read ask for, all that the source had left does
pub task_left : (old new : Option (List ℕ)) (bytes : List ℕ) (past : Bool) (task : Task) → old ≡ puts_back bytes new → (IsTrue past ↔ PassesLimits bytes) → (past ≡ false → IfSome new (λ rest. rest ≡ [])) → IsTaskOf bytes task → IsTaskIn old task
task_left old new bytes past (Play script) parts limits whole (range, spells) =
    let all : IfSome old (λ all. all ≡ bytes) = subst (λ left. IfSome left (λ all. all ≡ bytes)) (sym parts) (all_read bytes new (whole_of bytes past new (within_limits bytes script spells) limits whole)) in
    (range, record { bytes = bytes; input = all; spelled = spells })
task_left old new bytes past (Refuse fault) parts limits whole (same, refused) =
    let all : IfSome old (λ all. all ≡ bytes ++ rest_of new) = subst (λ left. IfSome left (λ all. all ≡ bytes ++ rest_of new)) (sym parts) (tells_all bytes new) in
    record {
      rest = rest_of new;
      input = subst (λ read. IfSome old (λ all. all ≡ read ++ rest_of new)) (sym same) all;
      whole = subst (λ read. (rest_of new ≡ []) ⊎ PassesLimits read) (sym same) (whole_or_past bytes past new limits whole);
      refused = ap (λ read. script_read (read ++ rest_of new)) same ∙ refused_left bytes past new fault.line fault.cause refused limits whole;
    }

-- where they are to be played, nothing is left
pub task_end : (new : Option (List ℕ)) (bytes : List ℕ) (past : Bool) (task : Task) → (IsTrue past ↔ PassesLimits bytes) → (past ≡ false → IfSome new (λ rest. rest ≡ [])) → IsTaskOf bytes task → IsToPlay task → IfSome new (λ rest. rest ≡ [])
task_end new bytes past (Play script) limits whole (range, spells) play = whole_of bytes past new (within_limits bytes script spells) limits whole
task_end new bytes past (Refuse fault) limits whole refused play = absurd play

-- ---- what is owed

-- what is owed for the words of a form is owed whatever the sink has
pub owed_given : (form : Form) (given : Given) (left : Option (List ℕ)) (owed : Owed) → given.words ≡ spelled form → given.left ≡ left → IsOwed (given_form form left) owed → IsOwed given owed
owed_given form given left owed spells same (Done (Played p)) = Done (Played (record { asked = p.asked; plays = p.plays; form = spells ∙ p.form; status = p.status; script = p.script; kept = p.kept; input = subst (λ l. IsAsked p.asked l p.script) (sym same) p.input; run = p.run; causal = p.causal; text = p.text; sound = p.sound }))
owed_given form given left owed spells same (Done (Made m)) = Done (Made (record { num = m.num; known = m.known; form = spells ∙ m.form; status = m.status; text = m.text; script = m.script; book = m.book; disks = m.disks; sound = m.sound }))
owed_given form given left owed spells same (Done (Told t)) = Done (Told (record { question = t.question; form = spells ∙ t.form; status = t.status; text = t.text; script = t.script; book = t.book; disks = t.disks; sound = t.sound }))
owed_given form given left owed spells same (Refused r) = Refused (record { form = record { asked = r.form.asked; reads = r.form.reads; form = spells ∙ r.form.form }; status = r.status; fault = r.fault; refused = subst (λ l. IsRefusedFor l r.fault) (sym same) r.refused; text = r.text; script = r.script; book = r.book; disks = r.disks; told = r.told })
owed_given form given left owed spells same (Misused u) = Misused (record { form = λ other known is. u.form other known (sym spells ∙ is); status = u.status; text = u.text; script = u.script; book = u.book; disks = u.disks; sound = u.sound })

-- ---- the ends

-- what was done has status 0
done_status : (given : Given) (owed : Owed) → IsDone given owed → owed.status ≡ 0
done_status given owed (Played p) = p.status
done_status given owed (Made m) = m.status
done_status given owed (Told t) = t.status

-- and no fault
done_sound : (given : Given) (owed : Owed) → IsDone given owed → owed.fault ≡ None
done_sound given owed (Played p) = p.sound
done_sound given owed (Made m) = m.sound
done_sound given owed (Told t) = t.sound

-- a run whose whole text was taken ends with what is owed
pub wrote_ends : (given : Given) (owed : Owed) (ended : Ended) (taken : Option (List ℕ)) → IsOwed given owed → ended.status ≡ owed.status → ended.script ≡ owed.script → ended.book ≡ owed.book → ended.disks ≡ owed.disks → ended.fault ≡ owed.fault → taken ≡ puts_behind owed.text.items given.taken → EndsSo given ended taken
wrote_ends given owed ended taken (Done d) status script book disks fault all = record {
  statuses = inl (status ∙ done_status given owed d);
  done = λ _. record { owed = owed; kind = d; status = status; script = script; book = book; disks = disks; fault = fault; all = all };
  misused = λ other. absurd (omega (arith, other, status, done_status given owed d));
  refused = λ other. absurd (omega (arith, other, status, done_status given owed d));
  read_failed = λ other. absurd (omega (arith, other, status, done_status given owed d));
  write_failed = λ other. absurd (omega (arith, other, status, done_status given owed d));
  no_memory = λ other. absurd (omega (arith, other, status, done_status given owed d));
  sound = λ _. fault ∙ done_sound given owed d;
}
wrote_ends given owed ended taken (Refused r) status script book disks fault all = record {
  statuses = inr (inr (inl (status ∙ r.status)));
  done = λ other. absurd (omega (arith, other, status, r.status));
  misused = λ other. absurd (omega (arith, other, status, r.status));
  refused = λ _. record { owed = owed; kind = r; status = status; script = script; book = book; disks = disks; fault = fault; all = all };
  read_failed = λ other. absurd (omega (arith, other, status, r.status));
  write_failed = λ other. absurd (omega (arith, other, status, r.status));
  no_memory = λ other. absurd (omega (arith, other, status, r.status));
  sound = λ other. absurd (other (status ∙ r.status));
}
wrote_ends given owed ended taken (Misused u) status script book disks fault all = record {
  statuses = inr (inl (status ∙ u.status));
  done = λ other. absurd (omega (arith, other, status, u.status));
  misused = λ _. record { owed = owed; kind = u; status = status; script = script; book = book; disks = disks; fault = fault; all = all };
  refused = λ other. absurd (omega (arith, other, status, u.status));
  read_failed = λ other. absurd (omega (arith, other, status, u.status));
  write_failed = λ other. absurd (omega (arith, other, status, u.status));
  no_memory = λ other. absurd (omega (arith, other, status, u.status));
  sound = λ _. fault ∙ u.sound;
}

-- a run whose write failed ends with a front of what is owed
pub front_ends : (given : Given) (owed : Owed) (ended : Ended) (taken : Option (List ℕ)) → IsOwed given owed → ended.status ≡ 5 → ended.script ≡ owed.script → ended.book ≡ owed.book → ended.disks ≡ owed.disks → ended.fault ≡ None → TookFront owed.text.items given.taken taken → EndsSo given ended taken
front_ends given owed ended taken kind five script book disks sound front = record {
  statuses = inr (inr (inr (inr (inl five))));
  done = λ other. absurd (omega (arith, other, five));
  misused = λ other. absurd (omega (arith, other, five));
  refused = λ other. absurd (omega (arith, other, five));
  read_failed = λ other. absurd (omega (arith, other, five));
  write_failed = λ _. record { owed = owed; took = record { kind = kind; front = front }; script = script; book = book; disks = disks };
  no_memory = λ other. absurd (omega (arith, other, five));
  sound = λ _. sound;
}

-- one that memory failed does too, and hands out no book
pub short_ends : (given : Given) (owed : Owed) (ended : Ended) (taken : Option (List ℕ)) → IsOwed given owed → ended.status ≡ 6 → ended.script ≡ None → ended.book ≡ empty_book → ended.disks.items ≡ [] → ended.fault ≡ None → TookFront owed.text.items given.taken taken → EndsSo given ended taken
short_ends given owed ended taken kind six script book disks sound front = record {
  statuses = inr (inr (inr (inr (inr six))));
  done = λ other. absurd (omega (arith, other, six));
  misused = λ other. absurd (omega (arith, other, six));
  refused = λ other. absurd (omega (arith, other, six));
  read_failed = λ other. absurd (omega (arith, other, six));
  write_failed = λ other. absurd (omega (arith, other, six));
  no_memory = λ _. record { short = inr (owed, record { kind = kind; front = front }); script = script; book = book; disks = disks };
  sound = λ _. sound;
}

-- what is owed is neither a failed read nor a failed write
pub owed_status : (given : Given) (owed : Owed) → IsOwed given owed → (owed.status ≢ 4) × (owed.status ≢ 5)
owed_status given owed (Done d) = (λ four. omega (arith, four, done_status given owed d), λ five. omega (arith, five, done_status given owed d))
owed_status given owed (Refused r) = (λ four. omega (arith, four, r.status), λ five. omega (arith, five, r.status))
owed_status given owed (Misused u) = (λ four. omega (arith, four, u.status), λ five. omega (arith, five, u.status))

-- what a source tells is not both a script and refused
not_both : (left : Option (List ℕ)) (fault : Fault) → IsSomeAnd left IsSomeScript → IsRefusedFor left fault → ⊥
not_both None fault some refused = some
not_both (Some bytes) fault (script, spelled) refused = absurd (let both : Ok script ≡ Err (RefusedAt fault.line fault.cause) = sym spelled ∙ (ap script_read refused.input ∙ refused.refused) in cc)

-- what a form wants of the source is there, so nothing is refused
never_refused : (given : Given) (fault : Fault) (asked : Form) → IsForm asked → given.words ≡ spelled asked → IsServed asked given.left → Reads given.words → IsRefusedFor given.left fault → ⊥
never_refused given fault asked known form served reads refused = not_both given.left fault (served (read_of given.words asked known form reads)) refused

-- what can be answered is, where no read and no write failed and memory sufficed
pub ends_complete : (given : Given) (ended : Ended) (taken : Option (List ℕ)) → IsAnswerable given → ended.status ≢ 4 → ended.status ≢ 5 → EndsSo given ended taken → (ended.status ≡ 0) ⊎ (ended.status ≡ 6)
ends_complete given ended taken asks no_read no_write ends = by_status ends.statuses
  where
    by_status : IsStatus ended.status → (ended.status ≡ 0) ⊎ (ended.status ≡ 6)
    by_status (inl zero) = inl zero
    by_status (inr (inl two)) = absurd ((ends.misused two).kind.form asks.asked asks.known asks.form)
    by_status (inr (inr (inl three))) = (let kind = (ends.refused three).kind in absurd (never_refused given kind.fault asks.asked asks.known asks.form asks.served kind.form kind.refused))
    by_status (inr (inr (inr (inl four)))) = absurd (no_read four)
    by_status (inr (inr (inr (inr (inl five))))) = absurd (no_write five)
    by_status (inr (inr (inr (inr (inr six))))) = inr six

-- what is handed out of a run by a form that plays: the script that it plays, and a book that it leaves of it, which is causal
record WasPlayed (given : Given) (ended : Ended) (form : Form) : Type 0 where
  script : Script
  kept : ended.script ≡ Some script
  input : IsAsked form given.left script
  run : IsBookOf form script ended.book
  causal : IsFitAndCausal script ended.book

-- the numbers of a script that a form plays are in range
asked_range : (form : Form) (left : Option (List ℕ)) (script : Script) → IsAsked form left script → IsInRange script
asked_range (Run trail) left script is = script_in_range is.bytes script (sym is.spelled)
asked_range (Serial trail) left script is = script_in_range is.bytes script (sym is.spelled)
asked_range Journal left script is = script_in_range is.bytes script (sym is.spelled)
asked_range (Load num) left script is = script_in_range (made_script num) script (sym is)
asked_range (Make num) left script is = absurd is
asked_range Help left script is = absurd is
asked_range Version left script is = absurd is

-- the looks of the book that it leaves show what they are to show
looks_by : (form : Form) (script : Script) (book : Book) → IsInRange script → IsBookOf form script book → ShowsBy form script book
looks_by (Run trail) script book range run = section_looks script book range run.steps
looks_by (Serial trail) script book range run = turn_looks script book range run.steps
looks_by Journal script book range run = turn_looks script book range run.steps
looks_by (Load num) script book range run = section_looks script book range run.steps
looks_by (Make num) script book range run = absurd run
looks_by Help script book range run = absurd run
looks_by Version script book range run = absurd run

module _ (given : Given) (ended : Ended) (taken : Option (List ℕ)) (ends : EndsSo given ended taken) (zero : ended.status ≡ 0) (play : Plays given.words) where
  -- where a script was to be played and the run ended well, it was played
  was_played : WasPlayed given ended play.asked
  was_played = record {
    script = p.script;
    kept = wrote.script ∙ p.kept;
    input = subst (λ form. IsAsked form given.left p.script) same p.input;
    run = subst (IsBookOf play.asked p.script) (sym wrote.book) (subst (λ form. IsBookOf form p.script wrote.owed.book) same p.run);
    causal = subst (IsFitAndCausal p.script) (sym wrote.book) p.causal;
  }
    where
      wrote : Wrote IsDone given ended taken
      wrote = ends.done zero

      p : IsPlayed given wrote.owed
      p = played_of given wrote.owed play wrote.kind

      same : p.asked ≡ play.asked
      same = one_play p.asked play.asked p.plays play.plays (sym p.form ∙ play.form)

  -- its book is causal
  pub ends_causal : IsSomeAnd ended.script (λ script. IsFitAndCausal script ended.book)
  ends_causal = subst (λ kept. IsSomeAnd kept (λ script. IsFitAndCausal script ended.book)) (sym was_played.kept) was_played.causal

  -- it is one that the form leaves of the script
  pub ends_run : IsSomeAnd ended.script (λ script. IsBookOf play.asked script ended.book)
  ends_run = subst (λ kept. IsSomeAnd kept (λ script. IsBookOf play.asked script ended.book)) (sym was_played.kept) was_played.run

  -- its looks show shows of the taps
  pub ends_taps : IsSomeAnd ended.script (λ script. ShowsBy play.asked script ended.book)
  ends_taps = subst (λ kept. IsSomeAnd kept (λ script. ShowsBy play.asked script ended.book)) (sym was_played.kept) (looks_by play.asked was_played.script ended.book (asked_range play.asked given.left was_played.script was_played.input) was_played.run)

  -- which is the one that is asked for
  pub ends_input : IsSomeAnd ended.script (IsAsked play.asked given.left)
  ends_input = subst (λ kept. IsSomeAnd kept (IsAsked play.asked given.left)) (sym was_played.kept) was_played.input
