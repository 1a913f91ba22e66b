-- What a run is given, what it owes, and how it ends.
use Rattle.std.specs.Prelude.{◌≡◌, ◌≢◌, ◌⊎◌, ⊤, ℕ, Bool, true, false, List, [], ◌++◌, Option, Some, None, Ok, Err, IfSome, IsSomeAnd, String, map, codes, decimal}
use Rattle.std.specs.Global.{Global}
use Rattle.std.specs.String.{string_bytes}
use Rattle.command_line.specs.declared.form.Form.{Form}
use Rattle.command_line.specs.declared.form.Form.TheVariants.{Run, Serial, Journal, Make, Load, Help, Version}
use Rattle.command_line.specs.Forms.{IsForm, spelled}
use Rattle.command_line.specs.Texts.{help_text, usage_text, version_text}
use Rattle.io_edge.specs.Streams.{TookFront, puts_behind}
use Rattle.script_reader.specs.declared.fault.Cause.{Cause}
use Rattle.script_reader.specs.declared.fault.ScriptFault.TheVariants.{Refused as RefusedAt}
use Rattle.script_core.specs.declared.script.Script.{Script}
use Rattle.script_core.specs.Limits.{PassesLimits}
use Rattle.script_core.specs.Scripts.{IsInRange}
use Rattle.script_reader.specs.Causes.{cause_text}
use Rattle.script_reader.specs.Scripts.{script_read}
use Rattle.run_book.specs.declared.book.Book.{Book}
use Rattle.run_book.specs.Setups.{Setup, setup_of}
use Rattle.run_book.specs.Fit.{FitsWith}
use Rattle.run_book.specs.Causal.{IsCausal}
use Rattle.journal_disk.specs.declared.steady.SteadyDisk.{SteadyDisk}
use Rattle.journal_disk.specs.Steady.{steady_bytes}
use Rattle.print_text.specs.Text.{text_of}
use Rattle.trail_text.specs.Trails.{trail_text}
use Rattle.trail_journal.specs.Journals.{AreJournalsOf}
use Rattle.load_text.specs.LastReads.{load_text}
use Rattle.load_maker.specs.Made.{made_script}
use Rattle.run_sections.specs.Runs.{IsSectionRunOf}
use Rattle.run_sections.specs.OneThread.{IsRunOf}
use Rattle.run_laws.specs.Looks.{ShowsTaps, ShowsLast}
use Rattle.top_call.specs.declared.engine.Fault.{Fault}
use Rattle.top_call.specs.declared.engine.Owed.{Owed}
use Rattle.top_call.specs.declared.input.Task.{Task}
use Rattle.top_call.specs.declared.input.Task.TheVariants.{Play, Refuse}
use Rattle.top_call.specs.declared.ending.Ended.{Ended}

-- what a run is given: its words, what its source has left, and what its sink has taken
pub record Given : Type 0 where
  pub words : List (List ℕ)
  pub left : Option (List ℕ)
  pub taken : Option (List ℕ)

-- the bytes of words
abbrev pub texts : List (String Global) → List (List ℕ)
texts words = map string_bytes words

-- what is given by these words, with a source that has this left and a sink that has taken this
abbrev pub given_by : List (String Global) → Option (List ℕ) → Option (List ℕ) → Given
given_by words left taken = record { words = texts words; left = left; taken = taken }

-- a form that reads a script from the source and plays it: `run` or `serial`, with the trails or without, or `journal`
abbrev pub IsRead : Form → Type 0
IsRead (Run trail) = ⊤
IsRead (Serial trail) = ⊤
IsRead Journal = ⊤
IsRead _ = ⊥

-- a form that plays a script: one that it reads, or `load`, which plays the script that is made of its number
abbrev pub IsPlay : Form → Type 0
IsPlay (Load num) = IsForm (Load num)
IsPlay form = IsRead form

-- a form that plays a script with threads in its phases: `run`, or `load` of a number that the program knows
abbrev pub IsThreaded : Form → Type 0
IsThreaded (Run trail) = ⊤
IsThreaded (Load num) = IsForm (Load num)
IsThreaded _ = ⊥

-- the words ask for a script to be read and played
pub record Reads (words : List (List ℕ)) : Type 0 where
  pub asked : Form
  pub reads : IsRead asked
  pub form : words ≡ spelled asked

-- the words ask for a script to be played
pub record Plays (words : List (List ℕ)) : Type 0 where
  pub asked : Form
  pub plays : IsPlay asked
  pub form : words ≡ spelled asked

-- the words ask for a script to be played with threads
pub record AsksThreads (words : List (List ℕ)) : Type 0 where
  pub asked : Form
  pub threaded : IsThreaded asked
  pub form : words ≡ spelled asked

-- the form with threads that words ask for, and none where they ask for none
abbrev pub IsThreadedForm : List (List ℕ) → Option Form → Type 0
IsThreadedForm words (Some form) = IsThreaded form × (words ≡ spelled form)
IsThreadedForm words None = AsksThreads words → ⊥

-- ---- the script that is played

-- the bytes that a source had left, all of them as far as it tells that, are this script
pub record IsScriptIn (left : Option (List ℕ)) (script : Script) : Type 0 where
  pub bytes : List ℕ
  pub input : IfSome left (λ all. all ≡ bytes)
  pub spelled : script_read bytes ≡ Ok script

-- the script that a form plays: the one that the source had left, or the one that is made of the number
abbrev pub IsAsked : Form → Option (List ℕ) → Script → Type 0
IsAsked (Run trail) left script = IsScriptIn left script
IsAsked (Serial trail) left script = IsScriptIn left script
IsAsked Journal left script = IsScriptIn left script
IsAsked (Load num) left script = script_read (made_script num) ≡ Ok script
IsAsked _ left script = ⊥

-- ---- the book of the run, and the texts

-- a book that a form leaves of a script: one of a run section by section, with threads in the phases, or of a run on one
-- thread
abbrev pub IsBookOf : Form → Script → Book → Type 0
IsBookOf (Run trail) script book = IsSectionRunOf script book
IsBookOf (Serial trail) script book = IsRunOf script book
IsBookOf Journal script book = IsRunOf script book
IsBookOf (Load num) script book = IsSectionRunOf script book
IsBookOf _ script book = ⊥

-- what the looks of a book that a form leaves of a script show: in a run section by section shows of their centres in order, and
-- on one thread the last one in front of each
abbrev pub ShowsBy : Form → Script → Book → Type 0
ShowsBy (Run trail) script book = ShowsTaps script book
ShowsBy (Serial trail) script book = ShowsLast script book
ShowsBy Journal script book = ShowsLast script book
ShowsBy (Load num) script book = ShowsTaps script book
ShowsBy _ script book = ⊥

-- what words are answered with that ask for neither a script nor an input: help and the version
abbrev pub told_text : Form → Option (List ℕ)
told_text Help = Some help_text
told_text Version = Some version_text
told_text _ = None

-- the text of a run: that of its book, and behind it, where it was asked for, the text of its trails and bases
abbrev pub run_text : Bool → Book → Setup → List ℕ
run_text false book setup = text_of book.logs
run_text true book setup = text_of book.logs ++ trail_text book setup

-- the text of a form that makes no journals, of a book that it leaves of a script: that of the run, or, for `load`, the
-- values that were read behind the last phase alone
abbrev pub form_text : Form → Script → Book → List ℕ
form_text (Run trail) script book = run_text trail book (setup_of script)
form_text (Serial trail) script book = run_text trail book (setup_of script)
form_text (Load num) script book = load_text script book.logs
form_text _ script book = []

-- the text that a form writes of a book that it leaves of a script, and the disks that it hands out with it: for `journal`
-- those with the journals of the book's trails, one for each centre, and for other forms none
abbrev pub HasText : Form → Script → Book → List ℕ → List SteadyDisk → Type 0
HasText Journal script book text disks = AreJournalsOf book script.limit text (map steady_bytes disks)
HasText form script book text disks = (text ≡ form_text form script book) × (disks ≡ [])

-- the line for an input that is no script: the number of the first line at fault, and the cause
abbrev pub refusal_text : ℕ → Cause → List ℕ
refusal_text line cause = codes "refused line " ++ decimal line ++ codes " " ++ cause_text cause ++ codes "\n"

-- the book of no run
abbrev pub empty_book : Book
empty_book = record { n = 1; k = 1; trails = []; logs = [] }

-- the bytes are a script
abbrev pub IsSomeScript : List ℕ → Type 0
IsSomeScript bytes = (script : Script) × (script_read bytes ≡ Ok script)

-- the book fits the setup that the script asks for, and is causal
pub record IsFitAndCausal (script : Script) (book : Book) : Type 0 where
  pub fits : FitsWith book (setup_of script)
  pub causal : IsCausal book (setup_of script)

-- what a source had left, as far as it tells that, is no script: the fault has the first line at fault and why it is
-- refused, and the bytes that were read, which are all that was left or a front that passes the limits of a script
pub record IsRefusedFor (left : Option (List ℕ)) (fault : Fault) : Type 0 where
  pub rest : List ℕ
  pub input : IfSome left (λ all. all ≡ fault.input.items ++ rest)
  pub whole : (rest ≡ []) ⊎ PassesLimits fault.input.items
  pub refused : script_read (fault.input.items ++ rest) ≡ Err (RefusedAt fault.line fault.cause)

-- ---- what is owed: a status, a text, a book and disks

-- what is owed for a script: status 0, the script that is asked for, a book that the form leaves of it, which fits and is
-- causal, and the text that the form writes of this book, with its disks
pub record IsPlayed (given : Given) (owed : Owed) : Type 0 where
  pub asked : Form
  pub plays : IsPlay asked
  pub form : given.words ≡ spelled asked
  pub status : owed.status ≡ 0
  pub script : Script
  pub kept : owed.script ≡ Some script
  pub input : IsAsked asked given.left script
  pub run : IsBookOf asked script owed.book
  pub causal : IsFitAndCausal script owed.book
  pub text : HasText asked script owed.book owed.text.items owed.disks.items
  pub sound : owed.fault ≡ None

-- what is owed for a number: status 0, and the script that is made of it
pub record IsMade (given : Given) (owed : Owed) : Type 0 where
  pub num : ℕ
  pub known : IsForm (Make num)
  pub form : given.words ≡ spelled (Make num)
  pub status : owed.status ≡ 0
  pub text : owed.text.items ≡ made_script num
  pub script : owed.script ≡ None
  pub book : owed.book ≡ empty_book
  pub disks : owed.disks.items ≡ []
  pub sound : owed.fault ≡ None

-- what is owed for a question: status 0, and the text that answers it
pub record IsTold (given : Given) (owed : Owed) : Type 0 where
  pub question : Form
  pub form : given.words ≡ spelled question
  pub status : owed.status ≡ 0
  pub text : told_text question ≡ Some owed.text.items
  pub script : owed.script ≡ None
  pub book : owed.book ≡ empty_book
  pub disks : owed.disks.items ≡ []
  pub sound : owed.fault ≡ None

-- what is owed where the words have a form and the input, if it is read, is a script
pub data IsDone (given : Given) (owed : Owed) : Type 0 where
  Played : IsPlayed given owed → IsDone given owed
  Made : IsMade given owed → IsDone given owed
  Told : IsTold given owed → IsDone given owed

-- what is owed for an input that is no script: status 3, the line that names the line at fault and the cause, and the
-- fault, which has these and the bytes that were read
pub record IsRefusal (given : Given) (owed : Owed) : Type 0 where
  pub form : Reads given.words
  pub status : owed.status ≡ 3
  pub fault : Fault
  pub refused : IsRefusedFor given.left fault
  pub text : owed.text.items ≡ refusal_text fault.line fault.cause
  pub script : owed.script ≡ None
  pub book : owed.book ≡ empty_book
  pub disks : owed.disks.items ≡ []
  pub told : owed.fault ≡ Some fault

-- what is owed for words of no form: status 2, and the line of usage
pub record IsUsage (given : Given) (owed : Owed) : Type 0 where
  pub form : (form : Form) → IsForm form → given.words ≢ spelled form
  pub status : owed.status ≡ 2
  pub text : owed.text.items ≡ usage_text
  pub script : owed.script ≡ None
  pub book : owed.book ≡ empty_book
  pub disks : owed.disks.items ≡ []
  pub sound : owed.fault ≡ None

-- what is owed for what is given, by cases
pub data IsOwed (given : Given) (owed : Owed) : Type 0 where
  Done : IsDone given owed → IsOwed given owed
  Refused : IsRefusal given owed → IsOwed given owed
  Misused : IsUsage given owed → IsOwed given owed

-- ---- how a run ends

-- the statuses of an end
abbrev pub IsStatus : ℕ → Type 0
IsStatus status = (status ≡ 0) ⊎ ((status ≡ 2) ⊎ ((status ≡ 3) ⊎ ((status ≡ 4) ⊎ ((status ≡ 5) ⊎ (status ≡ 6)))))

-- something of this kind is owed, the run ended with its status, its script, its book, its disks and its fault, and the
-- sink took the whole text
pub record Wrote (IsKind : Given → Owed → Type 0) (given : Given) (ended : Ended) (taken : Option (List ℕ)) : Type 0 where
  pub owed : Owed
  pub kind : IsKind given owed
  pub status : ended.status ≡ owed.status
  pub script : ended.script ≡ owed.script
  pub book : ended.book ≡ owed.book
  pub disks : ended.disks ≡ owed.disks
  pub fault : ended.fault ≡ owed.fault
  pub all : taken ≡ puts_behind owed.text.items given.taken

-- this is owed, and the sink took a front of its text
pub record TookFrontOf (given : Given) (owed : Owed) (taken : Option (List ℕ)) : Type 0 where
  pub kind : IsOwed given owed
  pub front : TookFront owed.text.items given.taken taken

-- the sink took a front of what is owed, and its script, its book and its disks are handed out
pub record WroteFront (given : Given) (ended : Ended) (taken : Option (List ℕ)) : Type 0 where
  pub owed : Owed
  pub took : TookFrontOf given owed taken
  pub script : ended.script ≡ owed.script
  pub book : ended.book ≡ owed.book
  pub disks : ended.disks ≡ owed.disks

-- a script was to be read, the sink took nothing, and there is no run
pub record WroteNothing (given : Given) (ended : Ended) (taken : Option (List ℕ)) : Type 0 where
  pub form : Reads given.words
  pub nothing : taken ≡ given.taken
  pub script : ended.script ≡ None
  pub book : ended.book ≡ empty_book
  pub disks : ended.disks.items ≡ []

-- the sink took nothing or a front of what is owed, and no run is handed out
pub record WroteShort (given : Given) (ended : Ended) (taken : Option (List ℕ)) : Type 0 where
  pub short : (taken ≡ given.taken) ⊎ ((owed : Owed) × TookFrontOf given owed taken)
  pub script : ended.script ≡ None
  pub book : ended.book ≡ empty_book
  pub disks : ended.disks.items ≡ []

-- what a form wants of the source: that it tells that it has a script left, where one is read
abbrev pub IsServed : Form → Option (List ℕ) → Type 0
IsServed form left = IsRead form → IsSomeAnd left IsSomeScript

-- the words have a form, and the source has what this form wants
pub record IsAnswerable (given : Given) : Type 0 where
  pub asked : Form
  pub known : IsForm asked
  pub form : given.words ≡ spelled asked
  pub served : IsServed asked given.left

-- ---- on the way to the top call

-- an input asks for a script to be played
abbrev pub IsToPlay : Task → Type 0
IsToPlay (Play script) = ⊤
IsToPlay (Refuse fault) = ⊥

-- what bytes ask for that are to be a script: a script, whose numbers are in range, is played, and other bytes are refused
-- and handed back
abbrev pub IsTaskOf : List ℕ → Task → Type 0
IsTaskOf bytes (Play script) = IsInRange script × (script_read bytes ≡ Ok script)
IsTaskOf bytes (Refuse fault) = (fault.input.items ≡ bytes) × (script_read bytes ≡ Err (RefusedAt fault.line fault.cause))

-- what an input asks for that is to be a script, likewise
abbrev pub IsTaskIn : Option (List ℕ) → Task → Type 0
IsTaskIn left (Play script) = IsInRange script × IsScriptIn left script
IsTaskIn left (Refuse fault) = IsRefusedFor left fault

-- what a form asks for: the script that it plays, or that what it reads is refused
abbrev pub IsTask : Form → Option (List ℕ) → Task → Type 0
IsTask form left (Play script) = IsInRange script × IsAsked form left script
IsTask form left (Refuse fault) = IsRead form × IsRefusedFor left fault

-- what is given by the words of a form, by a source that has this left, and by a sink that tells nothing
abbrev pub given_form : Form → Option (List ℕ) → Given
given_form form left = record { words = spelled form; left = left; taken = None }

-- what a run left, by its status
pub record EndsSo (given : Given) (ended : Ended) (taken : Option (List ℕ)) : Type 0 where
  pub statuses : IsStatus ended.status
  pub done : ended.status ≡ 0 → Wrote IsDone given ended taken
  pub misused : ended.status ≡ 2 → Wrote IsUsage given ended taken
  pub refused : ended.status ≡ 3 → Wrote IsRefusal given ended taken
  pub read_failed : ended.status ≡ 4 → WroteNothing given ended taken
  pub write_failed : ended.status ≡ 5 → WroteFront given ended taken
  pub no_memory : ended.status ≡ 6 → WroteShort given ended taken
  pub sound : ended.status ≢ 3 → ended.fault ≡ None
