-- Which files are the journal of a trail, and which gate of another file is the first bad one.
use Rattle.std.specs.Prelude.{◌≡◌, ◌≢◌, ◌⊎◌, ℕ, true, List, [], ◌∷◌, ◌++◌, map, length}
use Rattle.journal_disk.specs.declared.disk.Moment.{Moment}
use Rattle.journal_disk.specs.Disk.{MayLeave}
use Rattle.journal_file.specs.Journal.{Entries, FileOf}
use Rattle.dc_talk.specs.declared.ask.Ask.{Ask}
use Rattle.dc_talk.specs.declared.settings.Settings.{Settings}
use Rattle.dc_talk.specs.Answers.{History, answer}
use Rattle.dc_talk.specs.Entries.{Entry}
use Rattle.trail_kept.specs.Kept.{is_kept, kept}
use Rattle.journal_asks.specs.declared.kept_ask.KeptAsk.{KeptAsk}
use Rattle.journal_asks.specs.Spellings.{by_of}
use Rattle.journal_asks.specs.Asks.{spelled}
use Rattle.dc_journal.specs.Asks.{asked, due, AreAsksOf}
use Rattle.dc_journal.specs.Answered.{answered}

-- the settings of a centre
abbrev pub numbers : ℕ → ℕ → ℕ → ℕ → Settings
numbers me n k limit = record { me = me; n = n; k = k; limit = limit }

-- the file has the asks of the trail whose replies are kept, each behind an open gate, and then a closed gate
abbrev pub IsFileOf : Settings → List Entry → List ℕ → Type 0
IsFileOf s trail file = (items : List KeptAsk) × ((AreAsksOf s.me items trail) × (FileOf spelled items file))

-- it is that of the trail, or that of the trail with all these asks more and their answers
abbrev pub IsFileAround : Settings → List Entry → List Ask → List ℕ → Type 0
IsFileAround s trail asks file = (IsFileOf s trail file) ⊎ (IsFileOf s (trail ++ answered s trail asks) file)

-- a crash might have left the file before, or it is that of the trail
abbrev pub IsFound : Settings → List Entry → List Moment → List ℕ → Type 0
IsFound s trail h file = (MayLeave h file) ⊎ (IsFileOf s trail file)

-- the ask names this centre, and its reply behind the trail is kept
abbrev pub IsTaken : Settings → List Entry → KeptAsk → Type 0
IsTaken s trail x = (x.by ≡ by_of s.me x.ask) × (is_kept (answer s trail x.ask) ≡ true)

-- these bytes begin with an ask that is taken behind the trail, and a gate stands behind it
abbrev pub HasTaken : Settings → List Entry → List ℕ → Type 0
HasTaken s trail bytes = (x : KeptAsk) × ((more : List ℕ) × ((bytes ≡ spelled x ++ more) × (more ≢ []) × (IsTaken s trail x)))

-- The first bad gate stands at this place: before it are asks, each with a reply that is kept, and it is missing, or open
-- and no such ask with a gate behind it follows.
pub record IsBadGate (s : Settings) (place : ℕ) (file : List ℕ) : Type 0 where
  pub trail : List Entry
  pub history : History s trail
  pub all : kept trail ≡ trail
  pub items : List KeptAsk
  pub asks : map asked items ≡ map (due s.me) trail
  pub front : List ℕ
  pub rest : List ℕ
  pub entries : Entries spelled items front
  pub file_is : file ≡ front ++ rest
  pub at : place ≡ length front
  pub bad : (file ≡ []) ⊎ ((gate : ℕ) × ((behind : List ℕ) × ((rest ≡ gate ∷ behind) × (gate ≢ 0) × (HasTaken s trail behind → ⊥))))
