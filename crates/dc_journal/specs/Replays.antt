-- A centre that is asked again what a journal has.
use Rattle.std.specs.Prelude.{◌≡◌, ◌<◌, ℕ, true, List, [], ◌∷◌, ◌++◌, map, length, drop}
use Rattle.journal_file.specs.Journal.{EndsAt, FileOf}
use Rattle.dc_talk.specs.declared.say.Say.{Say}
use Rattle.dc_talk.specs.declared.settings.Settings.{Settings}
use Rattle.dc_talk.specs.Answers.{History, answer}
use Rattle.dc_talk.specs.Entries.{Entry}
use Rattle.machine_trail.specs.History.{entry}
use Rattle.dc_centre.specs.Centre.{CentreView, StandsFor}
use Rattle.trail_kept.specs.Kept.{is_kept, kept}
use Rattle.journal_asks.specs.declared.kept_ask.KeptAsk.{KeptAsk}
use Rattle.journal_asks.specs.Spellings.{by_of}
use Rattle.journal_asks.specs.Asks.{spelled}
use Rattle.dc_journal.specs.Asks.{asked, due}

-- the centre was asked these in order, and each reply is kept: it stands for each history of just these asks, and
-- there is one
pub record Replayed (s : Settings) (c : CentreView) (items : List KeptAsk) : Type 0 where
  pub trail : List Entry
  pub history : History s trail
  pub all : kept trail ≡ trail
  pub asks : map asked items ≡ map (due s.me) trail
  pub stands : (b : List Entry) → History s b → map asked items ≡ map (due s.me) b → StandsFor c b

-- the centre has taken an ask that names it, with a reply that is kept
pub record Takes (s : Settings) (old new : CentreView) (x : KeptAsk) : Type 0 where
  pub by : x.by ≡ by_of s.me x.ask
  pub say : Say
  pub kept : is_kept say ≡ true
  pub answer : (trail : List Entry) → StandsFor old trail → say ≡ answer s trail x.ask
  pub stands : (trail : List Entry) (caller : ℕ) → StandsFor old trail → StandsFor new (trail ++ entry caller x.ask say ∷ [])

-- it has taken the ask with which these bytes begin, and the only one that they begin with; that many bytes are its own, and
-- more follow
pub record TakesFirst (s : Settings) (old new : CentreView) (bytes : List ℕ) (count : ℕ) : Type 0 where
  pub item : KeptAsk
  pub takes : Takes s old new item
  pub begins : bytes ≡ spelled item ++ drop count bytes
  pub size : count ≡ length (spelled item)
  pub more : count < length bytes
  pub only : (y : KeptAsk) (rest : List ℕ) → bytes ≡ spelled y ++ rest → y ≡ item

-- it has taken all asks of a file up to the closed gate at this place, and these are the only ones that the file is of
pub record TakesAll (s : Settings) (c : CentreView) (bytes : List ℕ) (end : ℕ) : Type 0 where
  pub items : List KeptAsk
  pub replayed : Replayed s c items
  pub ends : EndsAt spelled items end bytes
  pub only : (xs : List KeptAsk) → FileOf spelled xs bytes → items ≡ xs
