-- A centre that takes asks which its journal does not have yet.
use Rattle.std.specs.Prelude.{◌≡◌, ℕ, List, [], ◌∷◌, ◌++◌, map, take}
use Rattle.machine_trail.specs.History.{entry}
use Rattle.dc_talk.specs.declared.ask.Ask.{Ask}
use Rattle.dc_talk.specs.declared.say.Say.{Say}
use Rattle.dc_talk.specs.declared.settings.Settings.{Settings}
use Rattle.dc_talk.specs.Answers.{History, answer}
use Rattle.dc_talk.specs.Entries.{Entry}
use Rattle.dc_centre.specs.Centre.{CentreView, StandsFor}
use Rattle.journal_asks.specs.declared.kept_ask.KeptAsk.{KeptAsk}
use Rattle.dc_journal.specs.Asks.{AreAsksOf}
use Rattle.dc_journal.specs.Answered.{said_in, answered, AreSame}

module _ {T : Type 0} (of_ask : KeptAsk → T) where
  -- the centre has answered an ask: there is one reply more, and what stands for the ask where that is kept
  pub record TakesOne (s : Settings) (old new : CentreView) (ask : Ask) (says : List Say) (items : List T) (says_after : List Say) (items_after : List T) : Type 0 where
    pub say : Say
    pub answer : (trail : List Entry) → StandsFor old trail → say ≡ answer s trail ask
    pub stands : (trail : List Entry) (caller : ℕ) → StandsFor old trail → StandsFor new (trail ++ entry caller ask say ∷ [])
    pub more : List KeptAsk
    pub asks : (trail : List Entry) → StandsFor old trail → AreAsksOf s.me more (entry 0 ask say ∷ [])
    pub says_are : says_after ≡ says ++ say ∷ []
    pub items_are : items_after ≡ items ++ map of_ask more

  -- the centre has answered these asks with these replies, and what stands for those that are kept are these
  pub record TakesAsks (s : Settings) (old new : CentreView) (asks : List Ask) (says : List Say) (items : List T) : Type 0 where
    pub says_are : (trail : List Entry) → StandsFor old trail → says ≡ map said_in (answered s trail asks)
    pub taken : List KeptAsk
    pub items_are : items ≡ map of_ask taken
    pub asks_are : (trail : List Entry) → StandsFor old trail → AreAsksOf s.me taken (answered s trail asks)
    pub stands : (trail more : List Entry) → StandsFor old trail → AreSame more (answered s trail asks) → StandsFor new (trail ++ more)
    pub history : (trail more : List Entry) → StandsFor old trail → AreSame more (answered s trail asks) → History s trail → History s (trail ++ more)

  -- it has answered the first so many of these asks
  pub record TakesSome (s : Settings) (old new : CentreView) (asks : List Ask) (says : List Say) (items : List T) : Type 0 where
    pub count : ℕ
    pub takes : TakesAsks s old new (take count asks) says items
