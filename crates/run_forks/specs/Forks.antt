-- Where the deeds of one step may part: at the answer to an ask alone.
use Rattle.std.specs.Prelude.{◌≡◌, ◌≢◌, ◌⊎◌, ℕ, List, ◌∷◌, ◌++◌, Some}
use Rattle.dc_talk.specs.declared.ask.Ask.{Ask}
use Rattle.dc_talk.specs.declared.say.Say.{Say}
use Rattle.dc_talk.specs.declared.log.Fate.{Fate}
use Rattle.dc_talk.specs.declared.log.Fate.TheVariants.{AskLost, ReplyLost, Heard, Unheard}
use Rattle.dc_talk.specs.declared.log.Deed.{Deed}
use Rattle.dc_talk.specs.declared.log.Deed.TheVariants.{Asked}
use Rattle.dc_talk.specs.Logs.{answered}

-- the same end of an ask with this answer in place of its own; an ask that was lost has none
abbrev pub with_answer : Say → Fate → Fate
with_answer say AskLost = AskLost
with_answer say (ReplyLost other) = ReplyLost say
with_answer say (Heard other) = Heard say
with_answer say (Unheard other) = Unheard say

-- two ends of an ask, both with an answer, that differ in the answer alone
pub record AreRivals (one two : Fate) : Type 0 where
  pub say : Say
  pub again : Say
  pub says : answered one ≡ Some say
  pub tells : answered two ≡ Some again
  pub kind : two ≡ with_answer again one
  pub differ : say ≢ again

-- the same deeds up to an ask of both, which goes to the same centre and was answered otherwise
pub record IsFork (ds es : List Deed) : Type 0 where
  pub before : List Deed
  pub centre : ℕ
  pub ask : Ask
  pub one : Fate
  pub two : Fate
  pub rest : List Deed
  pub more : List Deed
  pub first : ds ≡ before ++ Asked centre ask one ∷ rest
  pub later : es ≡ before ++ Asked centre ask two ∷ more
  pub apart : AreRivals one two

-- the same deeds, or such as part at an answer; so neither are some of the others and no more
abbrev pub AreOneOrFork : List Deed → List Deed → Type 0
AreOneOrFork ds es = (ds ≡ es) ⊎ IsFork ds es
