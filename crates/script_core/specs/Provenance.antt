-- Where a worker has from what it delivers and teaches.
use Rattle.std.specs.Prelude.{◌≡◌, ℕ, List, [], ◌∷◌, ◌++◌, Some}
use Rattle.list_core.specs.Members.{In}
use Rattle.dc_talk.specs.declared.sent.Sent.{Sent}
use Rattle.dc_talk.specs.declared.ask.Ask.{Ask}
use Rattle.dc_talk.specs.declared.ask.Ask.TheVariants.{Send, Deliver, Relay, Report, Learn, Prune, Fetch, Stop, Start}
use Rattle.dc_talk.specs.declared.say.Say.{Say}
use Rattle.dc_talk.specs.declared.say.Say.TheVariants.{Records, Vector}
use Rattle.dc_talk.specs.declared.log.Deed.{Deed}
use Rattle.dc_talk.specs.declared.log.Deed.TheVariants.{Asked, Told, Spoilt}
use Rattle.dc_talk.specs.Sents.{with_hops}
use Rattle.dc_talk.specs.Logs.{exchanged_in}

-- by one of the deeds centre i answered the ask so
pub record HasAnswer (deeds : List Deed) (i : ℕ) (ask : Ask) (say : Say) : Type 0 where
  pub deed : Deed
  pub there : In deed deeds
  pub exchanged : exchanged_in i deed ≡ Some (ask, say)

-- by one of the deeds a centre answered with records, of which this is one, with its hops
pub record WasSent (deeds : List Deed) (item : Sent) : Type 0 where
  pub centre : ℕ
  pub ask : Ask
  pub list : List Sent
  pub answer : HasAnswer deeds centre ask (Records list)
  pub among : In item list

-- what a deed carries, one of the deeds before it brought: a record that is delivered was sent, and a vector that
-- is taught was reported by the centre that it is said to be of; there are no calls, and of a client's asks fetches alone
abbrev pub Carries : List Deed → Deed → Type 0
Carries before (Asked i (Deliver item hops) fate) = WasSent before (with_hops item hops)
Carries before (Asked i (Learn from vector) fate) = HasAnswer before from Report (Vector vector)
Carries before (Asked i (Send after most) fate) = Unit {0}
Carries before (Asked i (Relay origin after most) fate) = Unit {0}
Carries before (Asked i Report fate) = Unit {0}
Carries before (Asked i Prune fate) = Unit {0}
Carries before (Asked i (Fetch object vector) fate) = Unit {0}
Carries before (Asked i Stop fate) = Unit {0}
Carries before (Asked i Start fate) = Unit {0}
Carries before (Told line) = Unit {0}
Carries before (Spoilt from item why) = Unit {0}
Carries before _ = ⊥

-- the same of each of the deeds, after those before it
abbrev pub CarriesAll : List Deed → List Deed → Type 0
CarriesAll before [] = Unit {0}
CarriesAll before (deed ∷ deeds) = Carries before deed × CarriesAll (before ++ deed ∷ []) deeds
