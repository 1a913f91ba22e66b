-- What a step of the operator leaves in its log.
use Rattle.std.specs.Prelude.{◌≡◌, ℕ, List, [], ◌∷◌, Option, Some, None}
use Rattle.ids_core.specs.declared.object.ObjectId.{ObjectId}
use Rattle.dc_talk.specs.declared.ask.Ask.{Ask}
use Rattle.dc_talk.specs.declared.ask.Ask.TheVariants.{Prune as PruneAsk, Stop, Start}
use Rattle.dc_talk.specs.declared.say.Say.{Say}
use Rattle.dc_talk.specs.declared.say.Say.TheVariants as say
use Rattle.dc_talk.specs.declared.log.Fate.TheVariants.{Unheard}
use Rattle.dc_talk.specs.declared.log.Deed.{Deed}
use Rattle.dc_talk.specs.declared.log.Deed.TheVariants.{Asked}
use Rattle.dc_talk.specs.declared.line.Line.{Line}
use Rattle.dc_talk.specs.declared.line.Line.TheVariants as line
use Rattle.script_core.specs.declared.steps.OperatorStep.{OperatorStep}
use Rattle.script_core.specs.declared.steps.OperatorStep.TheVariants.{Down, Up, ShipOne, Ship, Relay, Tell, Prune, Link, Settle, Feed}
use Rattle.script_core.specs.Deeds.{told}
use Rattle.script_core.specs.Feeds.{FeedDeeds}
use Rattle.script_core.specs.Carrying.{route, detour, ShipsOne, ShipsAll, RelaysAll, TellsOne, Settles}

-- an ask of the operator, whose answer no session hears
abbrev pub Orders : ℕ → Ask → List Deed → Type 0
Orders centre ask deeds = (say : Say) × (deeds ≡ Asked centre ask (Unheard say) ∷ [])

-- the line of a prune by the centre's answer; none where an answer is to an ask of another kind
abbrev pub base_line : ℕ → Say → Option Line
base_line centre (say.Base vector folded trimmed) = Some (line.Based centre vector folded trimmed)
base_line centre say.Down = Some (line.BaseDown centre)
base_line centre _ = None

-- a prune
pub record PrunesOne (centre : ℕ) (deeds : List Deed) : Type 0 where
  pub answer : Say
  pub whole : deeds ≡ Asked centre PruneAsk (Unheard answer) ∷ told (base_line centre answer)

-- the deeds are those of the operator's step among n centres
abbrev pub OperatorDeeds : ℕ → OperatorStep → List Deed → Type 0
OperatorDeeds n (Down centre) deeds = Orders centre Stop deeds
OperatorDeeds n (Up centre) deeds = Orders centre Start deeds
OperatorDeeds n (ShipOne from to seq) deeds = ShipsOne (route from to) seq deeds
OperatorDeeds n (Ship from to) deeds = ShipsAll (route from to) deeds
OperatorDeeds n (Relay from origin to) deeds = RelaysAll (detour from origin to) deeds
OperatorDeeds n (Tell from to) deeds = TellsOne (route from to) deeds
OperatorDeeds n (Prune centre) deeds = PrunesOne centre deeds
OperatorDeeds n (Link from to fault) deeds = deeds ≡ []
OperatorDeeds n Settle deeds = Settles n deeds
OperatorDeeds n (Feed centre) deeds = (objects : List ObjectId) × FeedDeeds centre objects deeds
