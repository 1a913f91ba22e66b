-- What the workers of a centre leave in their logs in a round of a phase. No session hears an answer.
use Rattle.std.specs.Prelude.{◌≡◌, ℕ, ◌+◌, ◌-◌, ◌*◌, ◌%◌, ◌==◌, Bool, cond, not, filter, List, [], ◌∷◌, ◌++◌, Option}
use Rattle.vv_core.specs.Vectors.{at, centres}
use Rattle.dc_talk.specs.declared.sent.Sent.{Sent}
use Rattle.dc_talk.specs.declared.links.Arrival.{Arrival}
use Rattle.dc_talk.specs.declared.links.Arrival.TheVariants as arrival
use Rattle.dc_talk.specs.declared.ask.Ask.TheVariants.{Send, Deliver, Report, Prune}
use Rattle.dc_talk.specs.declared.say.Say.{Say}
use Rattle.dc_talk.specs.declared.say.Say.TheVariants.{Records, Vector}
use Rattle.dc_talk.specs.declared.log.Fate.TheVariants.{Unheard}
use Rattle.dc_talk.specs.declared.log.Deed.{Deed}
use Rattle.dc_talk.specs.declared.log.Deed.TheVariants.{Asked, Spoilt}
use Rattle.dc_talk.specs.declared.line.Line.{Line}
use Rattle.script_core.specs.declared.rounds.TheConstants.{MOST_MAILED, ROUNDS_BETWEEN_PRUNES}
use Rattle.script_core.specs.declared.rounds.Role.{Role}
use Rattle.script_core.specs.declared.rounds.Role.TheVariants.{Sender, Receiver, Reporter, Pruner}
use Rattle.script_core.specs.Carrying.{Route, route, Tells, InTurn}
use Rattle.script_core.specs.Orders.{Orders}

-- ---- who

-- the number of a role among the workers of a centre
abbrev pub role_number : Role → ℕ
role_number Sender = 1
role_number Receiver = 2
role_number Reporter = 3
role_number Pruner = 4

-- the actor that is a worker of centre i, where there are so many clients
abbrev pub worker_of : ℕ → ℕ → Role → ℕ
worker_of clients i role = clients + 1 + 4 * (i - 1) + role_number role

-- the centres other than this one, ascending
abbrev pub others : ℕ → ℕ → List ℕ
others n i = filter (λ j. not (j == i)) (centres n)

-- ---- a sender

-- the records of an answer to a send
abbrev pub records_in : Say → List Sent
records_in (Records list) = list
records_in _ = []

-- what follows the report of the centre that is sent to: a send for what it lacks of the origin's; the items are those
-- of the answer
abbrev pub AfterNeeded : Route → Say → List Deed → List Sent → Type 0
AfterNeeded r (Vector vector) deeds items = (say : Say) × (deeds ≡ Asked r.from (Send (at vector r.from) MOST_MAILED) (Unheard say) ∷ []) × (items ≡ records_in say)
AfterNeeded r say deeds items = (deeds ≡ []) × (items ≡ [])

-- the asks over one route, for the items that are put on its link
pub record Mails (r : Route) (deeds : List Deed) (items : List Sent) : Type 0 where
  pub say : Say
  pub later : List Deed
  pub whole : deeds ≡ Asked r.to Report (Unheard say) ∷ later
  pub follows : AfterNeeded r say later items

-- a round of the sender of centre i among n
abbrev pub SenderDeeds : ℕ → ℕ → List Deed → Type 0
SenderDeeds n i deeds = InTurn (λ to deeds. (items : List Sent) × Mails (route i to) deeds items) (others n i) deeds

-- what the deeds of a sender put on the link to a centre: the records that answered the sends behind this centre's
-- reports; the first number is that of the centre that reported last
abbrev pub mailed_from : ℕ → ℕ → List Deed → List Sent
mailed_from last to [] = []
mailed_from last to (Asked i Report fate ∷ deeds) = mailed_from i to deeds
mailed_from last to (Asked i (Send after most) (Unheard say) ∷ deeds) = cond (last == to) (records_in say) [] ++ mailed_from last to deeds
mailed_from last to (deed ∷ deeds) = mailed_from last to deeds

abbrev pub mailed : ℕ → List Deed → List Sent
mailed to deeds = mailed_from 0 to deeds

-- ---- a receiver

-- what comes of an item of a link: a delivery of its record, whatever is answered, or a note that it was none
abbrev pub BringsOne : Route → Arrival Sent → Deed → Type 0
BringsOne r (arrival.Whole item) deed = (say : Say) × (deed ≡ Asked r.to (Deliver item.item item.hops) (Unheard say))
BringsOne r (arrival.Spoilt number why) deed = deed ≡ Spoilt r.from number why

-- so it is with just these items, in order
abbrev pub Brings : Route → List (Arrival Sent) → List Deed → Type 0
Brings r [] deeds = deeds ≡ []
Brings r (item ∷ items) [] = ⊥
Brings r (item ∷ items) (deed ∷ deeds) = BringsOne r item deed × Brings r items deeds

-- a round of the receiver of centre j among n, where these items are due from each other centre
abbrev pub ReceiverDeeds : ℕ → ℕ → (ℕ → List (Arrival Sent)) → List Deed → Type 0
ReceiverDeeds n j due deeds = InTurn (λ from deeds. Brings (route from j) (due from) deeds) (others n j) deeds

-- ---- a reporter and a pruner

-- a round of the reporter of centre i among n: it tells each other centre
abbrev pub ReporterDeeds : ℕ → ℕ → List Deed → Type 0
ReporterDeeds n i deeds = InTurn (λ to deeds. (line : Option Line) × Tells (route i to) deeds line) (others n i) deeds

-- whether a round has a prune
abbrev pub is_prune_round : ℕ → Bool
is_prune_round round = round % ROUNDS_BETWEEN_PRUNES == 0

-- a round of the pruner of centre i
abbrev pub PrunerDeeds : ℕ → ℕ → List Deed → Type 0
PrunerDeeds i round deeds = cond (is_prune_round round) (Orders i Prune deeds) (deeds ≡ [])
