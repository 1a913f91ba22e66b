-- Steps of a client by what their deeds are to the cells of a holder, and logs that are such steps one after another.
use Rattle.std.specs.Prelude.{◌≡◌, ◌⊎◌, ◌-◌, ℕ, ℤ, pos, ◌≤ℤ◌, true, All, List, ◌∷◌, ◌++◌}
use Rattle.std.specs.Int.{w128, int_wrap}
use Rattle.list_core.specs.Members.{In}
use Rattle.ids_core.specs.declared.object.ObjectId.{ObjectId}
use Rattle.ids_core.specs.Ids.{same_object}
use Rattle.tx_core.specs.declared.state.Value.TheVariants.{Number as NumberValue}
use Rattle.dc_talk.specs.declared.calls.Change.{Change}
use Rattle.dc_talk.specs.declared.calls.Change.TheVariants.{Inc}
use Rattle.dc_talk.specs.declared.calls.Call.TheVariants.{Change as ChangeCall, Read}
use Rattle.dc_talk.specs.declared.calls.Outcome.{Outcome}
use Rattle.dc_talk.specs.declared.calls.Outcome.TheVariants.{Fine, Got}
use Rattle.dc_talk.specs.declared.log.Deed.{Deed}
use Rattle.dc_talk.specs.declared.log.Deed.TheVariants.{Did}
use Rattle.script_core.specs.declared.steps.ClientStep.{ClientStep}
use Rattle.script_core.specs.declared.steps.ClientStep.TheVariants.{Change as ChangeStep, Grant, Give, Take}
use Rattle.script_core.specs.Deeds.{cell_to}
use Rattle.run_book.specs.declared.book.Book.{Book}
use Rattle.run_book.specs.Setups.{Setup}
use Rattle.run_book.specs.Parts.{notes_of, IsClient}
use Rattle.run_steps.specs.Logs.{InSteps}
use Rattle.run_steps.specs.Quiet.{IsQuiet}
use Rattle.graph_rights.specs.Rights.{rights_by}
use Rattle.run_rights.specs.Takings.{IsCellOf, AreCounters}

-- ---- a step

-- a deed that makes no change of these cells
abbrev pub ChangesNone : List ObjectId → Deed → Type 0
ChangesNone cells deed = (o cell : ObjectId) (change : Change) → deed ≡ Did (ChangeCall o change) Fine → In cell cells → same_object o cell ≡ true → ⊥

-- an object that is none of these cells
abbrev pub IsNoneOf : List ObjectId → ObjectId → Type 0
IsNoneOf cells o = (cell : ObjectId) → In cell cells → same_object o cell ≡ true → ⊥

-- a step of a script that changes none of these cells
abbrev pub Spares : List ObjectId → ClientStep → Type 0
Spares cells (ChangeStep o change) = IsNoneOf cells o
Spares cells (Grant share amount) = IsNoneOf cells (cell_to share share.holder)
Spares cells (Give share to amount) = IsNoneOf cells (cell_to share to)
Spares cells (Take share amount) = IsNoneOf cells (cell_to share 0)
Spares cells _ = Unit {0}

-- deeds of which one is a change that adds no less than 0 to a counter, and the others are quiet
pub record AddsOnce (deeds : List Deed) : Type 0 where
  pub first : List Deed
  pub o : ObjectId
  pub delta : ℤ
  pub outcome : Outcome
  pub last : List Deed
  pub whole : deeds ≡ first ++ Did (ChangeCall o (Inc delta)) outcome ∷ last
  pub quiet : All IsQuiet first
  pub told : All IsQuiet last
  pub paid : pos 0 ≤ℤ delta

-- a grant, or what another holder gives: it hits no cell that counts against the holder
pub record Pays (losses : List ObjectId) (deeds : List Deed) : Type 0 where
  pub adds : AddsOnce deeds
  pub other : IsNoneOf losses adds.o

-- a taking, or a giving away, of the holder's client: all cells are read before it, and by what was read there is as much,
-- in a sum that wraps at the ends of 128 bits
pub record TakesRights (client owner : ℕ) (gains losses : List ObjectId) (deeds : List Deed) : Type 0 where
  pub mine : client ≡ owner
  pub adds : AddsOnce deeds
  pub value : ObjectId → ℤ
  pub reads : (o : ObjectId) → IsCellOf gains losses o → In (Did (Read o) (Got (NumberValue (value o)))) adds.first
  pub enough : adds.delta ≤ℤ int_wrap w128 (rights_by gains losses value)

-- what a step of a client may be to a holder's cells
abbrev pub StepIs : ℕ → ℕ → List ObjectId → List ObjectId → List Deed → Type 0
StepIs client owner gains losses deeds = All (ChangesNone (gains ++ losses)) deeds ⊎ (Pays losses deeds ⊎ TakesRights client owner gains losses deeds)

-- ---- a log

-- each client's log is that of such steps, and all cells are counters
pub record GoesBySteps (b : Book) (setup : Setup) (owner : ℕ) (gains losses : List ObjectId) : Type 0 where
  pub counters : AreCounters gains losses
  pub steps : (a : ℕ) → IsClient setup a → InSteps (StepIs (a - 1) owner gains losses) (notes_of b a)
