-- The calls of a session that steps make.
use Rattle.std.specs.Prelude.{◌≡◌, ◌⊎◌, ℕ, pos}
use Rattle.list_core.specs.Members.{In}
use Rattle.ids_core.specs.declared.object.ObjectId.{ObjectId}
use Rattle.dc_talk.specs.declared.calls.Change.TheVariants.{Inc}
use Rattle.dc_talk.specs.declared.calls.Call.{Call}
use Rattle.dc_talk.specs.declared.calls.Call.TheVariants.{Begin as BeginCall, Change as ChangeCall, Read as ReadCall, Commit as CommitCall, Abort as AbortCall}
use Rattle.dc_talk.specs.declared.log.Deed.{Deed}
use Rattle.dc_talk.specs.declared.log.Deed.TheVariants.{Did, Spoilt}
use Rattle.script_core.specs.declared.steps.ClientStep.{ClientStep}
use Rattle.script_core.specs.declared.steps.ClientStep.TheVariants.{Begin, Change, Read, Grant, Give, Take, Rights, Commit, Abort}
use Rattle.script_core.specs.declared.steps.Share.{Share}
use Rattle.script_core.specs.Deeds.{cell_to, share_cells}

-- a read of one of the cells of a share
abbrev pub IsCellRead : Share → Call → Type 0
IsCellRead share call = (cell : ObjectId) × (In cell (share_cells share) × (call ≡ ReadCall cell))

-- a change that adds an amount to the cell of a share to this holder
abbrev pub adds_to : Share → ℕ → ℕ → Call
adds_to share to amount = ChangeCall (cell_to share to) (Inc (pos amount))

-- a call of a step, where it makes any. Of a bounded counter a step may make several: it reads cells, and then adds to one
-- of them.
abbrev pub IsCallOf : ClientStep → Call → Type 0
IsCallOf Begin call = call ≡ BeginCall
IsCallOf (Change o change) call = call ≡ ChangeCall o change
IsCallOf (Read o) call = call ≡ ReadCall o
IsCallOf (Grant share amount) call = call ≡ adds_to share share.holder amount
IsCallOf (Give share to amount) call = IsCellRead share call ⊎ (call ≡ adds_to share to amount)
IsCallOf (Take share amount) call = IsCellRead share call ⊎ (call ≡ adds_to share 0 amount)
IsCallOf (Rights share) call = IsCellRead share call
IsCallOf Commit call = call ≡ CommitCall
IsCallOf Abort call = call ≡ AbortCall
IsCallOf _ call = ⊥

-- a deed of a step: an ask, a line, or one of its calls, however that ended
abbrev pub IsDeedOf : ClientStep → Deed → Type 0
IsDeedOf does (Did call outcome) = IsCallOf does call
IsDeedOf does (Spoilt from item why) = ⊥
IsDeedOf does _ = Unit {0}
