-- No line of a call, a fetch or another ask tells a look.
use Rattle.std.proofs.Common.{◌≡◌, ℕ, Bool, true, false, cond, Option, Some, None, refl}
use Rattle.std.specs.Option.{option_map}
use Rattle.dc_talk.specs.declared.say.Say.TheVariants.{Welcome, Lacks, Snap, Pruned, Object, Changes}
use Rattle.dc_talk.specs.declared.calls.Call.{Call}
use Rattle.dc_talk.specs.declared.calls.Call.TheVariants.{Begin as BeginCall, Change as ChangeCall, Read as ReadCall, Commit as CommitCall, Abort as AbortCall}
use Rattle.dc_talk.specs.declared.calls.Refusal.TheVariants.{AlreadyOpen, ClockFull, NotOpen, TooManyUpdates, TooManyTags, PendingFull}
use Rattle.dc_talk.specs.declared.calls.Outcome.{Outcome}
use Rattle.dc_talk.specs.declared.calls.Outcome.TheVariants.{Got, Number, Nothing, Refused}
use Rattle.dc_talk.specs.declared.log.Fate.{Fate}
use Rattle.dc_talk.specs.declared.log.Fate.TheVariants.{Heard}
use Rattle.dc_talk.specs.declared.line.Line.{Line}
use Rattle.dc_talk.specs.declared.line.Line.TheVariants as line
use Rattle.script_core.specs.declared.object_call.ObjectCall.{ObjectCall}
use Rattle.script_core.specs.Deeds.{again_line, call_line, cell_line, fetch_line, hello_line, is_of_rights, line_on, miss_of, push_end, push_line, refresh_line}
use Rattle.run_steps.specs.Looks.{look_told}

-- a line that tells no look, where there is a line
abbrev pub IsPlainOr : Option Line → Type 0
IsPlainOr None = Unit {0}
IsPlainOr (Some l) = look_told l ≡ None

-- a line that is made of something
plain_mapped : {X : Type 0} (f : X → Line) (o : Option X) → ((x : X) → look_told (f x) ≡ None) → IsPlainOr (option_map f o)
plain_mapped f None plain = tt
plain_mapped f (Some x) plain = plain x

pub plain_hello : (client centre : ℕ) (fate : Fate) → IsPlainOr (hello_line client centre fate)
plain_hello client centre (Heard (Welcome through)) = refl
plain_hello client centre (Heard (Lacks of need have)) = refl
plain_hello client centre fate = plain_mapped (line.ConnectMissed client centre) (miss_of fate) (λ miss. refl)

pub plain_fetch : (client : ℕ) (c : ObjectCall) (fate : Fate) → IsPlainOr (fetch_line client c fate)
plain_fetch client c (Heard (Lacks of need have)) = refl
plain_fetch client c (Heard (Pruned centre base low)) = refl
plain_fetch client c (Heard (Object state)) = refl
plain_fetch client c (Heard (Changes tail)) = refl
plain_fetch client c fate = plain_mapped (line.FetchMissed client c.word c.shown) (miss_of fate) (λ miss. refl)

pub plain_push : (client number : ℕ) (fate : Fate) → IsPlainOr (push_line client number fate)
plain_push client number fate = plain_mapped (line.Push client number) (push_end fate) (λ end. refl)

pub plain_again : (client centre number : ℕ) (fate : Fate) → IsPlainOr (again_line client centre number fate)
plain_again client centre number fate = plain_mapped (line.Again client centre number) (push_end fate) (λ end. refl)

pub plain_refresh : (client : ℕ) (took : Bool) (fate : Fate) → IsPlainOr (refresh_line client took fate)
plain_refresh client true (Heard (Snap vector mine top)) = refl
plain_refresh client false (Heard (Snap vector mine top)) = refl
plain_refresh client took (Heard (Lacks of need have)) = refl
plain_refresh client took fate = plain_mapped (line.RefreshMissed client) (miss_of fate) (λ miss. refl)

pub plain_call : (client : ℕ) (call : Call) (outcome : Outcome) → IsPlainOr (call_line client call outcome)
plain_call client BeginCall (Refused AlreadyOpen) = refl
plain_call client BeginCall (Refused ClockFull) = refl
plain_call client BeginCall outcome = tt
plain_call client (ChangeCall o change) (Refused NotOpen) = refl
plain_call client (ChangeCall o change) (Refused (TooManyUpdates limit)) = refl
plain_call client (ChangeCall o change) (Refused (TooManyTags count)) = refl
plain_call client (ChangeCall o change) outcome = tt
plain_call client (ReadCall o) (Got value) = refl
plain_call client (ReadCall o) outcome = tt
plain_call client CommitCall (Number number) = refl
plain_call client CommitCall Nothing = refl
plain_call client CommitCall (Refused NotOpen) = refl
plain_call client CommitCall (Refused (PendingFull limit)) = refl
plain_call client CommitCall outcome = tt
plain_call client AbortCall (Refused NotOpen) = refl
plain_call client AbortCall outcome = tt

plain_cell : (client : ℕ) (c : ObjectCall) (outcome : Outcome) → IsPlainOr (cell_line client c outcome)
plain_cell client c (Refused NotOpen) = refl
plain_cell client c (Refused (TooManyUpdates limit)) = refl
plain_cell client c outcome = tt

-- the line of a call on an object
pub plain_on : (client : ℕ) (c : ObjectCall) (outcome : Outcome) → IsPlainOr (line_on client c outcome)
plain_on client c outcome = go (is_of_rights c.word)
  where
    go : (b : Bool) → IsPlainOr (cond b (cell_line client c outcome) (call_line client c.call outcome))
    go true = plain_cell client c outcome
    go false = plain_call client c.call outcome
