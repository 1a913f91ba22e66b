-- A step of a script tells no rights, or is one of a bounded counter that read all cells of its share and tells them.
use Rattle.std.proofs.Common.{◌≡◌, ℕ, ◌⊎◌, inl, inr, ⊎_elim, false, List, [], ◌++◌, Option, Some, None, refl, sym, subst}
use Rattle.std.specs.Prelude.{All}
use Rattle.std.proofs.lemmas.List.Elements.{All-nil, All-cons, All-append}
use Rattle.ids_core.specs.declared.object.ObjectId.{ObjectId}
use Rattle.tx_core.specs.declared.tx.Tx.{Tx}
use Rattle.tx_core.specs.declared.tx.Update.{Update}
use Rattle.dc_talk.specs.declared.ask.Ask.{Ask}
use Rattle.dc_talk.specs.declared.ask.Ask.TheVariants.{Commit as CommitAsk}
use Rattle.dc_talk.specs.declared.say.Say.{Say}
use Rattle.dc_talk.specs.declared.calls.Connection.{Connection}
use Rattle.dc_talk.specs.declared.calls.Call.{Call}
use Rattle.dc_talk.specs.declared.calls.Call.TheVariants.{Begin as BeginCall, Change as ChangeCall, Read as ReadCall, Commit as CommitCall, Abort as AbortCall}
use Rattle.dc_talk.specs.declared.calls.Outcome.{Outcome}
use Rattle.dc_talk.specs.declared.log.Deed.{Deed}
use Rattle.dc_talk.specs.declared.log.Deed.TheVariants.{Did, Asked}
use Rattle.dc_talk.specs.declared.log.Fate.{Fate}
use Rattle.dc_talk.specs.declared.log.Fate.TheVariants.{Unheard}
use Rattle.dc_talk.specs.declared.line.Line.{Line}
use Rattle.dc_talk.specs.declared.line.Line.TheVariants as line
use Rattle.dc_talk.specs.declared.line.StepWord.{StepWord}
use Rattle.dc_talk.specs.declared.line.StepWord.TheVariants as step
use Rattle.dc_talk.specs.declared.seen.Seen.{Seen}
use Rattle.dc_talk.specs.Logs.{commit_sent}
use Rattle.dc_talk.specs.Clients.{Client}
use Rattle.dc_talk.specs.Calls.{outcome_of}
use Rattle.dc_talk.specs.Rule.{next_commit, hello_of, refresh_of}
use Rattle.script_core.specs.declared.object_call.ObjectCall.{ObjectCall}
use Rattle.script_core.specs.declared.steps.AskFault.{AskFault}
use Rattle.script_core.specs.declared.steps.AskFault.TheVariants.{LoseAsk, LoseReply, Twice}
use Rattle.script_core.specs.declared.steps.ClientStep.{ClientStep}
use Rattle.script_core.specs.declared.steps.ClientStep.TheVariants.{Connect, Begin, Change, Read, Grant, Give, Take, Rights, Commit, Abort, Push, Flush, Refresh, Again, Arm, Look}
use Rattle.script_core.specs.declared.steps.Share.{Share}
use Rattle.script_core.specs.Deeds.{Progress, StepDeeds, Asks, OrTells, OverNext, Pushes, PushesOn, CallDeeds, FlushDeeds, flush_ends, flush_goes, RefreshDeeds, AgainDeeds, TakingDeeds, calls, calls_on, call_line, cell_inc, cell_to, change_call, read_call, copies, fate_of, goes_on, hello_line, push_line, pushed, refresh_line, again_line, told, took}
use Rattle.script_core.specs.Taps.{looks}
use Rattle.script_core.specs.Steps.{IsOwn, IsShare, IsShareOf, IsStep}
use Rattle.run_rights.proofs.ObjectCalls.{object_each, on_each, told_each}
use Rattle.run_rights.proofs.RightsLines.{IsPlainOr, TellsNone, plain_again, plain_call, plain_hello, plain_push, plain_refresh}
use Rattle.run_rights.proofs.ShareReads.{TellsRead, adds_none, idle_none, rights_go, taking_goes}

abbrev TellNone : List Deed → Type 0
TellNone deeds = All TellsNone deeds

-- a line that tells none, where there is a line
plain_told : (o : Option Line) → IsPlainOr o → TellNone (told o)
plain_told o plain = told_each TellsNone (λ l plain. plain) o plain

-- ---- asks

-- the second copy of an ask
copies_none : (armed : Option AskFault) (i : ℕ) (ask : Ask) (say : Say) → TellNone (copies armed i ask say)
copies_none (Some Twice) i ask say = All-cons TellsNone (Asked i ask (Unheard say)) [] tt (All-nil TellsNone)
copies_none (Some LoseAsk) i ask say = All-nil TellsNone
copies_none (Some LoseReply) i ask say = All-nil TellsNone
copies_none None i ask say = All-nil TellsNone

-- an ask
asks_none : (armed : Option AskFault) (i : ℕ) (ask : Ask) (following : Fate → List Deed) (deeds : List Deed) → ((fate : Fate) → TellNone (following fate)) → Asks armed i ask following deeds → TellNone deeds
asks_none armed i ask following deeds rest asks = subst TellNone (sym asks.whole)
    (All-cons TellsNone (Asked i ask (fate_of armed asks.say)) (copies armed i ask asks.again ++ following (fate_of armed asks.say)) tt
    (All-append TellsNone (copies armed i ask asks.again) (following (fate_of armed asks.say)) (copies_none armed i ask asks.again) (rest (fate_of armed asks.say))))

-- deeds over what is there, or a line
over_none : {X : Type 0} (o : Option X) (l : Line) (Over : X → List Deed → Type 0) (deeds : List Deed) → IsPlainOr (Some l) → ((x : X) → Over x deeds → TellNone deeds) → OrTells o l Over deeds → TellNone deeds
over_none None l Over deeds plain each are = subst TellNone (sym are) (plain_told (Some l) plain)
over_none (Some x) l Over deeds plain each over = each x over

-- deeds over the link and the next commit
next_none : (s : Client) (l : Line) (Over : Connection → Tx → List Deed → Type 0) (deeds : List Deed) → IsPlainOr (Some l) → ((link : Connection) (tx : Tx) → Over link tx deeds → TellNone deeds) → OverNext s l Over deeds → TellNone deeds
next_none s l Over deeds plain each over =
    over_none s.link (line.PushUnconnected s.client) (λ link. OrTells (next_commit s link) l (Over link)) deeds refl
    (λ link next. over_none (next_commit s link) l (Over link) deeds plain (each link) next) over

-- ---- calls

calls_none : (s : Client) (call : Call) → TellNone (calls s call)
calls_none s call =
    let outcome = outcome_of s call in
    All-cons TellsNone (Did call outcome) (told (call_line s.client call outcome)) tt (plain_told (call_line s.client call outcome) (plain_call s.client call outcome))

-- a call on an object
on_none : (s : Client) (c : ObjectCall) → TellNone (calls_on s c)
on_none s c = on_each TellsNone (λ l plain. plain) c (λ outcome. tt) s

-- with the fetch of the object, where that is needed
call_none : (p : Progress) (c : ObjectCall) (outcome : Outcome) (deeds : List Deed) → CallDeeds p c outcome deeds → TellNone deeds
call_none p c outcome deeds are = object_each TellsNone (λ l plain. plain) c (λ outcome. tt) (λ i here fate. tt) (λ i from here fate. tt) p outcome deeds are

-- ---- pushes, snapshots and late copies

pushes_none : (p : Progress) (deeds : List Deed) (link : Connection) (tx : Tx) → Pushes p link tx deeds → TellNone deeds
pushes_none p deeds link tx push =
    asks_none p.armed link.centre (CommitAsk tx) (λ fate. told (push_line p.client.client tx.dot.number fate)) deeds
    (λ fate. plain_told (push_line p.client.client tx.dot.number fate) (plain_push p.client.client tx.dot.number fate)) push

push_on_none : (p : Progress) (deeds : List Deed) → PushesOn p deeds → TellNone deeds
push_on_none p deeds on = subst TellNone (sym on.asked) (All-cons TellsNone (Asked on.link.centre (CommitAsk on.tx) (fate_of p.armed on.say)) (copies p.armed on.link.centre (CommitAsk on.tx) on.again) tt (copies_none p.armed on.link.centre (CommitAsk on.tx) on.again))

flush_none : (p : Progress) (deeds : List Deed) → FlushDeeds p deeds → TellNone deeds
flush_none p deeds (flush_ends ends) =
    next_none p.client (line.Flushed p.client.client p.client.own) (λ link tx deeds. (push : Pushes p link tx deeds) × (goes_on (fate_of p.armed push.say) ≡ false)) deeds refl
    (λ link tx ends. pushes_none p deeds link tx ends.0) ends
flush_none p deeds (flush_goes first later parts on rest) = subst TellNone (sym parts) (All-append TellsNone first later (push_on_none p first on) (flush_none (pushed p first) later rest))

refresh_none : (p : Progress) (draft : Option (List Update)) (deeds : List Deed) (link : Connection) → RefreshDeeds p draft link deeds → TellNone deeds
refresh_none p (Some updates) deeds link are = subst TellNone (sym are) (plain_told (Some (line.RefreshOpen p.client.client)) refl)
refresh_none p None deeds link asks =
    asks_none p.armed link.centre (refresh_of p.client) (λ fate. told (refresh_line p.client.client (took p.client link.centre (refresh_of p.client) fate) fate)) deeds
    (λ fate. plain_told (refresh_line p.client.client (took p.client link.centre (refresh_of p.client) fate) fate) (plain_refresh p.client.client (took p.client link.centre (refresh_of p.client) fate) fate)) asks

again_none : (client centre number : ℕ) (tx : Tx) (deeds : List Deed) → AgainDeeds client centre number tx deeds → TellNone deeds
again_none client centre number tx deeds are = subst TellNone (sym are.1)
    (All-cons TellsNone (Asked centre (CommitAsk tx) (Unheard are.0)) (told (again_line client centre number (Unheard are.0))) tt
    (plain_told (again_line client centre number (Unheard are.0)) (plain_again client centre number (Unheard are.0))))

-- ---- steps

-- a look
look_none : (client centre : ℕ) (object : ObjectId) (seen : Option Seen) → TellNone (looks client centre object seen)
look_none client centre object None = All-nil TellsNone
look_none client centre object (Some seen) = plain_told (Some (line.Look client centre object seen)) refl

-- a share of the client was read, and a line tells its rights
pub record TellsOwn (clients client : ℕ) (p : Progress) (deeds : List Deed) : Type 0 where
  pub share : Share
  pub is : IsShare share
  pub own : IsShareOf clients client share
  pub tells : TellsRead share p.client.client deeds

module _ (n clients client : ℕ) (p : Progress) (deeds : List Deed) where
  abbrev NoneOrOwn : Type 0
  NoneOrOwn = TellNone deeds ⊎ TellsOwn clients client p deeds

  -- a step that takes or gives
  taking_tells : (word : StepWord) (share : Share) (to amount : ℕ) → IsShare share → IsShareOf clients client share → TakingDeeds p word share to amount deeds → NoneOrOwn
  taking_tells word share to amount is own are =
      ⊎_elim
      (λ idle. inl (idle_none deeds idle))
      (λ read. ⊎_elim (λ t. inr (record { share = share; is = is; own = own; tells = t })) (λ a. inl (adds_none share word to amount deeds a)) read)
      (taking_goes share word to amount p deeds are)

  -- each step
  pub step_tells : (does : ClientStep) → IsStep n does → IsOwn clients client does → StepDeeds p does deeds → NoneOrOwn
  step_tells (Connect centre) is own hello =
      inl (asks_none p.armed centre (hello_of p.client) (λ fate. told (hello_line p.client.client centre fate)) deeds
      (λ fate. plain_told (hello_line p.client.client centre fate) (plain_hello p.client.client centre fate)) hello)
  step_tells Begin is own are = inl (subst TellNone (sym are) (calls_none p.client BeginCall))
  step_tells (Change o change) is own are = inl (call_none p (change_call o change) (outcome_of p.client (ChangeCall o change)) deeds are)
  step_tells (Read o) is own are = inl (call_none p (read_call o) (outcome_of p.client (ReadCall o)) deeds are)
  step_tells (Grant share amount) is own are = inl (subst TellNone (sym are) (on_none p.client (cell_inc step.Grant share (cell_to share share.holder) amount)))
  step_tells (Give share to amount) is own are = taking_tells step.Give share to amount is.0 own are
  step_tells (Take share amount) is own are = taking_tells step.Take share 0 amount is.0 own are
  step_tells (Rights share) is own are =
      ⊎_elim
      (λ idle. inl (idle_none deeds idle))
      (λ t. inr (record { share = share; is = is; own = own; tells = t }))
      (rights_go share p deeds are)
  step_tells Commit is own are = inl (subst TellNone (sym are) (calls_none p.client CommitCall))
  step_tells Abort is own are = inl (subst TellNone (sym are) (calls_none p.client AbortCall))
  step_tells Push is own push = inl (next_none p.client (line.PushNone p.client.client) (Pushes p) deeds refl (λ link tx push. pushes_none p deeds link tx push) push)
  step_tells Flush is own flush = inl (flush_none p deeds flush)
  step_tells Refresh is own refresh = inl (over_none p.client.link (line.RefreshUnconnected p.client.client) (RefreshDeeds p p.client.draft) deeds refl (λ link refresh. refresh_none p p.client.draft deeds link refresh) refresh)
  step_tells (Again centre number) is own again = inl (over_none (commit_sent number p.notes) (line.AgainNone p.client.client centre number) (AgainDeeds p.client.client centre number) deeds refl (λ tx again. again_none p.client.client centre number tx deeds again) again)
  step_tells (Arm fault) is own are = inl (subst TellNone (sym are) (All-nil TellsNone))
  step_tells (Look centre object) is own are = inl (subst TellNone (sym are.1) (look_none p.client.client centre object are.0))
