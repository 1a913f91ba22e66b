-- What a step leaves in a log: the calls of the session with how they ended, the asks with what became of them,
-- and the line of the step. All but the answers of the centres is fixed.
use Rattle.std.specs.Prelude.{◌≡◌, ◌⊎◌, ℕ, ℤ, pos, int_lt, Bool, true, false, ◌&&◌, cond, fold, map, List, [], ◌∷◌, ◌++◌, Option, Some, None}
use Rattle.std.specs.Option.{option_map}
use Rattle.std.specs.List.{list_any}
use Rattle.std.specs.Int.{w128, int_wrap}
use Rattle.vv_core.specs.declared.stamp.Lack.{Lack}
use Rattle.tx_core.specs.declared.tx.Tx.{Tx}
use Rattle.tx_core.specs.declared.tx.Update.{Update}
use Rattle.tx_core.specs.declared.state.Value.TheVariants.{Number as NumberValue}
use Rattle.obj_bounded.specs.CellNames.{cell_name, counter_of, gain_cells, loss_cells}
use Rattle.obj_bounded.specs.HolderRights.{rights_of}
use Rattle.ids_core.specs.declared.object.ObjectId.{ObjectId}
use Rattle.dc_talk.specs.declared.ask.Ask.{Ask}
use Rattle.dc_talk.specs.declared.ask.Ask.TheVariants.{Commit as CommitAsk}
use Rattle.dc_talk.specs.declared.say.Say.{Say}
use Rattle.dc_talk.specs.declared.say.Say.TheVariants.{Misfit, Down as DownSay, Lacks, Welcome, Snap, Pruned, Object, Changes, Known, OutOfOrder, Full, Stamped}
use Rattle.dc_talk.specs.declared.calls.Change.{Change as ChangeOf}
use Rattle.dc_talk.specs.declared.calls.Change.TheVariants.{Inc, Write, Add, Remove, Put, Erase}
use Rattle.dc_talk.specs.declared.calls.Call.{Call}
use Rattle.dc_talk.specs.declared.calls.Call.TheVariants.{Begin as BeginCall, Change as ChangeCall, Read as ReadCall, Commit as CommitCall, Abort as AbortCall}
use Rattle.dc_talk.specs.declared.calls.Refusal.TheVariants.{AlreadyOpen, ClockFull, NotOpen, TooManyUpdates, NeedsFetch, TooManyTags, PendingFull}
use Rattle.dc_talk.specs.declared.calls.Outcome.{Outcome}
use Rattle.dc_talk.specs.declared.calls.Outcome.TheVariants.{Got, Number, Nothing, Refused}
use Rattle.dc_talk.specs.declared.calls.Connection.{Connection}
use Rattle.dc_talk.specs.declared.log.Fate.{Fate}
use Rattle.dc_talk.specs.declared.log.Fate.TheVariants.{AskLost, ReplyLost, Heard, Unheard}
use Rattle.dc_talk.specs.declared.log.Deed.{Deed}
use Rattle.dc_talk.specs.declared.log.Deed.TheVariants.{Did, Asked, Told}
use Rattle.dc_talk.specs.declared.log.Note.{Note}
use Rattle.dc_talk.specs.declared.line.Miss.{Miss}
use Rattle.dc_talk.specs.declared.line.Miss.TheVariants as miss
use Rattle.dc_talk.specs.declared.line.StepWord.{StepWord}
use Rattle.dc_talk.specs.declared.line.StepWord.TheVariants as step
use Rattle.dc_talk.specs.declared.line.PushEnd.{PushEnd}
use Rattle.dc_talk.specs.declared.line.PushEnd.TheVariants as ended
use Rattle.dc_talk.specs.declared.line.Line.{Line}
use Rattle.dc_talk.specs.declared.line.Line.TheVariants as line
use Rattle.dc_talk.specs.declared.seen.Seen.{Seen}
use Rattle.dc_talk.specs.Logs.{commit_sent}
use Rattle.dc_talk.specs.Clients.{Client}
use Rattle.dc_talk.specs.Calls.{outcome_of}
use Rattle.dc_talk.specs.Rule.{after, takes, hello_of, refresh_of, fetch_of, next_commit}
use Rattle.script_core.specs.Taps.{looks}
use Rattle.script_core.specs.declared.object_call.ObjectCall.{ObjectCall}
use Rattle.script_core.specs.declared.steps.Share.{Share}
use Rattle.script_core.specs.declared.steps.AskFault.{AskFault}
use Rattle.script_core.specs.declared.steps.AskFault.TheVariants.{LoseAsk, LoseReply, Twice}
use Rattle.script_core.specs.declared.steps.ClientStep.{ClientStep}
use Rattle.script_core.specs.declared.steps.ClientStep.TheVariants.{Connect, Begin, Change, Read, Grant, Give, Take, Rights, Commit, Abort, Push, Flush, Refresh, Again, Arm, Look}

-- ---- the lines of steps, by what became of an ask; none where an answer is to an ask of another kind

-- what a centre of which records are missing has, and what is needed of it
abbrev pub lack : ℕ → ℕ → ℕ → Lack
lack centre need have = record { centre = centre; need = need; have = have }

-- why an answer counts for nothing, where it does
abbrev pub missed_by : Say → Option Miss
missed_by DownSay = Some miss.Unreachable
missed_by Misfit = Some miss.Misfit
missed_by _ = None

-- why an ask has no answer that counts, where it has none: a fault lost it or its answer, whatever that was
abbrev pub miss_of : Fate → Option Miss
miss_of AskLost = Some miss.Lost
miss_of (ReplyLost say) = Some miss.Lost
miss_of (Heard say) = missed_by say
miss_of (Unheard say) = missed_by say

-- the line of a connect
abbrev pub hello_line : ℕ → ℕ → Fate → Option Line
hello_line client centre (Heard (Welcome through)) = Some (line.At client centre)
hello_line client centre (Heard (Lacks of need have)) = Some (line.Refused client centre (lack of need have))
hello_line client centre fate = option_map (line.ConnectMissed client centre) (miss_of fate)

-- the word of the step that makes a change
abbrev pub word_of : ChangeOf → StepWord
word_of (Inc delta) = step.Inc
word_of (Write word) = step.Set
word_of (Add word) = step.Add
word_of (Remove word) = step.Del
word_of (Put key word) = step.Put
word_of (Erase key) = step.Drop

-- the line of a call that ended so
abbrev pub call_line : ℕ → Call → Outcome → Option Line
call_line client BeginCall (Refused AlreadyOpen) = Some (line.BeginOpen client)
call_line client BeginCall (Refused ClockFull) = Some (line.BeginClock client)
call_line client (ChangeCall o change) (Refused NotOpen) = Some (line.Closed client (word_of change) o)
call_line client (ChangeCall o change) (Refused (TooManyUpdates limit)) = Some (line.ManyUpdates client (word_of change) o)
call_line client (ChangeCall o change) (Refused (TooManyTags count)) = Some (line.ManyTags client (word_of change) o count)
call_line client (ReadCall o) (Got value) = Some (line.ReadValue client o value)
call_line client CommitCall (Number number) = Some (line.CommitNumber client number)
call_line client CommitCall Nothing = Some (line.CommitNone client)
call_line client CommitCall (Refused NotOpen) = Some (line.CommitClosed client)
call_line client CommitCall (Refused (PendingFull limit)) = Some (line.CommitPending client)
call_line client AbortCall (Refused NotOpen) = Some (line.AbortClosed client)
call_line client _ _ = None

-- whether the step with this word is one of a bounded counter
abbrev pub is_of_rights : StepWord → Bool
is_of_rights step.Grant = true
is_of_rights step.Give = true
is_of_rights step.Take = true
is_of_rights step.Rights = true
is_of_rights _ = false

-- the line of a call on a cell of a bounded counter that ended so: a value that was read has none
abbrev pub cell_line : ℕ → ObjectCall → Outcome → Option Line
cell_line client c (Refused NotOpen) = Some (line.Closed client c.word c.shown)
cell_line client c (Refused (TooManyUpdates limit)) = Some (line.ManyUpdates client c.word c.shown)
cell_line client c _ = None

-- the line of a call on an object that ended so
abbrev pub line_on : ℕ → ObjectCall → Outcome → Option Line
line_on client c outcome = cond (is_of_rights c.word) (cell_line client c outcome) (call_line client c.call outcome)

-- the line of a fetch for a call, where it gave no state
abbrev pub fetch_line : ℕ → ObjectCall → Fate → Option Line
fetch_line client c (Heard (Lacks of need have)) = Some (line.FetchLacks client c.word c.shown (lack of need have))
fetch_line client c (Heard (Pruned centre base low)) = Some (line.FetchPruned client c.word c.shown centre base low)
fetch_line client c (Heard (Object state)) = Some (line.FetchIgnored client c.word c.shown)
fetch_line client c (Heard (Changes tail)) = Some (line.FetchIgnored client c.word c.shown)
fetch_line client c fate = option_map (line.FetchMissed client c.word c.shown) (miss_of fate)

-- how a push that was answered so ended
abbrev pub answer_end : Say → Option PushEnd
answer_end (Stamped stamp) = Some (ended.Stamped stamp)
answer_end (Known through) = Some (ended.Known through)
answer_end (Full limit) = Some (ended.Full limit)
answer_end (OutOfOrder have) = Some (ended.Order have)
answer_end (Lacks of need have) = Some (ended.Lacks (lack of need have))
answer_end say = option_map ended.Missed (missed_by say)

-- how a push ended, whether or not its answer was heard
abbrev pub push_end : Fate → Option PushEnd
push_end (Heard say) = answer_end say
push_end (Unheard say) = answer_end say
push_end fate = Some (ended.Missed miss.Lost)

-- the line of the push of a commit of this number
abbrev pub push_line : ℕ → ℕ → Fate → Option Line
push_line client number fate = option_map (line.Push client number) (push_end fate)

-- the line of a late copy of the commit of this number
abbrev pub again_line : ℕ → ℕ → ℕ → Fate → Option Line
again_line client centre number fate = option_map (line.Again client centre number) (push_end fate)

-- the line of a refresh, by whether the session took the answer
abbrev pub refresh_line : ℕ → Bool → Fate → Option Line
refresh_line client true (Heard (Snap vector mine top)) = Some (line.Sees client vector mine)
refresh_line client false (Heard (Snap vector mine top)) = Some (line.RefreshIgnored client)
refresh_line client took (Heard (Lacks of need have)) = Some (line.RefreshLacks client (lack of need have))
refresh_line client took fate = option_map (line.RefreshMissed client) (miss_of fate)

-- ---- how far a client is

-- a client with the fault that is armed for its next ask, and what its log has
pub record Progress : Type 0 where
  pub client : Client
  pub armed : Option AskFault
  pub notes : List Note

-- the client after deeds
abbrev pub after_all : Client → List Deed → Client
after_all s deeds = fold after s deeds

-- whether a deed is an ask
abbrev pub is_ask : Deed → Bool
is_ask (Asked i ask fate) = true
is_ask _ = false

-- the fault that is armed after a step with these deeds: the one that the step arms; and else the one before, unless
-- an ask was sent, which uses it. A late copy uses none.
abbrev pub armed_after : Option AskFault → ClientStep → List Deed → Option AskFault
armed_after armed (Arm fault) deeds = Some fault
armed_after armed (Again centre number) deeds = armed
armed_after armed step deeds = cond (list_any is_ask deeds) None armed

-- ---- asks

-- what becomes of an ask under the fault that is armed, where the centre answers so
abbrev pub fate_of : Option AskFault → Say → Fate
fate_of (Some LoseAsk) say = AskLost
fate_of (Some LoseReply) say = ReplyLost say
fate_of _ say = Heard say

-- the second copy of an ask, where the fault that is armed makes one, with the answer to it
abbrev pub copies : Option AskFault → ℕ → Ask → Say → List Deed
copies (Some Twice) i ask say = Asked i ask (Unheard say) ∷ []
copies _ i ask say = []

-- whether the session takes what became of an ask of centre i
abbrev pub took : Client → ℕ → Ask → Fate → Bool
took s i ask (Heard say) = takes s i ask say
took s i ask _ = false

-- a line is told, where there is one
abbrev pub told : Option Line → List Deed
told None = []
told (Some line) = Told line ∷ []

-- an ask of centre i under the fault that is armed, with its second copy where there is one, and the deeds that
-- follow what became of it
pub record Asks (armed : Option AskFault) (i : ℕ) (ask : Ask) (following : Fate → List Deed) (deeds : List Deed) : Type 0 where
  pub say : Say
  pub again : Say
  pub whole : deeds ≡ Asked i ask (fate_of armed say) ∷ (copies armed i ask again ++ following (fate_of armed say))

-- deeds over what is there, and the line alone where nothing is
abbrev pub OrTells : {X : Type 0} → Option X → Line → (X → List Deed → Type 0) → List Deed → Type 0
OrTells None line Over deeds = deeds ≡ Told line ∷ []
OrTells (Some x) line Over deeds = Over x deeds

-- ---- calls

-- a call, and its line
abbrev pub calls : Client → Call → List Deed
calls s call = Did call (outcome_of s call) ∷ told (call_line s.client call (outcome_of s call))

-- a call on an object, and its line
abbrev pub calls_on : Client → ObjectCall → List Deed
calls_on s c = Did c.call (outcome_of s c.call) ∷ told (line_on s.client c (outcome_of s c.call))

-- what follows a fetch for a call: where the state was taken the call again, and else the line that
-- says why not
abbrev pub after_fetch : Client → ℕ → ObjectCall → Fate → List Deed
after_fetch s i c fate = cond (took s i (fetch_of s c.object) fate) (calls_on (after s (Asked i (fetch_of s c.object) fate)) c) (told (fetch_line s.client c fate))

-- whether the centre answered that it has pruned what was asked for, and was heard
abbrev pub is_pruned : Fate → Bool
is_pruned (Heard (Pruned centre base low)) = true
is_pruned _ = false

-- whether the state is to be asked for after an ask of centre i: the session took it that the centre has pruned what
-- came to the object
abbrev pub asks_on : Client → ℕ → Ask → Fate → Bool
asks_on s i ask fate = took s i ask fate && is_pruned fate

-- the client after the ask for the object of a call, which the centre answered so
abbrev pub let_go : Progress → Connection → ObjectCall → Say → Client
let_go p link c say = after p.client (Asked link.centre (fetch_of p.client c.object) (fate_of p.armed say))

-- the ask for the object of a call, after which the state need not be asked for
pub record FetchesOnce (p : Progress) (link : Connection) (c : ObjectCall) (deeds : List Deed) : Type 0 where
  pub asks : Asks p.armed link.centre (fetch_of p.client c.object) (after_fetch p.client link.centre c) deeds
  pub last : asks_on p.client link.centre (fetch_of p.client c.object) (fate_of p.armed asks.say) ≡ false

-- the ask for what came to the object of a call, which the centre has pruned, and then the ask for its state, for which
-- no fault is armed
pub record FetchesTwice (p : Progress) (link : Connection) (c : ObjectCall) (deeds : List Deed) : Type 0 where
  pub first : List Deed
  pub rest : List Deed
  pub whole : deeds ≡ first ++ rest
  pub asks : Asks p.armed link.centre (fetch_of p.client c.object) (λ fate. []) first
  pub on : asks_on p.client link.centre (fetch_of p.client c.object) (fate_of p.armed asks.say) ≡ true
  pub then : Asks None link.centre (fetch_of (let_go p link c asks.say) c.object) (after_fetch (let_go p link c asks.say) link.centre c) rest

-- a fetch for a call over the link
abbrev pub Fetches : Progress → ObjectCall → Connection → List Deed → Type 0
Fetches p c link deeds = FetchesOnce p link c deeds ⊎ FetchesTwice p link c deeds

-- a fetch for a call
abbrev pub FetchDeeds : Progress → ObjectCall → List Deed → Type 0
FetchDeeds p c deeds = OrTells p.client.link (line.Unconnected p.client.client c.word c.shown) (Fetches p c) deeds

-- a call that has to have its object fetched
pub record CallsBehind (p : Progress) (c : ObjectCall) (deeds : List Deed) : Type 0 where
  pub rest : List Deed
  pub whole : deeds ≡ Did c.call (outcome_of p.client c.call) ∷ rest
  pub fetch : FetchDeeds p c rest

-- a call on an object whose first try ended so
abbrev pub CallDeeds : Progress → ObjectCall → Outcome → List Deed → Type 0
CallDeeds p c (Refused (NeedsFetch o)) deeds = CallsBehind p c deeds
CallDeeds p c outcome deeds = deeds ≡ calls_on p.client c

-- a change of an object as a call on it
abbrev pub change_call : ObjectId → ChangeOf → ObjectCall
change_call o change = record { word = word_of change; shown = o; object = o; call = ChangeCall o change }

-- a read of an object as a call on it
abbrev pub read_call : ObjectId → ObjectCall
read_call o = record { word = step.Read; shown = o; object = o; call = ReadCall o }

-- ---- bounded counters

-- the bounded counter of a share, as lines name it
abbrev pub counter_of_share : Share → ObjectId
counter_of_share share = counter_of share.name

-- the cell of what the holder gave to another one; to itself, what it was granted; and to 0, what it took
abbrev pub cell_to : Share → ℕ → ObjectId
cell_to share to = counter_of (cell_name share.name share.holder to)

-- the cells of a share: first those that count for the holder
abbrev pub share_cells : Share → List ObjectId
share_cells share = gain_cells share.name share.holder share.holders ++ loss_cells share.name share.holder share.holders

-- a call on a cell, for a step with this word
abbrev pub cell_call : StepWord → Share → ObjectId → Call → ObjectCall
cell_call word share cell call = record { word = word; shown = counter_of_share share; object = cell; call = call }

-- a read of a cell
abbrev pub cell_read : StepWord → Share → ObjectId → ObjectCall
cell_read word share cell = cell_call word share cell (ReadCall cell)

-- a change of a cell, which adds an amount
abbrev pub cell_inc : StepWord → Share → ObjectId → ℕ → ObjectCall
cell_inc word share cell amount = cell_call word share cell (ChangeCall cell (Inc (pos amount)))

-- the number that a deed read, where it did
abbrev pub number_got : Deed → Option ℤ
number_got (Did (ReadCall o) (Got (NumberValue number))) = Some number
number_got _ = None

-- the number that the last of the deeds read, where it did
abbrev pub last_number : List Deed → Option ℤ
last_number deeds = fold (λ found deed. number_got deed) None deeds

-- a client behind deeds of its step
abbrev pub behind : Progress → List Deed → Progress
behind p deeds = record p { client = after_all p.client deeds; armed = cond (list_any is_ask deeds) None p.armed }

-- what follows a read, by the number that it got; where it got none, nothing
abbrev pub FollowsRead : Option ℤ → (ℤ → List Deed → Type 0) → List Deed → Type 0
FollowsRead None Follows later = later ≡ []
FollowsRead (Some number) Follows later = Follows number later

-- a read of a cell, fetched where that is needed, and what follows it
pub record ReadsCell (p : Progress) (c : ObjectCall) (Follows : ℤ → Progress → List Deed → Type 0) (deeds : List Deed) : Type 0 where
  pub first : List Deed
  pub later : List Deed
  pub whole : deeds ≡ first ++ later
  pub reads : CallDeeds p c (outcome_of p.client c.call) first
  pub follows : FollowsRead (last_number first) (λ number. Follows number (behind p first)) later

-- reads of cells, one after another, behind those that gave these numbers, and what follows the last one. One that gets
-- no number is the last deed but for its line.
abbrev pub CellsDeeds : StepWord → Share → (List ℤ → Progress → List Deed → Type 0) → List ObjectId → List ℤ → Progress → List Deed → Type 0
CellsDeeds word share Follows [] numbers p deeds = Follows numbers p deeds
CellsDeeds word share Follows (cell ∷ cells) numbers p deeds = ReadsCell p (cell_read word share cell) (λ number q later. CellsDeeds word share Follows cells (numbers ++ number ∷ []) q later) deeds

-- the rights of a holder by the numbers of its cells. The sum wraps at the ends of 128 bits; in a book that fits it never
-- comes there.
abbrev pub rights_got : Share → List ℤ → ℤ
rights_got share numbers = int_wrap w128 (rights_of share.holders numbers)

-- what follows the reads of a step that takes or gives an amount: where the holder has less, the line that says so, and
-- else the change
abbrev pub AddsOwned : StepWord → Share → ℕ → ℕ → List ℤ → Progress → List Deed → Type 0
AddsOwned word share to amount numbers p deeds = deeds ≡ cond (int_lt (rights_got share numbers) (pos amount))
    (Told (line.Short p.client.client word (counter_of_share share) (rights_got share numbers)) ∷ [])
    (calls_on p.client (cell_inc word share (cell_to share to) amount))

-- a step that takes an amount, or gives it to another holder
abbrev pub TakingDeeds : Progress → StepWord → Share → ℕ → ℕ → List Deed → Type 0
TakingDeeds p word share to amount deeds = CellsDeeds word share (AddsOwned word share to amount) (share_cells share) [] p deeds

-- what follows the reads of a step that tells the rights
abbrev pub TellsRights : Share → List ℤ → Progress → List Deed → Type 0
TellsRights share numbers p deeds = deeds ≡ Told (line.RightsValue p.client.client (counter_of_share share) (rights_got share numbers)) ∷ []

-- a step that tells the rights
abbrev pub RightsDeeds : Progress → Share → List Deed → Type 0
RightsDeeds p share deeds = CellsDeeds step.Rights share (TellsRights share) (share_cells share) [] p deeds

-- ---- pushes

-- a push of a transaction over the link
abbrev pub Pushes : Progress → Connection → Tx → List Deed → Type 0
Pushes p link tx deeds = Asks p.armed link.centre (CommitAsk tx) (λ fate. told (push_line p.client.client tx.dot.number fate)) deeds

-- deeds over the link and the next commit for it; where no commit is left the line alone
abbrev pub OverNext : Client → Line → (Connection → Tx → List Deed → Type 0) → List Deed → Type 0
OverNext s none_left Over deeds = OrTells s.link (line.PushUnconnected s.client) (λ link. OrTells (next_commit s link) none_left (Over link)) deeds

-- whether a flush goes on after a push of which this became: the commit is at the centre
abbrev pub goes_on : Fate → Bool
goes_on (Heard (Stamped stamp)) = true
goes_on (Heard (Known through)) = true
goes_on _ = false

-- a push of a flush after which it goes on; it has no line of its own
pub record PushesOn (p : Progress) (deeds : List Deed) : Type 0 where
  pub link : Connection
  pub linked : p.client.link ≡ Some link
  pub tx : Tx
  pub next : next_commit p.client link ≡ Some tx
  pub say : Say
  pub again : Say
  pub on : goes_on (fate_of p.armed say) ≡ true
  pub asked : deeds ≡ Asked link.centre (CommitAsk tx) (fate_of p.armed say) ∷ copies p.armed link.centre (CommitAsk tx) again

-- the end of a flush: no commit is left, or a push after which it does not go on
abbrev pub FlushEnds : Progress → List Deed → Type 0
FlushEnds p deeds = OverNext p.client (line.Flushed p.client.client p.client.own) (λ link tx deeds. (push : Pushes p link tx deeds) × (goes_on (fate_of p.armed push.say) ≡ false)) deeds

-- a client after a push of these deeds, which used the fault that was armed
abbrev pub pushed : Progress → List Deed → Progress
pushed p deeds = record p { client = after_all p.client deeds; armed = None }

-- a flush: pushes after which it goes on, and then its end
pub data FlushDeeds : Progress → List Deed → Type 0 where
  flush_ends : {p : Progress} {deeds : List Deed} → FlushEnds p deeds → FlushDeeds p deeds
  flush_goes : {p : Progress} {deeds : List Deed} (first later : List Deed) → deeds ≡ first ++ later → PushesOn p first → FlushDeeds (pushed p first) later → FlushDeeds p deeds

-- ---- late copies

-- a late copy of a commit ask, unheard
abbrev pub AgainDeeds : ℕ → ℕ → ℕ → Tx → List Deed → Type 0
AgainDeeds client centre number tx deeds = (say : Say) × (deeds ≡ Asked centre (CommitAsk tx) (Unheard say) ∷ told (again_line client centre number (Unheard say)))

-- ---- steps

-- a refresh over the link, while a transaction of these updates is open or none is
abbrev pub RefreshDeeds : Progress → Option (List Update) → Connection → List Deed → Type 0
RefreshDeeds p (Some draft) link deeds = deeds ≡ Told (line.RefreshOpen p.client.client) ∷ []
RefreshDeeds p None link deeds = Asks p.armed link.centre (refresh_of p.client) (λ fate. told (refresh_line p.client.client (took p.client link.centre (refresh_of p.client) fate) fate)) deeds

-- the deeds are those of the step, for a client that has come so far
abbrev pub StepDeeds : Progress → ClientStep → List Deed → Type 0
StepDeeds p (Connect centre) deeds = Asks p.armed centre (hello_of p.client) (λ fate. told (hello_line p.client.client centre fate)) deeds
StepDeeds p Begin deeds = deeds ≡ calls p.client BeginCall
StepDeeds p (Change o change) deeds = CallDeeds p (change_call o change) (outcome_of p.client (ChangeCall o change)) deeds
StepDeeds p (Read o) deeds = CallDeeds p (read_call o) (outcome_of p.client (ReadCall o)) deeds
StepDeeds p (Grant share amount) deeds = deeds ≡ calls_on p.client (cell_inc step.Grant share (cell_to share share.holder) amount)
StepDeeds p (Give share to amount) deeds = TakingDeeds p step.Give share to amount deeds
StepDeeds p (Take share amount) deeds = TakingDeeds p step.Take share 0 amount deeds
StepDeeds p (Rights share) deeds = RightsDeeds p share deeds
StepDeeds p Commit deeds = deeds ≡ calls p.client CommitCall
StepDeeds p Abort deeds = deeds ≡ calls p.client AbortCall
StepDeeds p Push deeds = OverNext p.client (line.PushNone p.client.client) (Pushes p) deeds
StepDeeds p Flush deeds = FlushDeeds p deeds
StepDeeds p Refresh deeds = OrTells p.client.link (line.RefreshUnconnected p.client.client) (RefreshDeeds p p.client.draft) deeds
StepDeeds p (Again centre number) deeds = OrTells (commit_sent number p.notes) (line.AgainNone p.client.client centre number) (AgainDeeds p.client.client centre number) deeds
StepDeeds p (Arm fault) deeds = deeds ≡ []
StepDeeds p (Look centre object) deeds = (seen : Option Seen) × (deeds ≡ looks p.client.client centre object seen)

-- a client after a step with these notes
abbrev pub stepped : Progress → ClientStep → List Note → Progress
stepped p step notes = record {
  client = fold (λ s note. after s note.deed) p.client notes;
  armed = armed_after p.armed step (map (λ note. note.deed) notes);
  notes = p.notes ++ notes;
}
