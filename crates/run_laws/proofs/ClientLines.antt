-- A client's step tells the values that it reads, and no others; but one of a bounded counter reads cells, and tells none.
use Rattle.std.proofs.Common.{◌≡◌, ℕ, ℤ, pos, int_lt, inl, inr, ⊎_elim, Bool, true, false, cond, List, [], ◌∷◌, ◌++◌, Option, Some, None, refl, sym, ap, ◌∙◌, subst}
use Rattle.std.specs.List.{filter_map, cons_option, range_with_len}
use Rattle.std.specs.Option.{option_map}
use Rattle.std.proofs.lemmas.List.Elements.{filter_map-append}
use Rattle.list_core.specs.Members.{In}
use Rattle.list_core.proofs.Members.{In_either, In_from_map}
use Rattle.tx_core.specs.declared.tx.Tx.{Tx}
use Rattle.tx_core.specs.declared.tx.Update.{Update}
use Rattle.ids_core.specs.declared.object.ObjectId.{ObjectId}
use Rattle.obj_bounded.specs.CellNames.{cell_name, counter_of, gain_cells, gain_names, loss_cells, loss_names, other_holders}
use Rattle.dc_talk.specs.declared.ask.Ask.{Ask}
use Rattle.dc_talk.specs.declared.ask.Ask.TheVariants.{Commit as CommitAsk}
use Rattle.dc_talk.specs.declared.say.Say.{Say}
use Rattle.dc_talk.specs.declared.say.Say.TheVariants.{Welcome, Lacks, Snap, Pruned, Object, Changes}
use Rattle.dc_talk.specs.declared.calls.Connection.{Connection}
use Rattle.dc_talk.specs.declared.calls.Change.{Change as ChangeOf}
use Rattle.dc_talk.specs.declared.calls.Change.TheVariants.{Inc, Write, Add, Remove, Put, Erase}
use Rattle.dc_talk.specs.declared.calls.Call.{Call}
use Rattle.dc_talk.specs.declared.calls.Call.TheVariants.{Begin as BeginCall, Change as ChangeCall, Read as ReadCall, Commit as CommitCall, Abort as AbortCall}
use Rattle.dc_talk.specs.declared.calls.Refusal.TheVariants.{AlreadyOpen, ClockFull, NotOpen, TooManyUpdates, NeedsFetch, TooManyTags, PendingFull}
use Rattle.dc_talk.specs.declared.calls.Outcome.{Outcome}
use Rattle.dc_talk.specs.declared.calls.Outcome.TheVariants.{Got, Number, Nothing, Refused}
use Rattle.dc_talk.specs.declared.log.Deed.{Deed}
use Rattle.dc_talk.specs.declared.log.Deed.TheVariants.{Did, Asked, Told}
use Rattle.dc_talk.specs.declared.log.Fate.{Fate}
use Rattle.dc_talk.specs.declared.log.Fate.TheVariants.{Heard, Unheard}
use Rattle.dc_talk.specs.declared.line.StepWord.{StepWord}
use Rattle.dc_talk.specs.declared.line.StepWord.TheVariants as step
use Rattle.dc_talk.specs.declared.line.Line.{Line}
use Rattle.dc_talk.specs.declared.line.Line.TheVariants as line
use Rattle.dc_talk.specs.declared.seen.Seen.{Seen}
use Rattle.dc_talk.specs.Logs.{commit_sent}
use Rattle.dc_talk.specs.Clients.{Client}
use Rattle.dc_talk.specs.Calls.{outcome_of}
use Rattle.dc_talk.specs.Rule.{after, next_commit, hello_of, refresh_of, fetch_of}
use Rattle.script_core.specs.declared.object_call.ObjectCall.{ObjectCall}
use Rattle.script_core.specs.declared.steps.Share.{Share}
use Rattle.script_core.specs.declared.steps.AskFault.{AskFault}
use Rattle.script_core.specs.declared.steps.AskFault.TheVariants.{LoseAsk, LoseReply, Twice}
use Rattle.script_core.specs.declared.steps.ClientStep.{ClientStep}
use Rattle.script_core.specs.declared.steps.ClientStep.TheVariants.{Connect, Begin, Change, Read, Grant, Give, Take, Rights, Commit, Abort, Push, Flush, Refresh, Again, Arm, Look}
use Rattle.script_core.specs.Deeds.{Progress, StepDeeds, Asks, OrTells, OverNext, Pushes, PushesOn, Fetches, FetchDeeds, CallDeeds, FlushDeeds, flush_ends, flush_goes, RefreshDeeds, AgainDeeds, CellsDeeds, AddsOwned, TakingDeeds, TellsRights, RightsDeeds, after_fetch, let_go, calls, calls_on, call_line, cell_inc, cell_line, cell_read, cell_to, change_call, is_of_rights, read_call, rights_got, share_cells, word_of, copies, fate_of, fetch_line, goes_on, hello_line, again_line, push_line, push_end, refresh_line, miss_of, pushed, told, took}
use Rattle.script_core.specs.Taps.{looks}
use Rattle.run_book.proofs.CellReads.{cells_hold}
use Rattle.run_book.proofs.Fetches.{LastAsk, fetches_hold}
use Rattle.run_steps.specs.Calls.{IsCallOf, IsCellRead, adds_to}
use Rattle.run_steps.proofs.EachDeed.{step_each}
use Rattle.run_steps.proofs.Who.{after_who}
use Rattle.run_laws.specs.ReadLines.{value_told, value_due, IsNamedAsCell, ReadsNoOther, ReadsCellsAlone, TellsReads, TellsPart}

-- ---- deeds

-- deeds that tell what they read, behind such deeds
pub both_told : (c : ℕ) (first later : List Deed) → TellsReads c first → TellsReads c later → TellsReads c (first ++ later)
both_told c first later one two =
    filter_map-append value_told first later
    ∙ ((λ i. one i ++ two i) ∙ sym (filter_map-append (value_due c) first later))

-- a line that has no value
pub plain_told : (c : ℕ) (l : Line) → value_told (Told l) ≡ None → TellsReads c (Told l ∷ [])
plain_told c l plain = ap (λ o. cons_option o []) plain

-- a line that is made of something, and has no value
pub mapped_told : {X : Type 0} (c : ℕ) (f : X → Line) (o : Option X) → ((x : X) → value_told (Told (f x)) ≡ None) → TellsReads c (told (option_map f o))
mapped_told c f None plain = refl
mapped_told c f (Some x) plain = plain_told c (f x) (plain x)

-- what holds of each of two lists of deeds holds of the one that is chosen
pub either_holds : (P : List Deed → Type 0) (test : Bool) (xs ys : List Deed) → P xs → P ys → P (cond test xs ys)
either_holds P true xs ys first second = first
either_holds P false xs ys first second = second

-- what holds of deeds over what is there, and of the line alone, holds of either
pub over_holds : {X : Type 0} (P : List Deed → Type 0) (o : Option X) (l : Line) (Over : X → List Deed → Type 0) (deeds : List Deed) → P (Told l ∷ []) → ((x : X) → Over x deeds → P deeds) → OrTells o l Over deeds → P deeds
over_holds P None l Over deeds alone each are = subst P (sym are) alone
over_holds P (Some x) l Over deeds alone each over = each x over

module _ (c : ℕ) where
  -- ---- lines without a value

  hello_told : (client centre : ℕ) (fate : Fate) → TellsReads c (told (hello_line client centre fate))
  hello_told client centre (Heard (Welcome through)) = refl
  hello_told client centre (Heard (Lacks of need have)) = refl
  hello_told client centre fate = mapped_told c (line.ConnectMissed client centre) (miss_of fate) (λ miss. refl)

  pub fetch_line_told : (client : ℕ) (call : ObjectCall) (fate : Fate) → TellsReads c (told (fetch_line client call fate))
  fetch_line_told client call (Heard (Lacks of need have)) = refl
  fetch_line_told client call (Heard (Pruned centre base low)) = refl
  fetch_line_told client call (Heard (Object state)) = refl
  fetch_line_told client call (Heard (Changes tail)) = refl
  fetch_line_told client call fate = mapped_told c (line.FetchMissed client call.word call.shown) (miss_of fate) (λ miss. refl)

  push_told : (client number : ℕ) (fate : Fate) → TellsReads c (told (push_line client number fate))
  push_told client number fate = mapped_told c (line.Push client number) (push_end fate) (λ end. refl)

  again_told : (client centre number : ℕ) (fate : Fate) → TellsReads c (told (again_line client centre number fate))
  again_told client centre number fate = mapped_told c (line.Again client centre number) (push_end fate) (λ end. refl)

  refresh_told : (client : ℕ) (test : Bool) (fate : Fate) → TellsReads c (told (refresh_line client test fate))
  refresh_told client true (Heard (Snap vector mine top)) = refl
  refresh_told client false (Heard (Snap vector mine top)) = refl
  refresh_told client test (Heard (Lacks of need have)) = refl
  refresh_told client test fate = mapped_told c (line.RefreshMissed client) (miss_of fate) (λ miss. refl)

  -- ---- asks

  -- a second copy tells nothing
  copies_told : (armed : Option AskFault) (i : ℕ) (ask : Ask) (say : Say) → TellsReads c (copies armed i ask say)
  copies_told (Some Twice) i ask say = refl
  copies_told (Some LoseAsk) i ask say = refl
  copies_told (Some LoseReply) i ask say = refl
  copies_told None i ask say = refl

  -- an ask tells what follows it
  asks_told : (armed : Option AskFault) (i : ℕ) (ask : Ask) (following : Fate → List Deed) (deeds : List Deed) → ((fate : Fate) → TellsReads c (following fate)) → Asks armed i ask following deeds → TellsReads c deeds
  asks_told armed i ask following deeds rest asks =
      subst (TellsReads c) (sym asks.whole) (both_told c (copies armed i ask asks.again) (following (fate_of armed asks.say)) (copies_told armed i ask asks.again) (rest (fate_of armed asks.say)))

  -- deeds over what is there, or a line
  over_told : {X : Type 0} (o : Option X) (l : Line) (Over : X → List Deed → Type 0) (deeds : List Deed) → value_told (Told l) ≡ None → ((x : X) → Over x deeds → TellsReads c deeds) → OrTells o l Over deeds → TellsReads c deeds
  over_told o l Over deeds plain each over = over_holds (TellsReads c) o l Over deeds (plain_told c l plain) each over

  -- deeds over the link and the next commit
  next_told : (s : Client) (l : Line) (Over : Connection → Tx → List Deed → Type 0) (deeds : List Deed) → value_told (Told l) ≡ None → ((link : Connection) (tx : Tx) → Over link tx deeds → TellsReads c deeds) → OverNext s l Over deeds → TellsReads c deeds
  next_told s l Over deeds plain each over =
      over_told s.link (line.PushUnconnected s.client) (λ link. OrTells (next_commit s link) l (Over link)) deeds refl
      (λ link next. over_told (next_commit s link) l (Over link) deeds plain (each link) next) over

  pushes_told : (p : Progress) (deeds : List Deed) (link : Connection) (tx : Tx) → Pushes p link tx deeds → TellsReads c deeds
  pushes_told p deeds link tx push = asks_told p.armed link.centre (CommitAsk tx) (λ fate. told (push_line p.client.client tx.dot.number fate)) deeds (push_told p.client.client tx.dot.number) push

  refreshes_told : (p : Progress) (draft : Option (List Update)) (deeds : List Deed) (link : Connection) → RefreshDeeds p draft link deeds → TellsReads c deeds
  refreshes_told p (Some updates) deeds link are = subst (TellsReads c) (sym are) refl
  refreshes_told p None deeds link asks =
      asks_told p.armed link.centre (refresh_of p.client) (λ fate. told (refresh_line p.client.client (took p.client link.centre (refresh_of p.client) fate) fate)) deeds
      (λ fate. refresh_told p.client.client (took p.client link.centre (refresh_of p.client) fate) fate) asks

  -- a late copy
  late_told : (client centre number : ℕ) (tx : Tx) (deeds : List Deed) → AgainDeeds client centre number tx deeds → TellsReads c deeds
  late_told client centre number tx deeds are = subst (TellsReads c) (sym are.1) (again_told client centre number (Unheard are.0))

-- ---- calls

-- a call tells the value that it got
call_told : (client : ℕ) (call : Call) (out : Outcome) → TellsReads client (Did call out ∷ told (call_line client call out))
call_told client BeginCall (Refused AlreadyOpen) = refl
call_told client BeginCall (Refused ClockFull) = refl
call_told client BeginCall out = refl
call_told client (ChangeCall o change) (Refused NotOpen) = refl
call_told client (ChangeCall o change) (Refused (TooManyUpdates limit)) = refl
call_told client (ChangeCall o change) (Refused (TooManyTags count)) = refl
call_told client (ChangeCall o change) out = refl
call_told client (ReadCall o) (Got value) = refl
call_told client (ReadCall o) out = refl
call_told client CommitCall (Number number) = refl
call_told client CommitCall Nothing = refl
call_told client CommitCall (Refused NotOpen) = refl
call_told client CommitCall (Refused (PendingFull limit)) = refl
call_told client CommitCall out = refl
call_told client AbortCall (Refused NotOpen) = refl
call_told client AbortCall out = refl

calls_told : (s : Client) (call : Call) → TellsReads s.client (calls s call)
calls_told s call = call_told s.client call (outcome_of s call)

-- for a call that has to have its object fetched none is due
none_due : (client : ℕ) (call : Call) (o : ObjectId) → value_due client (Did call (Refused (NeedsFetch o))) ≡ None
none_due client BeginCall o = refl
none_due client (ChangeCall object change) o = refl
none_due client (ReadCall object) o = refl
none_due client CommitCall o = refl
none_due client AbortCall o = refl

-- a call on an object
calls_on_told : (s : Client) (call : ObjectCall) → is_of_rights call.word ≡ false → TellsReads s.client (calls_on s call)
calls_on_told s call plain =
    let out = outcome_of s call.call in
    subst (λ of. TellsReads s.client (Did call.call out ∷ told (cond of (cell_line s.client call out) (call_line s.client call.call out)))) (sym plain) (calls_told s call.call)

-- a call that is made again, by the client that is still the same one
again_called : (s : Client) (deed : Deed) (call : ObjectCall) → is_of_rights call.word ≡ false → TellsReads s.client (calls_on (after s deed) call)
again_called s deed call plain = subst (λ n. TellsReads n (calls_on (after s deed) call)) (after_who s deed) (calls_on_told (after s deed) call plain)

-- behind the last ask of a fetch the call is made again, or a line says why not
last_told : (c : ℕ) (call : ObjectCall) (link : Connection) (s : Client) (armed : Option AskFault) (deeds : List Deed) → s.client ≡ c → is_of_rights call.word ≡ false → LastAsk call link s armed deeds → TellsReads c deeds
last_told c call link s armed deeds who plain asks = asks_told c armed link.centre (fetch_of s call.object) (after_fetch s link.centre call) deeds (λ fate.
    either_holds (TellsReads c) (took s link.centre (fetch_of s call.object) fate)
    (calls_on (after s (Asked link.centre (fetch_of s call.object) fate)) call) (told (fetch_line s.client call fate))
    (subst (λ n. TellsReads n (calls_on (after s (Asked link.centre (fetch_of s call.object) fate)) call)) who (again_called s (Asked link.centre (fetch_of s call.object) fate) call plain))
    (fetch_line_told c s.client call fate)) asks

fetch_told : (p : Progress) (call : ObjectCall) (deeds : List Deed) → is_of_rights call.word ≡ false → FetchDeeds p call deeds → TellsReads p.client.client deeds
fetch_told p call deeds plain fetch =
    let c = p.client.client in
    over_told c p.client.link (line.Unconnected c call.word call.shown) (Fetches p call) deeds refl
    (λ link fetches. fetches_hold (TellsReads c) (both_told c) p call link deeds
    (λ first asks. asks_told c p.armed link.centre (fetch_of p.client call.object) (λ fate. []) first (λ fate. refl) asks)
    (λ last asks. last_told c call link p.client p.armed last refl plain asks)
    (λ say last asks. last_told c call link (let_go p link call say) None last (after_who p.client (Asked link.centre (fetch_of p.client call.object) (fate_of p.armed say))) plain asks) fetches) fetch

-- a call on an object whose first try ended so
object_told : (p : Progress) (call : ObjectCall) (out : Outcome) (deeds : List Deed) → is_of_rights call.word ≡ false → outcome_of p.client call.call ≡ out → CallDeeds p call out deeds → TellsReads p.client.client deeds
object_told p call (Refused (NeedsFetch o)) deeds plain is behind =
    let c = p.client.client in
    let first : TellsReads c (Did call.call (Refused (NeedsFetch o)) ∷ behind.rest) = fetch_told p call behind.rest plain behind.fetch ∙ sym (ap (λ due. cons_option due (filter_map (value_due c) behind.rest)) (none_due c call.call o)) in
    subst (TellsReads c) (sym behind.whole) (subst (λ out. TellsReads c (Did call.call out ∷ behind.rest)) (sym is) first)
object_told p call _ deeds plain is are = subst (TellsReads p.client.client) (sym are) (calls_on_told p.client call plain)

-- the word of a change is of no bounded counter
plain_word : (change : ChangeOf) → is_of_rights (word_of change) ≡ false
plain_word (Inc delta) = refl
plain_word (Write word) = refl
plain_word (Add word) = refl
plain_word (Remove word) = refl
plain_word (Put key word) = refl
plain_word (Erase key) = refl

-- ---- bounded counters

-- deeds that tell no value
abbrev pub TellNone : List Deed → Type 0
TellNone deeds = filter_map value_told deeds ≡ []

-- so it is of both of two
both_tell_none : (first later : List Deed) → TellNone first → TellNone later → TellNone (first ++ later)
both_tell_none first later one two = filter_map-append value_told first later ∙ (λ i. one i ++ two i)

-- a line that tells what was read where nothing was
pub line_tells_none : (c : ℕ) (l : Option Line) → TellsReads c (told l) → TellNone (told l)
line_tells_none c None tells = refl
line_tells_none c (Some line) tells = tells

-- the line of a call on a cell
cell_line_none : (client : ℕ) (call : ObjectCall) (out : Outcome) → TellNone (told (cell_line client call out))
cell_line_none client call (Refused NotOpen) = refl
cell_line_none client call (Refused (TooManyUpdates limit)) = refl
cell_line_none client call _ = refl

-- a call on a cell
on_cell_none : (s : Client) (call : ObjectCall) → is_of_rights call.word ≡ true → TellNone (calls_on s call)
on_cell_none s call of =
    let out = outcome_of s call.call in
    subst (λ of. TellNone (told (cond of (cell_line s.client call out) (call_line s.client call.call out)))) (sym of) (cell_line_none s.client call out)

-- a second copy of an ask
pub copies_none : (armed : Option AskFault) (i : ℕ) (ask : Ask) (say : Say) → TellNone (copies armed i ask say)
copies_none (Some Twice) i ask say = refl
copies_none (Some LoseAsk) i ask say = refl
copies_none (Some LoseReply) i ask say = refl
copies_none None i ask say = refl

-- an ask, and what follows it
asks_none : (armed : Option AskFault) (i : ℕ) (ask : Ask) (following : Fate → List Deed) (deeds : List Deed) → ((fate : Fate) → TellNone (following fate)) → Asks armed i ask following deeds → TellNone deeds
asks_none armed i ask following deeds rest asks = subst TellNone (sym asks.whole)
    (both_tell_none (copies armed i ask asks.again) (following (fate_of armed asks.say)) (copies_none armed i ask asks.again) (rest (fate_of armed asks.say)))

-- behind the last ask of a fetch the call is made again, or a line says why not
last_none : (call : ObjectCall) (link : Connection) (s : Client) (armed : Option AskFault) (deeds : List Deed) → is_of_rights call.word ≡ true → LastAsk call link s armed deeds → TellNone deeds
last_none call link s armed deeds of asks = asks_none armed link.centre ask (after_fetch s link.centre call) deeds following asks
  where
    ask : Ask
    ask = fetch_of s call.object

    following : (fate : Fate) → TellNone (after_fetch s link.centre call fate)
    following fate = either_holds TellNone (took s link.centre ask fate) (calls_on (after s (Asked link.centre ask fate)) call) (told (fetch_line s.client call fate))
        (on_cell_none (after s (Asked link.centre ask fate)) call of) (line_tells_none s.client (fetch_line s.client call fate) (fetch_line_told s.client s.client call fate))

fetch_none : (p : Progress) (call : ObjectCall) (deeds : List Deed) → is_of_rights call.word ≡ true → FetchDeeds p call deeds → TellNone deeds
fetch_none p call deeds of fetch = over_holds TellNone p.client.link (line.Unconnected p.client.client call.word call.shown) (Fetches p call) deeds refl
    (λ link fetches. fetches_hold TellNone both_tell_none p call link deeds
    (λ first asks. asks_none p.armed link.centre (fetch_of p.client call.object) (λ fate. []) first (λ fate. refl) asks)
    (λ last asks. last_none call link p.client p.armed last of asks)
    (λ say last asks. last_none call link (let_go p link call say) None last of asks) fetches) fetch

-- a call on a cell whose first try ended so
on_object_none : (p : Progress) (call : ObjectCall) (out : Outcome) (deeds : List Deed) → is_of_rights call.word ≡ true → CallDeeds p call out deeds → TellNone deeds
on_object_none p call (Refused (NeedsFetch o)) deeds of behind = subst TellNone (sym behind.whole) (fetch_none p call behind.rest of behind.fetch)
on_object_none p call _ deeds of are = subst TellNone (sym are) (on_cell_none p.client call of)

-- reads of the cells of a share, and what follows them
cells_none : (word : StepWord) (share : Share) (Follows : List ℤ → Progress → List Deed → Type 0) (p : Progress) (deeds : List Deed) → is_of_rights word ≡ true → ((numbers : List ℤ) (q : Progress) (later : List Deed) → Follows numbers q later → TellNone later) → CellsDeeds word share Follows (share_cells share) [] p deeds → TellNone deeds
cells_none word share Follows p deeds of each reads =
    cells_hold (λ q. Unit {0}) TellNone refl both_tell_none word share Follows (λ numbers q later keeps. each numbers q later) (share_cells share)
    (λ cell q first i keeps are. (on_object_none q (cell_read word share cell) (outcome_of q.client (ReadCall cell)) first of are, tt)) [] p deeds tt reads

-- a step that takes an amount, or gives it
pub taking_none : (p : Progress) (word : StepWord) (share : Share) (to amount : ℕ) (deeds : List Deed) → is_of_rights word ≡ true → TakingDeeds p word share to amount deeds → TellNone deeds
taking_none p word share to amount deeds of taking =
    cells_none word share (AddsOwned word share to amount) p deeds of (λ numbers q later are. subst TellNone (sym are)
    (either_holds TellNone (int_lt (rights_got share numbers) (pos amount)) _ _ refl (on_cell_none q.client (cell_inc word share (cell_to share to) amount) of))) taking

-- a step that tells the rights
pub rights_none : (p : Progress) (share : Share) (deeds : List Deed) → RightsDeeds p share deeds → TellNone deeds
rights_none p share deeds rights = cells_none step.Rights share (TellsRights share) p deeds refl (λ numbers q later are. subst TellNone (sym are) refl) rights

-- a cell of a share is a counter with such a name
named_cell : (share : Share) (cell : ObjectId) → In cell (share_cells share) → IsNamedAsCell cell
named_cell share cell i = ⊎_elim gained lost (In_either (gain_cells share.name share.holder share.holders) (loss_cells share.name share.holder share.holders) cell i)
  where
    named : (from to : ℕ) → IsNamedAsCell (counter_of (cell_name share.name from to))
    named from to = (refl, refl)

    as_counter : (name : List ℕ) (from to : ℕ) → cell_name share.name from to ≡ name → counter_of name ≡ cell → IsNamedAsCell cell
    as_counter name from to is same = subst IsNamedAsCell same (subst (λ name. IsNamedAsCell (counter_of name)) is (named from to))

    gained : In cell (gain_cells share.name share.holder share.holders) → IsNamedAsCell cell
    gained j =
        let name = In_from_map counter_of (gain_names share.name share.holder share.holders) cell j in
        let from = In_from_map (λ from. cell_name share.name from share.holder) (range_with_len 1 share.holders) name.0 name.1 in
        as_counter name.0 from.0 share.holder (sym from.2) (sym name.2)

    lost : In cell (loss_cells share.name share.holder share.holders) → IsNamedAsCell cell
    lost j =
        let name = In_from_map counter_of (loss_names share.name share.holder share.holders) cell j in
        let to = In_from_map (cell_name share.name share.holder) (other_holders share.holder share.holders ++ 0 ∷ []) name.0 name.1 in
        as_counter name.0 share.holder to.0 (sym to.2) (sym name.2)

-- a read of one is a read of such a counter
read_named : (share : Share) (call : Call) (outcome : Outcome) → IsCellRead share call → ReadsNoOther (Did call outcome)
read_named share call outcome is = subst (λ call. ReadsNoOther (Did call outcome)) (sym is.1.1) (named_cell share is.0 is.1.0)

-- and what adds to one is no read
adds_named : (share : Share) (to amount : ℕ) (call : Call) (outcome : Outcome) → call ≡ adds_to share to amount → ReadsNoOther (Did call outcome)
adds_named share to amount call outcome is = subst (λ call. ReadsNoOther (Did call outcome)) (sym is) tt

-- a step that makes no other calls than such
cells_alone : (p : Progress) (does : ClientStep) (deeds : List Deed) → TellNone deeds → ((call : Call) (outcome : Outcome) → IsCallOf does call → ReadsNoOther (Did call outcome)) → StepDeeds p does deeds → ReadsCellsAlone deeds
cells_alone p does deeds silent calls are = record { silent = silent; cells = step_each ReadsNoOther (λ i ask fate. tt) (λ line plain. tt) p does deeds calls (λ centre object seen is. tt) are }

-- ---- a flush

push_on_told : (c : ℕ) (p : Progress) (deeds : List Deed) → PushesOn p deeds → TellsReads c deeds
push_on_told c p deeds on = subst (TellsReads c) (sym on.asked) (copies_told c p.armed on.link.centre (CommitAsk on.tx) on.again)

flush_told : (c : ℕ) (p : Progress) (deeds : List Deed) → FlushDeeds p deeds → TellsReads c deeds
flush_told c p deeds (flush_ends ends) =
    next_told c p.client (line.Flushed p.client.client p.client.own) (λ link tx deeds. (push : Pushes p link tx deeds) × (goes_on (fate_of p.armed push.say) ≡ false)) deeds refl
    (λ link tx ends. pushes_told c p deeds link tx ends.0) ends
flush_told c p deeds (flush_goes first later parts on rest) =
    subst (TellsReads c) (sym parts) (both_told c first later (push_on_told c p first on) (flush_told c (pushed p first) later rest))

-- ---- a step

-- the line of a look has no value that was read
look_told : (c client centre : ℕ) (object : ObjectId) (seen : Option Seen) → TellsReads c (looks client centre object seen)
look_told c client centre object None = refl
look_told c client centre object (Some seen) = plain_told c (line.Look client centre object seen) refl

-- a client's step tells the values that it reads, and no others, or reads cells and tells none
pub step_told : (p : Progress) (step : ClientStep) (deeds : List Deed) → StepDeeds p step deeds → TellsPart p.client.client deeds
step_told p (Connect centre) deeds hello = inl (asks_told p.client.client p.armed centre (hello_of p.client) (λ fate. told (hello_line p.client.client centre fate)) deeds (hello_told p.client.client p.client.client centre) hello)
step_told p Begin deeds are = inl (subst (TellsReads p.client.client) (sym are) (calls_told p.client BeginCall))
step_told p (Change o change) deeds are = inl (object_told p (change_call o change) (outcome_of p.client (ChangeCall o change)) deeds (plain_word change) refl are)
step_told p (Read o) deeds are = inl (object_told p (read_call o) (outcome_of p.client (ReadCall o)) deeds refl refl are)
step_told p (Grant share amount) deeds are =
    inr (cells_alone p (Grant share amount) deeds (subst TellNone (sym are) (on_cell_none p.client (cell_inc step.Grant share (cell_to share share.holder) amount) refl)) (adds_named share share.holder amount) are)
step_told p (Give share to amount) deeds taking =
    inr (cells_alone p (Give share to amount) deeds (taking_none p step.Give share to amount deeds refl taking) (λ call outcome is. ⊎_elim (read_named share call outcome) (adds_named share to amount call outcome) is) taking)
step_told p (Take share amount) deeds taking =
    inr (cells_alone p (Take share amount) deeds (taking_none p step.Take share 0 amount deeds refl taking) (λ call outcome is. ⊎_elim (read_named share call outcome) (adds_named share 0 amount call outcome) is) taking)
step_told p (Rights share) deeds rights = inr (cells_alone p (Rights share) deeds (rights_none p share deeds rights) (read_named share) rights)
step_told p Commit deeds are = inl (subst (TellsReads p.client.client) (sym are) (calls_told p.client CommitCall))
step_told p Abort deeds are = inl (subst (TellsReads p.client.client) (sym are) (calls_told p.client AbortCall))
step_told p Push deeds push = inl (next_told p.client.client p.client (line.PushNone p.client.client) (Pushes p) deeds refl (λ link tx push. pushes_told p.client.client p deeds link tx push) push)
step_told p Flush deeds flush = inl (flush_told p.client.client p deeds flush)
step_told p Refresh deeds refresh = inl (over_told p.client.client p.client.link (line.RefreshUnconnected p.client.client) (RefreshDeeds p p.client.draft) deeds refl (λ link refresh. refreshes_told p.client.client p p.client.draft deeds link refresh) refresh)
step_told p (Again centre number) deeds again = inl (over_told p.client.client (commit_sent number p.notes) (line.AgainNone p.client.client centre number) (AgainDeeds p.client.client centre number) deeds refl (λ tx again. late_told p.client.client p.client.client centre number tx deeds again) again)
step_told p (Arm fault) deeds are = inl (subst (TellsReads p.client.client) (sym are) refl)
step_told p (Look centre object) deeds are = inl (subst (TellsReads p.client.client) (sym are.1) (look_told p.client.client p.client.client centre object are.0))
