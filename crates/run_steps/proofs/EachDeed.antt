-- What holds of each ask, of each line but those of looks, of the calls of a step, and of what it sees, holds of each
-- of its deeds.
use Rattle.std.proofs.Common.{◌≡◌, ℕ, ℤ, pos, int_lt, inl, inr, Bool, true, false, cond, List, [], ◌++◌, Option, Some, None, refl, sym, subst}
use Rattle.std.specs.Prelude.{All}
use Rattle.std.proofs.lemmas.List.Elements.{All-nil, All-cons, All-append}
use Rattle.list_core.specs.Members.{In}
use Rattle.ids_core.specs.declared.object.ObjectId.{ObjectId}
use Rattle.tx_core.specs.declared.tx.Tx.{Tx}
use Rattle.tx_core.specs.declared.tx.Update.{Update}
use Rattle.dc_talk.specs.declared.ask.Ask.{Ask}
use Rattle.dc_talk.specs.declared.ask.Ask.TheVariants.{Commit as CommitAsk}
use Rattle.dc_talk.specs.declared.say.Say.{Say}
use Rattle.dc_talk.specs.declared.calls.Connection.{Connection}
use Rattle.dc_talk.specs.declared.calls.Call.{Call}
use Rattle.dc_talk.specs.declared.calls.Call.TheVariants.{Begin as BeginCall, Change as ChangeCall, Read as ReadCall, Commit as CommitCall, Abort as AbortCall}
use Rattle.dc_talk.specs.declared.calls.Refusal.TheVariants.{NeedsFetch}
use Rattle.dc_talk.specs.declared.calls.Outcome.{Outcome}
use Rattle.dc_talk.specs.declared.calls.Outcome.TheVariants.{Refused}
use Rattle.dc_talk.specs.declared.log.Deed.{Deed}
use Rattle.dc_talk.specs.declared.log.Deed.TheVariants.{Did, Asked, Told}
use Rattle.dc_talk.specs.declared.log.Fate.{Fate}
use Rattle.dc_talk.specs.declared.log.Fate.TheVariants.{Unheard}
use Rattle.dc_talk.specs.declared.line.StepWord.{StepWord}
use Rattle.dc_talk.specs.declared.line.StepWord.TheVariants as step
use Rattle.dc_talk.specs.declared.line.Line.{Line}
use Rattle.dc_talk.specs.declared.line.Line.TheVariants as line
use Rattle.dc_talk.specs.declared.seen.Seen.{Seen}
use Rattle.dc_talk.specs.Logs.{commit_sent}
use Rattle.dc_talk.specs.Clients.{Client}
use Rattle.dc_talk.specs.Calls.{outcome_of}
use Rattle.dc_talk.specs.Rule.{after, next_commit, hello_of, refresh_of, fetch_of}
use Rattle.script_core.specs.declared.object_call.ObjectCall.{ObjectCall}
use Rattle.script_core.specs.declared.steps.Share.{Share}
use Rattle.script_core.specs.declared.steps.AskFault.{AskFault}
use Rattle.script_core.specs.declared.steps.AskFault.TheVariants.{LoseAsk, LoseReply, Twice}
use Rattle.script_core.specs.declared.steps.ClientStep.{ClientStep}
use Rattle.script_core.specs.declared.steps.ClientStep.TheVariants.{Connect, Begin, Change, Read, Grant, Give, Take, Rights, Commit, Abort, Push, Flush, Refresh, Again, Arm, Look}
use Rattle.script_core.specs.Deeds.{Progress, StepDeeds, Asks, OrTells, OverNext, Pushes, PushesOn, Fetches, FetchDeeds, CallDeeds, FlushDeeds, flush_ends, flush_goes, RefreshDeeds, AgainDeeds, CellsDeeds, AddsOwned, TakingDeeds, TellsRights, RightsDeeds, after_fetch, let_go, calls, calls_on, call_line, cell_inc, cell_read, cell_to, change_call, counter_of_share, line_on, read_call, rights_got, share_cells, copies, fate_of, fetch_line, goes_on, hello_line, push_line, pushed, refresh_line, again_line, told, took}
use Rattle.script_core.specs.Taps.{looks}
use Rattle.run_book.proofs.CellReads.{cells_hold}
use Rattle.run_book.proofs.Fetches.{LastAsk, fetches_hold}
use Rattle.run_steps.specs.Calls.{IsCallOf, adds_to}
use Rattle.run_steps.specs.Looks.{look_told}
use Rattle.run_steps.proofs.PlainLines.{IsPlainOr, plain_again, plain_call, plain_fetch, plain_hello, plain_on, plain_push, plain_refresh}

module _ (P : Deed → Type 0) (asked : (i : ℕ) (ask : Ask) (fate : Fate) → P (Asked i ask fate)) (line_told : (line : Line) → look_told line ≡ None → P (Told line)) where
  told_each : (l : Option Line) → IsPlainOr l → All P (told l)
  told_each None plain = All-nil P
  told_each (Some line) plain = All-cons P (Told line) [] (line_told line plain) (All-nil P)

  either_each : (test : Bool) (xs ys : List Deed) → All P xs → All P ys → All P (cond test xs ys)
  either_each true xs ys first second = first
  either_each false xs ys first second = second

  copies_each : (armed : Option AskFault) (i : ℕ) (ask : Ask) (say : Say) → All P (copies armed i ask say)
  copies_each (Some Twice) i ask say = All-cons P (Asked i ask (Unheard say)) [] (asked i ask (Unheard say)) (All-nil P)
  copies_each (Some LoseAsk) i ask say = All-nil P
  copies_each (Some LoseReply) i ask say = All-nil P
  copies_each None i ask say = All-nil P

  asks_each : (armed : Option AskFault) (i : ℕ) (ask : Ask) (following : Fate → List Deed) (deeds : List Deed) → ((fate : Fate) → All P (following fate)) → Asks armed i ask following deeds → All P deeds
  asks_each armed i ask following deeds rest asks = subst (All P) (sym asks.whole)
      (All-cons P (Asked i ask (fate_of armed asks.say)) (copies armed i ask asks.again ++ following (fate_of armed asks.say)) (asked i ask (fate_of armed asks.say))
      (All-append P (copies armed i ask asks.again) (following (fate_of armed asks.say)) (copies_each armed i ask asks.again) (rest (fate_of armed asks.say))))

  over_each : {X : Type 0} (o : Option X) (l : Line) (Over : X → List Deed → Type 0) (deeds : List Deed) → look_told l ≡ None → ((x : X) → Over x deeds → All P deeds) → OrTells o l Over deeds → All P deeds
  over_each None l Over deeds plain each are = subst (All P) (sym are) (told_each (Some l) plain)
  over_each (Some x) l Over deeds plain each over = each x over

  next_each : (s : Client) (l : Line) (Over : Connection → Tx → List Deed → Type 0) (deeds : List Deed) → look_told l ≡ None → ((link : Connection) (tx : Tx) → Over link tx deeds → All P deeds) → OverNext s l Over deeds → All P deeds
  next_each s l Over deeds plain each over = over_each s.link (line.PushUnconnected s.client) (λ link. OrTells (next_commit s link) l (Over link)) deeds refl (λ link next. over_each (next_commit s link) l (Over link) deeds plain (λ tx. each link tx) next) over

  calls_each : (s : Client) (call : Call) → ((outcome : Outcome) → P (Did call outcome)) → All P (calls s call)
  calls_each s call each = All-cons P (Did call (outcome_of s call)) (told (call_line s.client call (outcome_of s call))) (each (outcome_of s call)) (told_each (call_line s.client call (outcome_of s call)) (plain_call s.client call (outcome_of s call)))

  calls_on_each : (s : Client) (c : ObjectCall) → ((outcome : Outcome) → P (Did c.call outcome)) → All P (calls_on s c)
  calls_on_each s c each = All-cons P (Did c.call (outcome_of s c.call)) (told (line_on s.client c (outcome_of s c.call))) (each (outcome_of s c.call)) (told_each (line_on s.client c (outcome_of s c.call)) (plain_on s.client c (outcome_of s c.call)))

  -- the last ask of a fetch
  last_each : (c : ObjectCall) (link : Connection) (s : Client) (armed : Option AskFault) (deeds : List Deed) → ((outcome : Outcome) → P (Did c.call outcome)) → LastAsk c link s armed deeds → All P deeds
  last_each c link s armed deeds each asks = asks_each armed link.centre (fetch_of s c.object) (after_fetch s link.centre c) deeds (λ fate.
      either_each (took s link.centre (fetch_of s c.object) fate) _ _
      (calls_on_each (after s (Asked link.centre (fetch_of s c.object) fate)) c each) (told_each (fetch_line s.client c fate) (plain_fetch s.client c fate))) asks

  fetch_each : (p : Progress) (c : ObjectCall) (deeds : List Deed) → ((outcome : Outcome) → P (Did c.call outcome)) → FetchDeeds p c deeds → All P deeds
  fetch_each p c deeds each fetch =
      over_each p.client.link (line.Unconnected p.client.client c.word c.shown) (Fetches p c) deeds refl
      (λ link fetches. fetches_hold (All P) (All-append P) p c link deeds
      (λ first asks. asks_each p.armed link.centre (fetch_of p.client c.object) (λ fate. []) first (λ fate. All-nil P) asks)
      (λ last asks. last_each c link p.client p.armed last each asks)
      (λ say last asks. last_each c link (let_go p link c say) None last each asks) fetches) fetch

  call_each : (p : Progress) (c : ObjectCall) (out : Outcome) (deeds : List Deed) → ((outcome : Outcome) → P (Did c.call outcome)) → CallDeeds p c out deeds → All P deeds
  call_each p c (Refused (NeedsFetch o)) deeds each r = subst (All P) (sym r.whole) (All-cons P (Did c.call (outcome_of p.client c.call)) r.rest (each (outcome_of p.client c.call)) (fetch_each p c r.rest each r.fetch))
  call_each p c _ deeds each are = subst (All P) (sym are) (calls_on_each p.client c each)

  cells_each : (word : StepWord) (share : Share) (Follows : List ℤ → Progress → List Deed → Type 0) (p : Progress) (deeds : List Deed) → ((numbers : List ℤ) (q : Progress) (later : List Deed) → Follows numbers q later → All P later) → ((cell : ObjectId) (outcome : Outcome) → In cell (share_cells share) → P (Did (ReadCall cell) outcome)) → CellsDeeds word share Follows (share_cells share) [] p deeds → All P deeds
  cells_each word share Follows p deeds each read reads =
      cells_hold (λ q. Unit {0}) (All P) (All-nil P) (All-append P) word share Follows (λ numbers q later keeps. each numbers q later) (share_cells share)
      (λ cell q first i keeps are. (call_each q (cell_read word share cell) (outcome_of q.client (ReadCall cell)) first (λ outcome. read cell outcome i) are, tt)) [] p deeds tt reads

  taking_each : (p : Progress) (word : StepWord) (share : Share) (to amount : ℕ) (deeds : List Deed) → ((cell : ObjectId) (outcome : Outcome) → In cell (share_cells share) → P (Did (ReadCall cell) outcome)) → ((outcome : Outcome) → P (Did (adds_to share to amount) outcome)) → TakingDeeds p word share to amount deeds → All P deeds
  taking_each p word share to amount deeds read adds taking =
      cells_each word share (AddsOwned word share to amount) p deeds (λ numbers q later are. subst (All P) (sym are)
      (either_each (int_lt (rights_got share numbers) (pos amount)) _ _
      (told_each (Some (line.Short q.client.client word (counter_of_share share) (rights_got share numbers))) refl)
      (calls_on_each q.client (cell_inc word share (cell_to share to) amount) adds))) read taking

  rights_each : (p : Progress) (share : Share) (deeds : List Deed) → ((cell : ObjectId) (outcome : Outcome) → In cell (share_cells share) → P (Did (ReadCall cell) outcome)) → RightsDeeds p share deeds → All P deeds
  rights_each p share deeds read rights =
      cells_each step.Rights share (TellsRights share) p deeds (λ numbers q later are. subst (All P) (sym are)
      (told_each (Some (line.RightsValue q.client.client (counter_of_share share) (rights_got share numbers))) refl)) read rights

  pushes_each : (p : Progress) (deeds : List Deed) (link : Connection) (tx : Tx) → Pushes p link tx deeds → All P deeds
  pushes_each p deeds link tx push = asks_each p.armed link.centre (CommitAsk tx) (λ fate. told (push_line p.client.client tx.dot.number fate)) deeds (λ fate. told_each (push_line p.client.client tx.dot.number fate) (plain_push p.client.client tx.dot.number fate)) push

  refresh_each : (p : Progress) (draft : Option (List Update)) (deeds : List Deed) (link : Connection) → RefreshDeeds p draft link deeds → All P deeds
  refresh_each p (Some updates) deeds link are = subst (All P) (sym are) (told_each (Some (line.RefreshOpen p.client.client)) refl)
  refresh_each p None deeds link asks =
      asks_each p.armed link.centre (refresh_of p.client) (λ fate. told (refresh_line p.client.client (took p.client link.centre (refresh_of p.client) fate) fate)) deeds
      (λ fate. told_each (refresh_line p.client.client (took p.client link.centre (refresh_of p.client) fate) fate) (plain_refresh p.client.client (took p.client link.centre (refresh_of p.client) fate) fate)) asks

  push_on_each : (p : Progress) (deeds : List Deed) → PushesOn p deeds → All P deeds
  push_on_each p deeds on = subst (All P) (sym on.asked) (All-cons P (Asked on.link.centre (CommitAsk on.tx) (fate_of p.armed on.say)) (copies p.armed on.link.centre (CommitAsk on.tx) on.again) (asked on.link.centre (CommitAsk on.tx) (fate_of p.armed on.say)) (copies_each p.armed on.link.centre (CommitAsk on.tx) on.again))

  flush_each : (p : Progress) (deeds : List Deed) → FlushDeeds p deeds → All P deeds
  flush_each p deeds (flush_ends ends) =
      next_each p.client (line.Flushed p.client.client p.client.own) (λ link tx deeds. (push : Pushes p link tx deeds) × (goes_on (fate_of p.armed push.say) ≡ false)) deeds refl
      (λ link tx ends. pushes_each p deeds link tx ends.0) ends
  flush_each p deeds (flush_goes first later parts on rest) = subst (All P) (sym parts) (All-append P first later (push_on_each p first on) (flush_each (pushed p first) later rest))

  again_each : (client centre number : ℕ) (tx : Tx) (deeds : List Deed) → AgainDeeds client centre number tx deeds → All P deeds
  again_each client centre number tx deeds are = subst (All P) (sym are.1) (All-cons P (Asked centre (CommitAsk tx) (Unheard are.0)) (told (again_line client centre number (Unheard are.0))) (asked centre (CommitAsk tx) (Unheard are.0)) (told_each (again_line client centre number (Unheard are.0)) (plain_again client centre number (Unheard are.0))))

  -- a look
  look_each : (client centre : ℕ) (object : ObjectId) (seen : Option Seen) → ((seen : Seen) → P (Told (line.Look client centre object seen))) → All P (looks client centre object seen)
  look_each client centre object None each = All-nil P
  look_each client centre object (Some seen) each = All-cons P (Told (line.Look client centre object seen)) [] (each seen) (All-nil P)

  -- each deed of a step
  pub step_each : (p : Progress) (step : ClientStep) (deeds : List Deed) → ((call : Call) (outcome : Outcome) → IsCallOf step call → P (Did call outcome)) → ((centre : ℕ) (object : ObjectId) (seen : Seen) → step ≡ Look centre object → P (Told (line.Look p.client.client centre object seen))) → StepDeeds p step deeds → All P deeds
  step_each p (Connect centre) deeds each sees hello = asks_each p.armed centre (hello_of p.client) (λ fate. told (hello_line p.client.client centre fate)) deeds (λ fate. told_each (hello_line p.client.client centre fate) (plain_hello p.client.client centre fate)) hello
  step_each p Begin deeds each sees are = subst (All P) (sym are) (calls_each p.client BeginCall (λ outcome. each BeginCall outcome refl))
  step_each p (Change o change) deeds each sees are = call_each p (change_call o change) (outcome_of p.client (ChangeCall o change)) deeds (λ outcome. each (ChangeCall o change) outcome refl) are
  step_each p (Read o) deeds each sees are = call_each p (read_call o) (outcome_of p.client (ReadCall o)) deeds (λ outcome. each (ReadCall o) outcome refl) are
  step_each p (Grant share amount) deeds each sees are = subst (All P) (sym are) (calls_on_each p.client (cell_inc step.Grant share (cell_to share share.holder) amount) (λ outcome. each (adds_to share share.holder amount) outcome refl))
  step_each p (Give share to amount) deeds each sees taking =
      taking_each p step.Give share to amount deeds (λ cell outcome i. each (ReadCall cell) outcome (inl (cell, (i, refl)))) (λ outcome. each (adds_to share to amount) outcome (inr refl)) taking
  step_each p (Take share amount) deeds each sees taking =
      taking_each p step.Take share 0 amount deeds (λ cell outcome i. each (ReadCall cell) outcome (inl (cell, (i, refl)))) (λ outcome. each (adds_to share 0 amount) outcome (inr refl)) taking
  step_each p (Rights share) deeds each sees rights = rights_each p share deeds (λ cell outcome i. each (ReadCall cell) outcome (cell, (i, refl))) rights
  step_each p Commit deeds each sees are = subst (All P) (sym are) (calls_each p.client CommitCall (λ outcome. each CommitCall outcome refl))
  step_each p Abort deeds each sees are = subst (All P) (sym are) (calls_each p.client AbortCall (λ outcome. each AbortCall outcome refl))
  step_each p Push deeds each sees push = next_each p.client (line.PushNone p.client.client) (Pushes p) deeds refl (λ link tx push. pushes_each p deeds link tx push) push
  step_each p Flush deeds each sees flush = flush_each p deeds flush
  step_each p Refresh deeds each sees refresh = over_each p.client.link (line.RefreshUnconnected p.client.client) (RefreshDeeds p p.client.draft) deeds refl (λ link refresh. refresh_each p p.client.draft deeds link refresh) refresh
  step_each p (Again centre number) deeds each sees again = over_each (commit_sent number p.notes) (line.AgainNone p.client.client centre number) (AgainDeeds p.client.client centre number) deeds refl (λ tx again. again_each p.client.client centre number tx deeds again) again
  step_each p (Arm fault) deeds each sees are = subst (All P) (sym are) (All-nil P)
  step_each p (Look centre object) deeds each sees are = subst (All P) (sym are.1) (look_each p.client.client centre object are.0 (λ seen. sees centre object seen refl))
