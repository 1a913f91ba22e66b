-- The asks of a client's step go to centres that there are, and so does the link of each client.
use Rattle.std.proofs.Common.{◌≡◌, ℕ, ℤ, pos, ◌≤◌, Bool, true, false, cond, List, [], ◌∷◌, ◌++◌, take, Option, Some, None, refl, sym, subst}
use Rattle.std.specs.Prelude.{All, int_lt}
use Rattle.std.proofs.lemmas.List.Sums.{fold_push}
use Rattle.std.proofs.lemmas.List.Elements.{All-nil, All-cons, All-append, All-head, All-tail}
use Rattle.list_core.proofs.Moments.{by_steps}
use Rattle.ids_core.specs.declared.object.ObjectId.{ObjectId}
use Rattle.tx_core.specs.declared.tx.Tx.{Tx}
use Rattle.tx_core.specs.declared.tx.Update.{Update}
use Rattle.dc_talk.specs.declared.ask.Ask.{Ask}
use Rattle.dc_talk.specs.declared.ask.Ask.TheVariants.{Hello, Refresh as RefreshAsk, Fetch, Delta, Commit as CommitAsk}
use Rattle.dc_talk.specs.declared.say.Say.{Say}
use Rattle.dc_talk.specs.declared.say.Say.TheVariants.{Welcome, Snap, Pruned, Object, Changes, Known, Stamped}
use Rattle.dc_talk.specs.declared.calls.Connection.{Connection}
use Rattle.dc_talk.specs.declared.calls.Call.{Call}
use Rattle.dc_talk.specs.declared.calls.Call.TheVariants.{Begin as BeginCall, Change as ChangeCall, Read as ReadCall, Commit as CommitCall, Abort as AbortCall}
use Rattle.dc_talk.specs.declared.calls.Refusal.TheVariants.{NeedsFetch, TooManyTags}
use Rattle.dc_talk.specs.declared.calls.Outcome.{Outcome}
use Rattle.dc_talk.specs.declared.calls.Outcome.TheVariants.{Fine, Got, Number, Nothing, Refused}
use Rattle.dc_talk.specs.declared.log.Deed.{Deed}
use Rattle.dc_talk.specs.declared.log.Deed.TheVariants.{Did, Asked}
use Rattle.dc_talk.specs.declared.log.Fate.{Fate}
use Rattle.dc_talk.specs.declared.log.Fate.TheVariants.{Heard, Unheard}
use Rattle.dc_talk.specs.declared.log.Note.{Note}
use Rattle.dc_talk.specs.declared.line.StepWord.{StepWord}
use Rattle.dc_talk.specs.declared.line.StepWord.TheVariants as step
use Rattle.dc_talk.specs.declared.line.Line.{Line}
use Rattle.dc_talk.specs.declared.line.Line.TheVariants as line
use Rattle.dc_talk.specs.declared.seen.Seen.{Seen}
use Rattle.dc_talk.specs.Logs.{commit_sent}
use Rattle.dc_talk.specs.Clients.{Client, new_client}
use Rattle.dc_talk.specs.Calls.{outcome_of, did}
use Rattle.dc_talk.specs.Rule.{after, heard, takes, taken, sent_through, next_commit, hello_of, refresh_of, fetch_of, client_after}
use Rattle.script_core.specs.declared.object_call.ObjectCall.{ObjectCall}
use Rattle.script_core.specs.declared.steps.Share.{Share}
use Rattle.script_core.specs.declared.steps.AskFault.{AskFault}
use Rattle.script_core.specs.declared.steps.AskFault.TheVariants.{LoseAsk, LoseReply, Twice}
use Rattle.script_core.specs.declared.steps.ClientStep.{ClientStep}
use Rattle.script_core.specs.declared.steps.ClientStep.TheVariants.{Connect, Begin, Change, Read, Grant, Give, Take, Rights, Commit, Abort, Push, Flush, Refresh, Again, Arm, Look}
use Rattle.script_core.specs.Steps.{IsStep}
use Rattle.script_core.specs.Taps.{looks}
use Rattle.script_core.specs.Deeds.{Progress, StepDeeds, Asks, OrTells, OverNext, Pushes, PushesOn, Fetches, FetchDeeds, CallDeeds, FlushDeeds, flush_ends, flush_goes, RefreshDeeds, AgainDeeds, CellsDeeds, AddsOwned, TakingDeeds, TellsRights, RightsDeeds, after_all, after_fetch, let_go, calls, calls_on, call_line, cell_inc, cell_read, cell_to, change_call, counter_of_share, line_on, read_call, rights_got, share_cells, copies, fate_of, fetch_line, goes_on, hello_line, push_line, pushed, refresh_line, again_line, told, took}
use Rattle.run_book.specs.Setups.{Setup}
use Rattle.run_book.specs.Happenings.{Happened, notes_by, GoesToOneOf, IsLinkWithin, AreTogether}
use Rattle.run_book.proofs.CellReads.{cells_hold}
use Rattle.run_book.proofs.Fetches.{LastAsk, fetches_hold}
use Rattle.run_book.proofs.Happenings.Places.{noted}

-- ---- the link

module _ (n : ℕ) where
  -- each ask of the deeds goes to one of the centres
  abbrev pub AllGo : List Deed → Type 0
  AllGo deeds = All (GoesToOneOf n) deeds

  through_within : (number own : ℕ) (l : Option Connection) → IsLinkWithin n l → IsLinkWithin n (sent_through number own l)
  through_within number own None within = tt
  through_within number own (Some link) within = within

  taken_within : (s : Client) (i : ℕ) (ask : Ask) (say : Say) → (1 ≤ i) × (i ≤ n) → IsLinkWithin n s.link → IsLinkWithin n (taken s i ask say).link
  taken_within s i (Hello client need) (Welcome through) range within = range
  taken_within s i (CommitAsk tx) (Stamped stamp) range within = through_within tx.dot.number s.own s.link within
  taken_within s i (CommitAsk tx) (Known through) range within = through_within through s.own s.link within
  taken_within s i (RefreshAsk client need) (Snap vector mine top) range within = within
  taken_within s i (Fetch o need) (Object state) range within = within
  taken_within s i (Delta o from need) (Object state) range within = within
  taken_within s i (Delta o from need) (Changes tail) range within = within
  taken_within s i (Delta o from need) (Pruned centre base low) range within = within
  taken_within s i _ _ range within = within

  heard_within : (s : Client) (i : ℕ) (ask : Ask) (say : Say) → (1 ≤ i) × (i ≤ n) → IsLinkWithin n s.link → IsLinkWithin n (heard s i ask say).link
  heard_within s i ask say range within = go (takes s i ask say)
    where
      go : (test : Bool) → IsLinkWithin n (cond test (taken s i ask say) s).link
      go true = taken_within s i ask say range within
      go false = within

  did_within : (s : Client) (call : Call) (out : Outcome) → IsLinkWithin n s.link → IsLinkWithin n (did s call out).link
  did_within s BeginCall Fine within = within
  did_within s (ChangeCall o change) Fine within = within
  did_within s (ChangeCall o change) (Refused (TooManyTags count)) within = within
  did_within s (ReadCall o) (Got value) within = within
  did_within s CommitCall (Number number) within = within
  did_within s CommitCall Nothing within = within
  did_within s AbortCall Fine within = within
  did_within s _ _ within = within

  -- the link stays within
  pub after_within : (s : Client) (deed : Deed) → GoesToOneOf n deed → IsLinkWithin n s.link → IsLinkWithin n (after s deed).link
  after_within s (Did call out) here within = did_within s call out within
  after_within s (Asked i ask (Heard say)) here within = heard_within s i ask say here within
  after_within s _ here within = within

  all_within : (s : Client) (deeds : List Deed) → AllGo deeds → IsLinkWithin n s.link → IsLinkWithin n (after_all s deeds).link
  all_within s [] all within = within
  all_within s (deed ∷ deeds) all within = all_within (after s deed) deeds (All-tail (GoesToOneOf n) deed deeds all) (after_within s deed (All-head (GoesToOneOf n) deed deeds all) within)

  -- ---- the deeds of a step

  -- one deed more in front
  pub one_go : (deed : Deed) (deeds : List Deed) → GoesToOneOf n deed → AllGo deeds → AllGo (deed ∷ deeds)
  one_go deed deeds here rest = All-cons (GoesToOneOf n) deed deeds here rest

  -- a line that is told
  pub told_go : (l : Option Line) → AllGo (told l)
  told_go None = All-nil (GoesToOneOf n)
  told_go (Some line) = one_go _ [] tt (All-nil (GoesToOneOf n))

  either_go : (test : Bool) (xs ys : List Deed) → AllGo xs → AllGo ys → AllGo (cond test xs ys)
  either_go true xs ys first second = first
  either_go false xs ys first second = second

  -- a second copy goes where the ask went
  copies_go : (armed : Option AskFault) (i : ℕ) (ask : Ask) (say : Say) → (1 ≤ i) × (i ≤ n) → AllGo (copies armed i ask say)
  copies_go (Some Twice) i ask say range = one_go _ [] range (All-nil (GoesToOneOf n))
  copies_go (Some LoseAsk) i ask say range = All-nil (GoesToOneOf n)
  copies_go (Some LoseReply) i ask say range = All-nil (GoesToOneOf n)
  copies_go None i ask say range = All-nil (GoesToOneOf n)

  -- an ask of one of the centres
  asks_go : (armed : Option AskFault) (i : ℕ) (ask : Ask) (following : Fate → List Deed) (deeds : List Deed) → (1 ≤ i) × (i ≤ n) → ((fate : Fate) → AllGo (following fate)) → Asks armed i ask following deeds → AllGo deeds
  asks_go armed i ask following deeds range rest asks = subst AllGo (sym asks.whole)
      (one_go (Asked i ask (fate_of armed asks.say)) (copies armed i ask asks.again ++ following (fate_of armed asks.say)) range
      (All-append (GoesToOneOf n) (copies armed i ask asks.again) (following (fate_of armed asks.say)) (copies_go armed i ask asks.again range) (rest (fate_of armed asks.say))))

  -- deeds over what is there, or a line
  over_go : {X : Type 0} (o : Option X) (l : Line) (Over : X → List Deed → Type 0) (deeds : List Deed) → ((x : X) → o ≡ Some x → Over x deeds → AllGo deeds) → OrTells o l Over deeds → AllGo deeds
  over_go None l Over deeds each are = subst AllGo (sym are) (told_go (Some l))
  over_go (Some x) l Over deeds each over = each x refl over

  -- deeds over the link
  link_go : (s : Client) (l : Line) (Over : Connection → List Deed → Type 0) (deeds : List Deed) → IsLinkWithin n s.link → ((link : Connection) → (1 ≤ link.centre) × (link.centre ≤ n) → Over link deeds → AllGo deeds) → OrTells s.link l Over deeds → AllGo deeds
  link_go s l Over deeds within each over = over_go s.link l Over deeds (λ link linked. each link (subst (IsLinkWithin n) linked within)) over

  -- deeds over the link and the next commit
  next_go : (s : Client) (l : Line) (Over : Connection → Tx → List Deed → Type 0) (deeds : List Deed) → IsLinkWithin n s.link → ((link : Connection) (tx : Tx) → (1 ≤ link.centre) × (link.centre ≤ n) → Over link tx deeds → AllGo deeds) → OverNext s l Over deeds → AllGo deeds
  next_go s l Over deeds within each over =
      link_go s (line.PushUnconnected s.client) (λ link. OrTells (next_commit s link) l (Over link)) deeds within
      (λ link range next. over_go (next_commit s link) l (Over link) deeds (λ tx left. each link tx range) next) over

  calls_go : (s : Client) (call : Call) → AllGo (calls s call)
  calls_go s call = one_go (Did call (outcome_of s call)) (told (call_line s.client call (outcome_of s call))) tt (told_go (call_line s.client call (outcome_of s call)))

  calls_on_go : (s : Client) (c : ObjectCall) → AllGo (calls_on s c)
  calls_on_go s c = one_go (Did c.call (outcome_of s c.call)) (told (line_on s.client c (outcome_of s c.call))) tt (told_go (line_on s.client c (outcome_of s c.call)))

  -- the last ask of a fetch
  last_go : (c : ObjectCall) (link : Connection) (s : Client) (armed : Option AskFault) (deeds : List Deed) → (1 ≤ link.centre) × (link.centre ≤ n) → LastAsk c link s armed deeds → AllGo deeds
  last_go c link s armed deeds range asks = asks_go armed link.centre (fetch_of s c.object) (after_fetch s link.centre c) deeds range (λ fate.
      either_go (took s link.centre (fetch_of s c.object) fate) _ _
      (calls_on_go (after s (Asked link.centre (fetch_of s c.object) fate)) c) (told_go (fetch_line s.client c fate))) asks

  fetch_go : (p : Progress) (c : ObjectCall) (deeds : List Deed) → IsLinkWithin n p.client.link → FetchDeeds p c deeds → AllGo deeds
  fetch_go p c deeds within fetch =
      link_go p.client (line.Unconnected p.client.client c.word c.shown) (Fetches p c) deeds within
      (λ link range fetches. fetches_hold AllGo (All-append (GoesToOneOf n)) p c link deeds
      (λ first asks. asks_go p.armed link.centre (fetch_of p.client c.object) (λ fate. []) first range (λ fate. All-nil (GoesToOneOf n)) asks)
      (λ last asks. last_go c link p.client p.armed last range asks)
      (λ say last asks. last_go c link (let_go p link c say) None last range asks) fetches) fetch

  call_go : (p : Progress) (c : ObjectCall) (out : Outcome) (deeds : List Deed) → IsLinkWithin n p.client.link → CallDeeds p c out deeds → AllGo deeds
  call_go p c (Refused (NeedsFetch o)) deeds within r = subst AllGo (sym r.whole) (one_go (Did c.call (outcome_of p.client c.call)) r.rest tt (fetch_go p c r.rest within r.fetch))
  call_go p c _ deeds within are = subst AllGo (sym are) (calls_on_go p.client c)

  pushes_go : (p : Progress) (deeds : List Deed) (link : Connection) (tx : Tx) → (1 ≤ link.centre) × (link.centre ≤ n) → Pushes p link tx deeds → AllGo deeds
  pushes_go p deeds link tx range push = asks_go p.armed link.centre (CommitAsk tx) (λ fate. told (push_line p.client.client tx.dot.number fate)) deeds range (λ fate. told_go (push_line p.client.client tx.dot.number fate)) push

  refresh_go : (p : Progress) (draft : Option (List Update)) (deeds : List Deed) (link : Connection) → (1 ≤ link.centre) × (link.centre ≤ n) → RefreshDeeds p draft link deeds → AllGo deeds
  refresh_go p (Some updates) deeds link range are = subst AllGo (sym are) (told_go (Some (line.RefreshOpen p.client.client)))
  refresh_go p None deeds link range asks =
      asks_go p.armed link.centre (refresh_of p.client) (λ fate. told (refresh_line p.client.client (took p.client link.centre (refresh_of p.client) fate) fate)) deeds range
      (λ fate. told_go (refresh_line p.client.client (took p.client link.centre (refresh_of p.client) fate) fate)) asks

  -- ---- a flush

  -- a push of a flush
  push_on_go : (p : Progress) (deeds : List Deed) → IsLinkWithin n p.client.link → PushesOn p deeds → AllGo deeds
  push_on_go p deeds within on =
      let range : (1 ≤ on.link.centre) × (on.link.centre ≤ n) = subst (IsLinkWithin n) on.linked within in
      subst AllGo (sym on.asked) (one_go (Asked on.link.centre (CommitAsk on.tx) (fate_of p.armed on.say)) (copies p.armed on.link.centre (CommitAsk on.tx) on.again) range (copies_go p.armed on.link.centre (CommitAsk on.tx) on.again range))

  flush_go : (p : Progress) (deeds : List Deed) → IsLinkWithin n p.client.link → FlushDeeds p deeds → AllGo deeds
  flush_go p deeds within (flush_ends ends) =
      next_go p.client (line.Flushed p.client.client p.client.own) (λ link tx deeds. (push : Pushes p link tx deeds) × (goes_on (fate_of p.armed push.say) ≡ false)) deeds within
      (λ link tx range ends. pushes_go p deeds link tx range ends.0) ends
  flush_go p deeds within (flush_goes first later parts on rest) =
      let here : AllGo first = push_on_go p first within on in
      subst AllGo (sym parts) (All-append (GoesToOneOf n) first later here (flush_go (pushed p first) later (all_within p.client first here within) rest))

  -- ---- bounded counters

  -- reads of the cells of a share, and what follows them over a link that is still within
  cells_go : (word : StepWord) (share : Share) (Follows : List ℤ → Progress → List Deed → Type 0) (p : Progress) (deeds : List Deed) → ((numbers : List ℤ) (q : Progress) (later : List Deed) → IsLinkWithin n q.client.link → Follows numbers q later → AllGo later) → IsLinkWithin n p.client.link → CellsDeeds word share Follows (share_cells share) [] p deeds → AllGo deeds
  cells_go word share Follows p deeds each within reads =
      cells_hold (λ q. IsLinkWithin n q.client.link) AllGo (All-nil (GoesToOneOf n)) (All-append (GoesToOneOf n)) word share Follows each (share_cells share)
      (λ cell q first i link are.
      let here : AllGo first = call_go q (cell_read word share cell) (outcome_of q.client (ReadCall cell)) first link are in
      (here, all_within q.client first here link)) [] p deeds within reads

  -- a step that takes an amount, or gives it
  taking_go : (p : Progress) (word : StepWord) (share : Share) (to amount : ℕ) (deeds : List Deed) → IsLinkWithin n p.client.link → TakingDeeds p word share to amount deeds → AllGo deeds
  taking_go p word share to amount deeds within taking =
      cells_go word share (AddsOwned word share to amount) p deeds (λ numbers q later link adds. subst AllGo (sym adds)
      (either_go (int_lt (rights_got share numbers) (pos amount)) _ _
      (told_go (Some (line.Short q.client.client word (counter_of_share share) (rights_got share numbers))))
      (calls_on_go q.client (cell_inc word share (cell_to share to) amount)))) within taking

  -- a step that tells the rights
  rights_go : (p : Progress) (share : Share) (deeds : List Deed) → IsLinkWithin n p.client.link → RightsDeeds p share deeds → AllGo deeds
  rights_go p share deeds within rights =
      cells_go step.Rights share (TellsRights share) p deeds (λ numbers q later link tells. subst AllGo (sym tells)
      (told_go (Some (line.RightsValue q.client.client (counter_of_share share) (rights_got share numbers))))) within rights

  -- ---- a step

  again_go : (client centre number : ℕ) (tx : Tx) (deeds : List Deed) → (1 ≤ centre) × (centre ≤ n) → AgainDeeds client centre number tx deeds → AllGo deeds
  again_go client centre number tx deeds range are = subst AllGo (sym are.1) (one_go (Asked centre (CommitAsk tx) (Unheard are.0)) (told (again_line client centre number (Unheard are.0))) range (told_go (again_line client centre number (Unheard are.0))))

  -- a look asks nothing
  look_go : (client centre : ℕ) (object : ObjectId) (seen : Option Seen) → AllGo (looks client centre object seen)
  look_go client centre object None = All-nil (GoesToOneOf n)
  look_go client centre object (Some seen) = told_go (Some (line.Look client centre object seen))

  -- the asks of a client's step go to centres that there are, where its link does
  pub step_go : (p : Progress) (step : ClientStep) (deeds : List Deed) → IsStep n step → IsLinkWithin n p.client.link → StepDeeds p step deeds → AllGo deeds
  step_go p (Connect centre) deeds is within hello = asks_go p.armed centre (hello_of p.client) (λ fate. told (hello_line p.client.client centre fate)) deeds is (λ fate. told_go (hello_line p.client.client centre fate)) hello
  step_go p Begin deeds is within are = subst AllGo (sym are) (calls_go p.client BeginCall)
  step_go p (Change o change) deeds is within are = call_go p (change_call o change) (outcome_of p.client (ChangeCall o change)) deeds within are
  step_go p (Read o) deeds is within are = call_go p (read_call o) (outcome_of p.client (ReadCall o)) deeds within are
  step_go p (Grant share amount) deeds is within are = subst AllGo (sym are) (calls_on_go p.client (cell_inc step.Grant share (cell_to share share.holder) amount))
  step_go p (Give share to amount) deeds is within taking = taking_go p step.Give share to amount deeds within taking
  step_go p (Take share amount) deeds is within taking = taking_go p step.Take share 0 amount deeds within taking
  step_go p (Rights share) deeds is within rights = rights_go p share deeds within rights
  step_go p Commit deeds is within are = subst AllGo (sym are) (calls_go p.client CommitCall)
  step_go p Abort deeds is within are = subst AllGo (sym are) (calls_go p.client AbortCall)
  step_go p Push deeds is within push = next_go p.client (line.PushNone p.client.client) (Pushes p) deeds within (λ link tx range push. pushes_go p deeds link tx range push) push
  step_go p Flush deeds is within flush = flush_go p deeds within flush
  step_go p Refresh deeds is within refresh = link_go p.client (line.RefreshUnconnected p.client.client) (RefreshDeeds p p.client.draft) deeds within (λ link range refresh. refresh_go p p.client.draft deeds link range refresh) refresh
  step_go p (Again centre number) deeds is within again = over_go (commit_sent number p.notes) (line.AgainNone p.client.client centre number) (AgainDeeds p.client.client centre number) deeds (λ tx there again. again_go p.client.client centre number tx deeds is.0 again) again
  step_go p (Arm fault) deeds is within are = subst AllGo (sym are) (All-nil (GoesToOneOf n))
  step_go p (Look centre object) deeds is within are = subst AllGo (sym are.1) (look_go p.client.client centre object are.0)

-- ---- what happened

-- the link of each client is to a centre that there is
pub link_within : (n k : ℕ) (setup : Setup) (all : List Happened) → AreTogether n k setup all → (client a : ℕ) → IsLinkWithin n (client_after n client setup.capacity (notes_by a all)).link
link_within n k setup all t client a = by_steps (λ notes. IsLinkWithin n (client_after n client setup.capacity notes).link) (notes_by a all) tt (λ p note there within.
    let h = noted n k setup all t a p note there in
    let go : GoesToOneOf n note.deed = subst (λ (note : Note). GoesToOneOf n note.deed) h.note_is (t.each.holds h.place h.it h.there).reach in
    subst (λ s. IsLinkWithin n s.link) (sym (fold_push (λ (s : Client) (note : Note). after s note.deed) (new_client n client setup.capacity) (take p (notes_by a all)) note))
    (after_within n (client_after n client setup.capacity (take p (notes_by a all))) note.deed go within))
