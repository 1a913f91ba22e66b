-- The deeds of a client's step are the same, or part at an answer.
use Rattle.std.proofs.Common.{◌≡◌, ◌≢◌, ℕ, ℤ, inl, inr, Bool, true, false, List, [], ◌∷◌, ◌++◌, Option, Some, None, refl, sym, ap, ◌∙◌, subst}
use Rattle.std.proofs.lemmas.Bool.{false≢true}
use Rattle.ids_core.specs.declared.object.ObjectId.{ObjectId}
use Rattle.tx_core.specs.declared.tx.Tx.{Tx}
use Rattle.tx_core.specs.declared.tx.Update.{Update}
use Rattle.dc_talk.specs.declared.ask.Ask.{Ask}
use Rattle.dc_talk.specs.declared.ask.Ask.TheVariants.{Commit as CommitAsk}
use Rattle.dc_talk.specs.declared.say.Say.{Say}
use Rattle.dc_talk.specs.declared.calls.Call.TheVariants.{Begin as BeginCall, Change as ChangeCall, Read as ReadCall, Commit as CommitCall, Abort as AbortCall}
use Rattle.dc_talk.specs.declared.calls.Refusal.TheVariants.{NeedsFetch}
use Rattle.dc_talk.specs.declared.calls.Outcome.{Outcome}
use Rattle.dc_talk.specs.declared.calls.Outcome.TheVariants.{Refused}
use Rattle.dc_talk.specs.declared.calls.Connection.{Connection}
use Rattle.dc_talk.specs.declared.log.Fate.{Fate}
use Rattle.dc_talk.specs.declared.log.Fate.TheVariants.{Unheard}
use Rattle.dc_talk.specs.declared.log.Deed.{Deed}
use Rattle.dc_talk.specs.declared.log.Deed.TheVariants.{Did, Asked, Told}
use Rattle.dc_talk.specs.declared.line.StepWord.{StepWord}
use Rattle.dc_talk.specs.declared.line.StepWord.TheVariants as step
use Rattle.dc_talk.specs.declared.line.Line.{Line}
use Rattle.dc_talk.specs.declared.line.Line.TheVariants as line
use Rattle.dc_talk.specs.Logs.{commit_sent}
use Rattle.dc_talk.specs.Clients.{Client}
use Rattle.dc_talk.specs.Calls.{outcome_of}
use Rattle.dc_talk.specs.Rule.{after, hello_of, refresh_of, fetch_of, next_commit}
use Rattle.script_core.specs.declared.object_call.ObjectCall.{ObjectCall}
use Rattle.script_core.specs.declared.taps.TapState.{TapState}
use Rattle.script_core.specs.declared.steps.Share.{Share}
use Rattle.script_core.specs.declared.steps.AskFault.{AskFault}
use Rattle.script_core.specs.declared.steps.AskFault.TheVariants.{LoseAsk, LoseReply, Twice}
use Rattle.script_core.specs.declared.steps.ClientStep.{ClientStep}
use Rattle.script_core.specs.declared.steps.ClientStep.TheVariants.{Connect, Begin, Change, Read, Grant, Give, Take, Rights, Commit, Abort, Push, Flush, Refresh, Again, Arm, Look}
use Rattle.script_core.specs.Deeds.{Progress, fate_of, copies, took, told, Asks, OrTells, calls, calls_on, after_fetch, asks_on, let_go, FetchesOnce, FetchesTwice, Fetches, CallDeeds, change_call, read_call, cell_to, cell_read, cell_inc, share_cells, last_number, behind, FollowsRead, ReadsCell, CellsDeeds, AddsOwned, TakingDeeds, TellsRights, RightsDeeds, Pushes, OverNext, goes_on, PushesOn, FlushEnds, pushed, FlushDeeds, flush_ends, flush_goes, again_line, push_line, hello_line, refresh_line, AgainDeeds, RefreshDeeds, StepDeeds}
use Rattle.script_core.specs.Taps.{seen_through, looks, LooksSo}
use Rattle.run_book.proofs.Fetches.{LastAsk}
use Rattle.run_forks.specs.Forks.{AreRivals, IsFork, AreOneOrFork}
use Rattle.run_forks.proofs.Forks.{OneWith, Same, fork_head, fork_as, with_as, with_then, with_cons, with_same, with_so, one_or_fork, both_are, told_apart, by_fate, by_unheard}

-- second copies of an ask
copies_fork : (armed : Option AskFault) (i : ℕ) (ask : Ask) (say again : Say) → Same (copies armed i ask say) (copies armed i ask again)
copies_fork (Some Twice) i ask say again = by_unheard i ask say again [] [] (Unit {0}) (λ same. inl (refl, tt))
copies_fork (Some LoseAsk) i ask say again = inl (refl, tt)
copies_fork (Some LoseReply) i ask say again = inl (refl, tt)
copies_fork None i ask say again = inl (refl, tt)

-- an ask, with its second copy and what follows; where these are the same, it ended the same
asks_with : (armed : Option AskFault) (i : ℕ) (ask : Ask) (following : Fate → List Deed) (ds es : List Deed) (one : Asks armed i ask following ds) (two : Asks armed i ask following es) → OneWith ds es (fate_of armed one.say ≡ fate_of armed two.say)
asks_with armed i ask following ds es one two =
    let first = fate_of armed one.say in
    let later = fate_of armed two.say in
    with_as (Asked i ask first ∷ (copies armed i ask one.again ++ following first)) (Asked i ask later ∷ (copies armed i ask two.again ++ following later)) ds es (first ≡ later) one.whole two.whole
    (by_fate armed i ask one.say two.say (copies armed i ask one.again ++ following first) (copies armed i ask two.again ++ following later) (first ≡ later)
    (λ same. with_then (copies armed i ask one.again) (copies armed i ask two.again) (following first) (following later) (Unit {0}) (first ≡ later) (copies_fork armed i ask one.again two.again) (λ _. inl (ap following same, same))))

asks_fork : (armed : Option AskFault) (i : ℕ) (ask : Ask) (following : Fate → List Deed) (ds es : List Deed) → Asks armed i ask following ds → Asks armed i ask following es → Same ds es
asks_fork armed i ask following ds es one two = with_so ds es (fate_of armed one.say ≡ fate_of armed two.say) (Unit {0}) (λ same. tt) (asks_with armed i ask following ds es one two)

-- deeds over what is there
tells_fork : {X : Type 0} (x : Option X) (line : Line) (Over : X → List Deed → Type 0) (ds es : List Deed) → ((v : X) → Over v ds → Over v es → Same ds es) → OrTells x line Over ds → OrTells x line Over es → Same ds es
tells_fork None line Over ds es over one two = both_are ds es (Told line ∷ []) one two
tells_fork (Some v) line Over ds es over one two = over v one two

-- ---- fetches

module _ (p : Progress) (c : ObjectCall) (link : Connection) where
  -- the ask for the object
  abbrev first_ask : Ask
  first_ask = fetch_of p.client c.object

  -- whether the state is to be asked for after it
  abbrev asks_again : Fate → Bool
  asks_again fate = asks_on p.client link.centre first_ask fate

  -- it is after one of two, and not after the other
  once_or_twice : (ds es : List Deed) → FetchesOnce p link c ds → FetchesTwice p link c es → IsFork ds es × IsFork es ds
  once_or_twice ds es one two =
      let i = link.centre in
      let first = fate_of p.armed one.asks.say in
      let later = fate_of p.armed two.asks.say in
      let rest : List Deed = copies p.armed i first_ask one.asks.again ++ after_fetch p.client i c first in
      let more : List Deed = (copies p.armed i first_ask two.asks.again ++ []) ++ two.rest in
      let was : es ≡ Asked i first_ask later ∷ more = two.whole ∙ ap (λ l. l ++ two.rest) two.asks.whole in
      let either : asks_again first ≢ asks_again later = λ same. false≢true (sym one.last ∙ (same ∙ two.on)) in
      let back : asks_again later ≢ asks_again first = λ same. false≢true (sym one.last ∙ (sym same ∙ two.on)) in (
        fork_as (Asked i first_ask first ∷ rest) (Asked i first_ask later ∷ more) ds es one.asks.whole was (fork_head i first_ask first later rest more (told_apart asks_again p.armed one.asks.say two.asks.say either)),
        fork_as (Asked i first_ask later ∷ more) (Asked i first_ask first ∷ rest) es ds was one.asks.whole (fork_head i first_ask later first more rest (told_apart asks_again p.armed two.asks.say one.asks.say back)),
      )

  -- it is after both
  both_twice : (ds es : List Deed) → FetchesTwice p link c ds → FetchesTwice p link c es → Same ds es
  both_twice ds es one two =
      with_as (one.first ++ one.rest) (two.first ++ two.rest) ds es (Unit {0}) one.whole two.whole
      (with_then one.first two.first one.rest two.rest (fate_of p.armed one.asks.say ≡ fate_of p.armed two.asks.say) (Unit {0})
      (asks_with p.armed link.centre first_ask (λ fate. []) one.first two.first one.asks two.asks)
      (λ same.
      let s : Client = let_go p link c one.asks.say in
      let so : s ≡ let_go p link c two.asks.say = ap (λ fate. after p.client (Asked link.centre first_ask fate)) same in
      asks_fork None link.centre (fetch_of s c.object) (after_fetch s link.centre c) one.rest two.rest one.then (subst (λ s. LastAsk c link s None two.rest) (sym so) two.then)))

  -- a fetch over the link
  fetches_fork : (ds es : List Deed) → Fetches p c link ds → Fetches p c link es → Same ds es
  fetches_fork ds es (inl one) (inl two) = asks_fork p.armed link.centre first_ask (after_fetch p.client link.centre c) ds es one.asks two.asks
  fetches_fork ds es (inl one) (inr two) = inr (once_or_twice ds es one two).0
  fetches_fork ds es (inr one) (inl two) = inr (once_or_twice es ds two one).1
  fetches_fork ds es (inr one) (inr two) = both_twice ds es one two

-- a call on an object whose first try ended so
call_fork : (p : Progress) (c : ObjectCall) (outcome : Outcome) (ds es : List Deed) → CallDeeds p c outcome ds → CallDeeds p c outcome es → Same ds es
call_fork p c (Refused (NeedsFetch o)) ds es one two =
    with_as (Did c.call (outcome_of p.client c.call) ∷ one.rest) (Did c.call (outcome_of p.client c.call) ∷ two.rest) ds es (Unit {0}) one.whole two.whole
    (with_cons (Did c.call (outcome_of p.client c.call)) one.rest two.rest (Unit {0})
    (tells_fork p.client.link (line.Unconnected p.client.client c.word c.shown) (Fetches p c) one.rest two.rest
    (λ link. fetches_fork p c link one.rest two.rest) one.fetch two.fetch))
call_fork p c outcome ds es one two = both_are ds es (calls_on p.client c) one two

-- ---- bounded counters

-- what follows reads that got the same
follows_fork : (found : Option ℤ) (Follows : ℤ → List Deed → Type 0) (ds es : List Deed) → ((number : ℤ) → Follows number ds → Follows number es → Same ds es) → FollowsRead found Follows ds → FollowsRead found Follows es → Same ds es
follows_fork None Follows ds es each one two = both_are ds es [] one two
follows_fork (Some number) Follows ds es each one two = each number one two

-- reads of a cell, and what follows them
cell_fork : (p : Progress) (c : ObjectCall) (Follows : ℤ → Progress → List Deed → Type 0) (ds es : List Deed) → ((number : ℤ) (q : Progress) (xs ys : List Deed) → Follows number q xs → Follows number q ys → Same xs ys) → ReadsCell p c Follows ds → ReadsCell p c Follows es → Same ds es
cell_fork p c Follows ds es each one two =
    let After : List Deed → List Deed → Type 0 = λ first later. FollowsRead (last_number first) (λ number. Follows number (behind p first)) later in
    with_as (one.first ++ one.later) (two.first ++ two.later) ds es (Unit {0}) one.whole two.whole
    (with_then one.first two.first one.later two.later (one.first ≡ two.first) (Unit {0})
    (with_same one.first two.first (Unit {0}) (call_fork p c (outcome_of p.client c.call) one.first two.first one.reads two.reads))
    (λ same. follows_fork (last_number one.first) (λ number. Follows number (behind p one.first)) one.later two.later
    (λ number. each number (behind p one.first) one.later two.later) one.follows (subst (λ first. After first two.later) (sym same) two.follows)))

-- reads of cells, one after another, and what follows them all
cells_fork : (word : StepWord) (share : Share) (Follows : List ℤ → Progress → List Deed → Type 0) → ((numbers : List ℤ) (q : Progress) (xs ys : List Deed) → Follows numbers q xs → Follows numbers q ys → Same xs ys) → (cells : List ObjectId) (numbers : List ℤ) (p : Progress) (ds es : List Deed) → CellsDeeds word share Follows cells numbers p ds → CellsDeeds word share Follows cells numbers p es → Same ds es
cells_fork word share Follows each [] numbers p ds es one two = each numbers p ds es one two
cells_fork word share Follows each (cell ∷ cells) numbers p ds es one two =
    cell_fork p (cell_read word share cell) (λ number q later. CellsDeeds word share Follows cells (numbers ++ number ∷ []) q later) ds es
    (λ number q xs ys first later. cells_fork word share Follows each cells (numbers ++ number ∷ []) q xs ys first later) one two

-- a step that takes an amount, or gives it
taking_fork : (p : Progress) (word : StepWord) (share : Share) (to amount : ℕ) (ds es : List Deed) → TakingDeeds p word share to amount ds → TakingDeeds p word share to amount es → Same ds es
taking_fork p word share to amount ds es one two =
    cells_fork word share (AddsOwned word share to amount) (λ numbers q xs ys first later. both_are xs ys _ first later) (share_cells share) [] p ds es one two

-- a step that tells the rights
rights_fork : (p : Progress) (share : Share) (ds es : List Deed) → RightsDeeds p share ds → RightsDeeds p share es → Same ds es
rights_fork p share ds es one two =
    cells_fork step.Rights share (TellsRights share) (λ numbers q xs ys first later. both_are xs ys _ first later) (share_cells share) [] p ds es one two

-- ---- pushes

-- a push
push_fork : (p : Progress) (link : Connection) (tx : Tx) (ds es : List Deed) → Pushes p link tx ds → Pushes p link tx es → Same ds es
push_fork p link tx ds es one two = asks_fork p.armed link.centre (CommitAsk tx) (λ fate. told (push_line p.client.client tx.dot.number fate)) ds es one two

-- deeds over the next commit
over_fork : (s : Client) (none_left : Line) (Over : Connection → Tx → List Deed → Type 0) (ds es : List Deed) → ((link : Connection) (tx : Tx) → Over link tx ds → Over link tx es → Same ds es) → OverNext s none_left Over ds → OverNext s none_left Over es → Same ds es
over_fork s none_left Over ds es over one two =
    tells_fork s.link (line.PushUnconnected s.client) (λ link. OrTells (next_commit s link) none_left (Over link)) ds es
    (λ link first later. tells_fork (next_commit s link) none_left (Over link) ds es (over link) first later) one two

-- a push after which a flush does not go on
abbrev LastPush : Progress → Connection → Tx → List Deed → Type 0
LastPush p link tx deeds = (push : Pushes p link tx deeds) × (goes_on (fate_of p.armed push.say) ≡ false)

-- the ends of a flush
ends_fork : (p : Progress) (ds es : List Deed) → FlushEnds p ds → FlushEnds p es → Same ds es
ends_fork p ds es one two = over_fork p.client (line.Flushed p.client.client p.client.own) (LastPush p) ds es (λ link tx first later. push_fork p link tx ds es first.0 later.0) one two

-- two pushes after which a flush goes on
goes_fork : (p : Progress) (ds es : List Deed) → PushesOn p ds → PushesOn p es → Same ds es
goes_fork p ds es one two =
    let link : one.link ≡ two.link = cc (one.linked, two.linked) in
    let next : next_commit p.client one.link ≡ Some two.tx = ap (next_commit p.client) link ∙ two.next in
    let tx : one.tx ≡ two.tx = cc (one.next, next) in
    let first = Asked one.link.centre (CommitAsk one.tx) (fate_of p.armed one.say) ∷ copies p.armed one.link.centre (CommitAsk one.tx) one.again in
    let later = Asked one.link.centre (CommitAsk one.tx) (fate_of p.armed two.say) ∷ copies p.armed one.link.centre (CommitAsk one.tx) two.again in
    let was : es ≡ later = two.asked ∙ (λ i. Asked (sym link i).centre (CommitAsk (sym tx i)) (fate_of p.armed two.say) ∷ copies p.armed (sym link i).centre (CommitAsk (sym tx i)) two.again) in
    with_as first later ds es (Unit {0}) one.asked was
    (by_fate p.armed one.link.centre (CommitAsk one.tx) one.say two.say (copies p.armed one.link.centre (CommitAsk one.tx) one.again) (copies p.armed one.link.centre (CommitAsk one.tx) two.again) (Unit {0})
    (λ same. copies_fork p.armed one.link.centre (CommitAsk one.tx) one.again two.again))

-- a push after which a flush goes on is not the end of it
pub record EndsElse (p : Progress) (ds es : List Deed) : Type 0 where
  pub centre : ℕ
  pub ask : Ask
  pub one : Fate
  pub two : Fate
  pub rest : List Deed
  pub more : List Deed
  pub first : ds ≡ Asked centre ask one ∷ rest
  pub later : es ≡ Asked centre ask two ∷ more
  pub stops : goes_on one ≡ false
  pub goes : goes_on two ≡ true
  pub either : AreRivals one two
  pub back : AreRivals two one

ends_else : (p : Progress) (ds es : List Deed) → FlushEnds p ds → PushesOn p es → EndsElse p ds es
ends_else p ds es ends on =
    let none = line.Flushed p.client.client p.client.own in
    let linked : OrTells (next_commit p.client on.link) none (LastPush p on.link) ds = subst (λ o. OrTells o (line.PushUnconnected p.client.client) (λ link. OrTells (next_commit p.client link) none (LastPush p link)) ds) on.linked ends in
    let last : LastPush p on.link on.tx ds = subst (λ o. OrTells o none (LastPush p on.link) ds) on.next linked in
    let one = fate_of p.armed last.0.say in
    let two = fate_of p.armed on.say in
    record {
      centre = on.link.centre;
      ask = CommitAsk on.tx;
      one = one;
      two = two;
      rest = copies p.armed on.link.centre (CommitAsk on.tx) last.0.again ++ told (push_line p.client.client on.tx.dot.number one);
      more = copies p.armed on.link.centre (CommitAsk on.tx) on.again;
      first = last.0.whole;
      later = on.asked;
      stops = last.1;
      goes = on.on;
      either = told_apart goes_on p.armed last.0.say on.say (λ same. false≢true (sym last.1 ∙ (same ∙ on.on)));
      back = told_apart goes_on p.armed on.say last.0.say (λ same. false≢true (sym last.1 ∙ (sym same ∙ on.on)));
    }

-- a flush
flush_fork : (p : Progress) (ds es : List Deed) → FlushDeeds p ds → FlushDeeds p es → Same ds es
flush_fork p ds es (flush_ends one) (flush_ends two) = ends_fork p ds es one two
flush_fork p ds es (flush_ends one) (flush_goes fore hind was again more) =
    let e = ends_else p ds fore one again in
    inr (fork_as (Asked e.centre e.ask e.one ∷ e.rest) (Asked e.centre e.ask e.two ∷ (e.more ++ hind)) ds es e.first (was ∙ ap (λ l. l ++ hind) e.later) (fork_head e.centre e.ask e.one e.two e.rest (e.more ++ hind) e.either))
flush_fork p ds es (flush_goes first later is on rest) (flush_ends two) =
    let e = ends_else p es first two on in
    inr (fork_as (Asked e.centre e.ask e.two ∷ (e.more ++ later)) (Asked e.centre e.ask e.one ∷ e.rest) ds es (is ∙ ap (λ l. l ++ later) e.later) e.first (fork_head e.centre e.ask e.two e.one (e.more ++ later) e.rest e.back))
flush_fork p ds es (flush_goes first later is on rest) (flush_goes fore hind was again more) =
    with_as (first ++ later) (fore ++ hind) ds es (Unit {0}) is was
    (with_then first fore later hind (first ≡ fore) (Unit {0}) (with_same first fore (Unit {0}) (goes_fork p first fore on again))
    (λ same. flush_fork (pushed p first) later hind rest (subst (λ l. FlushDeeds (pushed p l) hind) (sym same) more)))

-- ---- steps

-- a refresh
refresh_fork : (p : Progress) (draft : Option (List Update)) (link : Connection) (ds es : List Deed) → RefreshDeeds p draft link ds → RefreshDeeds p draft link es → Same ds es
refresh_fork p (Some draft) link ds es one two = both_are ds es (Told (line.RefreshOpen p.client.client) ∷ []) one two
refresh_fork p None link ds es one two = asks_fork p.armed link.centre (refresh_of p.client) (λ fate. told (refresh_line p.client.client (took p.client link.centre (refresh_of p.client) fate) fate)) ds es one two

-- a late copy
again_fork : (client centre number : ℕ) (tx : Tx) (ds es : List Deed) → AgainDeeds client centre number tx ds → AgainDeeds client centre number tx es → Same ds es
again_fork client centre number tx ds es one two =
    with_as (Asked centre (CommitAsk tx) (Unheard one.0) ∷ told (again_line client centre number (Unheard one.0))) (Asked centre (CommitAsk tx) (Unheard two.0) ∷ told (again_line client centre number (Unheard two.0))) ds es (Unit {0}) one.1 two.1
    (by_unheard centre (CommitAsk tx) one.0 two.0 (told (again_line client centre number (Unheard one.0))) (told (again_line client centre number (Unheard two.0))) (Unit {0})
    (λ same. inl (ap (λ say. told (again_line client centre number (Unheard say))) same, tt)))

-- each step
step_same : (taps : ℕ → TapState) (client : ℕ) (p : Progress) (step : ClientStep) (ds es : List Deed) → StepDeeds p step ds → StepDeeds p step es → LooksSo taps client step ds → LooksSo taps client step es → Same ds es
step_same taps client p (Connect centre) ds es one two look other = asks_fork p.armed centre (hello_of p.client) (λ fate. told (hello_line p.client.client centre fate)) ds es one two
step_same taps client p Begin ds es one two look other = both_are ds es (calls p.client BeginCall) one two
step_same taps client p (Change o change) ds es one two look other = call_fork p (change_call o change) (outcome_of p.client (ChangeCall o change)) ds es one two
step_same taps client p (Read o) ds es one two look other = call_fork p (read_call o) (outcome_of p.client (ReadCall o)) ds es one two
step_same taps client p (Grant share amount) ds es one two look other = both_are ds es (calls_on p.client (cell_inc step.Grant share (cell_to share share.holder) amount)) one two
step_same taps client p (Give share to amount) ds es one two look other = taking_fork p step.Give share to amount ds es one two
step_same taps client p (Take share amount) ds es one two look other = taking_fork p step.Take share 0 amount ds es one two
step_same taps client p (Rights share) ds es one two look other = rights_fork p share ds es one two
step_same taps client p Commit ds es one two look other = both_are ds es (calls p.client CommitCall) one two
step_same taps client p Abort ds es one two look other = both_are ds es (calls p.client AbortCall) one two
step_same taps client p Push ds es one two look other = over_fork p.client (line.PushNone p.client.client) (Pushes p) ds es (λ link tx first later. push_fork p link tx ds es first later) one two
step_same taps client p Flush ds es one two look other = flush_fork p ds es one two
step_same taps client p Refresh ds es one two look other = tells_fork p.client.link (line.RefreshUnconnected p.client.client) (RefreshDeeds p p.client.draft) ds es (λ link first later. refresh_fork p p.client.draft link ds es first later) one two
step_same taps client p (Again centre number) ds es one two look other = tells_fork (commit_sent number p.notes) (line.AgainNone p.client.client centre number) (AgainDeeds p.client.client centre number) ds es (λ tx first later. again_fork p.client.client centre number tx ds es first later) one two
step_same taps client p (Arm fault) ds es one two look other = both_are ds es [] one two
step_same taps client p (Look centre object) ds es one two look other = both_are ds es (looks client centre object (seen_through (taps centre) object)) look other

-- the deeds of a client's step, which sees what taps show, are the same, or part at an answer
pub step_fork : (taps : ℕ → TapState) (client : ℕ) (p : Progress) (step : ClientStep) (ds es : List Deed) → StepDeeds p step ds → StepDeeds p step es → LooksSo taps client step ds → LooksSo taps client step es → AreOneOrFork ds es
step_fork taps client p step ds es one two look other = one_or_fork ds es (Unit {0}) (step_same taps client p step ds es one two look other)
