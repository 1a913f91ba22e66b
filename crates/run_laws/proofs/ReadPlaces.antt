-- In the deeds of a client's step the line with a value stands right behind its read.
use Rattle.std.proofs.Common.{◌≡◌, ℕ, zero, suc, ◌+◌, ◌-◌, ◌≤◌, ◌<◌, ⊎_elim, List, [], ◌∷◌, ◌++◌, length, Option, Some, None, refl, sym, ap, ◌∙◌, subst, arith}
use Rattle.std.specs.Prelude.{All, slice_get}
use Rattle.std.specs.List.{filter_map, cons_option}
use Rattle.std.proofs.lemmas.Bool.{cases_lt}
use Rattle.std.proofs.lemmas.List.Elements.{All-head, All-tail}
use Rattle.std.proofs.lemmas.Option.{none-some, same_Some}
use Rattle.list_core.specs.Members.{In}
use Rattle.list_core.proofs.Gets.{get_In, get_in_front}
use Rattle.list_core.proofs.Passing.{In_filter_map}
use Rattle.ids_core.specs.declared.object.ObjectId.{ObjectId}
use Rattle.tx_core.specs.declared.state.Value.{Value}
use Rattle.dc_talk.specs.declared.ask.Ask.{Ask}
use Rattle.dc_talk.specs.declared.calls.Connection.{Connection}
use Rattle.dc_talk.specs.declared.calls.Call.{Call}
use Rattle.dc_talk.specs.declared.calls.Call.TheVariants.{Begin as BeginCall, Change as ChangeCall, Read as ReadCall, Commit as CommitCall, Abort as AbortCall}
use Rattle.dc_talk.specs.declared.calls.Refusal.TheVariants.{NeedsFetch}
use Rattle.dc_talk.specs.declared.calls.Outcome.{Outcome}
use Rattle.dc_talk.specs.declared.calls.Outcome.TheVariants.{Got, Refused}
use Rattle.dc_talk.specs.declared.log.Deed.{Deed}
use Rattle.dc_talk.specs.declared.log.Deed.TheVariants.{Did, Asked, Told}
use Rattle.dc_talk.specs.declared.log.Fate.{Fate}
use Rattle.dc_talk.specs.declared.line.StepWord.TheVariants as step
use Rattle.dc_talk.specs.declared.line.Line.{Line}
use Rattle.dc_talk.specs.declared.line.Line.TheVariants as line
use Rattle.dc_talk.specs.Clients.{Client}
use Rattle.dc_talk.specs.Calls.{outcome_of}
use Rattle.dc_talk.specs.Rule.{after, fetch_of}
use Rattle.script_core.specs.declared.steps.ClientStep.{ClientStep}
use Rattle.script_core.specs.declared.steps.ClientStep.TheVariants.{Connect, Begin, Change, Read, Grant, Give, Take, Rights, Commit, Abort, Push, Flush, Refresh, Again, Arm, Look}
use Rattle.script_core.specs.declared.steps.AskFault.{AskFault}
use Rattle.script_core.specs.Deeds.{Progress, StepDeeds, Asks, CallDeeds, Fetches, FetchDeeds, after_fetch, let_go, call_line, calls_on, copies, fate_of, fetch_line, read_call, told, took}
use Rattle.run_book.proofs.Fetches.{LastAsk, fetches_hold}
use Rattle.run_steps.specs.Calls.{IsCallOf, adds_to}
use Rattle.run_steps.proofs.EachDeed.{step_each}
use Rattle.run_steps.proofs.Places.{get_behind, get_front_of}
use Rattle.run_laws.specs.ReadLines.{value_told, value_due, ReadsCellsAlone, TellsReads}
use Rattle.run_laws.proofs.ClientLines.{TellNone, copies_none, either_holds, fetch_line_told, line_tells_none, over_holds, rights_none, step_told, taking_none}

-- ---- places

-- a read with this value stands right before a place of deeds
pub record ReadBefore (deeds : List Deed) (m : ℕ) (object : ObjectId) (value : Value) : Type 0 where
  pub before : ℕ
  pub next : m ≡ suc before
  pub there : slice_get deeds before ≡ Some (Did (ReadCall object) (Got value))

-- each line with a value stands right behind its read
abbrev pub AreBehind : List Deed → Type 0
AreBehind deeds = (m client : ℕ) (object : ObjectId) (value : Value) → slice_get deeds m ≡ Some (Told (line.ReadValue client object value)) → ReadBefore deeds m object value

-- so it is where there is none
none_behind : (deeds : List Deed) → TellNone deeds → AreBehind deeds
none_behind deeds none m client object value at =
    let l : Line = line.ReadValue client object value in
    let told : In l (filter_map value_told deeds) = In_filter_map value_told deeds (Told l) l (get_In deeds m (Told l) at) refl in
    absurd (subst (In l) none told)

-- of some deeds, and others behind them
both_behind : (xs ys : List Deed) → AreBehind xs → AreBehind ys → AreBehind (xs ++ ys)
both_behind xs ys one two m client object value at = ⊎_elim front back (cases_lt m (length xs))
  where
    front : m < length xs → ReadBefore (xs ++ ys) m object value
    front lt =
        let r = one m client object value (get_front_of xs ys m (Told (line.ReadValue client object value)) lt at) in
        record { before = r.before; next = r.next; there = get_in_front xs ys r.before (Did (ReadCall object) (Got value)) r.there }

    back : length xs ≤ m → ReadBefore (xs ++ ys) m object value
    back ge =
        let k : ℕ = m - length xs in
        let e : length xs + k ≡ m = omega (arith, ge) in
        let r = two k client object value (sym (get_behind xs ys k) ∙ (ap (slice_get (xs ++ ys)) e ∙ at)) in
        record { before = length xs + r.before; next = omega (arith, r.next, e); there = get_behind xs ys r.before ∙ r.there }

-- ---- a read

-- a read that got a value, and its line
value_behind : (client : ℕ) (o : ObjectId) (got : Value) → AreBehind (Did (ReadCall o) (Got got) ∷ Told (line.ReadValue client o got) ∷ [])
value_behind client o got zero c object value at =
    absurd (none-some (line.ReadValue c object value) (ap value_told (same_Some (Did (ReadCall o) (Got got)) (Told (line.ReadValue c object value)) at)))
value_behind client o got (suc zero) c object value at =
    let told : Some (line.ReadValue client o got) ≡ Some (line.ReadValue c object value) = ap value_told (same_Some (Told (line.ReadValue client o got)) (Told (line.ReadValue c object value)) at) in
    let same : line.ReadValue client o got ≡ line.ReadValue c object value = same_Some (line.ReadValue client o got) (line.ReadValue c object value) told in
    let of_object : o ≡ object = cc in
    let is : got ≡ value = cc in
    record { before = 0; next = refl; there = λ i. Some (Did (ReadCall (of_object i)) (Got (is i))) }
value_behind client o got (suc (suc k)) c object value at = absurd (none-some (Told (line.ReadValue c object value)) at)

-- a read that ended so, and its line
read_behind : (client : ℕ) (o : ObjectId) (out : Outcome) → AreBehind (Did (ReadCall o) out ∷ told (call_line client (ReadCall o) out))
read_behind client o (Got value) = value_behind client o value
read_behind client o out = none_behind (Did (ReadCall o) out ∷ told (call_line client (ReadCall o) out)) refl

-- an ask, and what follows it
asks_behind : (armed : Option AskFault) (i : ℕ) (ask : Ask) (following : Fate → List Deed) (deeds : List Deed) → ((fate : Fate) → AreBehind (following fate)) → Asks armed i ask following deeds → AreBehind deeds
asks_behind armed i ask following deeds rest asks =
    let fate : Fate = fate_of armed asks.say in
    let first : List Deed = Asked i ask fate ∷ copies armed i ask asks.again in
    subst AreBehind (sym asks.whole) (both_behind first (following fate) (none_behind first (copies_none armed i ask asks.again)) (rest fate))

-- behind the last ask of a fetch the read is made again, or a line says why not
last_behind : (o : ObjectId) (link : Connection) (s : Client) (armed : Option AskFault) (deeds : List Deed) → LastAsk (read_call o) link s armed deeds → AreBehind deeds
last_behind o link s armed deeds asks = asks_behind armed link.centre ask (after_fetch s link.centre (read_call o)) deeds following asks
  where
    ask : Ask
    ask = fetch_of s o

    following : (fate : Fate) → AreBehind (after_fetch s link.centre (read_call o) fate)
    following fate =
        let t : Client = after s (Asked link.centre ask fate) in
        let line : Option Line = fetch_line s.client (read_call o) fate in
        either_holds AreBehind (took s link.centre ask fate) (calls_on t (read_call o)) (told line)
        (read_behind t.client o (outcome_of t (ReadCall o))) (none_behind (told line) (line_tells_none s.client line (fetch_line_told s.client s.client (read_call o) fate)))

fetch_behind : (p : Progress) (o : ObjectId) (deeds : List Deed) → FetchDeeds p (read_call o) deeds → AreBehind deeds
fetch_behind p o deeds fetch =
    over_holds AreBehind p.client.link (line.Unconnected p.client.client step.Read o) (Fetches p (read_call o)) deeds
    (none_behind (Told (line.Unconnected p.client.client step.Read o) ∷ []) refl)
    (λ link fetches. fetches_hold AreBehind both_behind p (read_call o) link deeds
    (λ first asks. asks_behind p.armed link.centre (fetch_of p.client o) (λ fate. []) first (λ fate. none_behind [] refl) asks)
    (λ last asks. last_behind o link p.client p.armed last asks)
    (λ say last asks. last_behind o link (let_go p link (read_call o) say) None last asks) fetches) fetch

-- a read whose first try ended so
object_behind : (p : Progress) (o : ObjectId) (out : Outcome) (deeds : List Deed) → CallDeeds p (read_call o) out deeds → AreBehind deeds
object_behind p o (Refused (NeedsFetch other)) deeds behind =
    let first : List Deed = Did (ReadCall o) (outcome_of p.client (ReadCall o)) ∷ [] in
    subst AreBehind (sym behind.whole) (both_behind first behind.rest (none_behind first refl) (fetch_behind p o behind.rest behind.fetch))
object_behind p o _ deeds are = subst AreBehind (sym are) (read_behind p.client.client o (outcome_of p.client (ReadCall o)))

-- ---- a step

-- where a list gives nothing
gives_none : (f : Deed → Option Line) (deeds : List Deed) → All (λ deed. f deed ≡ None) deeds → filter_map f deeds ≡ []
gives_none f [] all = refl
gives_none f (deed ∷ deeds) all = ap (λ o. cons_option o (filter_map f deeds)) (All-head (λ deed. f deed ≡ None) deed deeds all) ∙ gives_none f deeds (All-tail (λ deed. f deed ≡ None) deed deeds all)

-- a step for whose calls no line is due
plain_behind : (p : Progress) (does : ClientStep) (deeds : List Deed) → ((call : Call) (outcome : Outcome) → IsCallOf does call → value_due p.client.client (Did call outcome) ≡ None) → StepDeeds p does deeds → AreBehind deeds
plain_behind p does deeds plain are = ⊎_elim tells cells (step_told p does deeds are)
  where
    c : ℕ
    c = p.client.client

    tells : TellsReads c deeds → AreBehind deeds
    tells same = none_behind deeds (same ∙ gives_none (value_due c) deeds (step_each (λ deed. value_due c deed ≡ None) (λ i ask fate. refl) (λ line none. refl) p does deeds plain (λ centre object seen is. refl) are))

    cells : ReadsCellsAlone deeds → AreBehind deeds
    cells alone = none_behind deeds alone.silent

-- a step whose only call is no read
one_behind : (p : Progress) (does : ClientStep) (deeds : List Deed) (only : Call) → ((outcome : Outcome) → value_due p.client.client (Did only outcome) ≡ None) → ((call : Call) → IsCallOf does call → call ≡ only) → StepDeeds p does deeds → AreBehind deeds
one_behind p does deeds only plain is are = plain_behind p does deeds (λ call outcome of. subst (λ call. value_due p.client.client (Did call outcome) ≡ None) (sym (is call of)) (plain outcome)) are

-- each step
pub step_behind : (p : Progress) (does : ClientStep) (deeds : List Deed) → StepDeeds p does deeds → AreBehind deeds
step_behind p (Read o) deeds are = object_behind p o (outcome_of p.client (ReadCall o)) deeds are
step_behind p Begin deeds are = one_behind p Begin deeds BeginCall (λ outcome. refl) (λ call is. is) are
step_behind p (Change o change) deeds are = one_behind p (Change o change) deeds (ChangeCall o change) (λ outcome. refl) (λ call is. is) are
step_behind p (Grant share amount) deeds are = one_behind p (Grant share amount) deeds (adds_to share share.holder amount) (λ outcome. refl) (λ call is. is) are
step_behind p (Give share to amount) deeds taking = none_behind deeds (taking_none p step.Give share to amount deeds refl taking)
step_behind p (Take share amount) deeds taking = none_behind deeds (taking_none p step.Take share 0 amount deeds refl taking)
step_behind p (Rights share) deeds rights = none_behind deeds (rights_none p share deeds rights)
step_behind p Commit deeds are = one_behind p Commit deeds CommitCall (λ outcome. refl) (λ call is. is) are
step_behind p Abort deeds are = one_behind p Abort deeds AbortCall (λ outcome. refl) (λ call is. is) are
step_behind p (Connect centre) deeds are = plain_behind p (Connect centre) deeds (λ call outcome is. absurd is) are
step_behind p Push deeds are = plain_behind p Push deeds (λ call outcome is. absurd is) are
step_behind p Flush deeds are = plain_behind p Flush deeds (λ call outcome is. absurd is) are
step_behind p Refresh deeds are = plain_behind p Refresh deeds (λ call outcome is. absurd is) are
step_behind p (Again centre number) deeds are = plain_behind p (Again centre number) deeds (λ call outcome is. absurd is) are
step_behind p (Arm fault) deeds are = plain_behind p (Arm fault) deeds (λ call outcome is. absurd is) are
step_behind p (Look centre object) deeds are = plain_behind p (Look centre object) deeds (λ call outcome is. absurd is) are
