-- What each step leaves is what is defined for it.
use Rattle.std.proofs.Common.{◌≡◌, ℕ, List, [], ◌∷◌, Option, Some, None, Ok, Err, refl, sym, ap, ◌∙◌, subst}
use Rattle.ids_core.specs.declared.object.ObjectId.{ObjectId}
use Rattle.dc_talk.specs.declared.ask.Ask.{Ask}
use Rattle.dc_talk.specs.declared.ask.Ask.TheVariants.{Commit as CommitAsk}
use Rattle.dc_talk.specs.declared.calls.Connection.{Connection}
use Rattle.dc_talk.specs.declared.calls.Refusal.{Refusal}
use Rattle.dc_talk.specs.declared.calls.Refusal.TheVariants.{NotConnected}
use Rattle.dc_talk.specs.declared.log.Deed.{Deed}
use Rattle.dc_talk.specs.declared.log.Deed.TheVariants.{Told}
use Rattle.dc_talk.specs.declared.line.Line.{Line}
use Rattle.dc_talk.specs.declared.line.Line.TheVariants as line
use Rattle.dc_talk.specs.Logs.{Logged}
use Rattle.tx_core.specs.declared.tx.Tx.{Tx}
use Rattle.dc_talk.specs.Clients.{Client}
use Rattle.dc_talk.specs.Rule.{hello_of, refresh_of, next_commit}
use Rattle.client_session.specs.SessionAnswers.{refresh_ask, commit_ask}
use Rattle.script_core.specs.declared.steps.AskFault.{AskFault}
use Rattle.script_core.specs.declared.steps.ClientStep.{ClientStep}
use Rattle.script_core.specs.declared.steps.ClientStep.TheVariants.{Arm, Connect, Push, Refresh, Look}
use Rattle.script_core.specs.Deeds.{OrTells, OverNext, Pushes, RefreshDeeds, StepDeeds, armed_after, told}
use Rattle.client_stub.specs.declared.purpose.Purpose.{Purpose}
use Rattle.client_stub.specs.declared.purpose.Purpose.TheVariants as purpose
use Rattle.client_stub.specs.declared.purpose.Errand.{Errand}
use Rattle.client_stub.specs.declared.purpose.Next.{Next}
use Rattle.dc_talk.specs.Acting.{noted_all}
use Rattle.client_stub.specs.Playing.{Playing, Grows, Takes, progress}
use Rattle.client_stub.specs.Errands.{GrowsBy, Runs, number_in, used_by}
use Rattle.client_stub.proofs.Growth.{grows_none, grows_told}
use Rattle.client_stub.proofs.SessionAsks.{PushAsks, PushIdle, push_asks, push_idle, refresh_asks, refresh_shut}

-- ---- lines alone

-- a line that is told grows by deeds that a line like it is
pub grows_line : (Are : List Deed → Type 0) (p : Playing) (later : Logged) (l m : Line) → later ≡ noted_all p.log (told (Some l)) → l ≡ m → Are (Told m ∷ []) → GrowsBy Are p (record p { log = later })
grows_line Are p later l m is same are = record {
  deeds = Told l ∷ [];
  such = subst (λ l. Are (Told l ∷ [])) (sym same) are;
  grows = subst (λ (log : Logged). Grows p (record p { log = log }) (Told l ∷ [])) (sym is) (grows_told p (Some l));
  armed = refl;
}

-- deeds over what is there
pub over_some : {X : Type 0} (o : Option X) (x : X) (l : Line) (Over : X → List Deed → Type 0) (deeds : List Deed) → o ≡ Some x → Over x deeds → OrTells o l Over deeds
over_some o x l Over deeds is over = subst (λ o. OrTells o l Over deeds) (sym is) over

-- the line where nothing is there
pub over_none : {X : Type 0} (o : Option X) (l : Line) (Over : X → List Deed → Type 0) → o ≡ None → OrTells o l Over (Told l ∷ [])
over_none o l Over is = subst (λ o. OrTells o l Over (Told l ∷ [])) (sym is) refl

-- deeds over the next commit
pub next_there : (s : Client) (l : Line) (Over : Connection → Tx → List Deed → Type 0) (i : ℕ) (ask : Ask) (a : PushAsks s i ask) (deeds : List Deed) → Over a.link a.tx deeds → OverNext s l Over deeds
next_there s l Over i ask a deeds over =
    over_some s.link a.link (line.PushUnconnected s.client) (λ link. OrTells (next_commit s link) l (Over link)) deeds a.linked
    (over_some (next_commit s a.link) a.tx l (Over a.link) deeds a.next over)

-- the line where no commit is left
pub next_idle : (s : Client) (l : Line) (Over : Connection → Tx → List Deed → Type 0) → PushIdle s → OverNext s l Over (Told l ∷ [])
next_idle s l Over a =
    over_some s.link a.link (line.PushUnconnected s.client) (λ link. OrTells (next_commit s link) l (Over link)) (Told l ∷ []) a.linked
    (over_none (next_commit s a.link) l (Over a.link) a.next)

-- the line where no centre is connected
pub next_unlinked : (s : Client) (l : Line) (Over : Connection → Tx → List Deed → Type 0) → s.link ≡ None → OverNext s l Over (Told (line.PushUnconnected s.client) ∷ [])
next_unlinked s l Over none = over_none s.link (line.PushUnconnected s.client) (λ link. OrTells (next_commit s link) l (Over link)) none

-- ---- errands

-- an ask of a centre with its purpose
abbrev pub errand : Purpose → ℕ → Ask → Errand
errand for centre ask = record { purpose = for; centre = centre; ask = ask }

-- growth by the deeds of an errand
pub runs_by : (Are : List Deed → Type 0) (e : Errand) (p q : Playing) (next : Next) (r : Runs e p q next) → Are r.deeds → GrowsBy Are p q
runs_by Are e p q next r are = record { deeds = r.deeds; such = are; grows = r.grows; armed = r.armed ∙ sym (ap (used_by p.armed) r.asks.whole) }

-- a step whose asks are under the fault that is armed
pub takes_by : (step : ClientStep) (p q : Playing) → ((deeds : List Deed) → armed_after p.armed step deeds ≡ used_by p.armed deeds) → GrowsBy (StepDeeds (progress p) step) p q → Takes step p q
takes_by step p q uses by = record { deeds = by.deeds; such = by.such; grows = by.grows; armed = by.armed ∙ sym (uses by.deeds) }

-- a connect
pub connect_takes : (p q : Playing) (i : ℕ) (ask : Ask) (next : Next) → ask ≡ hello_of p.client → Runs (errand (purpose.Connect i) i ask) p q next → Takes (Connect i) p q
connect_takes p q i ask next is runs =
    let r = subst (λ ask. Runs (errand (purpose.Connect i) i ask) p q next) is runs in
    takes_by (Connect i) p q (λ deeds. refl) (runs_by (StepDeeds (progress p) (Connect i)) (errand (purpose.Connect i) i (hello_of p.client)) p q next r r.asks)

-- an errand for the next commit
pub next_errand : (for : ℕ → Purpose) (p q : Playing) (i : ℕ) (ask : Ask) (number : ℕ) (next : Next) (a : PushAsks p.client i ask) → number ≡ number_in ask → Runs (errand (for number) i ask) p q next → Runs (errand (for a.tx.dot.number) a.link.centre (CommitAsk a.tx)) p q next
next_errand for p q i ask number next a is e =
    let numbered = subst (λ n. Runs (errand (for n) i ask) p q next) is e in
    subst (λ ask. Runs (errand (for (number_in ask)) a.link.centre ask) p q next) a.asks (subst (λ i. Runs (errand (for (number_in ask)) i ask) p q next) a.centre numbered)

-- a push of a commit
pub push_takes : (p q : Playing) (i : ℕ) (ask : Ask) (number : ℕ) (next : Next) → commit_ask p.client ≡ Ok (Some (i, ask)) → number ≡ number_in ask → Runs (errand (purpose.Push number) i ask) p q next → Takes Push p q
push_takes p q i ask number next asked is runs =
    let s = p.client in
    let a = push_asks s i ask asked in
    let r = next_errand (λ n. purpose.Push n) p q i ask number next a is runs in
    takes_by Push p q (λ deeds. refl) (runs_by (StepDeeds (progress p) Push) (errand (purpose.Push a.tx.dot.number) a.link.centre (CommitAsk a.tx)) p q next r (next_there s (line.PushNone s.client) (Pushes (progress p)) i ask a r.deeds r.asks))

-- a push that finds no commit left
pub idle_takes : (p : Playing) (later : Logged) (client : ℕ) → commit_ask p.client ≡ Ok None → client ≡ p.client.client → later ≡ noted_all p.log (told (Some (line.PushNone client))) → Takes Push p (record p { log = later })
idle_takes p later client asked same is =
    let s = p.client in
    takes_by Push p (record p { log = later }) (λ deeds. refl) (grows_line (StepDeeds (progress p) Push) p later (line.PushNone client) (line.PushNone s.client) is (ap line.PushNone same) (next_idle s (line.PushNone s.client) (Pushes (progress p)) (push_idle s asked)))

-- a push without a link
pub unconnected_takes : (p : Playing) (later : Logged) (client : ℕ) → p.client.link ≡ None → client ≡ p.client.client → later ≡ noted_all p.log (told (Some (line.PushUnconnected client))) → Takes Push p (record p { log = later })
unconnected_takes p later client none same is =
    let s = p.client in
    takes_by Push p (record p { log = later }) (λ deeds. refl) (grows_line (StepDeeds (progress p) Push) p later (line.PushUnconnected client) (line.PushUnconnected s.client) is (ap line.PushUnconnected same) (next_unlinked s (line.PushNone s.client) (Pushes (progress p)) none))

-- a refresh over the link
pub refresh_takes : (p q : Playing) (i : ℕ) (ask : Ask) (next : Next) → refresh_ask p.client ≡ Ok (i, ask) → Runs (errand purpose.Refresh i ask) p q next → Takes Refresh p q
refresh_takes p q i ask next asked runs =
    let s = p.client in
    let a = refresh_asks s i ask asked in
    let r = subst (λ ask. Runs (errand purpose.Refresh a.link.centre ask) p q next) a.asks (subst (λ i. Runs (errand purpose.Refresh i ask) p q next) a.centre runs) in
    takes_by Refresh p q (λ deeds. refl) (runs_by (StepDeeds (progress p) Refresh) (errand purpose.Refresh a.link.centre (refresh_of s)) p q next r
    (over_some s.link a.link (line.RefreshUnconnected s.client) (RefreshDeeds (progress p) s.draft) r.deeds a.linked (subst (λ d. RefreshDeeds (progress p) d a.link r.deeds) (sym a.shut) r.asks)))

-- a refresh without a link
pub refresh_unlinked : (p : Playing) (later : Logged) (client : ℕ) → p.client.link ≡ None → client ≡ p.client.client → later ≡ noted_all p.log (told (Some (line.RefreshUnconnected client))) → Takes Refresh p (record p { log = later })
refresh_unlinked p later client none same is =
    let s = p.client in
    takes_by Refresh p (record p { log = later }) (λ deeds. refl) (grows_line (StepDeeds (progress p) Refresh) p later (line.RefreshUnconnected client) (line.RefreshUnconnected s.client) is (ap line.RefreshUnconnected same) (over_none s.link (line.RefreshUnconnected s.client) (RefreshDeeds (progress p) s.draft) none))

-- a refresh while a transaction is open
pub refresh_open : (p : Playing) (later : Logged) (client : ℕ) (r : Refusal) → (r ≡ NotConnected → ⊥) → refresh_ask p.client ≡ Err r → client ≡ p.client.client → later ≡ noted_all p.log (told (Some (line.RefreshOpen client))) → Takes Refresh p (record p { log = later })
refresh_open p later client r other asked same is =
    let s = p.client in
    let a = refresh_shut s r other asked in
    let ds : List Deed = Told (line.RefreshOpen s.client) ∷ [] in
    takes_by Refresh p (record p { log = later }) (λ deeds. refl) (grows_line (StepDeeds (progress p) Refresh) p later (line.RefreshOpen client) (line.RefreshOpen s.client) is (ap line.RefreshOpen same)
    (over_some s.link a.link (line.RefreshUnconnected s.client) (RefreshDeeds (progress p) s.draft) ds a.linked (subst (λ d. RefreshDeeds (progress p) d a.link ds) (sym a.is_open) refl)))

-- ---- faults

-- a fault is armed, and nothing else is done
pub arm_takes : (step : ClientStep) (p : Playing) (s : Client) (fault : AskFault) → step ≡ Arm fault → s ≡ p.client → Takes step p (record p { client = s; armed = Some fault })
arm_takes step p s fault is same =
    let grows : Grows p p [] = grows_none p in
    subst (λ step. Takes step p (record p { client = s; armed = Some fault })) (sym is) (record {
      deeds = [];
      such = refl;
      grows = record { log = grows.log; client = same; door = grows.door; allowed = grows.allowed; behind = grows.behind };
      armed = refl;
    })

-- ---- looks

-- a look that sees nothing leaves all as it is
pub look_takes : (step : ClientStep) (p : Playing) (centre : ℕ) (object : ObjectId) → step ≡ Look centre object → Takes step p p
look_takes step p centre object is = subst (λ step. Takes step p p) (sym is) (record { deeds = []; such = (None, refl); grows = grows_none p; armed = refl })
