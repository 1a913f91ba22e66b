-- Calls of the session with their lines, as growth.
use Rattle.std.proofs.Common.{◌≡◌, ℕ, inl, inr, Bool, true, false, cond, List, [], ◌∷◌, ◌++◌, Option, Some, None, refl, sym, ap, ◌∙◌, subst}
use Rattle.std.specs.Prelude.{IfSome}
use Rattle.std.specs.List.{list_any}
use Rattle.dc_talk.specs.declared.calls.Call.{Call}
use Rattle.dc_talk.specs.declared.calls.Call.TheVariants.{Begin as BeginCall, Change as ChangeCall, Read as ReadCall, Commit as CommitCall, Abort as AbortCall}
use Rattle.dc_talk.specs.declared.calls.Connection.{Connection}
use Rattle.dc_talk.specs.declared.calls.Outcome.{Outcome}
use Rattle.dc_talk.specs.declared.calls.Outcome.TheVariants.{Fine, Got, Number, Nothing, Refused}
use Rattle.dc_talk.specs.declared.calls.Refusal.TheVariants.{NeedsFetch, TooManyTags}
use Rattle.dc_talk.specs.declared.log.Deed.{Deed}
use Rattle.dc_talk.specs.declared.log.Deed.TheVariants.{Did, Asked, Told, Spoilt}
use Rattle.dc_talk.specs.declared.line.Line.{Line}
use Rattle.dc_talk.specs.declared.line.Line.TheVariants as line
use Rattle.dc_talk.specs.declared.log.Note.{Note}
use Rattle.dc_talk.specs.Logs.{Logged, noted}
use Rattle.dc_talk.specs.Clients.{Client}
use Rattle.dc_talk.specs.Doors.{DoorView, IsBehind}
use Rattle.dc_talk.specs.Calls.{Ends, did, outcome_of}
use Rattle.script_core.specs.declared.object_call.ObjectCall.{ObjectCall}
use Rattle.script_core.specs.declared.steps.AskFault.{AskFault}
use Rattle.script_core.specs.Deeds.{CallDeeds, FetchDeeds, Fetches, OrTells, Progress, calls, calls_on, call_line, cell_line, line_on, is_ask, is_of_rights, told}
use Rattle.dc_talk.specs.Acting.{noted_all}
use Rattle.client_stub.specs.Playing.{IsLinkBehind, Playing, StubView, Grows, beside, progress}
use Rattle.client_stub.specs.Errands.{GrowsBy, MakesCall, needs_fetch, used_by}
use Rattle.client_stub.proofs.Growth.{grows_call, grows_then, grows_told}

-- a call leaves the link as it is
link_did : (s : Client) (call : Call) (outcome : Outcome) → (did s call outcome).link ≡ s.link
link_did s BeginCall Fine = refl
link_did s (ChangeCall o change) Fine = refl
link_did s (ChangeCall o change) (Refused (TooManyTags count)) = refl
link_did s (ReadCall o) (Got value) = refl
link_did s CommitCall (Number number) = refl
link_did s CommitCall Nothing = refl
link_did s AbortCall Fine = refl
link_did s _ _ = refl

-- so does one that ends so
pub link_ended : (s t : Client) (call : Call) (outcome : Outcome) → Ends s t call outcome → t.link ≡ s.link
link_ended s t call outcome ends = ap (λ (s : Client). s.link) ends.after ∙ link_did s call outcome

-- and a link that is as it was is still behind the door
pub link_kept : (door : DoorView) (s t : Client) → t.link ≡ s.link → IsLinkBehind door s → IsLinkBehind door t
link_kept door s t same is = subst (λ (l : Option Connection). IfSome l (λ link. IsBehind door link.centre)) (sym same) is

-- a call, its note and its line
pub grows_calls : (p : Playing) (stub : StubView) (call : Call) (outcome : Outcome) (later : Logged) (line : Option Line) → Ends p.client stub.client call outcome → later ≡ noted_all p.log (Did call outcome ∷ told line) → Grows p (beside stub p.door later) (Did call outcome ∷ told line)
grows_calls p stub call outcome later line ends is =
    let q : Playing = record p { client = stub.client; log = noted p.log (Did call outcome) } in
    let r : Playing = record q { log = noted_all q.log (told line) } in
    let grown : Grows p r (Did call outcome ∷ told line) = grows_then p q r (Did call outcome ∷ []) (told line) (grows_call p stub.client call outcome ends) (grows_told q line) in
    record { log = is; client = grown.client; door = grown.door; allowed = grown.allowed; behind = grown.behind }

-- the note and the line of a call on an object are those that it leaves
these_calls : (p : Playing) (t : Client) (c : ObjectCall) (outcome : Outcome) (line : Option Line) → Ends p.client t c.call outcome → line ≡ line_on p.client.client c outcome → Did c.call outcome ∷ told line ≡ calls_on p.client c
these_calls p t c outcome line ends lined = ap (λ l. Did c.call outcome ∷ told l) lined ∙ ap (λ out. Did c.call out ∷ told (line_on p.client.client c out)) ends.ends

-- a call on an object, with its line
pub makes_call : (p : Playing) (stub : StubView) (c : ObjectCall) (outcome : Outcome) (later : Logged) (line : Option Line) (needs : Bool) → Ends p.client stub.client c.call outcome → stub.armed ≡ p.armed → line ≡ line_on p.client.client c outcome → needs ≡ needs_fetch outcome → later ≡ noted_all p.log (Did c.call outcome ∷ told line) → MakesCall c p (beside stub p.door later) needs
makes_call p stub c outcome later line needs ends armed lined need is = record {
  grows = subst (λ ds. Grows p (beside stub p.door later) ds) (these_calls p stub.client c outcome line ends lined) (grows_calls p stub c.call outcome later line ends is);
  armed = armed;
  needed = need ∙ ap needs_fetch ends.ends;
}

-- ---- the fault that stays armed

-- a line is no ask
pub told_uses : (armed : Option AskFault) (line : Option Line) → used_by armed (told line) ≡ armed
told_uses armed None = refl
told_uses armed (Some line) = refl

-- nor is a call
pub calls_use : (armed : Option AskFault) (s : Client) (c : ObjectCall) → used_by armed (calls_on s c) ≡ armed
calls_use armed s c = told_uses armed (line_on s.client c (outcome_of s c.call))

-- more deeds after deeds
pub used_then : (armed between : Option AskFault) (ds es : List Deed) → between ≡ used_by armed ds → used_by between es ≡ used_by armed (ds ++ es)
used_then armed between [] es is = ap (λ armed. used_by armed es) is
used_then armed between (Did call outcome ∷ ds) es is = used_then armed between ds es is
used_then armed between (Told line ∷ ds) es is = used_then armed between ds es is
used_then armed between (Spoilt from item why ∷ ds) es is = used_then armed between ds es is
used_then armed between (Asked i ask fate ∷ ds) es is = ap (λ armed. used_by armed es) is ∙ by_test (list_any is_ask es)
  where
    by_test : (test : Bool) → cond {A = Option AskFault} test None None ≡ None
    by_test true = refl
    by_test false = refl

-- ---- calls on an object

-- a call on no object
pub called_alone : (p : Playing) (stub : StubView) (call : Call) (outcome : Outcome) (later : Logged) (line : Option Line) → Ends p.client stub.client call outcome → stub.armed ≡ p.armed → line ≡ call_line p.client.client call outcome → later ≡ noted_all p.log (Did call outcome ∷ told line) → GrowsBy (λ deeds. deeds ≡ calls p.client call) p (beside stub p.door later)
called_alone p stub call outcome later line ends armed lined is = record {
  deeds = Did call outcome ∷ told line;
  such = ap (λ l. Did call outcome ∷ told l) lined ∙ ap (λ out. Did call out ∷ told (call_line p.client.client call out)) ends.ends;
  grows = grows_calls p stub call outcome later line ends is;
  armed = armed ∙ sym (told_uses p.armed line);
}

-- a call on an object, whether or not it has to have the object fetched
pub called : (p q : Playing) (c : ObjectCall) (needs : Bool) → MakesCall c p q needs → GrowsBy (λ deeds. deeds ≡ calls_on p.client c) p q
called p q c needs made = record { deeds = calls_on p.client c; such = refl; grows = made.grows; armed = made.armed ∙ sym (calls_use p.armed p.client c) }

-- a call that needs no fetch
once_deeds : (p : Progress) (c : ObjectCall) (out : Outcome) → needs_fetch out ≡ false → (ds : List Deed) → ds ≡ calls_on p.client c → CallDeeds p c out ds
once_deeds p c (Refused (NeedsFetch o)) n ds e = cc
once_deeds p c _ n ds e = e

-- it grows by its deeds alone
pub called_once : (p q : Playing) (c : ObjectCall) (needs : Bool) → needs ≡ false → MakesCall c p q needs → GrowsBy (CallDeeds (progress p) c (outcome_of p.client c.call)) p q
called_once p q c needs n made = record {
  deeds = calls_on p.client c;
  such = once_deeds (progress p) c (outcome_of p.client c.call) (sym made.needed ∙ n) (calls_on p.client c) refl;
  grows = made.grows;
  armed = made.armed ∙ sym (calls_use p.armed p.client c);
}

-- a call has no line where it has to have its object fetched
no_call_line : (client : ℕ) (call : Call) (out : Outcome) → needs_fetch out ≡ true → call_line client call out ≡ None
no_call_line client BeginCall (Refused (NeedsFetch o)) n = refl
no_call_line client (ChangeCall o change) (Refused (NeedsFetch p)) n = refl
no_call_line client (ReadCall o) (Refused (NeedsFetch p)) n = refl
no_call_line client CommitCall (Refused (NeedsFetch o)) n = refl
no_call_line client AbortCall (Refused (NeedsFetch o)) n = refl
no_call_line client _ _ n = cc

-- nor on a cell
no_cell_line : (client : ℕ) (c : ObjectCall) (out : Outcome) → needs_fetch out ≡ true → cell_line client c out ≡ None
no_cell_line client c (Refused (NeedsFetch o)) n = refl
no_cell_line client c _ n = cc

-- so none on any object
no_line : (client : ℕ) (c : ObjectCall) (out : Outcome) → needs_fetch out ≡ true → line_on client c out ≡ None
no_line client c out n = by_word (is_of_rights c.word)
  where
    by_word : (test : Bool) → cond test (cell_line client c out) (call_line client c.call out) ≡ None
    by_word true = no_cell_line client c out n
    by_word false = no_call_line client c.call out n

-- and it changes nothing
unchanged : (s : Client) (call : Call) (out : Outcome) → needs_fetch out ≡ true → did s call out ≡ s
unchanged s BeginCall (Refused (NeedsFetch o)) n = refl
unchanged s (ChangeCall o change) (Refused (NeedsFetch p)) n = refl
unchanged s (ReadCall o) (Refused (NeedsFetch p)) n = refl
unchanged s CommitCall (Refused (NeedsFetch o)) n = refl
unchanged s AbortCall (Refused (NeedsFetch o)) n = refl
unchanged s _ _ n = cc

-- a call that is made again behind its fetch
again_deeds : (p : Progress) (c : ObjectCall) (out : Outcome) → needs_fetch out ≡ true → (rest : List Deed) → FetchDeeds p c rest → CallDeeds p c out (Did c.call (outcome_of p.client c.call) ∷ rest)
again_deeds p c (Refused (NeedsFetch o)) n rest f = record { rest = rest; whole = refl; fetch = f }
again_deeds p c _ n rest f = cc

-- what was noted before a fetch tells nothing of it
pub fetch_from : (p : Progress) (notes : List Note) (c : ObjectCall) (ds : List Deed) → FetchDeeds p c ds → FetchDeeds (record p { notes = notes }) c ds
fetch_from p notes c ds f = by p.client.link f
  where
    over : (link : Connection) → Fetches p c link ds → Fetches (record p { notes = notes }) c link ds
    over link (inl once) = inl (record { asks = once.asks; last = once.last })
    over link (inr twice) = inr (record { first = twice.first; rest = twice.rest; whole = twice.whole; asks = twice.asks; on = twice.on; then = twice.then })

    by : (link : Option Connection) → OrTells link (line.Unconnected p.client.client c.word c.shown) (Fetches p c) ds → OrTells link (line.Unconnected p.client.client c.word c.shown) (Fetches (record p { notes = notes }) c) ds
    by None told = told
    by (Some link) fetches = over link fetches

-- the fetch is that of the client before, since the call changed nothing
same_fetch : (p q : Playing) (c : ObjectCall) (rest : List Deed) → q.client ≡ p.client → q.armed ≡ p.armed → FetchDeeds (progress q) c rest → FetchDeeds (progress p) c rest
same_fetch p q c rest client armed fetch =
    let f : FetchDeeds (record { client = q.client; armed = q.armed; notes = p.log.notes }) c rest = fetch_from (progress q) p.log.notes c rest fetch in
    subst (λ (s : Client). FetchDeeds (record { client = s; armed = p.armed; notes = p.log.notes }) c rest) client (subst (λ (armed : Option AskFault). FetchDeeds (record { client = q.client; armed = armed; notes = p.log.notes }) c rest) armed f)

-- it grows by the call, the fetch and what follows that
pub called_again : (p q r : Playing) (c : ObjectCall) (needs : Bool) → needs ≡ true → MakesCall c p q needs → GrowsBy (FetchDeeds (progress q) c) q r → GrowsBy (CallDeeds (progress p) c (outcome_of p.client c.call)) p r
called_again p q r c needs n made f =
    let out = outcome_of p.client c.call in
    let yes : needs_fetch out ≡ true = sym made.needed ∙ n in
    let silent : calls_on p.client c ≡ Did c.call out ∷ [] = ap (λ l. Did c.call out ∷ told l) (no_line p.client.client c out yes) in
    let grows : Grows p q (Did c.call out ∷ []) = subst (λ ds. Grows p q ds) silent made.grows in
    let same : q.client ≡ p.client = grows.client ∙ unchanged p.client c.call out yes in
    record {
      deeds = Did c.call out ∷ f.deeds;
      such = again_deeds (progress p) c out yes f.deeds (same_fetch p q c f.deeds same made.armed f.such);
      grows = grows_then p q r (Did c.call out ∷ []) f.deeds grows f.grows;
      armed = f.armed ∙ ap (λ armed. used_by armed f.deeds) made.armed;
    }
