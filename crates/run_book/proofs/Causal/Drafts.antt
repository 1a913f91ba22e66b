-- What holds of an open transaction from its begin to its commit holds of each commit.
use Rattle.std.proofs.Common.{◌≡◌, ℕ, ◌≤◌, ⊎_elim, Bool, true, false, cond, ◌&&◌, List, [], ◌∷◌, ◌++◌, length, take, Option, Some, None, refl, sym, ap, subst, arith}
use Rattle.std.specs.Prelude.{◌==◌, slice_get}
use Rattle.std.specs.Option.{unwrap_or}
use Rattle.std.proofs.lemmas.Bool.{and_parts}
use Rattle.std.proofs.lemmas.List.{append-nil}
use Rattle.list_core.specs.Members.{In}
use Rattle.list_core.proofs.Members.{In_more}
use Rattle.ids_core.specs.declared.object.ObjectId.{ObjectId}
use Rattle.tx_core.specs.declared.tx.Update.{Update}
use Rattle.tx_core.specs.declared.tx.Tx.{Tx}
use Rattle.dc_talk.specs.declared.ask.Ask.{Ask}
use Rattle.dc_talk.specs.declared.ask.Ask.TheVariants.{Hello, Refresh, Fetch, Delta, Commit as CommitAsk}
use Rattle.dc_talk.specs.declared.say.Say.{Say}
use Rattle.dc_talk.specs.declared.say.Say.TheVariants.{Welcome, Snap, Pruned, Object, Changes, Known, Stamped}
use Rattle.dc_talk.specs.declared.calls.Connection.{Connection}
use Rattle.dc_talk.specs.declared.calls.Cached.{Cached}
use Rattle.dc_talk.specs.declared.calls.Change.{Change}
use Rattle.dc_talk.specs.declared.calls.Call.{Call}
use Rattle.dc_talk.specs.declared.calls.Call.TheVariants.{Begin, Change as ChangeCall, Read, Commit, Abort}
use Rattle.dc_talk.specs.declared.calls.Outcome.{Outcome}
use Rattle.dc_talk.specs.declared.calls.Outcome.TheVariants.{Fine, Got, Number, Nothing, Refused}
use Rattle.dc_talk.specs.declared.calls.Refusal.TheVariants.{TooManyTags}
use Rattle.dc_talk.specs.declared.log.Fate.TheVariants.{Heard}
use Rattle.dc_talk.specs.declared.log.Deed.{Deed}
use Rattle.dc_talk.specs.declared.log.Deed.TheVariants.{Did, Asked, Told, Spoilt}
use Rattle.dc_talk.specs.declared.log.Note.{Note}
use Rattle.dc_talk.specs.Clients.{Client, new_client, next_tx, draft_updates}
use Rattle.dc_talk.specs.Calls.{op_of, over, looked_up, change_outcome, commit_outcome, outcome_of, did}
use Rattle.dc_talk.specs.Rule.{after, heard, takes, taken, is_linked, can_follow, client_after, commit_in, commits_of, Allows, Follows}
use Rattle.run_book.proofs.Sessions.{can_follow-true, by_notes}

-- the session after a change that is made
abbrev pub changed : Client → ObjectId → Change → Client
changed s o change = record s { draft = Some (draft_updates s ++ record { object = o; op = op_of change (over s o change) } ∷ []); cache = looked_up s o change }

-- a fact Open of the open transaction of a session: it holds where nothing was changed yet, whatever the link and
-- the cache are, and goes on with each change that is made where the session and this deed are as Fit says; and a fact
-- Made of each commit of such a transaction that has updates
pub record IsOfDrafts (Fit : Client → Deed → Type 0) (Open : Client → Type 0) (Made : Tx → Type 0) : Type 0 where
  pub first : (s : Client) → draft_updates s ≡ [] → Open s
  pub beside : (s : Client) (link : Option Connection) (cache : List Cached) → Open s → Open (record s { link = link; cache = cache })
  pub more : (s : Client) (o : ObjectId) (change : Change) → Fit s (Did (ChangeCall o change) Fine) → Fine ≡ change_outcome s o change → Open s → Open (changed s o change)
  pub commit : (s : Client) (number : ℕ) → Fit s (Did Commit (Number number)) → 1 ≤ length (draft_updates s) → Open s → Made (next_tx s (draft_updates s))

-- the one of the open transaction, and the other of all commits so far
pub record HoldsOf (Open : Client → Type 0) (Made : Tx → Type 0) (s : Client) (C : List Tx) : Type 0 where
  pub draft : Open s
  pub commits : (t : Tx) → In t C → Made t

-- a commit that gets a number has updates
commit_some : (s : Client) (number : ℕ) (draft : Option (List Update)) → Number number ≡ commit_outcome s draft → 1 ≤ length (unwrap_or draft [])
commit_some s number None is = absurd (cc)
commit_some s number (Some []) is = absurd (cc)
commit_some s number (Some (u ∷ us)) is = omega arith

module _ {Fit : Client → Deed → Type 0} {Open : Client → Type 0} {Made : Tx → Type 0} (facts : IsOfDrafts Fit Open Made) where
  -- nothing is open, or nothing was changed yet
  closed : (s : Client) (C : List Tx) → draft_updates s ≡ [] → ((t : Tx) → In t C → Made t) → HoldsOf Open Made s C
  closed s C none commits = record { draft = facts.first s none; commits = commits }

  -- another link or cache
  beside : (s : Client) (C : List Tx) (link : Option Connection) (cache : List Cached) → HoldsOf Open Made s C → HoldsOf Open Made (record s { link = link; cache = cache }) C
  beside s C link cache h = record { draft = facts.beside s link cache h.draft; commits = h.commits }

  -- nothing is committed
  unchanged : (s : Client) (C : List Tx) → HoldsOf Open Made s C → HoldsOf Open Made s (C ++ [])
  unchanged s C h = subst (λ C. HoldsOf Open Made s C) (sym (append-nil C)) h

  -- a call that ends as it does for the session
  holds_did : (s : Client) (C : List Tx) (call : Call) (outcome : Outcome) → Fit s (Did call outcome) → outcome ≡ outcome_of s call → HoldsOf Open Made s C → HoldsOf Open Made (did s call outcome) (C ++ commit_in s (Did call outcome))
  holds_did s C Begin Fine fit is h = unchanged _ C (closed _ C refl h.commits)
  holds_did s C (ChangeCall o change) Fine fit is h = unchanged _ C (record { draft = facts.more s o change fit is h.draft; commits = h.commits })
  holds_did s C (ChangeCall o change) (Refused (TooManyTags count)) fit is h = unchanged _ C (beside s C s.link _ h)
  holds_did s C (Read o) (Got value) fit is h = unchanged _ C (beside s C s.link _ h)
  holds_did s C Commit (Number number) fit is h = closed _ _ refl (λ t i. ⊎_elim (h.commits t) (λ e. subst Made (sym e) (facts.commit s number fit (commit_some s number s.draft is) h.draft)) (In_more C (next_tx s (draft_updates s)) t i))
  holds_did s C Commit Nothing fit is h = unchanged _ C (closed _ C refl h.commits)
  holds_did s C Abort Fine fit is h = unchanged _ C (closed _ C refl h.commits)
  holds_did s C _ _ fit is h = unchanged s C h

  -- an answer that is taken
  holds_taken : (s : Client) (C : List Tx) (i : ℕ) (ask : Ask) (say : Say) → takes s i ask say ≡ true → HoldsOf Open Made s C → HoldsOf Open Made (taken s i ask say) C
  holds_taken s C i (Hello c need) (Welcome through) is h = beside s C _ s.cache h
  holds_taken s C i (Refresh c here) (Snap vector mine top) is h =
      let parts = and_parts ((c == s.client) && is_linked i s.link) (can_follow s vector mine top) is in
      closed _ C (ap (λ d. unwrap_or d []) (can_follow-true s vector mine top parts.1).closed) h.commits
  holds_taken s C i (Fetch o here) (Object state) is h = beside s C s.link _ h
  holds_taken s C i (Delta o from here) (Object state) is h = beside s C s.link _ h
  holds_taken s C i (Delta o from here) (Changes tail) is h = beside s C s.link _ h
  holds_taken s C i (Delta o from here) (Pruned centre base low) is h = beside s C s.link _ h
  holds_taken s C i (CommitAsk tx) (Stamped stamp) is h = beside s C _ s.cache h
  holds_taken s C i (CommitAsk tx) (Known through) is h = beside s C _ s.cache h
  holds_taken s C i _ _ is h = h

  -- an answer that is heard, taken or not
  holds_heard : (s : Client) (C : List Tx) (i : ℕ) (ask : Ask) (say : Say) → HoldsOf Open Made s C → HoldsOf Open Made (heard s i ask say) C
  holds_heard s C i ask say h = go (takes s i ask say) refl
    where
      go : (t : Bool) → takes s i ask say ≡ t → HoldsOf Open Made (cond t (taken s i ask say) s) C
      go true is = holds_taken s C i ask say is h
      go false is = h

  -- a deed that the rule allows
  holds_deed : (s : Client) (C : List Tx) (before : List Note) (deed : Deed) → Fit s deed → Allows s before deed → HoldsOf Open Made s C → HoldsOf Open Made (after s deed) (C ++ commit_in s deed)
  holds_deed s C before (Did call outcome) fit allowed h = holds_did s C call outcome fit allowed h
  holds_deed s C before (Asked i ask (Heard say)) fit allowed h = unchanged (heard s i ask say) C (holds_heard s C i ask say h)
  holds_deed s C before (Asked i ask _) fit allowed h = unchanged s C h
  holds_deed s C before (Told line) fit allowed h = unchanged s C h
  holds_deed s C before (Spoilt from item why) fit allowed h = absurd allowed

  -- so both hold at each moment of a log that follows the rule, where the session and each deed are as Fit says
  pub holds_after : (n client capacity : ℕ) (notes : List Note) → Follows n client capacity notes → ((p : ℕ) (note : Note) → slice_get notes p ≡ Some note → Fit (client_after n client capacity (take p notes)) note.deed) → (m : ℕ) → HoldsOf Open Made (client_after n client capacity (take m notes)) (commits_of n client capacity (take m notes))
  holds_after n client capacity notes follows fit = by_notes n client capacity notes (HoldsOf Open Made) (closed (new_client n client capacity) [] refl (λ t i. absurd i)) (λ p note there h.
      let X = take p notes in
      holds_deed (client_after n client capacity X) (commits_of n client capacity X) X note.deed (fit p note there) (follows.holds p note there) h)
