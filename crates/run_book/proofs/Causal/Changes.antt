-- The operation of a change that is made: its kind, its word or key, and what it is over.
use Rattle.std.proofs.Common.{◌≡◌, ℕ, ⊎_elim, List, [], ◌∷◌, ◌++◌, take, Option, Some, None, refl, sym, ap, ◌∙◌, subst}
use Rattle.std.specs.Option.{option_map}
use Rattle.list_core.proofs.Members.{In_more}
use Rattle.ids_core.specs.declared.ids.OpId.{OpId}
use Rattle.ids_core.specs.declared.object.ObjectId.{ObjectId}
use Rattle.tx_core.specs.declared.tx.Update.{Update}
use Rattle.tx_core.specs.declared.state.State.{State}
use Rattle.tx_core.specs.States.{tags_of}
use Rattle.tx_core.specs.Ops.{sort_of_op, over_of, name_of}
use Rattle.dc_talk.specs.declared.calls.Change.{Change}
use Rattle.dc_talk.specs.declared.calls.Change.TheVariants.{Inc, Write}
use Rattle.dc_talk.specs.declared.calls.Outcome.TheVariants.{Fine, Refused}
use Rattle.dc_talk.specs.declared.calls.Refusal.TheVariants.{NeedsFetch}
use Rattle.dc_talk.specs.declared.log.Note.{Note}
use Rattle.dc_talk.specs.Clients.{Client, draft_updates, cached, view}
use Rattle.dc_talk.specs.Calls.{sort_of_change, named, op_of, viewed, tags_in, over, look_up_outcome}
use Rattle.dc_talk.specs.Rule.{client_after, commits_of, Follows}
use Rattle.run_book.proofs.Sessions.{change_fine}
use Rattle.run_book.proofs.Causal.Operations.{HasKinds}
use Rattle.run_book.proofs.Causal.Drafts.{IsOfDrafts, HoldsOf, holds_after}

-- ---- one change

-- its operation is of its kind
pub kind_of_op : (change : Change) (ids : List OpId) → sort_of_op (op_of change ids) ≡ sort_of_change change
kind_of_op (Inc delta) ids = refl
kind_of_op _ ids = refl

-- and on its word or key
pub name_of_op : (change : Change) (ids : List OpId) → name_of (op_of change ids) ≡ named change
name_of_op (Inc delta) ids = refl
name_of_op _ ids = refl

-- where it has one, the operation is over the identifiers that it is given
pub over_of_op : (change : Change) (ids : List OpId) (name : List ℕ) → named change ≡ Some name → over_of (op_of change ids) ≡ ids
over_of_op (Inc delta) ids name is = cc
over_of_op (Write word) ids name is = cc
over_of_op _ ids name is = refl

-- a change of a word or key is over its tags in what the session has of the object
pub record IsOver (s : Client) (o : ObjectId) (change : Change) (name : List ℕ) : Type 0 where
  pub state : State
  pub found : cached o s.vector s.cache ≡ Some state
  pub is : over s o change ≡ tags_of (view s o state) name

-- so is each that found its object there
pub is_over : (s : Client) (o : ObjectId) (change : Change) (name : List ℕ) → named change ≡ Some name → Fine ≡ look_up_outcome o (named change) (viewed s o) → IsOver s o change name
is_over s o change name is fine = go (cached o s.vector s.cache) refl
  where
    go : (c : Option State) → cached o s.vector s.cache ≡ c → IsOver s o change name
    go None e =
        let refused : Fine ≡ Refused (NeedsFetch o) = fine ∙ (ap (λ n. look_up_outcome o n (viewed s o)) is ∙ ap (λ c. look_up_outcome o (Some name) (option_map (view s o) c)) e) in
        absurd (cc)
    go (Some state) e = record { state = state; found = e; is = ap (λ n. tags_in n (viewed s o)) is ∙ ap (λ c. tags_in (Some name) (option_map (view s o) c)) e }

-- ---- kinds

-- no updates are of any kinds
no_kinds : HasKinds []
no_kinds = record { each = λ u i. absurd i }

-- one update more, of its object's kind
kinds_more : (us : List Update) (u : Update) → HasKinds us → sort_of_op u.op ≡ u.object.sort → HasKinds (us ++ u ∷ [])
kinds_more us u h is = record { each = λ v i. ⊎_elim (h.each v) (λ e. subst (λ (u : Update). sort_of_op u.op ≡ u.object.sort) (sym e) is) (In_more us u v i) }

-- the open updates of a session are of their objects' kinds, and so are its commits
of_kinds : IsOfDrafts (λ s deed. Unit {0}) (λ s. HasKinds (draft_updates s)) (λ t. HasKinds t.updates)
of_kinds = record {
  first = λ s none. subst HasKinds (sym none) no_kinds;
  beside = λ s link cache h. h;
  more = λ s o change fit fine h. kinds_more (draft_updates s) (record { object = o; op = op_of change (over s o change) }) h (kind_of_op change (over s o change) ∙ (change_fine s o change fine).kind);
  commit = λ s number fit some h. h;
}

-- so it is at each moment of a log that follows the rule
pub kinds_after : (n client capacity : ℕ) (notes : List Note) → Follows n client capacity notes → (m : ℕ) → HoldsOf (λ s. HasKinds (draft_updates s)) (λ t. HasKinds t.updates) (client_after n client capacity (take m notes)) (commits_of n client capacity (take m notes))
kinds_after n client capacity notes follows = holds_after of_kinds n client capacity notes follows (λ p note there. tt)
