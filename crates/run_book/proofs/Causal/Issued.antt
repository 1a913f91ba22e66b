-- The updates of a session are over what was live in the views in which they were issued.
use Rattle.std.proofs.Common.{◌≡◌, ◌↔◌, ℕ, ◌+◌, ◌-◌, ⊎_elim, List, [], ◌∷◌, ◌++◌, length, take, Some, refl, sym, ap, ◌∙◌, subst, arith}
use Rattle.std.specs.Prelude.{slice_get}
use Rattle.std.proofs.lemmas.Option.{none-some, slice_get_within}
use Rattle.std.proofs.lemmas.List.{take_at, take-append-le}
use Rattle.list_core.specs.Members.{In}
use Rattle.list_core.proofs.Gets.{get_last}
use Rattle.ids_core.specs.declared.ids.OpId.{OpId}
use Rattle.ids_core.specs.declared.ids.Mark.{Mark}
use Rattle.ids_core.specs.declared.object.ObjectId.{ObjectId}
use Rattle.tx_core.specs.declared.op.Op.{Op}
use Rattle.tx_core.specs.declared.tx.Update.{Update}
use Rattle.tx_core.specs.declared.state.State.{State}
use Rattle.tx_core.specs.States.{tags_of}
use Rattle.tx_core.specs.Ops.{over_of, name_of}
use Rattle.tx_core.specs.Objects.{IsLiveId}
use Rattle.dc_talk.specs.declared.calls.Change.{Change}
use Rattle.dc_talk.specs.declared.calls.Outcome.TheVariants.{Fine}
use Rattle.dc_talk.specs.declared.log.Note.{Note}
use Rattle.dc_talk.specs.Clients.{Client, next_dot, draft_updates, cached, view}
use Rattle.dc_talk.specs.Calls.{op_of, over, change_outcome}
use Rattle.dc_talk.specs.Rule.{client_after, commits_of, Follows}
use Rattle.run_book.specs.declared.book.Book.{Book}
use Rattle.tx_graph.specs.Nodes.{Node}
use Rattle.run_book.specs.Graphs.{node_of, basis, cover, own_dots, open_node}
use Rattle.run_book.proofs.Sessions.{change_fine}
use Rattle.run_book.proofs.Causal.InView.{ops_over, IsIssuedAt, IsIssued}
use Rattle.run_book.proofs.Causal.Drafts.{changed, IsOfDrafts, HoldsOf, holds_after}
use Rattle.run_book.proofs.Causal.Changes.{name_of_op, over_of_op, is_over}

module _ (b : Book) (nodes : List Node) where
  -- the operations of the object that the session stands on, and its open ones
  abbrev pub ops_now : Client → ObjectId → List (Mark × Op)
  ops_now s o = ops_over nodes (basis b s) (open_node b s) o

  -- the tags of a word or key in what the session has of an object are the live identifiers of those operations
  pub record ShowsTags (s : Client) : Type 0 where
    pub holds : (o : ObjectId) (state : State) → cached o s.vector s.cache ≡ Some state → (name : List ℕ) (id : OpId) → In id (tags_of (view s o state) name) ↔ IsLiveId (ops_now s o) name id

  -- with one change more the open updates are over what was live in the views in which they were issued
  issued_more : (s : Client) (o : ObjectId) (change : Change) → ShowsTags s → Fine ≡ change_outcome s o change → IsIssued nodes (open_node b s) → IsIssued nodes (open_node b (changed s o change))
  issued_more s o change shows is h = record { each = each }
    where
      us : List Update
      us = draft_updates s

      u : Update
      u = record { object = o; op = op_of change (over s o change) }

      t : Node
      t = open_node b (changed s o change)

      live_before : ObjectId → List Update → List ℕ → OpId → Type 0
      live_before p before name id = IsLiveId (ops_over nodes (basis b s) (record { dot = next_dot s; deps = basis b s; rank = s.clock + 1; updates = before }) p) name id

      older : (k : ℕ) (v : Update) → slice_get us k ≡ Some v → IsIssuedAt nodes t k v
      older k v there =
          let low = slice_get_within us k v there in
          let same : take k (us ++ u ∷ []) ≡ take k us = take-append-le k us (u ∷ []) (omega (arith, low)) in
          record { over = λ name id n. subst (λ before. In id (over_of v.op) ↔ live_before v.object before name id) (sym same) ((h.each k v there).over name id n) }

      newest : (name : List ℕ) (id : OpId) → name_of u.op ≡ Some name → In id (over_of u.op) ↔ live_before o us name id
      newest name id n =
          let name_is = sym (name_of_op change (over s o change)) ∙ n in
          let found = is_over s o change name name_is (change_fine s o change is).found in
          subst (λ ids. In id ids ↔ live_before o us name id) (sym (over_of_op change (over s o change) name name_is ∙ found.is)) (shows.holds o found.state found.found name id)

      last : IsIssuedAt nodes t (length us) u
      last = record { over = λ name id n. subst (λ before. In id (over_of u.op) ↔ live_before o before name id) (sym (take_at us (u ∷ []) (length us) refl)) (newest name id n) }

      each : (k : ℕ) (v : Update) → slice_get (us ++ u ∷ []) k ≡ Some v → IsIssuedAt nodes t k v
      each k v there = ⊎_elim (older k v) (λ e. subst (λ v. IsIssuedAt nodes t k v) e.0 (subst (λ k. IsIssuedAt nodes t k u) (sym e.1) last)) (get_last us u v k there)

  -- the open updates of a session whose views show the tags are issued, and so are its commits
  of_issued : IsOfDrafts (λ s deed. ShowsTags s) (λ s. IsIssued nodes (open_node b s)) (λ t. IsIssued nodes (node_of b t))
  of_issued = record {
    first = λ s none. record { each = λ k u there. absurd (none-some u (sym (ap (λ us. slice_get us k) none) ∙ there)) };
    beside = λ s link cache h. record { each = λ k u there. record { over = (h.each k u there).over } };
    more = issued_more;
    commit = λ s number fit some h. subst (λ n. IsIssued nodes (record { dot = next_dot s; deps = cover b s.vector ++ own_dots s.client n; rank = s.clock + 1; updates = draft_updates s })) (let e : s.own ≡ s.own + 1 - 1 = omega arith in e) h;
  }

  -- so it is at each moment of a log that follows the rule, where each view shows the tags
  pub issued_after : (n client capacity : ℕ) (notes : List Note) → Follows n client capacity notes → ((p : ℕ) → ShowsTags (client_after n client capacity (take p notes))) → (m : ℕ) → HoldsOf (λ s. IsIssued nodes (open_node b s)) (λ t. IsIssued nodes (node_of b t)) (client_after n client capacity (take m notes)) (commits_of n client capacity (take m notes))
  issued_after n client capacity notes follows shows = holds_after of_issued n client capacity notes follows (λ p note there. shows p)
