-- The graph of a book whose clients check what they take is guarded.
use Rattle.std.proofs.Common.{◌≡◌, ℕ, ◌+◌, ◌-◌, ◌<◌, ◌⊎◌, inl, inr, ⊎_elim, true, List, [], ◌∷◌, ◌++◌, Some, refl, sym, ap, ◌∙◌, subst, arith}
use Rattle.std.specs.Prelude.{slice_get, pos, ◌+ℤ◌, ◌≤ℤ◌}
use Rattle.std.specs.Option.{unwrap_or}
use Rattle.std.proofs.lemmas.Option.{slice_get_within}
use Rattle.list_core.specs.Members.{In}
use Rattle.list_core.specs.Apart.{Apart}
use Rattle.list_core.proofs.Members.{In_right, In_more, In_from_map}
use Rattle.ids_core.specs.declared.ids.Dot.{Dot}
use Rattle.ids_core.specs.declared.object.ObjectId.{ObjectId}
use Rattle.ids_core.specs.Ids.{same_object}
use Rattle.tx_core.specs.declared.tx.Update.{Update}
use Rattle.dc_talk.specs.declared.calls.Change.{Change}
use Rattle.dc_talk.specs.declared.calls.Change.TheVariants.{Inc}
use Rattle.dc_talk.specs.declared.calls.Call.TheVariants.{Change as ChangeCall}
use Rattle.dc_talk.specs.declared.calls.Outcome.TheVariants.{Fine}
use Rattle.dc_talk.specs.declared.log.Deed.{Deed}
use Rattle.dc_talk.specs.declared.log.Deed.TheVariants.{Did}
use Rattle.dc_talk.specs.declared.log.Note.{Note}
use Rattle.dc_talk.specs.Clients.{Client, draft_updates}
use Rattle.dc_talk.specs.Calls.{op_of, over, change_outcome}
use Rattle.tx_graph.specs.Nodes.{Node, Closed}
use Rattle.tx_graph.specs.Values.{change_of, delta_of}
use Rattle.run_book.specs.declared.book.Book.{Book}
use Rattle.run_book.specs.Setups.{Setup}
use Rattle.run_book.specs.Parts.{notes_of, IsClient}
use Rattle.run_book.specs.Fit.{FitsWith}
use Rattle.run_book.specs.Graphs.{cover, own_dots, node_of, committed, graph, basis, client_at, commits_at}
use Rattle.run_book.proofs.Dots.{are_own_dots}
use Rattle.run_book.proofs.Causal.Commits.{number_low}
use Rattle.run_book.proofs.Causal.Closure.{made, session_held}
use Rattle.run_book.proofs.Causal.CommitMoments.{commit_at}
use Rattle.run_book.proofs.Causal.Drafts.{IsOfDrafts, HoldsOf, holds_after}
use Rattle.graph_rights.specs.Rights.{amount_of, amount_in, rights_over, rights_in, IsGuarded}
use Rattle.graph_rights.proofs.Images.{same_head, same_rest, nil-cons}
use Rattle.graph_rights.proofs.Rights.{rights_never_below}
use Rattle.run_rights.specs.Takings.{IsCellOf, ChecksTakings}
use Rattle.run_rights.proofs.RightsRead.{rights_read}

-- the delta of the operation of a change
delta_of_op : (change : Change) (ids : List _) → delta_of (change_of (op_of change ids)) ≡ delta_of change
delta_of_op (Inc d) ids = refl
delta_of_op _ ids = refl

-- where a list with one more element parts: at that one, or before it
record PartsBefore {X : Type 0} (xs : List X) (x : X) (before : List X) (y : X) : Type 0 where
  later : List X
  whole : xs ≡ before ++ y ∷ later

parts_more : {X : Type 0} (xs : List X) (x : X) (before : List X) (y : X) (later : List X) → xs ++ x ∷ [] ≡ before ++ y ∷ later → PartsBefore xs x before y ⊎ ((xs ≡ before) × (x ≡ y))
parts_more [] x [] y later is = inr (refl, same_head is)
parts_more [] x (z ∷ before) y later is = absurd (none_more before y later (same_rest is))
  where
    none_more : {X : Type 0} (before : List X) (y : X) (later : List X) → [] ≡ before ++ y ∷ later → ⊥
    none_more [] y later is = nil-cons y later is
    none_more (z ∷ before) y later is = nil-cons z (before ++ y ∷ later) is
parts_more (z ∷ xs) x [] y later is = inl (record { later = xs; whole = λ i. same_head is i ∷ xs })
parts_more (z ∷ xs) x (w ∷ before) y later is =
    ⊎_elim
    (λ parts. inl (record { later = parts.later; whole = λ i. same_head is i ∷ parts.whole i }))
    (λ last. inr ((λ i. same_head is i ∷ last.0 i), last.1))
    (parts_more xs x before y later (same_rest is))

module _ (b : Book) (setup : Setup) (fit : FitsWith b setup) (owner : ℕ) (gains losses : List ObjectId) (takes : ChecksTakings b setup owner gains losses) where
  abbrev nodes : List Node
  nodes = graph b setup

  abbrev Counted : ObjectId → Type 0
  Counted o = IsCellOf gains losses o

  -- ---- drafts and commits

  -- what a client adds to the cells over a set of dots is checked
  record AreChecked (client : ℕ) (set : List Dot) (updates : List Update) : Type 0 where
    paid : (u : Update) (o : ObjectId) → In u updates → Counted o → same_object u.object o ≡ true → pos 0 ≤ℤ amount_in u
    taken : (u : Update) (o : ObjectId) → In u updates → In o losses → same_object u.object o ≡ true → client ≡ owner
    checked : (before later : List Update) (u : Update) (o : ObjectId) → updates ≡ before ++ u ∷ later → In o losses → same_object u.object o ≡ true → amount_in u ≤ℤ (rights_over gains losses nodes set +ℤ rights_in gains losses before)

  -- a change that a session may make
  record MayChange (s : Client) (o : ObjectId) (change : Change) : Type 0 where
    paid : (cell : ObjectId) → Counted cell → same_object o cell ≡ true → pos 0 ≤ℤ amount_of change
    taken : (cell : ObjectId) → In cell losses → same_object o cell ≡ true → s.client ≡ owner
    checked : (cell : ObjectId) → In cell losses → same_object o cell ≡ true → amount_of change ≤ℤ (rights_over gains losses nodes (basis b s) +ℤ rights_in gains losses (draft_updates s))

  -- the deed, where it is a change that is made, is one that the session may make
  abbrev MayDo : Client → Deed → Type 0
  MayDo s deed = (o : ObjectId) (change : Change) → deed ≡ Did (ChangeCall o change) Fine → MayChange s o change

  -- no updates are checked
  checked_none : (client : ℕ) (set : List Dot) → AreChecked client set []
  checked_none client set = record { paid = λ u o i. absurd i; taken = λ u o i. absurd i; checked = λ before later u o is. absurd (none before later u is) }
    where
      none : (before later : List Update) (u : Update) → [] ≡ before ++ u ∷ later → ⊥
      none [] later u is = nil-cons u later is
      none (v ∷ before) later u is = nil-cons v (before ++ u ∷ later) is

  -- so are checked updates with one more
  checked_more : (s : Client) (o : ObjectId) (change : Change) → MayChange s o change → Fine ≡ change_outcome s o change → AreChecked s.client (basis b s) (draft_updates s) → AreChecked s.client (basis b s) (draft_updates s ++ record { object = o; op = op_of change (over s o change) } ∷ [])
  checked_more s o change may is h = record { paid = paid; taken = taken; checked = checked }
    where
      us : List Update
      us = draft_updates s

      u : Update
      u = record { object = o; op = op_of change (over s o change) }

      amount_is : amount_of change ≡ amount_in u
      amount_is = ap (λ d. unwrap_or d (pos 0)) (sym (delta_of_op change (over s o change)))

      paid : (v : Update) (cell : ObjectId) → In v (us ++ u ∷ []) → Counted cell → same_object v.object cell ≡ true → pos 0 ≤ℤ amount_in v
      paid v cell i among hit =
          ⊎_elim
          (λ older. h.paid v cell older among hit)
          (λ last. subst (λ v. pos 0 ≤ℤ amount_in v) (sym last) (subst (λ z. pos 0 ≤ℤ z) amount_is (may.paid cell among (subst (λ (v : Update). same_object v.object cell ≡ true) last hit))))
          (In_more us u v i)

      taken : (v : Update) (cell : ObjectId) → In v (us ++ u ∷ []) → In cell losses → same_object v.object cell ≡ true → s.client ≡ owner
      taken v cell i among hit = ⊎_elim (λ older. h.taken v cell older among hit) (λ last. may.taken cell among (subst (λ (v : Update). same_object v.object cell ≡ true) last hit)) (In_more us u v i)

      checked : (before later : List Update) (v : Update) (cell : ObjectId) → us ++ u ∷ [] ≡ before ++ v ∷ later → In cell losses → same_object v.object cell ≡ true → amount_in v ≤ℤ (rights_over gains losses nodes (basis b s) +ℤ rights_in gains losses before)
      checked before later v cell whole among hit =
          ⊎_elim
          (λ older. h.checked before older.later v cell older.whole among hit)
          (λ last.
          let here = may.checked cell among (subst (λ (v : Update). same_object v.object cell ≡ true) (sym last.1) hit) in
          subst (λ v. amount_in v ≤ℤ (rights_over gains losses nodes (basis b s) +ℤ rights_in gains losses before)) last.1
          (subst (λ l. amount_in u ≤ℤ (rights_over gains losses nodes (basis b s) +ℤ rights_in gains losses l)) last.0
          (subst (λ z. z ≤ℤ (rights_over gains losses nodes (basis b s) +ℤ rights_in gains losses us)) amount_is here)))
          (parts_more us u before v later whole)

  -- so it is from the begin of a transaction to its commit
  of_checked : IsOfDrafts MayDo (λ s. AreChecked s.client (basis b s) (draft_updates s)) (λ t. AreChecked t.dot.client (node_of b t).deps t.updates)
  of_checked = record {
    first = λ s none. subst (AreChecked s.client (basis b s)) (sym none) (checked_none s.client (basis b s));
    beside = λ s link cache h. h;
    more = λ s o change may. checked_more s o change (may o change refl);
    commit = λ s number may some h. subst (λ n. AreChecked s.client (cover b s.vector ++ own_dots s.client n) (draft_updates s)) (let e : s.own ≡ s.own + 1 - 1 = omega arith in e) h;
  }

  -- each change of a client is one that it may make
  may_change : (a p : ℕ) (note : Note) (o : ObjectId) (change : Change) → IsClient setup a → slice_get (notes_of b a) p ≡ Some note → note.deed ≡ Did (ChangeCall o change) Fine → MayChange (client_at b setup a p) o change
  may_change a p note o change client there deed_is = record {
    paid = λ cell among hit. takes.paid a p (cell ∷ []) change client (λ d i. ⊎_elim (λ same. subst Counted (sym same) among) (λ j. absurd j) i) (record { note = note; there = there; o = o; deed_is = deed_is; cell = cell; among = inl refl; is = hit });
    taken = λ cell among hit. (session_held b setup fit a p client).who ∙ takes.taken a p change client (record { note = note; there = there; o = o; deed_is = deed_is; cell = cell; among = among; is = hit });
    checked = λ cell among hit.
        let h = takes.checked a p change client (record { note = note; there = there; o = o; deed_is = deed_is; cell = cell; among = among; is = hit }) in
        let within = slice_get_within (notes_of b a) p note there in
        subst (λ z. amount_of change ≤ℤ z) (rights_read b setup fit gains losses takes.counters a p h.value client (omega (arith, within)) h.has_read) h.enough;
  }

  holds : (a m : ℕ) → IsClient setup a → HoldsOf (λ s. AreChecked s.client (basis b s) (draft_updates s)) (λ t. AreChecked t.dot.client (node_of b t).deps t.updates) (client_at b setup a m) (commits_at b setup a m)
  holds a m client = holds_after of_checked b.n (a - 1) setup.capacity (notes_of b a) (fit.follows a client) (λ p note there o change is. may_change a p note o change client there is) m

  -- ---- the graph

  node_checked : (t : Node) → In t nodes → AreChecked t.dot.client t.deps t.updates
  node_checked t i =
      let m = In_from_map (node_of b) (committed b setup) t i in
      let c = commit_at b setup fit m.0 m.1 in
      subst (λ (t : Node). AreChecked t.dot.client t.deps t.updates) (sym m.2) ((holds c.actor c.moment c.client).commits m.0 c.there)

  own : (t u : Node) → In t nodes → In u nodes → u.dot.client ≡ t.dot.client → u.dot.number < t.dot.number → In u.dot t.deps
  own t u i j who less =
      let m = In_from_map (node_of b) (committed b setup) t i in
      let n = In_from_map (node_of b) (committed b setup) u j in
      let dot_t : t.dot ≡ m.0.dot = ap (λ (t : Node). t.dot) m.2 in
      let dot_u : u.dot ≡ n.0.dot = ap (λ (t : Node). t.dot) n.2 in
      let same : n.0.dot.client ≡ m.0.dot.client = ap (λ (d : Dot). d.client) (sym dot_u) ∙ (who ∙ ap (λ (d : Dot). d.client) dot_t) in
      let low = number_low b setup fit n.0 n.1 in
      let lower : n.0.dot.number < m.0.dot.number = omega (arith, less, ap (λ (d : Dot). d.number) dot_t, ap (λ (d : Dot). d.number) dot_u) in
      let k = are_own_dots m.0.dot.client (m.0.dot.number - 1) n.0.dot (record { number = n.0.dot.number; low = low; high = omega (arith, lower); is = λ i. record { client = same i; number = n.0.dot.number } }) in
      subst (λ (t : Node). In u.dot t.deps) (sym m.2) (subst (λ d. In d (node_of b m.0).deps) (sym dot_u) (In_right (cover b m.0.snap) (own_dots m.0.dot.client (m.0.dot.number - 1)) n.0.dot k))

  guarded : IsGuarded owner gains losses nodes
  guarded = record {
    own = own;
    paid = λ t u o i. (node_checked t i).paid u o;
    taken = λ t u o i. (node_checked t i).taken u o;
    checked = λ t before later u o i. (node_checked t i).checked before later u o;
  }

  -- over a closed set the rights are at least 0
  pub bounded : Apart (λ (o : ObjectId). o) losses → (set : List Dot) → Closed nodes set → pos 0 ≤ℤ rights_over gains losses nodes set
  bounded apart set closed = rights_never_below owner gains losses nodes apart guarded (made b setup fit) set closed
