-- A state that a centre serves is the fold over the transactions that the vector covers, each once.
use Rattle.std.proofs.Common.{◌≡◌, ℕ, ◌≤◌, true, List, [], map, Some, refl, sym, ap, ◌∙◌, subst}
use Rattle.std.specs.Prelude.{filter, flat_map}
use Rattle.std.proofs.lemmas.List.Folds.{flat_map-map}
use Rattle.list_core.specs.Members.{In}
use Rattle.list_core.proofs.Members.{In_map, In_from_map, In_filter, In_from_filter}
use Rattle.list_core.proofs.Apart.{apart_map, apart_filter, same_members}
use Rattle.list_core.proofs.Blocks.{flat_order}
use Rattle.list_core.specs.Apart.{Apart}
use Rattle.list_core.specs.Permutations.{Perm}
use Rattle.ids_core.specs.declared.object.ObjectId.{ObjectId}
use Rattle.vv_core.specs.Vectors.{Covers, within}
use Rattle.tx_core.specs.declared.tx.Tx.{Tx}
use Rattle.tx_core.specs.declared.tx.Record.{Record}
use Rattle.tx_core.specs.declared.state.State.{State}
use Rattle.tx_core.specs.States.{empty_of, fold_of}
use Rattle.tx_core.specs.Operations.{ops_of}
use Rattle.tx_core.proofs.Folds.{fold_of-order}
use Rattle.tx_core.proofs.Operations.{distinct_ops}
use Rattle.dc_talk.specs.declared.calls.Cached.{Cached}
use Rattle.dc_talk.specs.Clients.{cached}
use Rattle.dc_talk.specs.Records.{vector, has, inside, firsts}
use Rattle.dc_talk.specs.Objects.{state_at}
use Rattle.dc_talk.proofs.Firsts.{firsts_in, firsts_apart, firsts_has}
use Rattle.dc_talk.proofs.Dots.{has_In, In_has}
use Rattle.run_book.specs.Parts.{applied_at}
use Rattle.run_book.specs.Setups.{Setup}
use Rattle.run_book.specs.declared.book.Book.{Book}
use Rattle.run_book.specs.Fit.{FitsWith}
use Rattle.run_book.specs.Graphs.{cover, committed}
use Rattle.run_book.proofs.Served.{cached_some}
use Rattle.run_book.proofs.Causal.OneList.{inside_covered, covered_inside}
use Rattle.run_book.proofs.Causal.Commits.{one_tx, applied_commit}

-- a state of the object is the fold over the transactions of the book that the vector covers, each
-- once, in some order
pub record IsServed (b : Book) (setup : Setup) (o : ObjectId) (w : List ℕ) (state : State) : Type 0 where
  pub txs : List Tx
  pub is : state ≡ fold_of (empty_of o.sort) (flat_map (ops_of o) txs)
  pub apart : Apart (λ (t : Tx). t.dot) txs
  pub are : (t : Tx) → In t txs → In t (committed b setup) × In t.dot (cover b w)
  pub all : (t : Tx) → In t (committed b setup) → In t.dot (cover b w) → In t txs

-- the vector fixes it: there is no other one
pub served_once : (b : Book) (setup : Setup) (o : ObjectId) (w : List ℕ) (state other : State) → IsServed b setup o w state → IsServed b setup o w other → state ≡ other
served_once b setup o w state other one two =
    one.is
    ∙ (fold_of-order (empty_of o.sort) (flat_map (ops_of o) one.txs) (flat_map (ops_of o) two.txs) (flat_order (ops_of o) one.txs two.txs same) (distinct_ops o one.txs one.apart)
    ∙ sym two.is)
  where
    same : Perm one.txs two.txs
    same = same_members (λ (t : Tx). t.dot) one.txs two.txs one.apart two.apart (λ t i. let are = one.are t i in two.all t are.0 are.1) (λ t i. let are = two.are t i in one.all t are.0 are.1)

-- what a cache has of an object at a vector is so, where each of its entries is
pub cached_served : (b : Book) (setup : Setup) (o : ObjectId) (w : List ℕ) (cache : List Cached) (state : State) → ((x : Cached) → In x cache → IsServed b setup x.object x.vector x.state) → cached o w cache ≡ Some state → IsServed b setup o w state
cached_served b setup o w cache state each found =
    let k = cached_some o w cache state found in
    subst (λ state. IsServed b setup o w state) k.gives (subst (λ w. IsServed b setup o w k.item.state) k.vector (subst (λ o. IsServed b setup o k.item.vector k.item.state) k.object (each k.item k.there)))

module _ (b : Book) (setup : Setup) (fit : FitsWith b setup) where
  -- the state that a centre gives at a vector that it has is so
  pub served_at : (i p : ℕ) → 1 ≤ i → i ≤ b.n → (o : ObjectId) (w : List ℕ) → Covers (vector b.n (applied_at b i p)) w → IsServed b setup o w (state_at o (applied_at b i p) w)
  served_at i p low high o w le = record { txs = map (λ (r : Record). r.tx) F; is = is; apart = apart_map (λ (r : Record). r.tx) (λ (t : Tx). t.dot) F (apart_filter (λ (r : Record). r.tx.dot) (λ (r : Record). has r.tx.dot (inside A w)) (firsts A) (firsts_apart [] A)); are = are; all = all }
    where
      A : List Record
      A = applied_at b i p

      F : List Record
      F = filter (λ (r : Record). has r.tx.dot (inside A w)) (firsts A)

      is : state_at o A w ≡ fold_of (empty_of o.sort) (flat_map (ops_of o) (map (λ (r : Record). r.tx) F))
      is = ap (fold_of (empty_of o.sort)) (sym (flat_map-map (ops_of o) (λ (r : Record). r.tx) F))

      are : (t : Tx) → In t (map (λ (r : Record). r.tx) F) → In t (committed b setup) × In t.dot (cover b w)
      are t j =
          let m = In_from_map (λ (r : Record). r.tx) F t j in
          let f = In_from_filter (λ (r : Record). has r.tx.dot (inside A w)) (firsts A) m.0 m.1 in
          let here = firsts_in [] A m.0 f.0 in (
            subst (λ t. In t (committed b setup)) (sym m.2) (applied_commit b setup fit i p low high m.0 here),
            subst (λ (t : Tx). In t.dot (cover b w)) (sym m.2) (inside_covered b setup fit i p low high w m.0.tx.dot (has_In m.0.tx.dot (inside A w) f.1)),
          )

      all : (t : Tx) → In t (committed b setup) → In t.dot (cover b w) → In t (map (λ (r : Record). r.tx) F)
      all t j covered =
          let within_it = covered_inside b setup fit i p low high w t.dot le covered in
          let m = In_from_map (λ (r : Record). r.tx.dot) (filter (λ (r : Record). within r.stamp w) A) t.dot within_it in
          let f = In_from_filter (λ (r : Record). within r.stamp w) A m.0 m.1 in
          let q = firsts_has [] A m.0 f.0 refl in
          let dot : q.0.tx.dot ≡ t.dot = q.2 ∙ sym m.2 in
          let same : q.0.tx ≡ t = one_tx b setup fit q.0.tx t (applied_commit b setup fit i p low high q.0 (firsts_in [] A q.0 q.1)) j dot in
          let passes : has q.0.tx.dot (inside A w) ≡ true = In_has q.0.tx.dot (inside A w) (subst (λ d. In d (inside A w)) (sym dot) within_it) in
          subst (λ t. In t (map (λ (r : Record). r.tx) F)) same (In_map (λ (r : Record). r.tx) F q.0 (In_filter (λ (r : Record). has r.tx.dot (inside A w)) (firsts A) q.0 q.1 passes))
