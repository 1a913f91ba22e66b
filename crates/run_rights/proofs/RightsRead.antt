-- The rights that were read are those over the basis and the open updates.
use Rattle.std.proofs.Common.{◌≡◌, ℕ, ◌+◌, ◌-◌, ◌*◌, ◌^◌, ◌≤◌, ◌<◌, inl, inr, ℤ, List, [], ◌∷◌, ◌++◌, length, Some, refl, sym, ap, ◌∙◌, unsigned_abs, subst, arith}
use Rattle.std.specs.Prelude.{slice_get, ◌+ℤ◌, ◌-ℤ◌}
use Rattle.std.specs.Option.{unwrap_or}
use Rattle.std.specs.Int.{w128, int_wrap}
use Rattle.std.proofs.lemmas.Int.{ints, int_wrap_fits, fits_signed_from_abs}
use Rattle.std.proofs.lemmas.List.Elements.{filter_map-append}
use Rattle.list_core.specs.Members.{In}
use Rattle.ids_core.specs.declared.object.ObjectId.{ObjectId}
use Rattle.ids_core.specs.declared.object.Sort.TheVariants.{Counter}
use Rattle.obj_counter.specs.Counter.{total, sizes}
use Rattle.tx_core.specs.declared.state.Value.TheVariants.{Number as NumberValue}
use Rattle.dc_talk.specs.declared.calls.Call.TheVariants.{Read}
use Rattle.dc_talk.specs.declared.calls.Outcome.TheVariants.{Got}
use Rattle.dc_talk.specs.declared.log.Deed.TheVariants.{Did}
use Rattle.dc_talk.specs.declared.log.Note.{Note}
use Rattle.dc_talk.specs.Clients.{Client, draft_updates}
use Rattle.tx_graph.specs.Nodes.{Node}
use Rattle.tx_graph.specs.Values.{Act, change_of, delta_of, deltas_in, acts_of, acts_over, IsValueBy}
use Rattle.run_book.specs.declared.book.Book.{Book}
use Rattle.run_book.specs.Setups.{Setup}
use Rattle.run_book.specs.Parts.{notes_of, IsClient}
use Rattle.run_book.specs.Fit.{FitsWith}
use Rattle.run_book.specs.Graphs.{cover, own_dots, graph, basis, basis_at, client_at, open_node}
use Rattle.run_book.specs.Causal.{ValueRead, Reads}
use Rattle.run_book.proofs.Causal.Closure.{session_held}
use Rattle.run_book.proofs.Causal.Sums.{sum_small}
use Rattle.run_book.proofs.Causal.Reads.{read_over}
use Rattle.run_steps.specs.Quiet.{StandAlike}
use Rattle.run_steps.proofs.Quiet.{between}
use Rattle.graph_rights.specs.Accounts.{sum_over}
use Rattle.graph_rights.specs.Rights.{amount_at, rights_by, rights_over, rights_in}
use Rattle.graph_rights.proofs.Accounts.{total-append}
use Rattle.graph_rights.proofs.Sums.{sum_over-agree, total_from, rights_of_sums, rights_agree}
use Rattle.run_rights.specs.Takings.{IsCellOf, AreCounters, HasReadCells}

-- ---- the sizes of sums

-- a sum is no larger than its numbers together
total_size : (numbers : List ℤ) → unsigned_abs (total numbers) ≤ sizes numbers
total_size [] = omega arith
total_size (number ∷ numbers) =
    let rest = total_size numbers in
    omega (arith, ints, rest)

-- nor than as many of the greatest
sum_size : (value : ObjectId → ℤ) (cells : List ObjectId) → ((o : ObjectId) → In o cells → unsigned_abs (value o) ≤ 2 ^ 120) → unsigned_abs (sum_over value cells) ≤ length cells * 2 ^ 120
sum_size value [] each = omega arith
sum_size value (o ∷ cells) each =
    let rest = sum_size value cells (λ p i. each p (inr i)) in
    let first = each o (inl refl) in
    omega (arith, ints, rest, first)

-- ---- what was read

module _ (b : Book) (setup : Setup) (fit : FitsWith b setup) (gains losses : List ObjectId) (counters : AreCounters gains losses) where
  abbrev nodes : List Node
  nodes = graph b setup

  -- what a session has of a counter
  abbrev number_now : Client → ObjectId → ℤ
  number_now s o = total (deltas_in (acts_over nodes (basis b s) o ++ acts_of o (open_node b s)))

  -- is the same where the session stands alike
  number_same : (s t : Client) (o : ObjectId) → StandAlike s t → number_now s o ≡ number_now t o
  number_same s t o same = λ i. total (deltas_in (acts_over nodes (cover b (same.vector i) ++ own_dots (same.client i) (same.own i)) o ++ acts_of o (record { dot = record { client = same.client i; number = same.own i + 1 }; deps = cover b (same.vector i) ++ own_dots (same.client i) (same.own i); rank = same.clock i + 1; updates = unwrap_or (same.draft i) [] })))

  -- a number that was read is that of the basis and the open updates
  number_read : (a m : ℕ) (note : Note) (o : ObjectId) (number : ℤ) → IsClient setup a → slice_get (notes_of b a) m ≡ Some note → note.deed ≡ Did (Read o) (Got (NumberValue number)) → o.sort ≡ Counter → number ≡ number_now (client_at b setup a m) o
  number_read a m note o number client there deed_is counter =
      let read : ValueRead = record { actor = a; place = m; object = o; value = NumberValue number } in
      let r : Reads b setup read = record { client = client; note = note; there = there; deed_is = deed_is } in
      subst (λ sort. IsValueBy sort (acts_over nodes (basis_at b setup a m) o ++ acts_of o (open_node b (client_at b setup a m))) (NumberValue number)) counter (read_over b setup fit read r)

  -- the rights that were read are those over the basis and the open updates
  pub rights_read : (a place : ℕ) (value : ObjectId → ℤ) → IsClient setup a → place ≤ length (notes_of b a) → HasReadCells b a place gains losses value → rights_by gains losses value ≡ rights_over gains losses nodes (basis_at b setup a place) +ℤ rights_in gains losses (draft_updates (client_at b setup a place))
  rights_read a place value client within h =
      by_value ∙ (rights_agree gains losses (number_now s) (λ o. total (deltas_in (acts_over nodes (basis b s) o)) +ℤ sum_over (λ u. amount_at u o) (draft_updates s)) split
      ∙ rights_of_sums gains losses (λ o. total (deltas_in (acts_over nodes (basis b s) o))) (λ o. sum_over (λ u. amount_at u o) (draft_updates s)))
    where
      s : Client
      s = client_at b setup a place

      read_now : (o : ObjectId) → IsCellOf gains losses o → value o ≡ number_now s o
      read_now o among =
          let r = h.reads o among in
          let k : ℕ = place - r.at in
          let upto : r.at + k ≡ place = omega (arith, r.early) in
          let alike = between b.n (a - 1) setup.capacity (notes_of b a) r.at k (λ p note low high. h.quiet p note (omega (arith, low, r.late)) (omega (arith, high, upto))) (omega (arith, upto, within)) in
          let same : StandAlike (client_at b setup a r.at) s = subst (λ p. StandAlike (client_at b setup a r.at) (client_at b setup a p)) upto alike in
          number_read a r.at r.note o (value o) client r.there r.deed_is (counters o among) ∙ number_same (client_at b setup a r.at) s o same

      by_value : rights_by gains losses value ≡ rights_by gains losses (number_now s)
      by_value = λ i. sum_over-agree value (number_now s) gains (λ o j. read_now o (inl j)) i -ℤ sum_over-agree value (number_now s) losses (λ o j. read_now o (inr j)) i

      split : (o : ObjectId) → number_now s o ≡ total (deltas_in (acts_over nodes (basis b s) o)) +ℤ sum_over (λ u. amount_at u o) (draft_updates s)
      split o =
          ap total (filter_map-append (λ (act : Act). delta_of (change_of act.op)) (acts_over nodes (basis b s) o) (acts_of o (open_node b s)))
          ∙ (total-append (deltas_in (acts_over nodes (basis b s) o)) (deltas_in (acts_of o (open_node b s)))
          ∙ ap (λ z. total (deltas_in (acts_over nodes (basis b s) o)) +ℤ z) (total_from o (open_node b s) 0 (draft_updates s)))

  -- ---- small numbers

  -- a number that was read is small
  number_small : (a m : ℕ) (o : ObjectId) → IsClient setup a → unsigned_abs (number_now (client_at b setup a m) o) ≤ 2 ^ 120
  number_small a m o client =
      let s : Client = client_at b setup a m in
      let small = sum_small b setup fit (basis_at b setup a m) (open_node b s) o (session_held b setup fit a m client).draft in
      let size = total_size (deltas_in (acts_over nodes (basis b s) o ++ acts_of o (open_node b s))) in
      omega (arith, small, size)

  -- so the rights by what was read of a few cells are not wrapped
  pub rights_fit : (a place : ℕ) (value : ObjectId → ℤ) → IsClient setup a → HasReadCells b a place gains losses value → length gains + length losses ≤ 16 → int_wrap w128 (rights_by gains losses value) ≡ rights_by gains losses value
  rights_fit a place value client h few = int_wrap_fits w128 (rights_by gains losses value) (fits_signed_from_abs w128 (rights_by gains losses value) below)
    where
      each : (o : ObjectId) → IsCellOf gains losses o → unsigned_abs (value o) ≤ 2 ^ 120
      each o among =
          let r = h.reads o among in
          subst (λ z. unsigned_abs z ≤ 2 ^ 120) (sym (number_read a r.at r.note o (value o) client r.there r.deed_is (counters o among))) (number_small a r.at o client)

      below : unsigned_abs (rights_by gains losses value) < 2 ^ 127
      below =
          let plus = sum_size value gains (λ o i. each o (inl i)) in
          let minus = sum_size value losses (λ o i. each o (inr i)) in
          omega (arith, ints, plus, minus, few)
