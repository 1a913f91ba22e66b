-- Each record carries a commit of its client, and the commits of a book have different dots.
use Rattle.std.proofs.Common.{◌≡◌, ℕ, zero, suc, ◌+◌, ◌-◌, ◌≤◌, ⊎_elim, List, take, Some, refl, sym, ap, ◌∙◌, subst, arith}
use Rattle.std.specs.Prelude.{slice_get, flat_map}
use Rattle.std.specs.List.{range_with_len}
use Rattle.list_core.specs.Members.{In}
use Rattle.list_core.proofs.Members.{In_flat_map, In_from_flat_map}
use Rattle.list_core.proofs.Gets.{In_get}
use Rattle.list_core.proofs.Moments.{by_prefixes}
use Rattle.list_core.proofs.Ranges.{In_range, In_from_range}
use Rattle.list_core.proofs.Apart.{apart_append, apart_one}
use Rattle.list_core.specs.Apart.{Apart}
use Rattle.ids_core.specs.declared.ids.Dot.{Dot}
use Rattle.vv_core.specs.declared.stamp.Stamp.{Stamp}
use Rattle.tx_core.specs.declared.tx.Tx.{Tx}
use Rattle.tx_core.specs.declared.tx.Record.{Record}
use Rattle.dc_talk.specs.declared.log.Note.{Note}
use Rattle.dc_talk.specs.Trails.{applied}
use Rattle.dc_talk.specs.Rule.{commits_of}
use Rattle.dc_talk.proofs.Places.{own_at}
use Rattle.run_book.specs.Setups.{Setup, centre_settings}
use Rattle.run_book.specs.declared.book.Book.{Book}
use Rattle.run_book.specs.Parts.{trail_of, notes_of, IsClient, applied_at, applied_by_end}
use Rattle.run_book.specs.Fit.{FitsWith}
use Rattle.run_book.specs.Graphs.{own_list, committed}
use Rattle.run_book.proofs.Numbered.{Numbered, numbered_In}
use Rattle.run_book.proofs.Dots.{apart_numbered}
use Rattle.run_book.proofs.Held.{dot_at, held_after}
use Rattle.run_book.proofs.Pairing.{IsCommitted, entry_committed}
use Rattle.run_book.proofs.Causal.Origins.{each_at, whole_each, agreement, came_at}

-- what holds of each client at each moment of its log, holds of the whole log
pub of_whole_log : (b : Book) (setup : Setup) (P : ℕ → List Note → Type 0) → ((a m : ℕ) → IsClient setup a → P (a - 1) (take m (notes_of b a))) → (client : ℕ) → 1 ≤ client → client ≤ setup.clients → P client (notes_of b (client + 1))
of_whole_log b setup P each client low high =
    let notes = notes_of b (client + 1) in
    let which : client + 1 - 1 ≡ client = omega arith in
    by_prefixes (P client) notes (λ m. subst (λ c. P c (take m notes)) which (each (client + 1) m (record { low = omega (arith, low); high = omega (arith, high) })))

module _ (b : Book) (setup : Setup) (fit : FitsWith b setup) where
  -- a record that its origin has stamped carries a commit of its client
  pub own_commit : (e p : ℕ) (r : Record) → 1 ≤ e → e ≤ b.n → slice_get (own_list b e) p ≡ Some r → IsCommitted b setup fit r.tx
  own_commit e p r low high there =
      let o = own_at (centre_settings b setup e) e (applied_by_end b e) (whole_each b setup fit e low high) p r there in
      by_prefixes (λ X. In r (applied b.n X) → IsCommitted b setup fit r.tx) (trail_of b e)
      (λ q here.
      ⊎_elim
      (λ stamped. entry_committed b setup fit e stamped.place stamped.entry r.tx low high stamped.there stamped.asks)
      (λ delivered. absurd (delivered.1.other (ap (λ (s : Stamp). s.centre) o.1)))
      (came_at b setup fit e q low high r here))
      o.0

  -- the commits of a client, in its whole log
  abbrev pub commits : ℕ → List Tx
  commits client = commits_of b.n client setup.capacity (notes_of b (client + 1))

  -- they are numbered
  pub numbered : (client : ℕ) → 1 ≤ client → client ≤ setup.clients → Numbered (λ (t : Tx). t.dot) (dot_at client) 1 (commits client)
  numbered = of_whole_log b setup (λ c X. Numbered (λ (t : Tx). t.dot) (dot_at c) 1 (commits_of b.n c setup.capacity X)) (λ a m client. (held_after b.n (a - 1) setup.capacity (notes_of b a) (fit.follows a client) m).dots)

  -- a commit of a client
  pub record IsOf (client : ℕ) (t : Tx) : Type 0 where
    pub low : 1 ≤ client
    pub high : client ≤ setup.clients
    pub who : t.dot.client ≡ client
    pub there : In t (commits client)

  -- a committed transaction is its client's
  pub committed_is : (t : Tx) → In t (committed b setup) → IsOf t.dot.client t
  committed_is t i =
      let f = In_from_flat_map (λ client. commits client) (range_with_len 1 setup.clients) t i in
      let g = In_from_range 1 setup.clients f.0 f.1 in
      let n = numbered_In (λ (t : Tx). t.dot) (dot_at f.0) 1 (commits f.0) t (numbered f.0 g.0 (omega (arith, g.1))) f.2 in
      let who : f.0 ≡ t.dot.client = sym (ap (λ (d : Dot). d.client) n.is) in
      record {
        low = omega (arith, g.0, who);
        high = omega (arith, g.1, who);
        who = refl;
        there = subst (λ c. In t (commits c)) who f.2;
      }

  -- and a client's commit is committed
  pub is_committed : (client : ℕ) (t : Tx) → 1 ≤ client → client ≤ setup.clients → In t (commits client) → In t (committed b setup)
  is_committed client t low high i = In_flat_map (λ client. commits client) (range_with_len 1 setup.clients) client t (In_range 1 setup.clients client low (omega (arith, high))) i

  -- so is what reached a centre
  pub carried : (t : Tx) → IsCommitted b setup fit t → In t (committed b setup)
  carried t c = is_committed t.dot.client t (omega (arith, c.client.low)) (omega (arith, c.client.high)) c.there

  -- the commits of some clients have different dots
  apart_range : (first many : ℕ) → 1 ≤ first → first + many ≤ setup.clients + 1 → Apart (λ (t : Tx). t.dot) (flat_map (λ client. commits client) (range_with_len first many))
  apart_range first zero low high = tt
  apart_range first (suc many) low high =
      let here = numbered first low (omega (arith, high)) in
      apart_append (λ (t : Tx). t.dot) (commits first) (flat_map (λ client. commits client) (range_with_len (first + 1) many))
      (apart_numbered (λ (t : Tx). t.dot) first 1 (commits first) here)
      (apart_range (first + 1) many (omega arith) (omega (arith, high)))
      (λ t u i j same.
      let n = numbered_In (λ (t : Tx). t.dot) (dot_at first) 1 (commits first) t here i in
      let f = In_from_flat_map (λ client. commits client) (range_with_len (first + 1) many) u j in
      let g = In_from_range (first + 1) many f.0 f.1 in
      let m = numbered_In (λ (t : Tx). t.dot) (dot_at f.0) 1 (commits f.0) u (numbered f.0 (omega (arith, g.0)) (omega (arith, g.1, high))) f.2 in
      absurd (omega (arith, ap (λ (d : Dot). d.client) (sym n.is ∙ (same ∙ m.is)), g.0)))

  -- so have the commits of a book
  pub apart : Apart (λ (t : Tx). t.dot) (committed b setup)
  apart = apart_range 1 setup.clients (omega arith) (omega arith)

  -- so there is one transaction for each dot
  pub one_tx : (t u : Tx) → In t (committed b setup) → In u (committed b setup) → t.dot ≡ u.dot → t ≡ u
  one_tx t u i j same = apart_one (λ (t : Tx). t.dot) (committed b setup) t u apart i j same

  -- numbers of commits are at least 1
  pub number_low : (t : Tx) → In t (committed b setup) → 1 ≤ t.dot.number
  number_low t i =
      let c = committed_is t i in
      let n = numbered_In (λ (t : Tx). t.dot) (dot_at t.dot.client) 1 (commits t.dot.client) t (numbered t.dot.client c.low c.high) c.there in
      omega (arith, n.low, ap (λ (d : Dot). d.number) n.is)

  -- what a centre has applied carries a commit
  pub applied_commit : (i p : ℕ) → 1 ≤ i → i ≤ b.n → (r : Record) → In r (applied_at b i p) → In r.tx (committed b setup)
  applied_commit i p low high r here =
      let g = In_get (applied_at b i p) r here in
      let placed = (each_at b setup fit i p low high).holds g.0 r g.1 in
      carried r.tx (own_commit r.stamp.centre (r.stamp.seq - 1) r placed.centre.0 placed.centre.1 (agreement b setup fit i p low high r here))
