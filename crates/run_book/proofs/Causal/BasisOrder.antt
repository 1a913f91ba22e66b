-- What a vector covers with what is pending is the basis, each transaction once.
use Rattle.std.proofs.Common.{◌≡◌, ℕ, ◌+◌, ◌-◌, ◌≤◌, ◌<◌, true, ⊎_elim, List, ◌++◌, drop, sym, ap, ◌∙◌, subst, arith}
use Rattle.std.specs.Prelude.{filter}
use Rattle.std.proofs.lemmas.Bool.{cases_lt}
use Rattle.std.proofs.lemmas.Option.{slice_get_within}
use Rattle.list_core.specs.Members.{In}
use Rattle.list_core.specs.Permutations.{Perm}
use Rattle.list_core.proofs.Members.{In_left, In_right, In_either, In_filter, In_from_filter}
use Rattle.list_core.proofs.Gets.{get_in_drop, get_In, get_In_drop, In_get}
use Rattle.list_core.proofs.Apart.{apart_append, apart_filter, apart_drop, same_members}
use Rattle.list_core.specs.Apart.{Apart}
use Rattle.ids_core.specs.declared.ids.Dot.{Dot}
use Rattle.ids_core.specs.declared.object.ObjectId.{ObjectId}
use Rattle.tx_core.specs.declared.tx.Tx.{Tx}
use Rattle.tx_core.specs.declared.state.State.{State}
use Rattle.dc_talk.specs.Records.{has}
use Rattle.dc_talk.specs.Clients.{Client}
use Rattle.dc_talk.proofs.Dots.{has_In, In_has}
use Rattle.run_book.specs.Setups.{Setup}
use Rattle.run_book.specs.declared.book.Book.{Book}
use Rattle.run_book.specs.Parts.{IsClient}
use Rattle.run_book.specs.Fit.{FitsWith}
use Rattle.run_book.specs.Graphs.{cover, own_dots, committed, client_at, basis_at, commits_at}
use Rattle.run_book.proofs.Numbered.{numbered_at}
use Rattle.run_book.proofs.Held.{Held, dot_at}
use Rattle.run_book.proofs.Dots.{IsOwn, own_dots_are, are_own_dots, apart_numbered}
use Rattle.run_book.proofs.Causal.Commits.{commits, is_committed, apart}
use Rattle.run_book.proofs.Causal.ServedStates.{IsServed}
use Rattle.run_book.proofs.Causal.SessionStates.{Standing, standing}
use Rattle.run_book.proofs.Causal.Closure.{prefix, session_held, is_so_far}

-- a commit of actor a that is past its snapshot after m notes
record IsPending (b : Book) (setup : Setup) (a m : ℕ) (t : Tx) : Type 0 where
  number : ℕ
  past : (client_at b setup a m).mine < number
  high : number ≤ (client_at b setup a m).own
  dot : t.dot ≡ dot_at (a - 1) number
  there : In t (committed b setup)

module _ (b : Book) (setup : Setup) (fit : FitsWith b setup) where
  -- the commits of the basis
  abbrev pub based : ℕ → ℕ → List Tx
  based a m = filter (λ (t : Tx). has t.dot (basis_at b setup a m)) (committed b setup)

  -- each commit that the session has pending is one
  pending : (a m : ℕ) → IsClient setup a → (t : Tx) → In t (client_at b setup a m).pending → IsPending b setup a m t
  pending a m client t i =
      let held = session_held b setup fit a m client in
      let i2 : In t (drop (client_at b setup a m).mine (commits_at b setup a m)) = subst (λ l. In t l) held.waiting i in
      let g = In_get (drop (client_at b setup a m).mine (commits_at b setup a m)) t i2 in
      let place = get_in_drop (client_at b setup a m).mine (commits_at b setup a m) g.0 t g.1 in
      let dot = numbered_at (λ (t : Tx). t.dot) (dot_at (a - 1)) 1 (commits_at b setup a m) ((client_at b setup a m).mine + g.0) t held.dots place in
      let within = slice_get_within (commits_at b setup a m) ((client_at b setup a m).mine + g.0) t place in
      let p = prefix b setup fit a m client in
      let here : In t (commits b setup fit (a - 1)) = subst (λ l. In t l) (sym p.1) (In_left (commits_at b setup a m) p.0 t (get_In (commits_at b setup a m) ((client_at b setup a m).mine + g.0) t place)) in
      record {
        number = 1 + ((client_at b setup a m).mine + g.0);
        past = omega arith;
        high = omega (arith, within, held.number);
        dot = dot;
        there = is_committed b setup fit (a - 1) t (omega (arith, client.low)) (omega (arith, client.high)) here;
      }

  -- what the vector covers, and what is pending, have different dots
  pub apart_front : (a m : ℕ) (o : ObjectId) (state : State) → IsClient setup a → (served : IsServed b setup o (client_at b setup a m).vector state) → Apart (λ (t : Tx). t.dot) (served.txs ++ (client_at b setup a m).pending)
  apart_front a m o state client served = apart_append (λ (t : Tx). t.dot) served.txs (client_at b setup a m).pending served.apart
      (subst (λ l. Apart (λ (t : Tx). t.dot) l) (sym held.waiting) (apart_drop (λ (t : Tx). t.dot) (client_at b setup a m).mine (commits_at b setup a m) (apart_numbered (λ (t : Tx). t.dot) (a - 1) 1 (commits_at b setup a m) held.dots)))
      (λ t u i j same.
      let q = pending a m client u j in
      let covered = subst (λ d. In d (cover b (client_at b setup a m).vector)) (same ∙ q.dot) (served.are t i).1 in
      omega (arith, (stands.own_in q.number covered).1, q.past))
    where
      held : Held (a - 1) (client_at b setup a m) (commits_at b setup a m)
      held = session_held b setup fit a m client

      stands : Standing b setup (a - 1) (client_at b setup a m) (commits_at b setup a m)
      stands = standing b setup fit a client m

  -- what the vector covers, with what is pending, is the basis
  pub basis_order : (a m : ℕ) (o : ObjectId) (state : State) → IsClient setup a → (served : IsServed b setup o (client_at b setup a m).vector state) → Perm (served.txs ++ (client_at b setup a m).pending) (based a m)
  basis_order a m o state client served = same_members (λ (t : Tx). t.dot) (served.txs ++ s.pending) (based a m) (apart_front a m o state client served) (apart_filter (λ (t : Tx). t.dot) (λ (t : Tx). has t.dot set) (committed b setup) (apart b setup fit)) there back
    where
      s : Client
      s = client_at b setup a m

      set : List Dot
      set = basis_at b setup a m

      held : Held (a - 1) (client_at b setup a m) (commits_at b setup a m)
      held = session_held b setup fit a m client

      stands : Standing b setup (a - 1) (client_at b setup a m) (commits_at b setup a m)
      stands = standing b setup fit a client m

      there : (t : Tx) → In t (served.txs ++ (client_at b setup a m).pending) → In t (based a m)
      there t i = ⊎_elim
          (λ j. In_filter (λ (t : Tx). has t.dot (basis_at b setup a m)) (committed b setup) t (served.are t j).0 (In_has t.dot (basis_at b setup a m) (In_left (cover b (client_at b setup a m).vector) (own_dots (client_at b setup a m).client (client_at b setup a m).own) t.dot (served.are t j).1)))
          (λ j.
          let q = pending a m client t j in
          let own : IsOwn (client_at b setup a m).client (client_at b setup a m).own t.dot = subst (λ c. IsOwn c (client_at b setup a m).own t.dot) (sym held.who) (record { number = q.number; low = omega (arith, q.past); high = q.high; is = q.dot }) in
          In_filter (λ (t : Tx). has t.dot (basis_at b setup a m)) (committed b setup) t q.there (In_has t.dot (basis_at b setup a m) (In_right (cover b (client_at b setup a m).vector) (own_dots (client_at b setup a m).client (client_at b setup a m).own) t.dot (are_own_dots (client_at b setup a m).client (client_at b setup a m).own t.dot own))))
          (In_either served.txs (client_at b setup a m).pending t i)

      back : (t : Tx) → In t (based a m) → In t (served.txs ++ (client_at b setup a m).pending)
      back t i = ⊎_elim covered own (In_either (cover b (client_at b setup a m).vector) (own_dots (client_at b setup a m).client (client_at b setup a m).own) t.dot (has_In t.dot (basis_at b setup a m) kept.1))
        where
          kept : In t (committed b setup) × (has t.dot (basis_at b setup a m) ≡ true)
          kept = In_from_filter (λ (t : Tx). has t.dot (basis_at b setup a m)) (committed b setup) t i

          covered : In t.dot (cover b (client_at b setup a m).vector) → In t (served.txs ++ (client_at b setup a m).pending)
          covered j = In_left served.txs (client_at b setup a m).pending t (served.all t kept.0 j)

          own : In t.dot (own_dots (client_at b setup a m).client (client_at b setup a m).own) → In t (served.txs ++ (client_at b setup a m).pending)
          own j =
              let q = own_dots_are (client_at b setup a m).client (client_at b setup a m).own t.dot j in
              let who : t.dot.client ≡ a - 1 = ap (λ (d : Dot). d.client) q.is ∙ held.who in
              let which : t.dot.number ≡ q.number = ap (λ (d : Dot). d.number) q.is in
              ⊎_elim
              (λ past.
              let here = is_so_far b setup fit a m t client kept.0 who (omega (arith, which, q.high)) in
              In_right served.txs (client_at b setup a m).pending t (subst (λ l. In t l) (sym held.waiting) (get_In_drop (client_at b setup a m).mine (commits_at b setup a m) (t.dot.number - 1) t (omega (arith, past, which)) here)))
              (λ le.
              let here = stands.own_all q.number q.low le in
              covered (subst (λ d. In d (cover b (client_at b setup a m).vector)) (sym (q.is ∙ ap (λ c. dot_at c q.number) held.who)) here))
              (cases_lt (client_at b setup a m).mine q.number)
