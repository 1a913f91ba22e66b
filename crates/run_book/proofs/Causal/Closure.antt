-- The graph of a book is well made, and bases are closed and grow.
use Rattle.std.proofs.Common.{◌≡◌, ℕ, ◌+◌, ◌-◌, ◌≤◌, ◌<◌, ◌⊎◌, inl, inr, ⊎_elim, List, ◌++◌, length, take, Some, sym, ap, ◌∙◌, subst, arith}
use Rattle.std.specs.Prelude.{slice_get}
use Rattle.std.proofs.lemmas.Option.{same_Some}
use Rattle.std.proofs.lemmas.List.{take-take, length-append}
use Rattle.list_core.specs.Members.{In}
use Rattle.list_core.proofs.Members.{In_left, In_right, In_either, In_map, In_from_map}
use Rattle.list_core.proofs.Gets.{get_within, get_in_front, get_In, In_get}
use Rattle.list_core.proofs.Apart.{apart_map, apart_place}
use Rattle.ids_core.specs.declared.ids.Dot.{Dot}
use Rattle.vv_core.specs.declared.stamp.Stamp.{Stamp}
use Rattle.vv_core.specs.Vectors.{Covers}
use Rattle.vv_core.proofs.Covering.{Covers_trans}
use Rattle.tx_core.specs.declared.tx.Tx.{Tx}
use Rattle.tx_core.specs.declared.tx.Record.{Record}
use Rattle.dc_talk.specs.Clients.{Client}
use Rattle.dc_talk.specs.Rule.{client_after, commits_of}
use Rattle.dc_talk.proofs.Places.{own_at}
use Rattle.run_book.specs.Setups.{Setup, centre_settings}
use Rattle.run_book.specs.declared.book.Book.{Book}
use Rattle.run_book.specs.Parts.{notes_of, IsClient, applied_by_end}
use Rattle.run_book.specs.Fit.{FitsWith}
use Rattle.tx_graph.specs.Nodes.{Node, Within, Closed, WellMade}
use Rattle.run_book.specs.Graphs.{own_list, cover, own_dots, node_of, committed, graph, client_at, basis_at, commits_at}
use Rattle.run_book.specs.Sound.{IsSound}
use Rattle.run_book.proofs.Numbered.{numbered_at, numbered_In}
use Rattle.run_book.proofs.Sessions.{commits_of_prefix}
use Rattle.run_book.proofs.Held.{Held, dot_at, held_after}
use Rattle.run_book.proofs.Growth.{grows}
use Rattle.run_book.proofs.Dots.{IsOwn, own_dots_are, are_own_dots, own_grows}
use Rattle.run_book.proofs.Causal.Origins.{whole_each}
use Rattle.run_book.proofs.Causal.Cover.{Covered, cover_in, cover_more, covered_deps, cover_down}
use Rattle.run_book.proofs.Causal.SessionVectors.{session_sound}
use Rattle.run_book.proofs.Causal.Commits.{of_whole_log, commits, numbered, own_commit, carried, committed_is, is_committed, apart, one_tx}
use Rattle.run_book.proofs.Causal.SessionStates.{Standing, standing}

module _ (b : Book) (setup : Setup) (fit : FitsWith b setup) where
  -- the commits of a client, in its whole log
  abbrev all : ℕ → List Tx
  all client = commits b setup fit client

  -- ---- a client's whole log

  -- how a session stands at its end
  whole : (client : ℕ) → 1 ≤ client → client ≤ setup.clients → Standing b setup client (client_after b.n client setup.capacity (notes_of b (client + 1))) (all client)
  whole = of_whole_log b setup (λ c X. Standing b setup c (client_after b.n c setup.capacity X) (commits_of b.n c setup.capacity X)) (standing_at)
    where
      standing_at : (a m : ℕ) → IsClient setup a → Standing b setup (a - 1) (client_at b setup a m) (commits_at b setup a m)
      standing_at a m client = standing b setup fit a client m

  -- and what it has of its numbers
  held : (client : ℕ) → 1 ≤ client → client ≤ setup.clients → Held client (client_after b.n client setup.capacity (notes_of b (client + 1))) (all client)
  held = of_whole_log b setup (λ c X. Held c (client_after b.n c setup.capacity X) (commits_of b.n c setup.capacity X)) (λ a m client. held_after b.n (a - 1) setup.capacity (notes_of b a) (fit.follows a client) m)

  -- a commit stands at its number
  pub at_number : (t : Tx) → In t (committed b setup) → slice_get (all t.dot.client) (t.dot.number - 1) ≡ Some t
  at_number t i =
      let c = committed_is b setup fit t i in
      let g = In_get (all t.dot.client) t c.there in
      let dot = numbered_at (λ (t : Tx). t.dot) (dot_at t.dot.client) 1 (all t.dot.client) g.0 t (numbered b setup fit t.dot.client c.low c.high) g.1 in
      let place : g.0 ≡ t.dot.number - 1 = omega (arith, ap (λ (d : Dot). d.number) dot) in
      subst (λ p. slice_get (all t.dot.client) p ≡ Some t) place g.1

  -- the numbers of commits
  number_range : (t : Tx) → In t (committed b setup) → (1 ≤ t.dot.number) × (t.dot.number ≤ length (all t.dot.client))
  number_range t i =
      let c = committed_is b setup fit t i in
      let n = numbered_In (λ (t : Tx). t.dot) (dot_at t.dot.client) 1 (all t.dot.client) t (numbered b setup fit t.dot.client c.low c.high) c.there in
      let same : t.dot.number ≡ n.number = ap (λ (d : Dot). d.number) n.is in
      (omega (arith, n.low, same), omega (arith, n.high, same))

  -- ---- records

  -- a record covers the snapshot of its transaction
  snap_deps : (e p : ℕ) (r : Record) → 1 ≤ e → e ≤ b.n → slice_get (own_list b e) p ≡ Some r → Covers r.deps r.tx.snap
  snap_deps e p r low high there =
      let A = applied_by_end b e in
      let each = whole_each b setup fit e low high in
      let o = own_at (centre_settings b setup e) e A each p r there in
      let g = In_get A r o.0 in
      ((each.holds g.0 r g.1).made (ap (λ (s : Stamp). s.centre) o.1)).snap

  -- a covered dot of a commit is of a record with that commit
  pub carries : (v : List ℕ) (u : Tx) → In u (committed b setup) → (x : Covered b v u.dot) → x.item.tx ≡ u
  carries v u i x = one_tx b setup fit x.item.tx u (carried b setup fit x.item.tx (own_commit b setup fit x.centre x.place x.item x.low x.high x.there)) i x.dot

  -- so a sound vector that covers it covers its snapshot
  snap_covered : (v : List ℕ) (u : Tx) → IsSound b v → In u (committed b setup) → Covered b v u.dot → Covers v u.snap
  snap_covered v u sound i x = subst (λ (t : Tx). Covers v t.snap) (carries v u i x) (Covers_trans v x.item.deps x.item.tx.snap (covered_deps b v u.dot sound x) (snap_deps x.centre x.place x.item x.low x.high x.there))

  -- ---- closed sets

  -- what a sound vector covers, with the first of a client's commits, whose snapshots it covers
  pub closed_set : (client count : ℕ) (v : List ℕ) → 1 ≤ client → client ≤ setup.clients → count ≤ length (all client) → IsSound b v → ((u : Tx) → In u (committed b setup) → u.dot.client ≡ client → u.dot.number ≤ count → Covers v u.snap) → Closed (graph b setup) (cover b v ++ own_dots client count)
  closed_set client count v low high few sound snaps = record { in_graph = in_graph; dependencies = dependencies }
    where
      set : List Dot
      set = cover b v ++ own_dots client count

      in_cover_part : (d : Dot) → In d (cover b v) → In d (cover b v ++ own_dots client count)
      in_cover_part d i = In_left (cover b v) (own_dots client count) d i

      in_graph : (d : Dot) → In d (cover b v ++ own_dots client count) → (t : Node) × In t (graph b setup) × (t.dot ≡ d)
      in_graph d i = ⊎_elim covered own (In_either (cover b v) (own_dots client count) d i)
        where
          covered : In d (cover b v) → (t : Node) × In t (graph b setup) × (t.dot ≡ d)
          covered j =
              let x = cover_in b v d j in
              (node_of b x.item.tx, In_map (node_of b) (committed b setup) x.item.tx (carried b setup fit x.item.tx (own_commit b setup fit x.centre x.place x.item x.low x.high x.there)), x.dot)

          own : In d (own_dots client count) → (t : Node) × In t (graph b setup) × (t.dot ≡ d)
          own j =
              let o = own_dots_are client count d j in
              let g = get_within (all client) (o.number - 1) (omega (arith, o.low, o.high, few)) in
              let dot = numbered_at (λ (t : Tx). t.dot) (dot_at client) 1 (all client) (o.number - 1) g.0 (numbered b setup fit client low high) g.1 in
              let number : 1 + (o.number - 1) ≡ o.number = omega (arith, o.low) in
              (node_of b g.0, In_map (node_of b) (committed b setup) g.0 (is_committed b setup fit client g.0 low high (get_In (all client) (o.number - 1) g.0 g.1)), dot ∙ (ap (dot_at client) number ∙ sym o.is))

      below : (u : Tx) → In u (committed b setup) → In u.dot (cover b v ++ own_dots client count) → (y : Dot) → In y (cover b u.snap ++ own_dots u.dot.client (u.dot.number - 1)) → In y (cover b v ++ own_dots client count)
      below u i j y k = ⊎_elim covered own (In_either (cover b v) (own_dots client count) u.dot j)
        where
          parts : In y (cover b u.snap) ⊎ In y (own_dots u.dot.client (u.dot.number - 1))
          parts = In_either (cover b u.snap) (own_dots u.dot.client (u.dot.number - 1)) y k

          covered : In u.dot (cover b v) → In y (cover b v ++ own_dots client count)
          covered h =
              ⊎_elim
              (λ s. in_cover_part y (cover_more b v u.snap y (snap_covered v u sound i (cover_in b v u.dot h)) s))
              (λ o.
              let w = own_dots_are u.dot.client (u.dot.number - 1) y o in
              in_cover_part y (subst (λ d. In d (cover b v)) (sym w.is) (cover_down b setup fit v u.dot.client u.dot.number w.number sound w.low (omega (arith, w.high)) h)))
              parts

          own : In u.dot (own_dots client count) → In y (cover b v ++ own_dots client count)
          own h =
              let q = own_dots_are client count u.dot h in
              let who : u.dot.client ≡ client = ap (λ (d : Dot). d.client) q.is in
              let which : u.dot.number ≡ q.number = ap (λ (d : Dot). d.number) q.is in
              ⊎_elim
              (λ s. in_cover_part y (cover_more b v u.snap y (snaps u i who (omega (arith, which, q.high))) s))
              (λ o.
              let w = own_dots_are u.dot.client (u.dot.number - 1) y o in
              let w2 : IsOwn client (u.dot.number - 1) y = subst (λ c. IsOwn c (u.dot.number - 1) y) who w in
              In_right (cover b v) (own_dots client count) y (are_own_dots client count y (own_grows client (u.dot.number - 1) count y (omega (arith, which, q.high)) w2)))
              parts

      dependencies : (t : Node) → In t (graph b setup) → In t.dot (cover b v ++ own_dots client count) → Within t.deps (cover b v ++ own_dots client count)
      dependencies t i j =
          let m = In_from_map (node_of b) (committed b setup) t i in
          subst (λ (t : Node). Within t.deps (cover b v ++ own_dots client count)) (sym m.2)
          (record { each = λ y k. below m.0 m.1 (subst (λ (t : Node). In t.dot (cover b v ++ own_dots client count)) m.2 j) y k })

  -- ---- the graph

  -- of two commits of one client the later has the greater snapshot and the greater rank
  record Ascends (u t : Tx) : Type 0 where
    snap : Covers t.snap u.snap
    rank : u.rank < t.rank

  -- so is each with a lower number
  ascends : (u t : Tx) → In u (committed b setup) → In t (committed b setup) → u.dot.client ≡ t.dot.client → u.dot.number < t.dot.number → Ascends u t
  ascends u t i j same lt =
      let c = committed_is b setup fit t j in
      let w = whole t.dot.client c.low c.high in
      let h = held t.dot.client c.low c.high in
      let low = number_range u i in
      let here : slice_get (all t.dot.client) (u.dot.number - 1) ≡ Some u = subst (λ c. slice_get (all c) (u.dot.number - 1) ≡ Some u) same (at_number u i) in
      let there = at_number t j in
      let less : u.dot.number - 1 < t.dot.number - 1 = omega (arith, lt, low.0) in
      record {
        snap = w.ascend (u.dot.number - 1) (t.dot.number - 1) u t less here there;
        rank = h.ascend (u.dot.number - 1) (t.dot.number - 1) u t less here there;
      }

  -- the dependencies of a commit are closed
  closed_deps : (t : Tx) → In t (committed b setup) → Closed (graph b setup) (node_of b t).deps
  closed_deps t i =
      let c = committed_is b setup fit t i in
      let w = whole t.dot.client c.low c.high in
      let range = number_range t i in
      closed_set t.dot.client (t.dot.number - 1) t.snap c.low c.high (omega (arith, range.1)) (w.sound t c.there)
      (λ u j who few. (ascends u t j i who (omega (arith, few, range.0))).snap)

  -- their ranks are lower
  rank_grows : (t u : Tx) → In t (committed b setup) → In u (committed b setup) → In u.dot (cover b t.snap ++ own_dots t.dot.client (t.dot.number - 1)) → u.rank < t.rank
  rank_grows t u i j k =
      ⊎_elim
      (λ covered.
      let c = committed_is b setup fit t i in
      let x = cover_in b t.snap u.dot covered in
      let less = (whole t.dot.client c.low c.high).above t c.there u.dot x in
      omega (arith, less, ap (λ (t : Tx). t.rank) (carries t.snap u j x)))
      (λ own.
      let o = own_dots_are t.dot.client (t.dot.number - 1) u.dot own in
      (ascends u t j i (ap (λ (d : Dot). d.client) o.is) (omega (arith, o.low, o.high, ap (λ (d : Dot). d.number) o.is))).rank)
      (In_either (cover b t.snap) (own_dots t.dot.client (t.dot.number - 1)) u.dot k)

  -- the graph is well made
  pub made : WellMade (graph b setup)
  made = record {
    unique = λ p q t u here there same. apart_place (λ (t : Node). t.dot) (graph b setup) p q t u (apart_map (node_of b) (λ (t : Node). t.dot) (committed b setup) (apart b setup fit)) here there same;
    closed = λ t i.
        let m = In_from_map (node_of b) (committed b setup) t i in
        subst (λ (t : Node). Closed (graph b setup) t.deps) (sym m.2) (closed_deps m.0 m.1);
    ranks = ranks;
  }
    where
      ranks : (t u : Node) → In t (graph b setup) → In u (graph b setup) → In u.dot t.deps → u.rank < t.rank
      ranks t u i j k =
          let m = In_from_map (node_of b) (committed b setup) t i in
          let n = In_from_map (node_of b) (committed b setup) u j in
          let k1 : In u.dot (node_of b m.0).deps = subst (λ (t : Node). In u.dot t.deps) m.2 k in
          let k2 : In n.0.dot (node_of b m.0).deps = subst (λ (u : Node). In u.dot (node_of b m.0).deps) n.2 k1 in
          let less = rank_grows m.0 n.0 m.1 n.1 k2 in
          omega (arith, less, ap (λ (t : Node). t.rank) m.2, ap (λ (t : Node). t.rank) n.2)

  -- ---- bases

  -- the commits so far are the first of all
  pub prefix : (a m : ℕ) → IsClient setup a → (later : List Tx) × (all (a - 1) ≡ commits_at b setup a m ++ later)
  prefix a m client =
      let same : a - 1 + 1 ≡ a = omega (arith, client.low) in
      subst (λ x. (later : List Tx) × (commits_of b.n (a - 1) setup.capacity (notes_of b x) ≡ commits_at b setup a m ++ later)) (sym same) (commits_of_prefix b.n (a - 1) setup.capacity m (notes_of b a))

  -- what a session has of its numbers
  pub session_held : (a m : ℕ) → IsClient setup a → Held (a - 1) (client_at b setup a m) (commits_at b setup a m)
  session_held a m client = held_after b.n (a - 1) setup.capacity (notes_of b a) (fit.follows a client) m

  -- a commit with a number so far is one of those so far
  pub is_so_far : (a m : ℕ) (u : Tx) → IsClient setup a → In u (committed b setup) → u.dot.client ≡ a - 1 → u.dot.number ≤ (client_at b setup a m).own → slice_get (commits_at b setup a m) (u.dot.number - 1) ≡ Some u
  is_so_far a m u client i who few =
      let h = session_held a m client in
      let range = number_range u i in
      let g = get_within (commits_at b setup a m) (u.dot.number - 1) (omega (arith, range.0, few, h.number)) in
      let p = prefix a m client in
      let here : slice_get (all (a - 1)) (u.dot.number - 1) ≡ Some u = subst (λ c. slice_get (all c) (u.dot.number - 1) ≡ Some u) who (at_number u i) in
      let there : slice_get (all (a - 1)) (u.dot.number - 1) ≡ Some g.0 = subst (λ l. slice_get l (u.dot.number - 1) ≡ Some g.0) (sym p.1) (get_in_front (commits_at b setup a m) p.0 (u.dot.number - 1) g.0 g.1) in
      subst (λ t. slice_get (commits_at b setup a m) (u.dot.number - 1) ≡ Some t) (same_Some g.0 u (sym there ∙ here)) g.1

  -- the basis of a session is closed at each moment
  pub closed_basis : (a m : ℕ) → IsClient setup a → Closed (graph b setup) (basis_at b setup a m)
  closed_basis a m client =
      let s = client_at b setup a m in
      let h = session_held a m client in
      let st = standing b setup fit a client m in
      let p = prefix a m client in
      let few : s.own ≤ length (all (a - 1)) = omega (arith, h.number, ap (λ l. length l) p.1, length-append (commits_at b setup a m) p.0) in
      subst (λ c. Closed (graph b setup) (cover b s.vector ++ own_dots c s.own)) (sym h.who)
      (closed_set (a - 1) s.own s.vector (omega (arith, client.low)) (omega (arith, client.high)) few (session_sound b setup fit a client m)
      (λ u i who less. st.snaps u (get_In (commits_at b setup a m) (u.dot.number - 1) u (is_so_far a m u client i who less))))

  -- and grows
  pub basis_grows : (a m later : ℕ) → IsClient setup a → m ≤ later → Within (basis_at b setup a m) (basis_at b setup a later)
  basis_grows a m later client le = record { each = λ d i. each d (In_either (cover b s.vector) (own_dots s.client s.own) d i) }
    where
      s : Client
      s = client_at b setup a m

      t : Client
      t = client_at b setup a later

      who : s.client ≡ t.client
      who = (session_held a m client).who ∙ sym (session_held a later client).who

      more : s.own ≤ t.own
      more =
          let prefix = commits_of_prefix b.n (a - 1) setup.capacity m (take later (notes_of b a)) in
          let same : commits_of b.n (a - 1) setup.capacity (take m (take later (notes_of b a))) ≡ commits_at b setup a m = ap (commits_of b.n (a - 1) setup.capacity) (take-take m later (notes_of b a) le) in
          omega (arith, (session_held a m client).number, (session_held a later client).number, ap (λ l. length l) prefix.1, length-append (commits_of b.n (a - 1) setup.capacity (take m (take later (notes_of b a)))) prefix.0, ap (λ l. length l) same)

      each : (d : Dot) → In d (cover b s.vector) ⊎ In d (own_dots s.client s.own) → In d (cover b t.vector ++ own_dots t.client t.own)
      each d (inl i) = In_left (cover b t.vector) (own_dots t.client t.own) d (cover_more b t.vector s.vector d (grows b.n (a - 1) setup.capacity m later (notes_of b a) le) i)
      each d (inr i) =
          let o = own_dots_are s.client s.own d i in
          let o2 : IsOwn t.client s.own d = subst (λ c. IsOwn c s.own d) who o in
          In_right (cover b t.vector) (own_dots t.client t.own) d (are_own_dots t.client t.own d (own_grows t.client s.own t.own d more o2))
