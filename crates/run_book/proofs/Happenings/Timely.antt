-- No session hears of more of its own commits than it had made: each record that a centre has by a
-- moment carries a transaction that its client had committed by then.
use Rattle.std.proofs.Common.{◌≡◌, ℕ, ◌+◌, ◌-◌, ◌≤◌, ◌⊎◌, inl, inr, ⊎_elim, List, [], ◌∷◌, ◌++◌, length, take, Option, Some, None, refl, sym, ap, ◌∙◌, subst, arith}
use Rattle.std.specs.Prelude.{slice_get, filter}
use Rattle.std.specs.List.{cons_option}
use Rattle.std.proofs.lemmas.List.{append-nil}
use Rattle.list_core.specs.Members.{In}
use Rattle.list_core.proofs.Gets.{In_get}
use Rattle.list_core.proofs.Members.{In_map, In_more, In_left, In_from_filter, In_from_map}
use Rattle.list_core.proofs.Moments.{by_moments}
use Rattle.ids_core.specs.declared.ids.Dot.{Dot}
use Rattle.vv_core.specs.Vectors.{within}
use Rattle.tx_core.specs.declared.tx.Tx.{Tx}
use Rattle.tx_core.specs.declared.tx.Record.{Record}
use Rattle.dc_talk.specs.declared.sent.Sent.{Sent}
use Rattle.dc_talk.specs.Sents.{with_hops}
use Rattle.dc_talk.specs.declared.ask.Ask.{Ask}
use Rattle.dc_talk.specs.declared.ask.Ask.TheVariants.{Refresh, Commit, Deliver}
use Rattle.dc_talk.specs.declared.say.Say.{Say}
use Rattle.dc_talk.specs.declared.say.Say.TheVariants.{Records, Snap, Stamped, Applied}
use Rattle.dc_talk.specs.declared.log.Fate.{Fate}
use Rattle.dc_talk.specs.declared.log.Fate.TheVariants.{Heard}
use Rattle.dc_talk.specs.declared.log.Deed.TheVariants.{Asked}
use Rattle.dc_talk.specs.declared.log.Note.{Note}
use Rattle.dc_talk.specs.Entries.{Entry}
use Rattle.dc_talk.specs.Records.{inside, mine, deps_of}
use Rattle.dc_talk.specs.Trails.{carried, grown, applied}
use Rattle.dc_talk.specs.Answers.{answer}
use Rattle.dc_talk.specs.Clients.{Client, new_client}
use Rattle.dc_talk.specs.Rule.{Allows, Gives, client_after, commits_of}
use Rattle.dc_talk.proofs.ClientAnswers.{snap_by}
use Rattle.dc_talk.proofs.PeerAnswers.{handed_by}
use Rattle.dc_talk.proofs.Growth.{applied_push, carried_later}
use Rattle.dc_talk.proofs.Dots.{mine_bound}
use Rattle.run_book.specs.declared.book.Book.{Book}
use Rattle.run_book.specs.Setups.{Setup, settings_among}
use Rattle.run_book.specs.Parts.{notes_of, IsClient}
use Rattle.run_book.specs.Graphs.{client_at}
use Rattle.run_book.specs.Refusals.{Exchange, HearsRefresh, IsTimely}
use Rattle.run_book.specs.Happenings.{Happened, note_by, notes_by, entry_in, trail_in, HasAnswer, AreTogether, IsBookOf}
use Rattle.run_book.proofs.Numbered.{numbered_In}
use Rattle.run_book.proofs.Sessions.{commits_from-append}
use Rattle.run_book.proofs.Held.{dot_at, held_after}
use Rattle.run_book.proofs.OwnAsks.{heard_gives}
use Rattle.run_book.proofs.Filtered.{to_place}
use Rattle.run_book.proofs.Happenings.Entries.{made_by, own_note, trail_more, notes_more}
use Rattle.run_book.proofs.Happenings.Places.{follows, noted, commits, delivered, answered_deed, answered_by_then, own as own_commit}
use Rattle.run_book.proofs.Happenings.Fits.{notes_are}

-- ---- records

-- how a record joins those of a centre: it was there, it was stamped for a commit, or it was delivered
grown_in : (n : ℕ) (A : List Record) (ask : Ask) (say : Say) (r : Record) → In r (grown n A ask say) → In r A ⊎ ((ask ≡ Commit r.tx) ⊎ ((hops : ℕ) × (ask ≡ Deliver r hops)))
grown_in n A (Commit tx) (Stamped stamp) r i = ⊎_elim
    (λ old. inl old)
    (λ new. inr (inl (ap (λ (r : Record). Commit r.tx) (sym new))))
    (In_more A (record { stamp = stamp; deps = deps_of n A tx; tx = tx }) r i)
grown_in n A (Deliver item hops) (Applied fresh) r i = ⊎_elim (λ old. inl old) (λ new. inr (inr (hops, ap (λ (r : Record). Deliver r hops) (sym new)))) (In_more A item r i)
grown_in n A _ _ r i = inl i

-- equal refreshes are of one client
same_client : (c d : ℕ) (v w : List ℕ) → Refresh c v ≡ Refresh d w → c ≡ d
same_client c d v w is = cc

-- ---- what happened

module _ (n k : ℕ) (setup : Setup) (all : List Happened) (t : AreTogether n k setup all) where
  -- a transaction that its client had committed by then
  record WasMade (before : List Happened) (tx : Tx) : Type 0 where
    client : IsClient setup (tx.dot.client + 1)
    there : In tx (commits_of n tx.dot.client setup.capacity (notes_by (tx.dot.client + 1) before))

  -- it had with one more too
  made_later : (before : List Happened) (one : Happened) (tx : Tx) → WasMade before tx → WasMade (before ++ one ∷ []) tx
  made_later before one tx made =
      let notes : List Note = notes_by (tx.dot.client + 1) before in
      let more : List Note = cons_option (note_by (tx.dot.client + 1) one) [] in
      record {
        client = made.client;
        there = subst (λ ns. In tx (commits_of n tx.dot.client setup.capacity ns)) (sym (notes_more (tx.dot.client + 1) before one)) (grown_commits notes more made.there);
      }
    where
      grown_commits : (notes more : List Note) → In tx (commits_of n tx.dot.client setup.capacity notes) → In tx (commits_of n tx.dot.client setup.capacity (notes ++ more))
      grown_commits notes more i = subst (λ C. In tx C) (sym (commits_from-append (new_client n tx.dot.client setup.capacity) notes more)) (In_left (commits_of n tx.dot.client setup.capacity notes) _ tx i)

  -- a commit of a client by some note is of its own client
  own_client : (a m : ℕ) (tx : Tx) → IsClient setup a → In tx (commits_of n (a - 1) setup.capacity (take m (notes_by a all))) → tx.dot.client ≡ a - 1
  own_client a m tx client there =
      let held = held_after n (a - 1) setup.capacity (notes_by a all) (follows n k setup all t a client) m in
      let number = numbered_In (λ (t : Tx). t.dot) (dot_at (a - 1)) 1 (commits_of n (a - 1) setup.capacity (take m (notes_by a all))) tx held.dots there in
      ap (λ (d : Dot). d.client) number.is

  -- a commit that was asked for had been made
  asked_made : (p : ℕ) (h : Happened) (i : ℕ) (tx : Tx) (fate : Fate) → slice_get all p ≡ Some h → h.note.deed ≡ Asked i (Commit tx) fate → WasMade (take p all) tx
  asked_made p h i tx fate there is =
      let client = commits n k setup all t p h i tx fate there is in
      let at = to_place (note_by h.actor) all p h h.note there (own_note h) in
      let m : ℕ = length (notes_by h.actor (take p all)) in
      let mine : In tx (commits_of n (h.actor - 1) setup.capacity (take m (notes_by h.actor all))) = own_commit n k setup all t h.actor m h.note i tx fate client at.there is in
      let whose : tx.dot.client ≡ h.actor - 1 = own_client h.actor m tx client mine in
      let who : tx.dot.client + 1 ≡ h.actor = omega (arith, whose, client.low) in
      let own : In tx (commits_of n (h.actor - 1) setup.capacity (notes_by h.actor (take p all))) = subst (λ ns. In tx (commits_of n (h.actor - 1) setup.capacity ns)) at.front mine in
      let at_client : In tx (commits_of n tx.dot.client setup.capacity (notes_by h.actor (take p all))) = subst (λ c. In tx (commits_of n c setup.capacity (notes_by h.actor (take p all)))) (sym whose) own in
      record {
        client = subst (IsClient setup) (sym who) client;
        there = subst (λ a. In tx (commits_of n tx.dot.client setup.capacity (notes_by a (take p all)))) (sym who) at_client;
      }

  -- what a centre sent by then it has then
  sent_there : (p o : ℕ) (x : Sent) (list : List Sent) → HasAnswer (trail_in o (take p all)) (Records list) → In x list → In x.item (applied n (trail_in o (take p all)))
  sent_there p o x list was has =
      let trail : List Entry = trail_in o (take p all) in
      let e = In_get trail was.entry was.there in
      let said : Records list ≡ answer (settings_among n k setup o) (take e.0 trail) was.entry.ask = sym was.says ∙ answered_by_then n k setup all t p o e.0 was.entry e.1 in
      let early = handed_by (settings_among n k setup o) (take e.0 trail) was.entry.ask list x said has in
      In_map (λ (x : Sent). x.item) (carried n trail) x (carried_later n trail e.0 x early)

  -- all that the centres have had been committed
  abbrev AreMade : List Happened → Type 0
  AreMade before = (i : ℕ) (r : Record) → In r (applied n (trail_in i before)) → WasMade before r.tx

  made_more : (p : ℕ) (h : Happened) → slice_get all p ≡ Some h → AreMade (take p all) → AreMade (take p all ++ h ∷ [])
  made_more p h there made i r here = made_later (take p all) h r.tx (go (entry_in i h) refl (subst (λ es. In r (applied n es)) (trail_more i (take p all) h) here))
    where
      joins : (entry : Entry) → entry_in i h ≡ Some entry → In r (grown n (applied n (trail_in i (take p all))) entry.ask entry.say) → WasMade (take p all) r.tx
      joins entry is here =
          let m = made_by i h entry is in
          ⊎_elim
          (λ old. made i r old)
          (λ new. ⊎_elim
          (λ commit. asked_made p h i r.tx m.exchange.fate there (m.exchange.is ∙ ap (λ ask. Asked i ask m.exchange.fate) commit))
          (λ delivers.
          let was = delivered n k setup all t p h i m.exchange.fate r delivers.0 there (m.exchange.is ∙ ap (λ ask. Asked i ask m.exchange.fate) delivers.1) in
          made was.centre r (sent_there p was.centre (with_hops r delivers.0) was.list was.answer was.has))
          new)
          (grown_in n (applied n (trail_in i (take p all))) entry.ask entry.say r here)

      go : (o : Option Entry) → entry_in i h ≡ o → In r (applied n (trail_in i (take p all) ++ cons_option o [])) → WasMade (take p all) r.tx
      go None is here = made i r (subst (λ es. In r (applied n es)) (append-nil (trail_in i (take p all))) here)
      go (Some entry) is here = joins entry is (subst (λ A. In r A) (applied_push n (trail_in i (take p all)) entry) here)

  -- so at each moment
  all_made : (p : ℕ) → AreMade (take p all)
  all_made p = by_moments AreMade all (λ i r here. absurd here) made_more p

  -- what a client has made by a note, its session counts
  counted : (a m : ℕ) (tx : Tx) → IsClient setup a → In tx (commits_of n (a - 1) setup.capacity (take m (notes_by a all))) → tx.dot.number ≤ (client_after n (a - 1) setup.capacity (take m (notes_by a all))).own
  counted a m tx client there =
      let held = held_after n (a - 1) setup.capacity (notes_by a all) (follows n k setup all t a client) m in
      let number = numbered_In (λ (t : Tx). t.dot) (dot_at (a - 1)) 1 (commits_of n (a - 1) setup.capacity (take m (notes_by a all))) tx held.dots there in
      let is : tx.dot.number ≡ number.number = ap (λ (d : Dot). d.number) number.is in
      omega (arith, number.high, is, held.number)

  -- a record that a centre has by a note of a client, and that the client made, is within what its session counts
  own_counted : (a m p i : ℕ) (r : Record) → IsClient setup a → notes_by a (take p all) ≡ take m (notes_by a all) → In r (applied n (trail_in i (take p all))) → r.tx.dot.client ≡ a - 1 → r.tx.dot.number ≤ (client_after n (a - 1) setup.capacity (take m (notes_by a all))).own
  own_counted a m p i r client front there home =
      let before : List Happened = take p all in
      let made = all_made p i r there in
      let actor : r.tx.dot.client + 1 ≡ a = omega (arith, home, client.low) in
      let own : In r.tx (commits_of n (a - 1) setup.capacity (notes_by a before)) = subst (λ c. In r.tx (commits_of n c setup.capacity (notes_by a before))) home (subst (λ a'. In r.tx (commits_of n r.tx.dot.client setup.capacity (notes_by a' before))) actor made.there) in
      counted a m r.tx client (subst (λ ns. In r.tx (commits_of n (a - 1) setup.capacity ns)) front own)

  -- a snapshot that a session heard has no more of its commits than it had made
  snap_timely : (a m : ℕ) (note : Note) (i : ℕ) (c : ℕ) (here w : List ℕ) (most top : ℕ) → IsClient setup a → slice_get (notes_by a all) m ≡ Some note → note.deed ≡ Asked i (Refresh c here) (Heard (Snap w most top)) → most ≤ (client_after n (a - 1) setup.capacity (take m (notes_by a all))).own
  snap_timely a m note i c here w most top client there is =
      let h = noted n k setup all t a m note there in
      let trail : List Entry = trail_in i (take h.place all) in
      let notes : List Note = notes_by a all in
      let s : Client = client_after n (a - 1) setup.capacity (take m notes) in
      let said : Snap w most top ≡ answer (settings_among n k setup i) trail (Refresh c here) = answered_deed n k setup all t h.place h.it i (Refresh c here) (Heard (Snap w most top)) (Snap w most top) h.there (ap (λ (note : Note). note.deed) h.note_is ∙ is) refl in
      let snap = snap_by (settings_among n k setup i) trail c here w most top said in
      let followed = follows n k setup all t a client in
      let allowed : Allows s (take m notes) (Asked i (Refresh c here) (Heard (Snap w most top))) = subst (λ deed. Allows s (take m notes) deed) is (followed.holds m note there) in
      let gives : Gives s i (Refresh c here) = heard_gives s (take m notes) i (Refresh c here) (Snap w most top) allowed in
      let held = held_after n (a - 1) setup.capacity notes followed m in
      let who : c ≡ a - 1 = same_client c s.client here s.vector gives.0 ∙ held.who in
      let A : List Record = applied n trail in
      let bound : mine c (inside A w) ≤ s.own = mine_bound c (inside A w) s.own (λ d there mine.
      let from = In_from_map (λ (r : Record). r.tx.dot) (filter (λ (r : Record). within r.stamp w) A) d there in
      let few = own_counted a m h.place i from.0 client h.front (In_from_filter (λ (r : Record). within r.stamp w) A from.0 from.1).0 (ap (λ (d : Dot). d.client) (sym from.2) ∙ (mine ∙ who)) in
      let number : d.number ≡ from.0.tx.dot.number = ap (λ (d : Dot). d.number) from.2 in
      omega (arith, few, number)) in
      omega (arith, snap.mine_is, bound)

-- the book is timely
pub timely : (b : Book) (n k : ℕ) (setup : Setup) (all : List Happened) → IsBookOf b n k setup.clients all → AreTogether n k setup all → IsTimely b setup
timely b n k setup all is t = record { no_more = heard }
  where
    heard : (x : Exchange) (number : ℕ) → HearsRefresh b setup x number → number ≤ (client_at b setup x.actor x.place).own
    heard x number hears =
        let a : ℕ = x.actor in
        let client : IsClient setup a = hears.heard.client in
        let notes : notes_of b a ≡ notes_by a all = notes_are b n k setup.clients all is setup a refl client in
        let deed = hears.heard.deed_is ∙ (ap (λ ask. Asked x.centre ask (Heard x.answer)) hears.refresh ∙ ap (λ say. Asked x.centre (Refresh hears.client hears.here) (Heard say)) hears.snapshot) in
        subst (λ n. number ≤ (client_after n (a - 1) setup.capacity (take x.place (notes_of b a))).own) (sym is.n_is)
        (subst (λ ns. number ≤ (client_after n (a - 1) setup.capacity (take x.place ns)).own) (sym notes)
        (snap_timely n k setup all t a x.place hears.heard.note x.centre hears.client hears.here hears.snap number hears.top client (subst (λ ns. slice_get ns x.place ≡ Some hears.heard.note) notes hears.heard.there) deed))
