-- The connected centre of a session has what the session's vector covers, and its client's commits up to
-- what the link says.
use Rattle.std.proofs.Common.{◌≡◌, ℕ, suc, ◌+◌, ◌-◌, ◌≤◌, max, min, Bool, true, false, cond, ◌&&◌, ⊎_elim, inl, List, [], ◌∷◌, ◌++◌, length, take, Option, Some, None, refl, sym, ap, ◌∙◌, subst, arith}
use Rattle.std.specs.Prelude.{slice_get, ◌==◌}
use Rattle.std.specs.List.{cons_option}
use Rattle.std.proofs.lemmas.Bool.{and_parts, eqb-true, cases_lt}
use Rattle.std.proofs.lemmas.Option.{none-some, same_Some}
use Rattle.std.proofs.lemmas.List.Sums.{fold_push}
use Rattle.list_core.proofs.Members.{In_right}
use Rattle.list_core.proofs.Moments.{by_moments, take_one_more}
use Rattle.list_core.proofs.Passing.{kept_more, kept_before}
use Rattle.vv_core.specs.declared.stamp.Stamp.{Stamp}
use Rattle.vv_core.specs.Vectors.{Covers}
use Rattle.vv_core.proofs.Covering.{Covers_trans}
use Rattle.tx_core.specs.declared.tx.Tx.{Tx}
use Rattle.dc_talk.specs.declared.ask.Ask.{Ask}
use Rattle.dc_talk.specs.declared.ask.Ask.TheVariants.{Hello, Refresh, Fetch, Delta, Commit as CommitAsk}
use Rattle.dc_talk.specs.declared.say.Say.{Say}
use Rattle.dc_talk.specs.declared.say.Say.TheVariants.{Welcome, Snap, Pruned, Object, Changes, Known, Stamped}
use Rattle.dc_talk.specs.declared.calls.Connection.{Connection}
use Rattle.dc_talk.specs.declared.log.Fate.TheVariants.{Heard}
use Rattle.dc_talk.specs.declared.log.Deed.{Deed}
use Rattle.dc_talk.specs.declared.log.Deed.TheVariants.{Did, Asked, Told, Spoilt}
use Rattle.dc_talk.specs.declared.log.Note.{Note}
use Rattle.dc_talk.specs.Entries.{Entry}
use Rattle.dc_talk.specs.Records.{vector, guard}
use Rattle.dc_talk.specs.Trails.{applied, grown}
use Rattle.dc_talk.specs.Clients.{Client, new_client}
use Rattle.dc_talk.specs.Calls.{did}
use Rattle.dc_talk.specs.Rule.{after, takes, taken, is_linked, can_follow, sent_through, client_after, Gives, Allows}
use Rattle.dc_talk.proofs.ClientAnswers.{snap_by, known_by, welcome_by}
use Rattle.dc_talk.proofs.Counts.{in_guard}
use Rattle.dc_talk.proofs.Applied.{new_record}
use Rattle.dc_talk.proofs.Growth.{later_covers, later_guard, applied_push}
use Rattle.run_book.specs.Setups.{Setup, centre_settings}
use Rattle.run_book.specs.declared.book.Book.{Book}
use Rattle.run_book.specs.Parts.{trail_of, notes_of, exchanged, entries_by, IsClient, applied_at}
use Rattle.dc_talk.specs.Logs.{exchanged_in}
use Rattle.run_book.specs.Fit.{FitsWith}
use Rattle.run_book.specs.Graphs.{client_at}
use Rattle.run_book.specs.Refusals.{IsReached}
use Rattle.run_book.proofs.Held.{held_after}
use Rattle.run_book.proofs.OwnAsks.{heard_gives}
use Rattle.run_book.proofs.Pairing.{entry_by, HasEntry, has_entry, one_exchange}
use Rattle.run_book.proofs.Served.{snap_within}
use Rattle.run_book.proofs.Snapshots.{did_keeps}

-- ---- one log

-- equal hellos are of one client, with one vector
pub same_hello : (c d : ℕ) (v w : List ℕ) → Hello c v ≡ Hello d w → (c ≡ d) × (v ≡ w)
same_hello c d v w is = (cc, cc)

-- a client that is linked to a centre has its link there
linked_is : (i : ℕ) (o : Option Connection) → is_linked i o ≡ true → (link : Connection) → o ≡ Some link → link.centre ≡ i
linked_is i None is link there = absurd (none-some link there)
linked_is i (Some one) is link there = sym (ap (λ (l : Connection). l.centre) (same_Some one link there)) ∙ eqb-true one.centre i is

-- the link of a client, where it has one, has reached its centre
abbrev pub LinkReached : Book → ℕ → List Note → List ℕ → Option Connection → Type 0
LinkReached b a X v o = (link : Connection) → o ≡ Some link → IsReached b a X v link

module _ (b : Book) (setup : Setup) (a : ℕ) where
  -- with one note more the exchanges are no fewer
  more_few : (i k : ℕ) (X : List Note) (note : Note) → k ≤ length (exchanged i X) → k ≤ length (exchanged i (X ++ note ∷ []))
  more_few i k X note le = omega (arith, le, kept_more (λ (note : Note). exchanged_in i note.deed) X note)

  -- so what was reached, still is
  stays : (X : List Note) (note : Note) (v : List ℕ) (link : Connection) → IsReached b a X v link → IsReached b a (X ++ note ∷ []) v link
  stays X note v link r = record { low = r.low; high = r.high; place = r.place; few = more_few link.centre (length (entries_by a (take r.place (trail_of b link.centre)))) X note r.few; covered = r.covered; sent = r.sent }

  -- the entry of the next exchange stands no sooner than what was reached
  pub no_sooner : (X : List Note) (v : List ℕ) (link : Connection) (ask : Ask) (say : Say) (x : HasEntry b setup link.centre (record { caller = a; ask = ask; say = say }) X) (r : IsReached b a X v link) → r.place ≤ x.place
  no_sooner X v link ask say x r = ⊎_elim
      (λ lt. absurd (omega (arith, kept_before (entry_by a) (trail_of b link.centre) x.place r.place (record { caller = a; ask = ask; say = say }) (ask, say) lt x.there x.own, r.few, x.before)))
      (λ le. le)
      (cases_lt x.place r.place)

  -- a session of the client, after the notes X, whose link has reached its centre, and one note more
  module _ (s : Client) (who : s.client ≡ a - 1) (X : List Note) (note : Note) (old : LinkReached b a X s.vector s.link) where
    -- a welcome: the centre has what was needed, and says how many commits it has
    reached_hello : (i client : ℕ) (need : List ℕ) (through : ℕ) → HasEntry b setup i (record { caller = a; ask = Hello client need; say = Welcome through }) X → client ≡ s.client → need ≡ s.vector → (sent : ℕ) → sent ≤ through → IsReached b a (X ++ note ∷ []) s.vector (record { centre = i; sent = sent })
    reached_hello i client need through x same here sent le =
        let by = welcome_by (centre_settings b setup i) (take x.place (trail_of b i)) client need through x.is in
        let A = applied_at b i x.place in
        let which : guard client A ≡ guard (a - 1) A = ap (λ c. guard c A) (same ∙ who) in
        record {
          low = x.low;
          high = x.high;
          place = x.place;
          few = more_few i (length (entries_by a (take x.place (trail_of b i)))) X note (omega (arith, x.before));
          covered = subst (λ v. Covers (vector b.n A) v) here by.covered;
          sent = omega (arith, le, by.is, which);
        }

    -- a snapshot: the centre has what it covers
    reached_snap : (link : Connection) (client : ℕ) (here w : List ℕ) (number rank : ℕ) → HasEntry b setup link.centre (record { caller = a; ask = Refresh client here; say = Snap w number rank }) X → IsReached b a X s.vector link → IsReached b a (X ++ note ∷ []) w link
    reached_snap link client here w number rank x r =
        let Y = take x.place (trail_of b link.centre) in
        let snap = snap_by (centre_settings b setup link.centre) Y client here w number rank x.is in
        let guards = later_guard b.n (a - 1) (trail_of b link.centre) r.place x.place (no_sooner X s.vector link (Refresh client here) (Snap w number rank) x r) in
        record {
          low = x.low;
          high = x.high;
          place = x.place;
          few = more_few link.centre (length (entries_by a Y)) X note (omega (arith, x.before));
          covered = snap_within (centre_settings b setup link.centre) Y client here w number rank snap;
          sent = omega (arith, guards, r.sent);
        }

    -- a commit that is known: the centre says how many commits it has
    reached_known : (link : Connection) (tx : Tx) (through sent : ℕ) → HasEntry b setup link.centre (record { caller = a; ask = CommitAsk tx; say = Known through }) X → tx.dot.client ≡ s.client → sent ≤ max link.sent through → IsReached b a X s.vector link → IsReached b a (X ++ note ∷ []) s.vector (record link { sent = sent })
    reached_known link tx through sent x own le r =
        let Y = take x.place (trail_of b link.centre) in
        let A = applied b.n Y in
        let later = no_sooner X s.vector link (CommitAsk tx) (Known through) x r in
        let guards = later_guard b.n (a - 1) (trail_of b link.centre) r.place x.place later in
        let known = known_by (centre_settings b setup link.centre) Y tx through x.is in
        let which : guard tx.dot.client A ≡ guard (a - 1) A = ap (λ c. guard c A) (own ∙ who) in
        record {
          low = x.low;
          high = x.high;
          place = x.place;
          few = more_few link.centre (length (entries_by a Y)) X note (omega (arith, x.before));
          covered = Covers_trans _ _ _ (later_covers b.n (trail_of b link.centre) r.place x.place later) r.covered;
          sent = omega (arith, le, guards, r.sent, known.is, which);
        }

    -- the centre has a commit behind the entry that stamped it
    stamped_there : (i place : ℕ) (entry : Entry) (tx : Tx) (stamp : Stamp) → slice_get (trail_of b i) place ≡ Some entry → entry.ask ≡ CommitAsk tx → entry.say ≡ Stamped stamp → tx.dot.number ≤ guard tx.dot.client (applied_at b i (suc place))
    stamped_there i place entry tx stamp there asks says =
        let A = applied_at b i place in
        let r = new_record b.n A tx stamp in
        let grows : applied_at b i (suc place) ≡ grown b.n A entry.ask entry.say = ap (applied b.n) (take_one_more (trail_of b i) place entry there) ∙ applied_push b.n (take place (trail_of b i)) entry in
        let one : grown b.n A entry.ask entry.say ≡ A ++ r ∷ [] = ap (λ ask. grown b.n A ask entry.say) asks ∙ ap (grown b.n A (CommitAsk tx)) says in
        subst (λ A. tx.dot.number ≤ guard tx.dot.client A) (sym (grows ∙ one)) (in_guard (A ++ r ∷ []) r (In_right A (r ∷ []) r (inl refl)))

    -- a commit that is stamped: the centre has it behind its own entry
    reached_stamped : (link : Connection) (tx : Tx) (stamp : Stamp) (sent : ℕ) → note.deed ≡ Asked link.centre (CommitAsk tx) (Heard (Stamped stamp)) → HasEntry b setup link.centre (record { caller = a; ask = CommitAsk tx; say = Stamped stamp }) X → tx.dot.client ≡ s.client → sent ≤ max link.sent tx.dot.number → IsReached b a X s.vector link → IsReached b a (X ++ note ∷ []) s.vector (record link { sent = sent })
    reached_stamped link tx stamp sent deed x own le r =
        let Y = take x.place (trail_of b link.centre) in
        let A = applied_at b link.centre (suc x.place) in
        let later = no_sooner X s.vector link (CommitAsk tx) (Stamped stamp) x r in
        let guards = later_guard b.n (a - 1) (trail_of b link.centre) r.place (suc x.place) (omega (arith, later)) in
        let new = stamped_there link.centre x.place (record { caller = a; ask = CommitAsk tx; say = Stamped stamp }) tx stamp x.there refl refl in
        let which : guard tx.dot.client A ≡ guard (a - 1) A = ap (λ c. guard c A) (own ∙ who) in
        let entries : length (entries_by a (take (suc x.place) (trail_of b link.centre))) ≡ length (entries_by a Y) + 1 =
        ap (λ l. length (entries_by a l)) (take_one_more (trail_of b link.centre) x.place (record { caller = a; ask = CommitAsk tx; say = Stamped stamp }) x.there)
        ∙ (kept_more (entry_by a) Y (record { caller = a; ask = CommitAsk tx; say = Stamped stamp }) ∙ ap (λ o. length (entries_by a Y) + length (cons_option o [])) x.own) in
        record {
          low = x.low;
          high = x.high;
          place = suc x.place;
          few = omega (arith, entries, x.before, one_exchange link.centre X note (CommitAsk tx) (Stamped stamp) (Heard (Stamped stamp)) deed refl);
          covered = Covers_trans _ _ _ (later_covers b.n (trail_of b link.centre) r.place (suc x.place) (omega (arith, later))) r.covered;
          sent = omega (arith, le, guards, r.sent, new, which);
        }

    -- an answer that is taken
    reached_taken : (i : ℕ) (ask : Ask) (say : Say) → note.deed ≡ Asked i ask (Heard say) → HasEntry b setup i (record { caller = a; ask = ask; say = say }) X → Gives s i ask → takes s i ask say ≡ true → LinkReached b a (X ++ note ∷ []) (taken s i ask say).vector (taken s i ask say).link
    reached_taken i (Hello client need) (Welcome through) deed x gives is link there =
        subst (λ link. IsReached b a (X ++ note ∷ []) s.vector link) (same_Some (record { centre = i; sent = min through s.own }) link there)
        (reached_hello i client need through x (eqb-true client s.client is) (same_hello client s.client need s.vector gives).1 (min through s.own) (omega arith))
    reached_taken i (Refresh client here) (Snap w number rank) deed x gives is link there =
        let parts = and_parts ((client == s.client) && is_linked i s.link) (can_follow s w number rank) is in
        let here_it : link.centre ≡ i = linked_is i s.link (and_parts (client == s.client) (is_linked i s.link) parts.0).1 link there in
        reached_snap link client here w number rank (subst (λ i. HasEntry b setup i (record { caller = a; ask = Refresh client here; say = Snap w number rank }) X) (sym here_it) x) (old link there)
    reached_taken i (Fetch o here) (Object state) deed x gives is link there = stays X note s.vector link (old link there)
    reached_taken i (Delta o from here) (Object state) deed x gives is link there = stays X note s.vector link (old link there)
    reached_taken i (Delta o from here) (Changes tail) deed x gives is link there = stays X note s.vector link (old link there)
    reached_taken i (Delta o from here) (Pruned centre base low) deed x gives is link there = stays X note s.vector link (old link there)
    reached_taken i (CommitAsk tx) (Stamped stamp) deed x gives is link there = go s.link refl there
      where
        parts : ((tx.dot.client == s.client) ≡ true) × (is_linked i s.link ≡ true)
        parts = and_parts (tx.dot.client == s.client) (is_linked i s.link) is

        go : (o : Option Connection) → s.link ≡ o → sent_through tx.dot.number s.own o ≡ Some link → IsReached b a (X ++ note ∷ []) s.vector link
        go None at there = absurd (none-some link there)
        go (Some one) at there =
            let here_it : one.centre ≡ i = linked_is i s.link parts.1 one at in
            subst (λ link. IsReached b a (X ++ note ∷ []) s.vector link) (same_Some (record one { sent = min (max one.sent tx.dot.number) s.own }) link there)
            (reached_stamped one tx stamp (min (max one.sent tx.dot.number) s.own) (subst (λ i. note.deed ≡ Asked i (CommitAsk tx) (Heard (Stamped stamp))) (sym here_it) deed) (subst (λ i. HasEntry b setup i (record { caller = a; ask = CommitAsk tx; say = Stamped stamp }) X) (sym here_it) x) (eqb-true tx.dot.client s.client parts.0) (omega arith) (old one at))
    reached_taken i (CommitAsk tx) (Known through) deed x gives is link there = go s.link refl there
      where
        parts : ((tx.dot.client == s.client) ≡ true) × (is_linked i s.link ≡ true)
        parts = and_parts (tx.dot.client == s.client) (is_linked i s.link) is

        go : (o : Option Connection) → s.link ≡ o → sent_through through s.own o ≡ Some link → IsReached b a (X ++ note ∷ []) s.vector link
        go None at there = absurd (none-some link there)
        go (Some one) at there =
            let here_it : one.centre ≡ i = linked_is i s.link parts.1 one at in
            subst (λ link. IsReached b a (X ++ note ∷ []) s.vector link) (same_Some (record one { sent = min (max one.sent through) s.own }) link there)
            (reached_known one tx through (min (max one.sent through) s.own) (subst (λ i. HasEntry b setup i (record { caller = a; ask = CommitAsk tx; say = Known through }) X) (sym here_it) x) (eqb-true tx.dot.client s.client parts.0) (omega arith) (old one at))
    reached_taken i _ _ deed x gives is link there = stays X note s.vector link (old link there)

    -- a deed
    reached_deed : (deed : Deed) → note.deed ≡ deed → ((i : ℕ) (ask : Ask) (say : Say) → deed ≡ Asked i ask (Heard say) → HasEntry b setup i (record { caller = a; ask = ask; say = say }) X × Gives s i ask) → LinkReached b a (X ++ note ∷ []) (after s deed).vector (after s deed).link
    reached_deed (Did call outcome) is heard link there = stays X note (did s call outcome).vector link (subst (λ v. IsReached b a X v link) (sym (did_keeps s call outcome).vector) (old link (sym (did_keeps s call outcome).link ∙ there)))
    reached_deed (Asked i ask (Heard say)) is heard link there = go (takes s i ask say) refl there
      where
        go : (t : Bool) → takes s i ask say ≡ t → (cond t (taken s i ask say) s).link ≡ Some link → IsReached b a (X ++ note ∷ []) (cond t (taken s i ask say) s).vector link
        go true took there = let h = heard i ask say refl in reached_taken i ask say is h.0 h.1 took link there
        go false took there = stays X note s.vector link (old link there)
    reached_deed (Asked i ask _) is heard link there = stays X note s.vector link (old link there)
    reached_deed (Told line) is heard link there = stays X note s.vector link (old link there)
    reached_deed (Spoilt from item why) is heard link there = stays X note s.vector link (old link there)

-- ---- a book

-- the link of a session has reached its centre at each moment of its log
pub linked : (b : Book) (setup : Setup) → FitsWith b setup → (a : ℕ) → IsClient setup a → (m : ℕ) → LinkReached b a (take m (notes_of b a)) (client_at b setup a m).vector (client_at b setup a m).link
linked b setup fit a client = by_moments (λ X. LinkReached b a X (client_after b.n (a - 1) setup.capacity X).vector (client_after b.n (a - 1) setup.capacity X).link) (notes_of b a) (λ link there. absurd (none-some link there)) step
  where
    step : (p : ℕ) (note : Note) → slice_get (notes_of b a) p ≡ Some note → LinkReached b a (take p (notes_of b a)) (client_at b setup a p).vector (client_at b setup a p).link → LinkReached b a (take p (notes_of b a) ++ note ∷ []) (client_after b.n (a - 1) setup.capacity (take p (notes_of b a) ++ note ∷ [])).vector (client_after b.n (a - 1) setup.capacity (take p (notes_of b a) ++ note ∷ [])).link
    step p note there old =
        let X = take p (notes_of b a) in
        let s = client_at b setup a p in
        subst (λ (s : Client). LinkReached b a (X ++ note ∷ []) s.vector s.link) (sym (fold_push (λ s (note : Note). after s note.deed) (new_client b.n (a - 1) setup.capacity) X note))
        (reached_deed b setup a s (held_after b.n (a - 1) setup.capacity (notes_of b a) (fit.follows a client) p).who X note old note.deed refl
        (λ i ask say is. (
          has_entry b setup fit a p note i ask (Heard say) say (omega (arith, client.low)) (omega (arith, client.high, fit.form.logs)) there is refl,
          heard_gives s X i ask say (subst (λ d. Allows s X d) is ((fit.follows a client).holds p note there)),
        )))
