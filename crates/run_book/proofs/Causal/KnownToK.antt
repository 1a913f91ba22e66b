-- What a stable vector covers is known to K, and so is each dot of a basis that is another client's.
use Rattle.std.proofs.Common.{◌≡◌, ℕ, zero, suc, ◌+◌, ◌-◌, ◌≤◌, ◌<◌, ◌⊎◌, inl, inr, ⊎_elim, List, take, Option, Some, None, refl, sym, ap, ◌∙◌, subst, arith}
use Rattle.std.specs.Prelude.{slice_get}
use Rattle.std.proofs.lemmas.Bool.{cases_lt}
use Rattle.list_core.specs.Members.{In}
use Rattle.list_core.proofs.Members.{In_either}
use Rattle.list_core.proofs.Gets.{get_In}
use Rattle.list_core.proofs.Moments.{take_no_more}
use Rattle.ids_core.specs.declared.ids.Dot.{Dot}
use Rattle.vv_core.specs.declared.stamp.Stamp.{Stamp}
use Rattle.vv_core.specs.Vectors.{at, kth_largest}
use Rattle.vv_core.proofs.Entrywise.{at-zeros, at-join_of, at-meet_of}
use Rattle.vv_core.proofs.Sound.{reached_by_rows}
use Rattle.dc_talk.specs.declared.log.Note.{Note}
use Rattle.dc_talk.specs.Entries.{Entry}
use Rattle.dc_talk.specs.Records.{vector}
use Rattle.dc_talk.specs.Trails.{applied, rows, stable}
use Rattle.dc_talk.specs.Clients.{Client}
use Rattle.dc_talk.specs.Rule.{after, client_after}
use Rattle.dc_talk.proofs.Places.{own_at}
use Rattle.run_book.specs.declared.book.Book.{Book}
use Rattle.run_book.specs.Setups.{Setup, centre_settings}
use Rattle.run_book.specs.Parts.{trail_of, notes_of, IsClient, applied_by_end}
use Rattle.run_book.specs.Fit.{FitsWith}
use Rattle.run_book.specs.Graphs.{own_list, cover, own_dots, client_at, basis_at}
use Rattle.run_book.specs.Known.{IsKnownAt, HeardSnapshot, IsKnown}
use Rattle.run_book.proofs.Sessions.{after_more}
use Rattle.run_book.proofs.Held.{held_after}
use Rattle.run_book.proofs.Dots.{own_dots_are}
use Rattle.run_book.proofs.Snapshots.{TakesSnapshot, deed_vector, is_joined}
use Rattle.run_book.proofs.Causal.Origins.{whole_each}
use Rattle.run_book.proofs.Causal.Cover.{cover_in}
use Rattle.dc_talk.specs.declared.settings.Settings.{Settings}
use Rattle.dc_talk.specs.declared.ask.Ask.TheVariants.{Refresh}

-- what a stable vector covers, the centre knows K centres to have
pub stable_known : (settings : Settings) (trail : List Entry) (stamp : Stamp) → 1 ≤ stamp.seq → stamp.seq ≤ at (stable settings trail) stamp.centre → IsKnownAt settings trail stamp
stable_known settings trail stamp one high =
    let R = rows settings trail in
    let kept : stamp.seq ≤ at (kth_largest settings.k R) stamp.centre = omega (arith, high, at-meet_of (kth_largest settings.k R) (vector settings.n (applied settings.n trail)) stamp.centre) in
    reached_by_rows settings.k stamp.centre stamp.seq R one kept

module _ (b : Book) (setup : Setup) (fit : FitsWith b setup) (a : ℕ) (client : IsClient setup a) where
  -- the stamp was known to K centres at a snapshot that the actor heard before note m
  record IsKnownBy (m : ℕ) (stamp : Stamp) : Type 0 where
    earlier : ℕ
    before : earlier < m
    snapshot : HeardSnapshot b a earlier
    known : IsKnownAt (centre_settings b setup snapshot.centre) (take snapshot.place (trail_of b snapshot.centre)) stamp

  -- what a snapshot covers that the session takes, its vector covered before, or it is known to K there
  by_snapshot : (m : ℕ) (note : Note) (stamp : Stamp) → slice_get (notes_of b a) m ≡ Some note → 1 ≤ stamp.seq → (t : TakesSnapshot (client_at b setup a m) note.deed) → stamp.seq ≤ at t.vector stamp.centre → (stamp.seq ≤ at (client_at b setup a m).vector stamp.centre) ⊎ IsKnownBy (suc m) stamp
  by_snapshot m note stamp there one t high =
      let joined = is_joined b setup fit a m client note there t in
      let x = joined.entry in
      let X = take x.place (trail_of b t.centre) in
      ⊎_elim
      (λ lt. inr (record {
        earlier = m;
        before = omega arith;
        snapshot = record {
          note = note;
          there = there;
          centre = t.centre;
          ask = Refresh t.client t.here;
          snap = t.vector;
          mine = t.own_number;
          top = t.top_rank;
          heard = t.is;
          place = x.place;
          entry = x.there;
          before = x.before;
        };
        known = stable_known (centre_settings b setup t.centre) X stamp one (omega (arith, lt, high, ap (λ v. at v stamp.centre) joined.is, at-join_of (client_at b setup a m).vector (stable (centre_settings b setup t.centre) X) stamp.centre));
      }))
      (λ le. inl le)
      (cases_lt (at (client_at b setup a m).vector stamp.centre) stamp.seq)

  -- what is known at a note is known at the next
  later : (m : ℕ) (stamp : Stamp) → IsKnownBy m stamp → IsKnownBy (suc m) stamp
  later m stamp r = record { earlier = r.earlier; before = omega (arith, r.before); snapshot = r.snapshot; known = r.known }

  -- what the session's vector covers is known to K at a snapshot that it has heard
  vector_known : (m : ℕ) (stamp : Stamp) → 1 ≤ stamp.seq → stamp.seq ≤ at (client_at b setup a m).vector stamp.centre → IsKnownBy m stamp
  vector_known zero stamp one h = absurd (omega (arith, one, h, at-zeros b.n stamp.centre))
  vector_known (suc m) stamp one h = go (slice_get (notes_of b a) m) refl (λ h. vector_known m stamp one h)
    where
      go : (o : Option Note) → slice_get (notes_of b a) m ≡ o → (stamp.seq ≤ at (client_at b setup a m).vector stamp.centre → IsKnownBy m stamp) → IsKnownBy (suc m) stamp
      go None past old = later m stamp (old (subst (λ X. stamp.seq ≤ at (client_after b.n (a - 1) setup.capacity X).vector stamp.centre) (take_no_more (notes_of b a) m past) h))
      go (Some note) there old =
          let s = client_at b setup a m in
          let high : stamp.seq ≤ at (after s note.deed).vector stamp.centre = subst (λ (s : Client). stamp.seq ≤ at s.vector stamp.centre) (after_more b.n (a - 1) setup.capacity m (notes_of b a) note there) h in
          ⊎_elim
          (λ same. later m stamp (old (subst (λ v. stamp.seq ≤ at v stamp.centre) same high)))
          (λ (t : TakesSnapshot s note.deed). ⊎_elim (λ le. later m stamp (old le)) (λ known. known) (by_snapshot m note stamp there one t (subst (λ v. stamp.seq ≤ at v stamp.centre) t.new high)))
          (deed_vector s note.deed)

  -- each dot of a basis that is not the session's own is known to K by then
  pub basis_known : (m : ℕ) (d : Dot) → In d (basis_at b setup a m) → (d.client ≡ a - 1 → ⊥) → IsKnown b setup a m d
  basis_known m d i other =
      let s = client_at b setup a m in
      ⊎_elim
      (λ covered.
      let x = cover_in b s.vector d covered in
      let stamp : x.item.stamp ≡ record { centre = x.centre; seq = x.place + 1 } = (own_at (centre_settings b setup x.centre) x.centre (applied_by_end b x.centre) (whole_each b setup fit x.centre x.low x.high) x.place x.item x.there).1 in
      let centre : x.item.stamp.centre ≡ x.centre = ap (λ (s : Stamp). s.centre) stamp in
      let seq = ap (λ (s : Stamp). s.seq) stamp in
      let k = vector_known m x.item.stamp (omega (arith, seq)) (subst (λ e. x.item.stamp.seq ≤ at s.vector e) (sym centre) (omega (arith, seq, x.within))) in
      record {
        item = x.item;
        there = subst (λ e. In x.item (own_list b e)) (sym centre) (get_In (own_list b x.centre) x.place x.item x.there);
        dot = x.dot;
        earlier = k.earlier;
        before = k.before;
        snapshot = k.snapshot;
        known = k.known;
      })
      (λ mine. let o = own_dots_are s.client s.own d mine in absurd (other (ap (λ (d : Dot). d.client) o.is ∙ (held_after b.n (a - 1) setup.capacity (notes_of b a) (fit.follows a client) m).who)))
      (In_either (cover b s.vector) (own_dots s.client s.own) d i)
