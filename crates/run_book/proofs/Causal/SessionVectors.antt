-- The vectors of sessions, and the snapshots that were answered, are sound at each moment.
use Rattle.std.proofs.Common.{◌≡◌, ℕ, ◌-◌, ◌≤◌, ⊎_elim, List, [], length, take, Some, sym, ap, ◌∙◌, subst}
use Rattle.std.specs.Prelude.{slice_get}
use Rattle.list_core.proofs.Gets.{get_in_take, get_seam}
use Rattle.tx_core.specs.declared.tx.Tx.{Tx}
use Rattle.dc_talk.specs.declared.ask.Ask.TheVariants.{Refresh, Commit}
use Rattle.dc_talk.specs.declared.say.Say.TheVariants.{Snap}
use Rattle.dc_talk.specs.declared.log.Fate.{Fate}
use Rattle.dc_talk.specs.declared.log.Deed.TheVariants.{Asked}
use Rattle.dc_talk.specs.declared.log.Note.{Note}
use Rattle.dc_talk.specs.Entries.{Entry}
use Rattle.dc_talk.specs.Trails.{stable}
use Rattle.dc_talk.specs.Answers.{answer}
use Rattle.dc_talk.specs.Clients.{Client}
use Rattle.dc_talk.specs.Rule.{after, Allows, IsLate, IsSecond}
use Rattle.dc_talk.proofs.ClientAnswers.{refresh_by, snap_by}
use Rattle.run_book.specs.Setups.{Setup, centre_settings}
use Rattle.run_book.specs.declared.book.Book.{Book}
use Rattle.run_book.specs.Parts.{trail_of, notes_of, IsClient}
use Rattle.run_book.specs.Fit.{FitsWith}
use Rattle.run_book.specs.Graphs.{client_at}
use Rattle.run_book.specs.Sound.{IsSound}
use Rattle.run_book.proofs.Sessions.{by_notes}
use Rattle.run_book.proofs.OwnAsks.{heard_gives}
use Rattle.run_book.proofs.Pairing.{entry_noted}
use Rattle.run_book.proofs.Snapshots.{TakesSnapshot, deed_vector, same_refresh, is_joined}
use Rattle.run_book.proofs.Causal.CentreVectors.{zeros_are_sound, join_is_sound, stable_sound}

-- a refresh is no commit
refresh_commit : (c : ℕ) (here : List ℕ) (tx : Tx) → Refresh c here ≡ Commit tx → ⊥
refresh_commit c here tx is = cc

module _ (b : Book) (setup : Setup) (fit : FitsWith b setup) where
  -- the vector of a session is sound
  pub session_sound : (a : ℕ) → IsClient setup a → (m : ℕ) → IsSound b (client_at b setup a m).vector
  session_sound a client = by_notes b.n (a - 1) setup.capacity (notes_of b a) (λ s C. IsSound b s.vector) (zeros_are_sound b b.n) next
    where
      next : (m : ℕ) (note : Note) → slice_get (notes_of b a) m ≡ Some note → IsSound b (client_at b setup a m).vector → IsSound b (after (client_at b setup a m) note.deed).vector
      next m note there old = ⊎_elim (λ same. subst (λ v. IsSound b v) (sym same) old) taken (deed_vector (client_at b setup a m) note.deed)
        where
          taken : TakesSnapshot (client_at b setup a m) note.deed → IsSound b (after (client_at b setup a m) note.deed).vector
          taken t =
              let joined = is_joined b setup fit a m client note there t in
              let other = stable_sound b setup fit t.centre joined.entry.place joined.entry.low joined.entry.high in
              subst (λ v. IsSound b v) (sym (t.new ∙ joined.is)) (join_is_sound b (client_at b setup a m).vector (stable (centre_settings b setup t.centre) (take joined.entry.place (trail_of b t.centre))) old other)

  -- what a session asks to be refreshed at is a vector that it has, or had
  refreshed_sound : (a m : ℕ) (note : Note) (i c : ℕ) (here : List ℕ) (fate : Fate) → IsClient setup a → slice_get (notes_of b a) m ≡ Some note → note.deed ≡ Asked i (Refresh c here) fate → IsSound b here
  refreshed_sound a m note i c here fate client there is =
      ⊎_elim
      (λ gives. subst (λ v. IsSound b v) (sym (same_refresh c s.client here s.vector gives.0).1) (session_sound a client m))
      (λ copies. ⊎_elim (λ (late : IsLate (take m (notes_of b a)) (Refresh c here) fate). absurd (refresh_commit c here late.tx late.commit)) second copies)
      (subst (λ d. Allows s (take m (notes_of b a)) d) is ((fit.follows a client).holds m note there))
    where
      s : Client
      s = client_at b setup a m

      second : IsSecond (take m (notes_of b a)) i (Refresh c here) fate → IsSound b here
      second copy =
          let q = length copy.earlier in
          let t = client_at b setup a q in
          let stands : slice_get (notes_of b a) q ≡ Some copy.last = get_in_take (notes_of b a) m q copy.last (subst (λ l. slice_get l q ≡ Some copy.last) (sym copy.there) (get_seam copy.earlier copy.last [])) in
          let first = heard_gives t (take q (notes_of b a)) i (Refresh c here) copy.first (subst (λ d. Allows t (take q (notes_of b a)) d) copy.same ((fit.follows a client).holds q copy.last stands)) in
          subst (λ v. IsSound b v) (sym (same_refresh c t.client here t.vector first.0).1) (session_sound a client q)

  -- each snapshot that was answered is sound, heard or not
  pub snap_sound : (i p : ℕ) (entry : Entry) (w : List ℕ) (mine top : ℕ) → 1 ≤ i → i ≤ b.n → slice_get (trail_of b i) p ≡ Some entry → entry.say ≡ Snap w mine top → IsSound b w
  snap_sound i p entry w mine top low high there says =
      let is : Snap w mine top ≡ answer (centre_settings b setup i) (take p (trail_of b i)) entry.ask = sym says ∙ (fit.histories i low high).holds p entry there in
      let asks = refresh_by (centre_settings b setup i) (take p (trail_of b i)) entry.ask w mine top is in
      let snap = snap_by (centre_settings b setup i) (take p (trail_of b i)) asks.client asks.here w mine top (is ∙ ap (answer (centre_settings b setup i) (take p (trail_of b i))) asks.is) in
      let noted = entry_noted b setup fit i p entry low high there in
      let deed : noted.note.deed ≡ Asked i (Refresh asks.client asks.here) noted.exchanged.fate = noted.exchanged.is ∙ ap (λ ask. Asked i ask noted.exchanged.fate) asks.is in
      let client = fit.refresh_home entry.caller noted.place noted.note i asks.client asks.here noted.exchanged.fate noted.there deed in
      let here_sound = refreshed_sound entry.caller noted.place noted.note i asks.client asks.here noted.exchanged.fate client noted.there deed in
      subst (λ v. IsSound b v) (sym snap.vector_is) (join_is_sound b asks.here (stable (centre_settings b setup i) (take p (trail_of b i))) here_sound (stable_sound b setup fit i p low high))
