-- When a session's snapshot changes: it takes that of a centre, which is its own joined with what is stable there.
use Rattle.std.proofs.Common.{◌≡◌, ℕ, Bool, true, false, cond, ◌⊎◌, inl, inr, ⊎_elim, List, length, take, Some, refl, sym, ap, ◌∙◌, subst, arith}
use Rattle.std.specs.Prelude.{slice_get, ◌==◌, ◌&&◌}
use Rattle.std.proofs.lemmas.Bool.{and_parts}
use Rattle.vv_core.specs.Vectors.{join_of, Covers}
use Rattle.vv_core.proofs.Covering.{Covers_refl}
use Rattle.dc_talk.specs.declared.ask.Ask.{Ask}
use Rattle.dc_talk.specs.declared.ask.Ask.TheVariants.{Hello, Refresh, Fetch, Delta, Commit as CommitAsk}
use Rattle.dc_talk.specs.declared.say.Say.{Say}
use Rattle.dc_talk.specs.declared.say.Say.TheVariants.{Welcome, Snap, Pruned, Object, Changes, Known, Stamped}
use Rattle.dc_talk.specs.declared.calls.Call.{Call}
use Rattle.dc_talk.specs.declared.calls.Call.TheVariants.{Begin, Change as ChangeCall, Read, Commit, Abort}
use Rattle.dc_talk.specs.declared.calls.Outcome.{Outcome}
use Rattle.dc_talk.specs.declared.calls.Outcome.TheVariants.{Fine, Got, Number, Nothing, Refused}
use Rattle.dc_talk.specs.declared.calls.Refusal.TheVariants.{TooManyTags}
use Rattle.dc_talk.specs.declared.log.Fate.TheVariants.{Heard}
use Rattle.dc_talk.specs.declared.log.Deed.{Deed}
use Rattle.dc_talk.specs.declared.log.Deed.TheVariants.{Did, Asked, Told, Spoilt}
use Rattle.dc_talk.specs.declared.log.Note.{Note}
use Rattle.dc_talk.specs.Trails.{stable}
use Rattle.dc_talk.specs.Clients.{Client}
use Rattle.dc_talk.specs.Calls.{did}
use Rattle.dc_talk.specs.Rule.{after, heard, takes, taken, is_linked, can_follow, Allows}
use Rattle.dc_talk.proofs.ClientAnswers.{snap_by}
use Rattle.run_book.specs.Setups.{Setup, centre_settings}
use Rattle.run_book.specs.declared.book.Book.{Book}
use Rattle.run_book.specs.Parts.{trail_of, notes_of, IsClient}
use Rattle.run_book.specs.Fit.{FitsWith}
use Rattle.run_book.specs.Graphs.{client_at}
use Rattle.run_book.proofs.Sessions.{can_follow-true}
use Rattle.run_book.proofs.OwnAsks.{heard_gives}
use Rattle.run_book.proofs.Pairing.{HasEntry, has_entry}

-- ---- one deed

-- the second client has the snapshot and the link of the first
pub record IsKeptByCall (s t : Client) : Type 0 where
  pub vector : t.vector ≡ s.vector
  pub link : t.link ≡ s.link

-- a call leaves them as they are
pub did_keeps : (s : Client) (call : Call) (outcome : Outcome) → IsKeptByCall s (did s call outcome)
did_keeps s Begin Fine = record { vector = refl; link = refl }
did_keeps s (ChangeCall o change) Fine = record { vector = refl; link = refl }
did_keeps s (ChangeCall o change) (Refused (TooManyTags count)) = record { vector = refl; link = refl }
did_keeps s (Read o) (Got value) = record { vector = refl; link = refl }
did_keeps s Commit (Number number) = record { vector = refl; link = refl }
did_keeps s Commit Nothing = record { vector = refl; link = refl }
did_keeps s Abort Fine = record { vector = refl; link = refl }
did_keeps s _ _ = record { vector = refl; link = refl }

-- the client hears a snapshot, and takes it: it has as many entries as the client's, and covers it
pub record TakesSnapshot (s : Client) (deed : Deed) : Type 0 where
  pub centre : ℕ
  pub client : ℕ
  pub here : List ℕ
  pub vector : List ℕ
  pub own_number : ℕ
  pub top_rank : ℕ
  pub is : deed ≡ Asked centre (Refresh client here) (Heard (Snap vector own_number top_rank))
  pub new : (after s deed).vector ≡ vector
  pub wide : length vector ≡ length s.vector
  pub more : Covers vector s.vector

-- an answer that is taken leaves the snapshot, or is one
taken_vector : (s : Client) (i : ℕ) (ask : Ask) (say : Say) → takes s i ask say ≡ true → (after s (Asked i ask (Heard say))).vector ≡ (taken s i ask say).vector → ((taken s i ask say).vector ≡ s.vector) ⊎ TakesSnapshot s (Asked i ask (Heard say))
taken_vector s i (Hello c need) (Welcome through) is new = inl refl
taken_vector s i (Refresh c here) (Snap vector own_number top_rank) is new = inr (record {
  centre = i;
  client = c;
  here = here;
  vector = vector;
  own_number = own_number;
  top_rank = top_rank;
  is = refl;
  new = new;
  wide = (can_follow-true s vector own_number top_rank (and_parts ((c == s.client) && is_linked i s.link) (can_follow s vector own_number top_rank) is).1).width;
  more = (can_follow-true s vector own_number top_rank (and_parts ((c == s.client) && is_linked i s.link) (can_follow s vector own_number top_rank) is).1).covered;
})
taken_vector s i (Fetch o here) (Object state) is new = inl refl
taken_vector s i (Delta o from here) (Object state) is new = inl refl
taken_vector s i (Delta o from here) (Changes tail) is new = inl refl
taken_vector s i (Delta o from here) (Pruned centre base low) is new = inl refl
taken_vector s i (CommitAsk tx) (Stamped stamp) is new = inl refl
taken_vector s i (CommitAsk tx) (Known through) is new = inl refl
taken_vector s i _ _ is new = inl refl

-- a deed leaves the snapshot, or takes one
pub deed_vector : (s : Client) (deed : Deed) → ((after s deed).vector ≡ s.vector) ⊎ TakesSnapshot s deed
deed_vector s (Did call outcome) = inl (did_keeps s call outcome).vector
deed_vector s (Asked i ask (Heard say)) = go (takes s i ask say) refl
  where
    go : (t : Bool) → takes s i ask say ≡ t → ((heard s i ask say).vector ≡ s.vector) ⊎ TakesSnapshot s (Asked i ask (Heard say))
    go true is =
        let new : (heard s i ask say).vector ≡ (taken s i ask say).vector = ap (λ t. (cond t (taken s i ask say) s).vector) is in
        ⊎_elim (λ same. inl (new ∙ same)) (λ takes. inr takes) (taken_vector s i ask say is new)
    go false is = inl (ap (λ t. (cond t (taken s i ask say) s).vector) is)
deed_vector s (Asked i ask _) = inl refl
deed_vector s (Told line) = inl refl
deed_vector s (Spoilt from item why) = inl refl

-- a deed leaves the snapshot no smaller
pub deed_covers : (s : Client) (deed : Deed) → Covers (after s deed).vector s.vector
deed_covers s deed =
    ⊎_elim
    (λ same. subst (λ v. Covers v s.vector) (sym same) (Covers_refl s.vector))
    (λ (t : TakesSnapshot s deed). subst (λ v. Covers v s.vector) (sym t.new) t.more)
    (deed_vector s deed)

-- and as wide as it was
pub deed_width : (s : Client) (deed : Deed) → length (after s deed).vector ≡ length s.vector
deed_width s deed = ⊎_elim (λ same. ap length same) (λ (t : TakesSnapshot s deed). ap length t.new ∙ t.wide) (deed_vector s deed)

-- ---- a book

-- equal refreshes are of one client and at one vector
pub same_refresh : (c d : ℕ) (v w : List ℕ) → Refresh c v ≡ Refresh d w → (c ≡ d) × (v ≡ w)
same_refresh c d v w is = (cc, cc)

module _ (b : Book) (setup : Setup) (fit : FitsWith b setup) (a m : ℕ) (client : IsClient setup a) (note : Note) (there : slice_get (notes_of b a) m ≡ Some note) (takes : TakesSnapshot (client_at b setup a m) note.deed) where
  -- the entry of a snapshot that a session takes at note m, which is the session's vector joined with what is stable there
  pub record IsJoined : Type 0 where
    pub entry : HasEntry b setup takes.centre (record { caller = a; ask = Refresh takes.client takes.here; say = Snap takes.vector takes.own_number takes.top_rank }) (take m (notes_of b a))
    pub is : takes.vector ≡ join_of (client_at b setup a m).vector (stable (centre_settings b setup takes.centre) (take entry.place (trail_of b takes.centre)))

  -- each snapshot that a session takes is so
  pub is_joined : IsJoined
  is_joined =
      let s = client_at b setup a m in
      let entry = has_entry b setup fit a m note takes.centre (Refresh takes.client takes.here) (Heard (Snap takes.vector takes.own_number takes.top_rank)) (Snap takes.vector takes.own_number takes.top_rank) (omega (arith, client.low)) (omega (arith, client.high, fit.form.logs)) there takes.is refl in
      let snap = snap_by (centre_settings b setup takes.centre) (take entry.place (trail_of b takes.centre)) takes.client takes.here takes.vector takes.own_number takes.top_rank entry.is in
      let gives = heard_gives s (take m (notes_of b a)) takes.centre (Refresh takes.client takes.here) (Snap takes.vector takes.own_number takes.top_rank) (subst (λ d. Allows s (take m (notes_of b a)) d) takes.is ((fit.follows a client).holds m note there)) in
      record { entry = entry; is = snap.vector_is ∙ ap (λ v. join_of v (stable (centre_settings b setup takes.centre) (take entry.place (trail_of b takes.centre)))) (same_refresh takes.client s.client takes.here s.vector gives.0).1 }
