-- A session at each moment of its log: its own numbers within its vector, its ranks, its snapshots and its
-- cache.
use Rattle.std.proofs.Common.{◌≡◌, ℕ, suc, ◌-◌, ◌≤◌, ◌<◌, max, Bool, true, false, cond, ◌&&◌, ⊎_elim, List, [], ◌∷◌, ◌++◌, length, take, Option, Some, None, refl, sym, ap, ◌∙◌, subst, arith}
use Rattle.std.specs.Prelude.{slice_get, ◌==◌, is_some}
use Rattle.std.specs.Option.{unwrap_or}
use Rattle.std.proofs.lemmas.Bool.{and_parts, eqb-true, false≢true}
use Rattle.std.proofs.lemmas.Option.{none-some, slice_get_within}
use Rattle.std.proofs.lemmas.List.{append-nil}
use Rattle.list_core.specs.Members.{In}
use Rattle.list_core.proofs.Firsts.{In_without_first}
use Rattle.list_core.proofs.Members.{In_more}
use Rattle.list_core.proofs.Gets.{get_last, get_In}
use Rattle.ids_core.specs.declared.ids.Dot.{Dot}
use Rattle.ids_core.specs.declared.ids.Mark.{Mark}
use Rattle.ids_core.specs.declared.object.ObjectId.{ObjectId}
use Rattle.vv_core.specs.Vectors.{at, zeros, Covers}
use Rattle.vv_core.proofs.Covering.{Covers_refl, Covers_trans}
use Rattle.vv_core.proofs.Entrywise.{at-tabulate_le, at-zeros}
use Rattle.tx_core.specs.declared.op.Op.{Op}
use Rattle.tx_core.specs.declared.tx.Tx.{Tx}
use Rattle.tx_core.specs.declared.tx.Record.{Record}
use Rattle.tx_core.specs.declared.state.State.{State}
use Rattle.tx_core.specs.States.{empty_of, fold_of}
use Rattle.dc_talk.specs.declared.ask.Ask.{Ask}
use Rattle.dc_talk.specs.declared.ask.Ask.TheVariants.{Hello, Refresh, Fetch, Delta, Commit as CommitAsk}
use Rattle.dc_talk.specs.declared.say.Say.{Say}
use Rattle.dc_talk.specs.declared.say.Say.TheVariants.{Welcome, Snap, Pruned, Object, Changes, Known, Stamped}
use Rattle.dc_talk.specs.declared.calls.Call.{Call}
use Rattle.dc_talk.specs.declared.calls.Call.TheVariants.{Begin, Change as ChangeCall, Read, Commit, Abort}
use Rattle.dc_talk.specs.declared.calls.Outcome.{Outcome}
use Rattle.dc_talk.specs.declared.calls.Outcome.TheVariants.{Fine, Got, Number, Nothing, Refused}
use Rattle.dc_talk.specs.declared.calls.Refusal.TheVariants.{TooManyTags}
use Rattle.dc_talk.specs.declared.calls.Cached.{Cached}
use Rattle.dc_talk.specs.declared.log.Fate.TheVariants.{Heard}
use Rattle.dc_talk.specs.declared.log.Deed.{Deed}
use Rattle.dc_talk.specs.declared.log.Deed.TheVariants.{Did, Asked, Told, Spoilt}
use Rattle.dc_talk.specs.declared.log.Note.{Note}
use Rattle.dc_talk.specs.Records.{count, vector, inside, mine as mine_of}
use Rattle.dc_talk.specs.Objects.{state_at, ops_since}
use Rattle.dc_talk.specs.Answers.{answer}
use Rattle.dc_talk.specs.Clients.{Client, new_client, next_tx, same_vector, cached, kept, is_of, draft_updates}
use Rattle.dc_talk.specs.Calls.{did, committed}
use Rattle.dc_talk.specs.Rule.{after, heard, holds, held as held_at, are_of_sort, takes, taken, is_linked, can_follow, commit_in}
use Rattle.dc_talk.proofs.ClientAnswers.{SnapBy, snap_by, ObjectBy, object_by, changes_by, whole_by}
use Rattle.dc_talk.proofs.Deltas.{state_since}
use Rattle.dc_talk.proofs.Counts.{in_top}
use Rattle.dc_talk.proofs.Dots.{in_mine}
use Rattle.run_book.specs.Setups.{Setup, centre_settings}
use Rattle.run_book.specs.declared.book.Book.{Book}
use Rattle.run_book.specs.Parts.{trail_of, notes_of, IsClient, applied_at}
use Rattle.run_book.specs.Fit.{FitsWith}
use Rattle.run_book.specs.Graphs.{cover, client_at, commits_at}
use Rattle.run_book.specs.Sound.{IsSound}
use Rattle.run_book.proofs.Sessions.{CanFollow, can_follow-true, after_more, by_notes}
use Rattle.run_book.proofs.Held.{Held, dot_at, held_after}
use Rattle.run_book.proofs.Dots.{mine_in}
use Rattle.run_book.proofs.Pairing.{has_entry}
use Rattle.run_book.proofs.Served.{snap_within, In_promoted, In_looked_up, In_kept}
use Rattle.run_book.proofs.Causal.Origins.{applied_there}
use Rattle.run_book.proofs.Causal.OneList.{inside_covered, covered_inside}
use Rattle.run_book.proofs.Causal.Cover.{Covered, cover_in, cover_down}
use Rattle.run_book.proofs.Causal.SessionVectors.{session_sound}
use Rattle.run_book.proofs.Causal.Commits.{own_commit, carried, number_low}
use Rattle.run_book.proofs.Causal.ServedStates.{IsServed, served_once, cached_served, served_at}

-- what holds of a session s of client c that committed C: of its own numbers its vector covers just those
-- that the snapshot names, what it covers has a rank at most the clock, its commits have sound snapshots
-- that ascend and lie within the vector, their ranks are above what they cover, and what the cache has, a
-- centre serves, at a vector with an entry for each centre
pub record Standing (b : Book) (setup : Setup) (c : ℕ) (s : Client) (C : List Tx) : Type 0 where
  pub own_in : (d : ℕ) → In (dot_at c d) (cover b s.vector) → (1 ≤ d) × (d ≤ s.mine)
  pub own_all : (d : ℕ) → 1 ≤ d → d ≤ s.mine → In (dot_at c d) (cover b s.vector)
  pub ranks : (d : Dot) (x : Covered b s.vector d) → x.item.tx.rank ≤ s.clock
  pub snaps : (t : Tx) → In t C → Covers s.vector t.snap
  pub sound : (t : Tx) → In t C → IsSound b t.snap
  pub above : (t : Tx) → In t C → (d : Dot) (x : Covered b t.snap d) → x.item.tx.rank < t.rank
  pub ascend : (p q : ℕ) (t u : Tx) → p < q → slice_get C p ≡ Some t → slice_get C q ≡ Some u → Covers u.snap t.snap
  pub cache : (x : Cached) → In x s.cache → IsServed b setup x.object x.vector x.state
  pub wide : (x : Cached) → In x s.cache → length x.vector ≡ b.n

-- so does one that differs from it neither in its snapshot nor in its clock, and has no more in its cache
same_standing : (b : Book) (setup : Setup) (c : ℕ) (s t : Client) (C : List Tx) → t.vector ≡ s.vector → t.mine ≡ s.mine → t.clock ≡ s.clock → ((x : Cached) → In x t.cache → In x s.cache) → Standing b setup c s C → Standing b setup c t C
same_standing b setup c s t C vector mine clock cache h = record {
  own_in = λ d i. let r = h.own_in d (subst (λ v. In (dot_at c d) (cover b v)) vector i) in (r.0, omega (arith, r.1, mine));
  own_all = λ d low high. subst (λ v. In (dot_at c d) (cover b v)) (sym vector) (h.own_all d low (omega (arith, high, mine)));
  ranks = λ d x. omega (arith, ranks d x, clock);
  snaps = λ u i. subst (λ v. Covers v u.snap) (sym vector) (h.snaps u i);
  sound = h.sound;
  above = h.above;
  ascend = h.ascend;
  cache = λ x i. h.cache x (cache x i);
  wide = λ x i. h.wide x (cache x i);
}
  where
    ranks : (d : Dot) (x : Covered b t.vector d) → x.item.tx.rank ≤ s.clock
    ranks d x = h.ranks d (record { centre = x.centre; low = x.low; high = x.high; place = x.place; item = x.item; there = x.there; within = omega (arith, x.within, ap (λ v. at v x.centre) vector); dot = x.dot })

module _ (b : Book) (setup : Setup) (fit : FitsWith b setup) where
  -- numbers that are covered are at least 1
  pub covered_low : (v : List ℕ) (d : Dot) → Covered b v d → 1 ≤ d.number
  covered_low v d x =
      let there = carried b setup fit x.item.tx (own_commit b setup fit x.centre x.place x.item x.low x.high x.there) in
      omega (arith, number_low b setup fit x.item.tx there, ap (λ (d : Dot). d.number) x.dot)

  -- centre i gave this answer after some entries of its trail
  record IsAnswer (i : ℕ) (ask : Ask) (say : Say) : Type 0 where
    low : 1 ≤ i
    high : i ≤ b.n
    place : ℕ
    is : say ≡ answer (centre_settings b setup i) (take place (trail_of b i)) ask

  -- a snapshot that is taken
  standing_snap : (c : ℕ) (s : Client) (C : List Tx) (i client : ℕ) (here w : List ℕ) (number rank : ℕ) → IsAnswer i (Refresh client here) (Snap w number rank) → takes s i (Refresh client here) (Snap w number rank) ≡ true → IsSound b w → Held c s C → Standing b setup c s C → Standing b setup c (taken s i (Refresh client here) (Snap w number rank)) C
  standing_snap c s C i client here w number rank says takes_it sound held h = record {
    own_in = own_in;
    own_all = own_all;
    ranks = ranks;
    snaps = λ t j. Covers_trans w s.vector t.snap can.covered (h.snaps t j);
    sound = h.sound;
    above = h.above;
    ascend = h.ascend;
    cache = h.cache;
    wide = h.wide;
  }
    where
      parts : (((client == s.client) && is_linked i s.link) ≡ true) × (can_follow s w number rank ≡ true)
      parts = and_parts ((client == s.client) && is_linked i s.link) (can_follow s w number rank) takes_it

      can : CanFollow s w number rank
      can = can_follow-true s w number rank parts.1

      who : client ≡ c
      who = eqb-true client s.client (and_parts (client == s.client) (is_linked i s.link) parts.0).0 ∙ held.who

      A : List Record
      A = applied_at b i says.place

      snap : SnapBy (centre_settings b setup i) (take says.place (trail_of b i)) client here w number rank
      snap = snap_by (centre_settings b setup i) (take says.place (trail_of b i)) client here w number rank says.is

      le : Covers (vector b.n A) w
      le = snap_within (centre_settings b setup i) (take says.place (trail_of b i)) client here w number rank snap

      number_is : number ≡ mine_of c (inside A w)
      number_is = snap.mine_is ∙ ap (λ c. mine_of c (inside A w)) who

      own_in : (d : ℕ) → In (dot_at c d) (cover b w) → (1 ≤ d) × (d ≤ number)
      own_in d j = (
        covered_low w (dot_at c d) (cover_in b w (dot_at c d) j),
        omega (arith, number_is, in_mine c (inside A w) (dot_at c d) (covered_inside b setup fit i says.place says.low says.high w (dot_at c d) le j) refl),
      )

      own_all : (d : ℕ) → 1 ≤ d → d ≤ number → In (dot_at c d) (cover b w)
      own_all d low high =
          let one : 1 ≤ mine_of c (inside A w) = omega (arith, number_is, low, high) in
          let last = inside_covered b setup fit i says.place says.low says.high w (dot_at c (mine_of c (inside A w))) (mine_in c (inside A w) one) in
          cover_down b setup fit w c (mine_of c (inside A w)) d sound low (omega (arith, high, number_is)) last

      ranks : (d : Dot) (x : Covered b w d) → x.item.tx.rank ≤ max s.clock rank
      ranks d x =
          let here = applied_there b setup fit i says.place x.centre x.place x.item says.low says.high (omega (arith, x.within, le.holds x.centre, at-tabulate_le b.n x.centre (λ e. count e A))) x.there in
          omega (arith, in_top A x.item here.0, snap.top_is)

  -- a state that is kept
  standing_kept : (c : ℕ) (s : Client) (C : List Tx) (o : ObjectId) (here : List ℕ) (state : State) → length here ≡ b.n → IsServed b setup o here state → Standing b setup c s C → Standing b setup c (record s { cache = kept s.capacity (record { object = o; vector = here; state = state }) s.cache }) C
  standing_kept c s C o here state wide served h = record {
    own_in = h.own_in;
    own_all = h.own_all;
    ranks = h.ranks;
    snaps = h.snaps;
    sound = h.sound;
    above = h.above;
    ascend = h.ascend;
    cache = λ x j. ⊎_elim (λ same. subst (λ (x : Cached). IsServed b setup x.object x.vector x.state) (sym same) served) (λ old. h.cache x old) (In_kept s.capacity new s.cache x j);
    wide = λ x j. ⊎_elim (λ same. ap (λ (x : Cached). length x.vector) same ∙ wide) (λ old. h.wide x old) (In_kept s.capacity new s.cache x j);
  }
    where
      new : Cached
      new = record { object = o; vector = here; state = state }

  -- a state that is taken
  standing_object : (c : ℕ) (s : Client) (C : List Tx) (i p : ℕ) (o : ObjectId) (here : List ℕ) (state : State) → 1 ≤ i → i ≤ b.n → ObjectBy b.n (applied_at b i p) o here state → Standing b setup c s C → Standing b setup c (record s { cache = kept s.capacity (record { object = o; vector = here; state = state }) s.cache }) C
  standing_object c s C i p o here state low high object h = standing_kept c s C o here state object.width (subst (λ state. IsServed b setup o here state) (sym object.is) (served_at b setup fit i p low high o here object.covered)) h

  -- what came to an object after a vector, folded into the state there, is served at the later vector: the centre has
  -- the same state at the first one, from whichever centre this one came, since the vector fixes it
  served_since : (i p : ℕ) (o : ObjectId) (from here : List ℕ) (tail : List (Mark × Op)) (state : State) → 1 ≤ i → i ≤ b.n → Covers here from → Covers (vector b.n (applied_at b i p)) here → tail ≡ ops_since o (applied_at b i p) from here → IsServed b setup o from state → IsServed b setup o here (fold_of state tail)
  served_since i p o from here tail state low high later covered is served =
      let A : List Record = applied_at b i p in
      let there : IsServed b setup o from (state_at o A from) = served_at b setup fit i p low high o from (Covers_trans (vector b.n A) here from covered later) in
      let first : state ≡ state_at o A from = served_once b setup o from state (state_at o A from) served there in
      let same : fold_of state tail ≡ state_at o A here = (λ j. fold_of (first j) (is j)) ∙ state_since A from here o later in
      subst (λ state. IsServed b setup o here state) (sym same) (served_at b setup fit i p low high o here covered)

  -- a state that the session holds is served
  held_served : (c : ℕ) (s : Client) (C : List Tx) (o : ObjectId) (from : List ℕ) → holds s o from ≡ true → Standing b setup c s C → IsServed b setup o from (held_at s o from)
  held_served c s C o from has h = go (cached o from s.cache) refl has
    where
      go : (found : Option State) → cached o from s.cache ≡ found → is_some found ≡ true → IsServed b setup o from (unwrap_or found (empty_of o.sort))
      go None is none = absurd (false≢true none)
      go (Some state) is some = cached_served b setup o from s.cache state h.cache is

  -- operations that are taken
  standing_changes : (c : ℕ) (s : Client) (C : List Tx) (i : ℕ) (o : ObjectId) (from here : List ℕ) (tail : List (Mark × Op)) → IsAnswer i (Delta o from here) (Changes tail) → takes s i (Delta o from here) (Changes tail) ≡ true → Standing b setup c s C → Standing b setup c (taken s i (Delta o from here) (Changes tail)) C
  standing_changes c s C i o from here tail says takes_it h =
      let by = changes_by (centre_settings b setup i) (take says.place (trail_of b i)) o from here tail says.is in
      let has : holds s o from ≡ true = (and_parts (holds s o from) (are_of_sort o.sort tail) (and_parts (same_vector here s.vector) (holds s o from && are_of_sort o.sort tail) takes_it).1).0 in
      standing_kept c s C o here (fold_of (held_at s o from) tail) by.widths.1
      (served_since i says.place o from here tail (held_at s o from) says.low says.high by.later by.covered by.is (held_served c s C o from has h)) h

  -- an answer that is taken
  standing_taken : (c : ℕ) (s : Client) (C : List Tx) (i : ℕ) (ask : Ask) (say : Say) → IsAnswer i ask say → takes s i ask say ≡ true → IsSound b (taken s i ask say).vector → Held c s C → Standing b setup c s C → Standing b setup c (taken s i ask say) C
  standing_taken c s C i (Hello client need) (Welcome through) says is sound held h = same_standing b setup c s _ C refl refl refl (λ x j. j) h
  standing_taken c s C i (Refresh client here) (Snap w number rank) says is sound held h = standing_snap c s C i client here w number rank says is sound held h
  standing_taken c s C i (Fetch o here) (Object state) says is sound held h =
      standing_object c s C i says.place o here state says.low says.high (object_by (centre_settings b setup i) (take says.place (trail_of b i)) o here state says.is) h
  standing_taken c s C i (Delta o from here) (Object state) says is sound held h =
      standing_object c s C i says.place o here state says.low says.high (whole_by (centre_settings b setup i) (take says.place (trail_of b i)) o from here state says.is) h
  standing_taken c s C i (Delta o from here) (Changes tail) says is sound held h = standing_changes c s C i o from here tail says is h
  standing_taken c s C i (Delta o from here) (Pruned centre base low) says is sound held h = same_standing b setup c s _ C refl refl refl (λ x j. In_without_first (is_of o) s.cache x j) h
  standing_taken c s C i (CommitAsk tx) (Stamped stamp) says is sound held h = same_standing b setup c s _ C refl refl refl (λ x j. j) h
  standing_taken c s C i (CommitAsk tx) (Known through) says is sound held h = same_standing b setup c s _ C refl refl refl (λ x j. j) h
  standing_taken c s C i _ _ says is sound held h = h

  -- an answer that is heard, taken or not
  standing_heard : (c : ℕ) (s : Client) (C : List Tx) (i : ℕ) (ask : Ask) (say : Say) → IsAnswer i ask say → IsSound b (heard s i ask say).vector → Held c s C → Standing b setup c s C → Standing b setup c (heard s i ask say) C
  standing_heard c s C i ask say says sound held h = go (takes s i ask say) refl sound
    where
      go : (t : Bool) → takes s i ask say ≡ t → IsSound b (cond t (taken s i ask say) s).vector → Standing b setup c (cond t (taken s i ask say) s) C
      go true is sound = standing_taken c s C i ask say says is sound held h
      go false is sound = h

  -- nothing is committed
  unchanged : (c : ℕ) (s : Client) (C : List Tx) → Standing b setup c s C → Standing b setup c s (C ++ [])
  unchanged c s C h = subst (λ C. Standing b setup c s C) (sym (append-nil C)) h

  -- a commit that gets its number
  standing_committed : (c : ℕ) (s : Client) (C : List Tx) → IsSound b s.vector → Standing b setup c s C → Standing b setup c (committed s) (C ++ next_tx s (draft_updates s) ∷ [])
  standing_committed c s C sound h = record {
    own_in = h.own_in;
    own_all = h.own_all;
    ranks = λ d x. omega (arith, h.ranks d x);
    snaps = λ t i. ⊎_elim (λ j. h.snaps t j) (λ same. subst (λ (t : Tx). Covers s.vector t.snap) (sym same) (Covers_refl s.vector)) (In_more C tx t i);
    sound = λ t i. ⊎_elim (λ j. h.sound t j) (λ same. subst (λ (t : Tx). IsSound b t.snap) (sym same) sound) (In_more C tx t i);
    above = λ t i. ⊎_elim (λ j. h.above t j) (λ same. subst (λ (t : Tx). (d : Dot) (x : Covered b t.snap d) → x.item.tx.rank < t.rank) (sym same) (λ d x. omega (arith, h.ranks d x))) (In_more C tx t i);
    ascend = ascend;
    cache = h.cache;
    wide = h.wide;
  }
    where
      tx : Tx
      tx = next_tx s (draft_updates s)

      ascend : (p q : ℕ) (t u : Tx) → p < q → slice_get (C ++ tx ∷ []) p ≡ Some t → slice_get (C ++ tx ∷ []) q ≡ Some u → Covers u.snap t.snap
      ascend p q t u lt here there =
          ⊎_elim
          (λ before. ⊎_elim
          (λ first. h.ascend p q t u lt first before)
          (λ last. absurd (omega (arith, lt, last.1, slice_get_within C q u before)))
          (get_last C tx t p here))
          (λ last. ⊎_elim
          (λ first. subst (λ (u : Tx). Covers u.snap t.snap) last.0 (h.snaps t (get_In C p t first)))
          (λ both. absurd (omega (arith, lt, last.1, both.1)))
          (get_last C tx t p here))
          (get_last C tx u q there)

  -- a call that ends
  standing_did : (c : ℕ) (s : Client) (C : List Tx) (call : Call) (outcome : Outcome) → IsSound b s.vector → Standing b setup c s C → Standing b setup c (did s call outcome) (C ++ commit_in s (Did call outcome))
  standing_did c s C Begin Fine sound h = unchanged c _ C (same_standing b setup c s _ C refl refl refl (λ x i. i) h)
  standing_did c s C (ChangeCall o change) Fine sound h = unchanged c _ C (same_standing b setup c s _ C refl refl refl (λ x i. In_looked_up s o change x i) h)
  standing_did c s C (ChangeCall o change) (Refused (TooManyTags tags)) sound h = unchanged c _ C (same_standing b setup c s _ C refl refl refl (λ x i. In_looked_up s o change x i) h)
  standing_did c s C (Read o) (Got value) sound h = unchanged c _ C (same_standing b setup c s _ C refl refl refl (λ x i. In_promoted o s.vector s.cache x i) h)
  standing_did c s C Commit (Number number) sound h = standing_committed c s C sound h
  standing_did c s C Commit Nothing sound h = unchanged c _ C (same_standing b setup c s _ C refl refl refl (λ x i. i) h)
  standing_did c s C Abort Fine sound h = unchanged c _ C (same_standing b setup c s _ C refl refl refl (λ x i. i) h)
  standing_did c s C _ _ sound h = unchanged c s C h

  -- a deed
  standing_deed : (c : ℕ) (s : Client) (C : List Tx) (deed : Deed) → ((i : ℕ) (ask : Ask) (say : Say) → deed ≡ Asked i ask (Heard say) → IsAnswer i ask say) → IsSound b s.vector → IsSound b (after s deed).vector → Held c s C → Standing b setup c s C → Standing b setup c (after s deed) (C ++ commit_in s deed)
  standing_deed c s C (Did call outcome) says sound next held h = standing_did c s C call outcome sound h
  standing_deed c s C (Asked i ask (Heard say)) says sound next held h = unchanged c (heard s i ask say) C (standing_heard c s C i ask say (says i ask say refl) next held h)
  standing_deed c s C (Asked i ask _) says sound next held h = unchanged c s C h
  standing_deed c s C (Told line) says sound next held h = unchanged c s C h
  standing_deed c s C (Spoilt from item why) says sound next held h = unchanged c s C h

  -- nothing is covered at first
  standing_new : (c : ℕ) → Standing b setup c (new_client b.n c setup.capacity) []
  standing_new c = record {
    own_in = λ d i. absurd (none (dot_at c d) (cover_in b (zeros b.n) (dot_at c d) i));
    own_all = λ d low high. absurd (omega (arith, low, high));
    ranks = λ d x. absurd (none d x);
    snaps = λ t i. absurd i;
    sound = λ t i. absurd i;
    above = λ t i. absurd i;
    ascend = λ p q t u lt here. absurd (none-some t here);
    cache = λ x i. absurd i;
    wide = λ x i. absurd i;
  }
    where
      none : (d : Dot) → Covered b (zeros b.n) d → ⊥
      none d x = omega (arith, x.within, at-zeros b.n x.centre)

  -- what a log heard, a centre answered
  says_at : (a : ℕ) → IsClient setup a → (m : ℕ) (note : Note) (i : ℕ) (ask : Ask) (say : Say) → slice_get (notes_of b a) m ≡ Some note → note.deed ≡ Asked i ask (Heard say) → IsAnswer i ask say
  says_at a client m note i ask say there is =
      let x = has_entry b setup fit a m note i ask (Heard say) say (omega (arith, client.low)) (omega (arith, client.high, fit.form.logs)) there is refl in
      record { low = x.low; high = x.high; place = x.place; is = x.is }

  -- so stands a session at each moment of its log
  pub standing : (a : ℕ) → IsClient setup a → (m : ℕ) → Standing b setup (a - 1) (client_at b setup a m) (commits_at b setup a m)
  standing a client = by_notes b.n (a - 1) setup.capacity (notes_of b a) (λ s C. Standing b setup (a - 1) s C) (standing_new (a - 1)) next
    where
      next : (m : ℕ) (note : Note) → slice_get (notes_of b a) m ≡ Some note → Standing b setup (a - 1) (client_at b setup a m) (commits_at b setup a m) → Standing b setup (a - 1) (after (client_at b setup a m) note.deed) (commits_at b setup a m ++ commit_in (client_at b setup a m) note.deed)
      next m note there h =
          let s = client_at b setup a m in
          let later : IsSound b (after s note.deed).vector = subst (λ (s : Client). IsSound b s.vector) (after_more b.n (a - 1) setup.capacity m (notes_of b a) note there) (session_sound b setup fit a client (suc m)) in
          standing_deed (a - 1) s (commits_at b setup a m) note.deed (λ i ask say is. says_at a client m note i ask say there is) (session_sound b setup fit a client m) later (held_after b.n (a - 1) setup.capacity (notes_of b a) (fit.follows a client) m) h
