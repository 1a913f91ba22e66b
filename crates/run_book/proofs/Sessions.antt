-- What the log of one client tells by itself: its commits, its numbers and its open transaction.
use Rattle.std.proofs.Common.{◌≡◌, ℕ, suc, ◌+◌, ◌*◌, ◌≤◌, ◌<◌, Bool, true, false, cond, List, [], ◌∷◌, ◌++◌, length, take, drop, fold, unsigned_abs, Option, Some, None, refl, sym, ap, ◌∙◌, subst, arith}
use Rattle.std.specs.Prelude.{◌==◌, nat_le, not, is_none, is_some, slice_get}
use Rattle.std.specs.List.{cons_option}
use Rattle.std.proofs.lemmas.Bool.{and_parts, leb-true, leb-false, eqb-true, not-false}
use Rattle.std.proofs.lemmas.List.Sums.{fold_push}
use Rattle.std.proofs.lemmas.List.{append-nil, append_assoc, drop-drop, drop-append-le, length-append}
use Rattle.list_core.specs.Choices.{when}
use Rattle.list_core.proofs.Choices.{is_none_true, when_some, when_none, last_of}
use Rattle.list_core.proofs.Moments.{take_one_more, by_moments}
use Rattle.ids_core.specs.declared.ids.OpId.{OpId}
use Rattle.ids_core.specs.declared.object.ObjectId.{ObjectId}
use Rattle.ids_core.specs.Ids.{same_sort, same_object}
use Rattle.ids_core.specs.Same.{same_sort-true}
use Rattle.vv_core.specs.Vectors.{Covers, covers}
use Rattle.vv_core.proofs.Covering.{covers-true}
use Rattle.obj_counter.specs.Counter.{sizes}
use Rattle.tx_core.specs.declared.op.Op.{Op}
use Rattle.tx_core.specs.declared.tx.Update.{Update}
use Rattle.tx_core.specs.declared.tx.Tx.{Tx}
use Rattle.dc_talk.specs.declared.calls.Change.{Change}
use Rattle.dc_talk.specs.declared.calls.Change.TheVariants.{Inc, Write, Add, Remove, Put, Erase}
use Rattle.dc_talk.specs.declared.calls.Refusal.{Refusal}
use Rattle.dc_talk.specs.declared.calls.Refusal.TheVariants.{AlreadyOpen, ClockFull, NotOpen, WrongKind, DeltaTooLarge, TooManyUpdates}
use Rattle.dc_talk.specs.declared.calls.Outcome.{Outcome}
use Rattle.dc_talk.specs.declared.calls.Outcome.TheVariants.{Fine, Number, Refused}
use Rattle.dc_talk.specs.declared.log.Note.{Note}
use Rattle.dc_talk.specs.Clients.{Client, new_client, draft_updates}
use Rattle.dc_talk.specs.Calls.{sort_of_change, named, op_of, is_modest, viewed, look_up_outcome, begin_outcome, change_outcome, commit_outcome}
use Rattle.dc_talk.specs.Rule.{after, can_follow, client_after, commit_in, commits_from, commits_of}
use Rattle.tx_graph.specs.Values.{delta_of, change_of}
use Rattle.run_book.proofs.Sizes.{sizes-append, deltas_of-append, deltas_of}
use Rattle.ids_core.specs.declared.limits.TheConstants.{MOST_NUMBER, MOST_UPDATES}

-- ---- the commits of a log

-- the state after the notes
abbrev state_after : Client → List Note → Client
state_after s notes = fold (λ s note. after s note.deed) s notes

-- the commits of notes and of those behind them
pub commits_from-append : (s : Client) (notes later : List Note) → commits_from s (notes ++ later) ≡ commits_from s notes ++ commits_from (state_after s notes) later
commits_from-append s [] later = refl
commits_from-append s (note ∷ notes) later =
    ap (λ l. commit_in s note.deed ++ l) (commits_from-append (after s note.deed) notes later)
    ∙ sym (append_assoc (commit_in s note.deed) (commits_from (after s note.deed) notes) (commits_from (state_after (after s note.deed) notes) later))

-- the commits with one note more
pub commits_of_more : (n client capacity : ℕ) (notes : List Note) (note : Note) → commits_of n client capacity (notes ++ note ∷ []) ≡ commits_of n client capacity notes ++ commit_in (client_after n client capacity notes) note.deed
commits_of_more n client capacity notes note =
    commits_from-append (new_client n client capacity) notes (note ∷ [])
    ∙ ap (λ l. commits_of n client capacity notes ++ l) (append-nil (commit_in (client_after n client capacity notes) note.deed))

-- the commits of a prefix are a prefix of the commits
pub commits_of_prefix : (n client capacity m : ℕ) (notes : List Note) → (later : List Tx) × (commits_of n client capacity notes ≡ commits_of n client capacity (take m notes) ++ later)
commits_of_prefix n client capacity m notes = (
  commits_from (client_after n client capacity (take m notes)) (drop m notes),
  ap (commits_of n client capacity) (sym (Rattle.std.proofs.lemmas.List.take-append-drop m notes)) ∙ commits_from-append (new_client n client capacity) (take m notes) (drop m notes),
)

-- the client with one note more
pub after_more : (n client capacity m : ℕ) (notes : List Note) (note : Note) → slice_get notes m ≡ Some note → client_after n client capacity (take (suc m) notes) ≡ after (client_after n client capacity (take m notes)) note.deed
after_more n client capacity m notes note there = ap (client_after n client capacity) (take_one_more notes m note there) ∙ fold_push (λ s note. after s note.deed) (new_client n client capacity) (take m notes) note

-- what holds of a client at first, and goes on from each note to the next, holds at each moment of its log
pub by_notes : (n client capacity : ℕ) (notes : List Note) (P : Client → List Tx → Type 0) → P (new_client n client capacity) [] → ((p : ℕ) (note : Note) → slice_get notes p ≡ Some note → P (client_after n client capacity (take p notes)) (commits_of n client capacity (take p notes)) → P (after (client_after n client capacity (take p notes)) note.deed) (commits_of n client capacity (take p notes) ++ commit_in (client_after n client capacity (take p notes)) note.deed)) → (m : ℕ) → P (client_after n client capacity (take m notes)) (commits_of n client capacity (take m notes))
by_notes n client capacity notes P first next = by_moments (λ X. P (client_after n client capacity X) (commits_of n client capacity X)) notes first step
  where
    step : (p : ℕ) (note : Note) → slice_get notes p ≡ Some note → P (client_after n client capacity (take p notes)) (commits_of n client capacity (take p notes)) → P (client_after n client capacity (take p notes ++ note ∷ [])) (commits_of n client capacity (take p notes ++ note ∷ []))
    step p note there h =
        let X = take p notes in
        let s = client_after n client capacity X in
        subst (λ s. P s (commits_of n client capacity (X ++ note ∷ []))) (sym (fold_push (λ s note. after s note.deed) (new_client n client capacity) X note))
        (subst (λ C. P (after s note.deed) C) (sym (commits_of_more n client capacity X note)) (next p note there h))

-- ---- updates of a moderate size

-- at most so many updates, each with a small delta
pub record IsModest (updates : List Update) : Type 0 where
  pub few : length updates ≤ 256
  pub sized : (o : ObjectId) → sizes (deltas_of o updates) ≤ 1000000000000 * length updates

-- the size of an operation's delta, 0 where it has none
abbrev pub size_of : Op → ℕ
size_of op = sizes (cons_option (delta_of (change_of op)) [])

-- one update more adds at most the size of its own delta
sizes_more : (o : ObjectId) (updates : List Update) (u : Update) → sizes (deltas_of o (updates ++ u ∷ [])) ≤ sizes (deltas_of o updates) + size_of u.op
sizes_more o updates u = omega (arith, ap sizes (deltas_of-append o updates (u ∷ [])), sizes-append (deltas_of o updates) (deltas_of o (u ∷ [])), go (same_object u.object o))
  where
    go : (b : Bool) → sizes (cond b (cons_option (delta_of (change_of u.op)) []) []) ≤ size_of u.op
    go true = omega arith
    go false = omega arith

-- no updates are modest
pub modest_none : IsModest []
modest_none = record { few = omega arith; sized = λ o. omega arith }

-- so are modest updates with one more of a small delta, where there is room for it
pub modest_more : (updates : List Update) (u : Update) → IsModest updates → length updates < 256 → size_of u.op ≤ 1000000000000 → IsModest (updates ++ u ∷ [])
modest_more updates u modest room small = record {
  few = omega (arith, length-append updates (u ∷ []), room);
  sized = λ o. omega (arith, length-append updates (u ∷ []), sizes_more o updates u, small, modest.sized o);
}

-- the operation of a modest change has a small delta, or none
pub small_delta : (change : Change) (over : List OpId) → is_modest change ≡ true → size_of (op_of change over) ≤ 1000000000000
small_delta (Inc delta) over small = omega (arith, leb-true (unsigned_abs delta) 1000000000000 small)
small_delta (Write word) over small = omega arith
small_delta (Add word) over small = omega arith
small_delta (Remove word) over small = omega arith
small_delta (Put key word) over small = omega arith
small_delta (Erase key) over small = omega arith

-- ---- what calls and answers tell

-- what is fine is no refusal
differs : (test : Bool) (refusal : Refusal) (y : Outcome) → when test (Refused refusal) ≡ Some y → Fine ≡ y → ⊥
differs test refusal y there same = let e : y ≡ Refused refusal = when_some test (Refused refusal) y there in cc

-- a transaction is begun below the greatest rank
pub begin_fine : (s : Client) → Fine ≡ begin_outcome s → s.clock < MOST_NUMBER
begin_fine s is =
    let l = last_of (when (is_some s.draft) (Refused AlreadyOpen) ∷ when (nat_le MOST_NUMBER s.clock) (Refused ClockFull) ∷ []) Fine Fine is (differs _ AlreadyOpen, (differs _ ClockFull, tt)) in
    leb-false MOST_NUMBER s.clock (when_none _ _ l.0.1.0)

-- a change that is made is of its object's kind and modest, there is room for it, and what it has to know of
-- the object is there
pub record ChangeFine (s : Client) (o : ObjectId) (change : Change) : Type 0 where
  pub opened : is_none s.draft ≡ false
  pub kind : sort_of_change change ≡ o.sort
  pub small : is_modest change ≡ true
  pub room : length (draft_updates s) < 256
  pub found : Fine ≡ look_up_outcome o (named change) (viewed s o)

-- what a change tells that is made
pub change_fine : (s : Client) (o : ObjectId) (change : Change) → Fine ≡ change_outcome s o change → ChangeFine s o change
change_fine s o change is =
    let refusals =
    when (is_none s.draft) (Refused NotOpen)
    ∷ when (not (same_sort (sort_of_change change) o.sort)) (Refused WrongKind)
    ∷ when (not (is_modest change)) (Refused DeltaTooLarge)
    ∷ when (nat_le MOST_UPDATES (length (draft_updates s))) (Refused (TooManyUpdates MOST_UPDATES))
    ∷ [] in
    let l = last_of refusals (look_up_outcome o (named change) (viewed s o)) Fine is (differs _ NotOpen, (differs _ WrongKind, (differs _ DeltaTooLarge, (differs _ (TooManyUpdates MOST_UPDATES), tt)))) in
    record {
      opened = when_none _ _ l.0.0;
      kind = same_sort-true (sort_of_change change) o.sort (not-false _ (when_none _ _ l.0.1.0));
      small = not-false _ (when_none _ _ l.0.1.1.0);
      room = leb-false MOST_UPDATES (length (draft_updates s)) (when_none _ _ l.0.1.1.1.0);
      found = l.1;
    }

-- a commit that gets a number has its transaction open
pub commit_number : (s : Client) (number : ℕ) (draft : Option (List Update)) → Number number ≡ commit_outcome s draft → (updates : List Update) × (draft ≡ Some updates)
commit_number s number None is = absurd (cc)
commit_number s number (Some updates) is = (updates, refl)

-- a snapshot that can follow the client's
pub record CanFollow (s : Client) (vector : List ℕ) (mine top : ℕ) : Type 0 where
  pub closed : s.draft ≡ None
  pub width : length vector ≡ length s.vector
  pub covered : Covers vector s.vector
  pub ranked : top ≤ MOST_NUMBER
  pub grows : s.mine ≤ mine
  pub made : mine ≤ s.own

-- what the test tells
pub can_follow-true : (s : Client) (vector : List ℕ) (mine top : ℕ) → can_follow s vector mine top ≡ true → CanFollow s vector mine top
can_follow-true s vector mine top is =
    let a = and_parts _ (nat_le mine s.own) is in
    let b = and_parts _ (nat_le s.mine mine) a.0 in
    let c = and_parts _ (nat_le top MOST_NUMBER) b.0 in
    let d = and_parts _ (covers vector s.vector) c.0 in
    let e = and_parts (is_none s.draft) (length vector == length s.vector) d.0 in
    record {
      closed = is_none_true s.draft e.0;
      width = eqb-true (length vector) (length s.vector) e.1;
      covered = covers-true vector s.vector d.1;
      ranked = leb-true top MOST_NUMBER c.1;
      grows = leb-true s.mine mine b.1;
      made = leb-true mine s.own a.1;
    }
