-- The commits of a book that fits are fit.
use Rattle.std.proofs.Common.{◌≡◌, ℕ, zero, suc, ◌-◌, ◌≤◌, Bool, true, false, cond, ⊎_elim, List, length, take, Option, Some, None, refl, sym, ◌∙◌, subst, arith}
use Rattle.std.specs.Prelude.{nat_lt, slice_get, All}
use Rattle.std.proofs.lemmas.Bool.{ltb-false, cases_lt}
use Rattle.std.proofs.lemmas.List.Elements.{All-nil, All-push, All-from_get_or}
use Rattle.list_core.specs.Members.{In}
use Rattle.list_core.proofs.Members.{All-In, In-All}
use Rattle.list_core.proofs.Gets.{In_get}
use Rattle.ids_core.specs.declared.ids.OpId.{OpId}
use Rattle.ids_core.specs.declared.object.ObjectId.{ObjectId}
use Rattle.vv_core.specs.Vectors.{at}
use Rattle.vv_core.proofs.Entrywise.{at_past}
use Rattle.tx_core.specs.declared.tx.Update.{Update}
use Rattle.tx_core.specs.declared.tx.Tx.{Tx}
use Rattle.tx_core.specs.declared.state.State.{State}
use Rattle.tx_core.specs.Ops.{over_of}
use Rattle.tx_core.specs.States.{tags_of}
use Rattle.tx_core.specs.Checks.{IsTag, IsModestUpdate, IsFitUpdate, IsFit, is_small}
use Rattle.dc_talk.specs.declared.calls.Change.{Change}
use Rattle.dc_talk.specs.declared.calls.Change.TheVariants.{Inc, Write, Add, Remove, Put, Erase}
use Rattle.dc_talk.specs.declared.calls.Outcome.TheVariants.{Fine, Refused}
use Rattle.dc_talk.specs.declared.calls.Refusal.TheVariants.{TooManyTags}
use Rattle.dc_talk.specs.declared.log.Note.{Note}
use Rattle.dc_talk.specs.Clients.{Client, draft_updates}
use Rattle.dc_talk.specs.Calls.{named, op_of, over, tags_in, is_modest, viewed, look_up_outcome, change_outcome}
use Rattle.dc_talk.specs.Rule.{client_after, commits_of, Follows}
use Rattle.dc_talk.proofs.Counts.{own_length}
use Rattle.dc_talk.proofs.Places.{count_few}
use Rattle.run_book.specs.Graphs.{commits_at}
use Rattle.run_book.specs.Setups.{Setup, centre_settings}
use Rattle.run_book.specs.declared.book.Book.{Book}
use Rattle.run_book.specs.Parts.{notes_of, IsClient, applied_by_end}
use Rattle.run_book.specs.Fit.{FitsWith}
use Rattle.run_book.specs.Sound.{IsSound}
use Rattle.run_book.proofs.Sessions.{change_fine}
use Rattle.run_book.proofs.Held.{held_after}
use Rattle.run_book.proofs.Growth.{wide_after}
use Rattle.run_book.proofs.Causal.Origins.{whole_each}
use Rattle.run_book.proofs.Causal.SessionStates.{standing}
use Rattle.run_book.proofs.Causal.Drafts.{IsOfDrafts, HoldsOf, holds_after}
use Rattle.run_book.proofs.Causal.Changes.{kind_of_op}
use Rattle.run_book.proofs.Causal.CommitTags.{commit_in_range, commit_tags}
use Rattle.ids_core.specs.declared.limits.TheConstants.{MOST_TAGS}

-- ---- a change that is made

-- its delta is small, where it has one
small_of_change : (change : Change) (tags : List OpId) → is_modest change ≡ true → is_small (op_of change tags) ≡ true
small_of_change (Inc delta) tags is = is
small_of_change (Write word) tags is = refl
small_of_change (Add word) tags is = refl
small_of_change (Remove word) tags is = refl
small_of_change (Put key word) tags is = refl
small_of_change (Erase key) tags is = refl

-- a word or key that was looked up has few tags
looked_few : (name : List ℕ) (o : ObjectId) (state : Option State) → Fine ≡ look_up_outcome o (Some name) state → length (tags_in (Some name) state) ≤ MOST_TAGS
looked_few name o None is = absurd (cc)
looked_few name o (Some state) is = go (nat_lt MOST_TAGS (length (tags_of state name))) refl is
  where
    go : (t : Bool) → nat_lt MOST_TAGS (length (tags_of state name)) ≡ t → Fine ≡ cond t (Refused (TooManyTags (length (tags_of state name)))) Fine → length (tags_of state name) ≤ MOST_TAGS
    go true t is = absurd (cc)
    go false t is = ltb-false MOST_TAGS (length (tags_of state name)) t

-- so the operation is over few
few_of_change : (change : Change) (o : ObjectId) (state : Option State) → Fine ≡ look_up_outcome o (named change) state → length (over_of (op_of change (tags_in (named change) state))) ≤ MOST_TAGS
few_of_change (Inc delta) o state is = omega arith
few_of_change (Write word) o state is = omega arith
few_of_change (Add word) o state is = looked_few word o state is
few_of_change (Remove word) o state is = looked_few word o state is
few_of_change (Put key word) o state is = looked_few key o state is
few_of_change (Erase key) o state is = looked_few key o state is

-- its update is modest
modest_change : (s : Client) (o : ObjectId) (change : Change) → Fine ≡ change_outcome s o change → IsModestUpdate (record { object = o; op = op_of change (over s o change) })
modest_change s o change is =
    let fine = change_fine s o change is in
    record {
      kind = kind_of_op change (over s o change) ∙ fine.kind;
      delta = small_of_change change (over s o change) fine.small;
      tags = few_of_change change o (viewed s o) fine.found;
    }

-- ---- one log

-- what a log alone tells of a commit's fitness
record IsFitByLog (n : ℕ) (t : Tx) : Type 0 where
  some : 1 ≤ length t.updates
  rank : 1 ≤ t.rank
  width : length t.snap ≡ n
  updates : All IsModestUpdate t.updates

-- the open updates of a session with an entry for each centre are modest, and so are those of its commits
of_fit : (n : ℕ) → IsOfDrafts (λ s deed. length s.vector ≡ n) (λ s. All IsModestUpdate (draft_updates s)) (λ t. IsFitByLog n t)
of_fit n = record {
  first = λ s none. subst (λ us. All IsModestUpdate us) (sym none) (All-nil IsModestUpdate);
  beside = λ s link cache h. h;
  more = λ s o change wide fine h. All-push IsModestUpdate (draft_updates s) (record { object = o; op = op_of change (over s o change) }) h (modest_change s o change fine);
  commit = λ s number wide some h. record { some = some; rank = omega arith; width = wide; updates = h };
}

-- so it is at each moment of a log that follows the rule
fit_after : (n client capacity : ℕ) (notes : List Note) → Follows n client capacity notes → (m : ℕ) → HoldsOf (λ s. All IsModestUpdate (draft_updates s)) (λ t. IsFitByLog n t) (client_after n client capacity (take m notes)) (commits_of n client capacity (take m notes))
fit_after n client capacity notes follows = holds_after (of_fit n) n client capacity notes follows (λ p note there. wide_after n client capacity (take p notes))

-- modest updates that are over identifiers in range are fit
fit_updates : (us : List Update) → All IsModestUpdate us → ((k : ℕ) (u : Update) → slice_get us k ≡ Some u → All IsTag (over_of u.op)) → All IsFitUpdate us
fit_updates us modest tags = In-All IsFitUpdate us each
  where
    each : (u : Update) → In u us → IsFitUpdate u
    each u i =
        let one = All-In IsModestUpdate us u modest i in
        let g = In_get us u i in
        record { kind = one.kind; delta = one.delta; tags = one.tags; over = tags g.0 u g.1 }

-- ---- a book

module _ (b : Book) (setup : Setup) (fit : FitsWith b setup) where
  -- the entries of a sound vector are small
  sound_small : (v : List ℕ) → length v ≡ b.n → IsSound b v → (e : ℕ) → at v e ≤ 1000000
  sound_small v wide sound zero = omega arith
  sound_small v wide sound (suc e) = ⊎_elim
      (λ past. omega (arith, at_past v (suc e) (omega (arith, wide, past))))
      (λ le. omega (arith, sound.bounded (suc e), own_length (suc e) (applied_by_end b (suc e)), count_few (centre_settings b setup (suc e)) (applied_by_end b (suc e)) (whole_each b setup fit (suc e) (omega arith) le) (suc e)))
      (cases_lt b.n (suc e))

  -- each commit of a session is fit
  pub commits_fit : (a m : ℕ) (t : Tx) → IsClient setup a → In t (commits_at b setup a m) → IsFit b.n t
  commits_fit a m t client i =
      let C = commits_at b setup a m in
      let held = held_after b.n (a - 1) setup.capacity (notes_of b a) (fit.follows a client) m in
      let one = (fit_after b.n (a - 1) setup.capacity (notes_of b a) (fit.follows a client) m).commits t i in
      let g = In_get C t i in
      let range = commit_in_range b setup fit a m t client i in
      let small = sound_small t.snap one.width ((standing b setup fit a client m).sound t i) in
      record {
        some = one.some;
        few = range.few;
        client = range.client;
        number = range.number;
        rank = (one.rank, omega (arith, held.ranks g.0 t g.1, held.ranked));
        width = one.width;
        snap = All-from_get_or (λ entry. entry ≤ 1000000) t.snap 0 (λ k below. small (suc k));
        updates = fit_updates t.updates one.updates (commit_tags b setup fit a m t client i);
      }
