-- A transaction has no fault exactly where it is fit.
use Rattle.std.proofs.Common.{◌≡◌, ◌≢◌, ◌≤◌, ◌+◌, ℕ, zero, suc, unsigned_abs, Bool, true, false, cond, not, nat_le, nat_lt, ◌==◌, Option, Some, None, List, [], ◌∷◌, length, All, refl, sym, ap, ◌∙◌, arith}
use Rattle.std.specs.Prelude.{◌↔◌, ℤ, neg_ℤ, pos, ◌≤ℤ◌, IsTrue, position}
use Rattle.std.specs.Bool.{Decides}
use Rattle.std.specs.List.{position_from, list_all}
use Rattle.std.specs.Option.{option_or, option_map}
use Rattle.std.proofs.lemmas.Bool.{and_parts, and_from, leb-true, le-leb, ltb-true, lt-ltb, false≢true}
use Rattle.std.proofs.lemmas.Bool.Decides.{leb_tells, Decides-eqb}
use Rattle.std.proofs.lemmas.Int.{ints}
use Rattle.std.proofs.Math.Dec.{eqb-suc-zero}
use Rattle.std.proofs.lemmas.Iterator.Adapters.{position_from-zero}
use Rattle.std.proofs.lemmas.List.Sums.{AllPass-from_list_all, list_all-from_AllPass}
use Rattle.std.proofs.lemmas.List.Elements.{All-head, All-tail, All-cons}
use Rattle.list_core.specs.Choices.{when, first_of}
use Rattle.list_core.proofs.Choices.{option_map-none}
use Rattle.ids_core.specs.declared.ids.Dot.{Dot}
use Rattle.ids_core.specs.declared.ids.OpId.{OpId}
use Rattle.ids_core.specs.declared.limits.TheConstants.{MOST_CLIENTS, MOST_UPDATES, MOST_TAGS, MOST_RECORDS, MOST_DELTA, MOST_NUMBER}
use Rattle.ids_core.specs.Ids.{same_sort}
use Rattle.ids_core.specs.Same.{same_sort-true, same_sort-itself}
use Rattle.tx_core.specs.declared.tx.Update.{Update}
use Rattle.tx_core.specs.declared.tx.Tx.{Tx}
use Rattle.tx_core.specs.declared.check.TxFault.{TxFault}
use Rattle.tx_core.specs.declared.check.TxFault.TheVariants.{NoUpdates, TooManyUpdates, BadDot, BadRank, WrongWidth, BadSnap, WrongKind, DeltaTooLarge, TooManyTags, BadTag}
use Rattle.tx_core.specs.Ops.{sort_of_op, over_of}
use Rattle.tx_core.specs.Checks.{is_within, is_dot, is_tag, is_small, snap_fault, update_fault, updates_fault, fault_of, is_small_delta, IsTag, IsFitUpdate, IsFit}

-- a choice that is not there
passed : (test : Bool) (fault : TxFault) (rest : List (Option (Option TxFault))) (last : Option TxFault) → first_of (when test (Some fault) ∷ rest) last ≡ None → (test ≡ false) × (first_of rest last ≡ None)
passed true fault rest last h = cc
passed false fault rest last h = (refl, h)

-- and where it is not there, the first is that of the others
passes : (test : Bool) (fault : TxFault) (rest : List (Option (Option TxFault))) (last : Option TxFault) → test ≡ false → first_of rest last ≡ None → first_of (when test (Some fault) ∷ rest) last ≡ None
passes true fault rest last t h = cc
passes false fault rest last t h = h

-- where one of two is none, both are
both_none : (a b : Option TxFault) → option_or a b ≡ None → (a ≡ None) × (b ≡ None)
both_none None b h = (refl, h)
both_none (Some fault) b h = cc

-- and the other way round
none_of_both : (a b : Option TxFault) → a ≡ None → b ≡ None → option_or a b ≡ None
none_of_both None b h k = k
none_of_both (Some fault) b h k = cc

-- what is not denied holds
true_of : (b : Bool) → not b ≡ false → b ≡ true
true_of true h = refl
true_of false h = cc

-- and what holds is not denied
false_of : (b : Bool) → b ≡ true → not b ≡ false
false_of true h = refl
false_of false h = cc

-- the test of a range says that the number is in it
is_within-Decides : (low high number : ℕ) → Decides (is_within low high number) ((low ≤ number) × (number ≤ high))
is_within-Decides low high number = (λ h. let parts = and_parts (nat_le low number) (nat_le number high) h in (leb-true low number parts.0, leb-true number high parts.1), λ h. and_from (nat_le low number) (nat_le number high) (le-leb low number h.0) (le-leb number high h.1))

-- a small delta lies between the limit below 0 and the limit
pub small_delta : (delta : ℤ) → IsTrue (is_small_delta delta) ↔ ((neg_ℤ (pos MOST_DELTA) ≤ℤ delta) × (delta ≤ℤ pos MOST_DELTA))
small_delta delta = (λ small. let le = leb-true (unsigned_abs delta) MOST_DELTA small in (omega (arith, ints, le), omega (arith, ints, le)), λ within. let low = within.0 in let high = within.1 in le-leb (unsigned_abs delta) MOST_DELTA (omega (arith, ints, low, high)))

-- what is not above is at most as great
nat_lt-false : (low high : ℕ) → nat_lt low high ≡ false → high ≤ low
nat_lt-false low high h = grind (arith, leb_tells)

-- and the other way round
false-nat_lt : (low high : ℕ) → high ≤ low → nat_lt low high ≡ false
false-nat_lt low high h = grind (arith, leb_tells)

-- what is 1 or more is not 0
zero_apart : (n : ℕ) → 1 ≤ n → (n == 0) ≡ false
zero_apart zero h = absurd (omega (arith, h))
zero_apart (suc n) h = eqb-suc-zero n

-- no place is found exactly where no entry passes
none_passes : {X : Type 0} (test : X → Bool) (place : ℕ) (xs : List X) → position_from test place xs ≡ None → All (λ x. test x ≡ false) xs
none_passes test place [] h = λ k d below. absurd (omega (arith, below))
none_passes test place (x ∷ xs) h = All-cons (λ x. test x ≡ false) x xs (fails (test x) _ h).0 (none_passes test (place + 1) xs (fails (test x) _ h).1)
  where
    fails : (t : Bool) (rest : Option ℕ) → cond t (Some place) rest ≡ None → (t ≡ false) × (rest ≡ None)
    fails true rest h = cc
    fails false rest h = (refl, h)

-- and where no entry passes, no place is found
none_found : {X : Type 0} (test : X → Bool) (place : ℕ) (xs : List X) → All (λ x. test x ≡ false) xs → position_from test place xs ≡ None
none_found test place [] h = refl
none_found test place (x ∷ xs) h = rw (All-head (λ x. test x ≡ false) x xs h) (none_found test (place + 1) xs (All-tail (λ x. test x ≡ false) x xs h))

-- a snapshot without a fault has no great entry
snap_fault-none : (snap : List ℕ) → snap_fault snap ≡ None → All (λ entry. entry ≤ MOST_RECORDS) snap
snap_fault-none snap h =
    let none = option_map-none (λ place. BadSnap (place + 1)) (position (nat_lt MOST_RECORDS) snap) h in
    let fails = none_passes (nat_lt MOST_RECORDS) 0 snap (sym (position_from-zero (nat_lt MOST_RECORDS) snap) ∙ none) in
    λ k d below. nat_lt-false MOST_RECORDS _ (fails k d below)

-- and the other way round
none-snap_fault : (snap : List ℕ) → All (λ entry. entry ≤ MOST_RECORDS) snap → snap_fault snap ≡ None
none-snap_fault snap h = ap (option_map (λ place. BadSnap (place + 1))) (position_from-zero (nat_lt MOST_RECORDS) snap ∙ none_found (nat_lt MOST_RECORDS) 0 snap (λ k d below. false-nat_lt MOST_RECORDS _ (h k d below)))

-- the client and the number of a dot are in range
abbrev InRange : Dot → Type 0
InRange dot = ((1 ≤ dot.client) × (dot.client ≤ MOST_CLIENTS)) × ((1 ≤ dot.number) × (dot.number ≤ MOST_NUMBER))

-- the test of a dot says so
is_dot-Decides : (dot : Dot) → Decides (is_dot dot) (InRange dot)
is_dot-Decides dot =
    let client = is_within-Decides 1 MOST_CLIENTS dot.client in
    let number = is_within-Decides 1 MOST_NUMBER dot.number in
    (λ h. let parts = and_parts (is_within 1 MOST_CLIENTS dot.client) (is_within 1 MOST_NUMBER dot.number) h in (client.0 parts.0, number.0 parts.1), λ h. and_from (is_within 1 MOST_CLIENTS dot.client) (is_within 1 MOST_NUMBER dot.number) (client.1 h.0) (number.1 h.1))

-- the test of an identifier says that it is one that an update may have
is_tag-Decides : (id : OpId) → Decides (is_tag id) (IsTag id)
is_tag-Decides id = (to, from)
  where
    dot : Decides (is_dot id.dot) (InRange id.dot)
    dot = is_dot-Decides id.dot

    to : is_tag id ≡ true → IsTag id
    to h =
        let parts = and_parts (is_dot id.dot) (nat_lt id.place MOST_UPDATES) h in
        let ranges = dot.0 parts.0 in
        let below = ltb-true id.place MOST_UPDATES parts.1 in
        record { client = ranges.0; number = ranges.1; place = omega (arith, below) }

    from : IsTag id → is_tag id ≡ true
    from tag =
        let low = tag.place in
        and_from (is_dot id.dot) (nat_lt id.place MOST_UPDATES) (dot.1 (tag.client, tag.number)) (lt-ltb id.place MOST_UPDATES (omega (arith, low)))

-- an update without a fault is fit
update_fault-none : (place : ℕ) (update : Update) → update_fault place update ≡ None → IsFitUpdate update
update_fault-none place update h =
    let kind = passed (not (same_sort (sort_of_op update.op) update.object.sort)) (WrongKind place) _ _ h in
    let delta = passed (not (is_small update.op)) (DeltaTooLarge place) _ _ kind.1 in
    let tags = passed (nat_lt MOST_TAGS (length (over_of update.op))) (TooManyTags place (length (over_of update.op))) _ _ delta.1 in
    let over = passed (not (list_all is_tag (over_of update.op))) (BadTag place) _ _ tags.1 in
    let pass = AllPass-from_list_all is_tag (over_of update.op) (true_of (list_all is_tag (over_of update.op)) over.0) in
    record {
      kind = same_sort-true (sort_of_op update.op) update.object.sort (true_of (same_sort (sort_of_op update.op) update.object.sort) kind.0);
      delta = true_of (is_small update.op) delta.0;
      tags = nat_lt-false MOST_TAGS (length (over_of update.op)) tags.0;
      over = λ k d below. (is_tag-Decides _).0 (pass k d below);
    }

-- and the other way round
none-update_fault : (place : ℕ) (update : Update) → IsFitUpdate update → update_fault place update ≡ None
none-update_fault place update fit =
    let kind : same_sort (sort_of_op update.op) update.object.sort ≡ true = ap (same_sort (sort_of_op update.op)) (sym fit.kind) ∙ same_sort-itself (sort_of_op update.op) in
    let over : list_all is_tag (over_of update.op) ≡ true = list_all-from_AllPass is_tag (over_of update.op) (λ k d below. (is_tag-Decides _).1 (fit.over k d below)) in
    passes (not (same_sort (sort_of_op update.op) update.object.sort)) (WrongKind place) _ _ (false_of (same_sort (sort_of_op update.op) update.object.sort) kind)
    (passes (not (is_small update.op)) (DeltaTooLarge place) _ _ (false_of (is_small update.op) fit.delta)
    (passes (nat_lt MOST_TAGS (length (over_of update.op))) (TooManyTags place (length (over_of update.op))) _ _ (false-nat_lt MOST_TAGS (length (over_of update.op)) fit.tags)
    (passes (not (list_all is_tag (over_of update.op))) (BadTag place) _ _ (false_of (list_all is_tag (over_of update.op)) over)
    refl)))

-- updates without a fault are fit
updates_fault-none : (place : ℕ) (updates : List Update) → updates_fault place updates ≡ None → All IsFitUpdate updates
updates_fault-none place [] h = λ k d below. absurd (omega (arith, below))
updates_fault-none place (update ∷ updates) h =
    let both = both_none (update_fault place update) (updates_fault (place + 1) updates) h in
    All-cons IsFitUpdate update updates (update_fault-none place update both.0) (updates_fault-none (place + 1) updates both.1)

-- and the other way round
none-updates_fault : (place : ℕ) (updates : List Update) → All IsFitUpdate updates → updates_fault place updates ≡ None
none-updates_fault place [] h = refl
none-updates_fault place (update ∷ updates) h =
    none_of_both (update_fault place update) (updates_fault (place + 1) updates) (none-update_fault place update (All-head IsFitUpdate update updates h)) (none-updates_fault (place + 1) updates (All-tail IsFitUpdate update updates h))

-- a transaction without a fault is fit
pub fault_of-none : (n : ℕ) (tx : Tx) → fault_of n tx ≡ None → IsFit n tx
fault_of-none n tx h =
    let some = passed (length tx.updates == 0) NoUpdates _ _ h in
    let few = passed (nat_lt MOST_UPDATES (length tx.updates)) (TooManyUpdates (length tx.updates)) _ _ some.1 in
    let dot = passed (not (is_dot tx.dot)) BadDot _ _ few.1 in
    let rank = passed (not (is_within 1 MOST_NUMBER tx.rank)) BadRank _ _ dot.1 in
    let width = passed (not (length tx.snap == n)) (WrongWidth (length tx.snap)) _ _ rank.1 in
    let rest = both_none (snap_fault tx.snap) (updates_fault 0 tx.updates) width.1 in
    let ranges = (is_dot-Decides tx.dot).0 (true_of (is_dot tx.dot) dot.0) in
    let none : length tx.updates ≢ 0 = λ e. false≢true (sym some.0 ∙ (Decides-eqb (length tx.updates) 0).1 e) in
    record {
      some = omega (arith, none);
      few = nat_lt-false MOST_UPDATES (length tx.updates) few.0;
      client = ranges.0;
      number = ranges.1;
      rank = (is_within-Decides 1 MOST_NUMBER tx.rank).0 (true_of (is_within 1 MOST_NUMBER tx.rank) rank.0);
      width = (Decides-eqb (length tx.snap) n).0 (true_of (length tx.snap == n) width.0);
      snap = snap_fault-none tx.snap rest.0;
      updates = updates_fault-none 0 tx.updates rest.1;
    }

-- and a fit one has no fault
pub none-fault_of : (n : ℕ) (tx : Tx) → IsFit n tx → fault_of n tx ≡ None
none-fault_of n tx fit =
    let some = zero_apart (length tx.updates) fit.some in
    let dot = (is_dot-Decides tx.dot).1 (fit.client, fit.number) in
    let rank = (is_within-Decides 1 MOST_NUMBER tx.rank).1 fit.rank in
    let width = (Decides-eqb (length tx.snap) n).1 fit.width in
    passes (length tx.updates == 0) NoUpdates _ _ some
    (passes (nat_lt MOST_UPDATES (length tx.updates)) (TooManyUpdates (length tx.updates)) _ _ (false-nat_lt MOST_UPDATES (length tx.updates) fit.few)
    (passes (not (is_dot tx.dot)) BadDot _ _ (false_of (is_dot tx.dot) dot)
    (passes (not (is_within 1 MOST_NUMBER tx.rank)) BadRank _ _ (false_of (is_within 1 MOST_NUMBER tx.rank) rank)
    (passes (not (length tx.snap == n)) (WrongWidth (length tx.snap)) _ _ (false_of (length tx.snap == n) width)
    (none_of_both (snap_fault tx.snap) (updates_fault 0 tx.updates) (none-snap_fault tx.snap fit.snap) (none-updates_fault 0 tx.updates fit.updates))))))
