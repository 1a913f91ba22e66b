-- What the log keeps, after a call.
use Rattle.std.proofs.Common.{◌≡◌, ◌≤◌, ◌<◌, ◌^◌, ◌⊎◌, ℕ, ◌+◌, true, false, cond, ⊎_elim, Some, None, List, [], ◌∷◌, ◌++◌, length, refl, sym, ap, ◌∙◌, subst, arith}
use Rattle.std.specs.Prelude.{◌&&◌, ◌||◌, All, Result, Ok, Err, OnOk, OnErr, not, filter}
use Rattle.std.specs.Map.{lookup, values_of}
use Rattle.std.specs.BTreeMap.{is_at}
use Rattle.std.proofs.lemmas.Bool.{false≢true, cases_Bool}
use Rattle.std.proofs.lemmas.Option.{none-some, same_Some}
use Rattle.std.proofs.lemmas.List.{map-append}
use Rattle.std.proofs.lemmas.List.Elements.{All-push}
use Rattle.list_core.specs.Members.{In}
use Rattle.list_core.proofs.Members.{All-In, In-All, In_map, In_more, In_from_map, In_from_filter}
use Rattle.ids_core.specs.declared.limits.TheConstants.{MOST_UPDATES}
use Rattle.ids_core.specs.declared.ids.Dot.{Dot}
use Rattle.ids_core.specs.declared.object.ObjectId.{ObjectId}
use Rattle.ids_core.specs.Ids.{same_dot}
use Rattle.ids_core.specs.Same.{same_dot-true, same_dot-same}
use Rattle.ids_core.specs.Orders.{dot_cmp}
use Rattle.vv_core.specs.declared.stamp.Stamp.{Stamp}
use Rattle.tx_core.specs.declared.tx.Tx.{Tx}
use Rattle.tx_core.specs.declared.tx.Record.{Record}
use Rattle.tx_core.specs.declared.part.RestPart.{RestPart}
use Rattle.object_lists.specs.Listed.{listed}
use Rattle.op_log.specs.declared.chains.Cell.{Cell}
use Rattle.op_log.specs.declared.logged.Logged.{Logged}
use Rattle.stamp_index.specs.declared.places.Place.{Place}
use Rattle.op_log.specs.Logs.{cells_in, chain_of, first_of, has_dot, is_inside, left_of, stamped, with_stamp}
use Rattle.stamp_index.specs.Places.{place_cmp, place_of, has_place, HasFitNumbers}
use Rattle.op_log.specs.Places.{IsPlaced}
use Rattle.op_log.specs.Tables.{Rises, IsKeyed, Names, IsSwept, IsTable, IsLog}
use Rattle.stamp_index.proofs.Finds.{found_none, finds_none}
use Rattle.op_log.proofs.Items.{rises_more, rises_map, stamped_number, stamped_tx, stamps_none, chain_of-with_stamp, chain_more}
use Rattle.op_log.proofs.Numbers.{OnlyAt}
use Rattle.op_log.specs.RestParts.{logged_part}
use Rattle.op_log.proofs.Placed.{AreNoted, placed_part, fit_part, placed_same, placed_more, placed_stamped, fit_fewer, fit_more, fit_stamped}
use Rattle.op_log.proofs.Taking.{values_of-filter}

-- the dots of two times, which find the same for each dot but d
abbrev pub SameBut : Dot → List (Dot × ℕ) → List (Dot × ℕ) → Type 0
SameBut d dots others = (e : Dot) → same_dot d e ≡ false → lookup (is_at (dot_cmp e)) others ≡ lookup (is_at (dot_cmp e)) dots

-- a transaction of a log without the dot d has another dot
other_dot : (d : Dot) (items : List Logged) (x : Logged) → has_dot d items ≡ false → In x items → same_dot d x.tx.dot ≡ false
other_dot d items x new i = ⊎_elim (λ is. absurd (false≢true (sym (found_none (λ y. same_dot y.tx.dot d) items x new i) ∙ same_dot-same x.tx.dot d (sym (same_dot-true d x.tx.dot is))))) (λ is. is) (cases_Bool (same_dot d x.tx.dot))

-- what is found for a dot that no transaction has does not matter
pub names_kept : (d : Dot) (dots others : List (Dot × ℕ)) (items : List Logged) → has_dot d items ≡ false → SameBut d dots others → Names dots items → Names others items
names_kept d dots others items new apart names x i = apart x.tx.dot (other_dot d items x new i) ∙ names x i

-- the places of two times, which are the same
abbrev pub SamePlaces : List Place → List Place → Type 0
SamePlaces places others = (p : Place) → has_place others p ≡ has_place places p

-- a transaction of the log has no place under the number of the next
pub new_place : (n : ℕ) (items : List Logged) (places : List Place) (s : Stamp) → IsPlaced places items → ((x : Logged) → In x items → x.number < n) → has_place places (place_of n s) ≡ false
new_place n items places s placed below = ⊎_elim
    (λ there. let o = placed.from (place_of n s) there in let lt = below o.item o.there in let same : n ≡ o.item.number = ap (λ (p : Place). p.number) o.is in absurd (omega (arith, lt, same)))
    (λ none. none)
    (cases_Bool (has_place places (place_of n s)))

-- the transactions stay, and each is still found
pub log_same : (n : ℕ) (es fs : List (ℕ × Logged)) (ds gs : List (Dot × ℕ)) (cs hs : List (ObjectId × List Cell)) (ps qs : List Place) → IsLog n es ds cs ps → fs ≡ es → Names gs (values_of es) → ((o : ObjectId) → listed hs o ≡ listed cs o) → SamePlaces ps qs → IsLog n fs gs hs qs
log_same n es fs ds gs cs hs ps qs log same names finds places = subst (λ fs. IsLog n fs gs hs qs) (sym same) (record {
  table = record {
    keyed = log.table.keyed;
    rises = log.table.rises;
    names = names;
    placed = placed_same ps qs (values_of es) places log.table.placed;
    fit = fit_fewer ps qs (λ p there. sym (places p) ∙ there) log.table.fit;
  };
  below = log.below;
  finds = λ o. finds o ∙ log.finds o;
  fits = log.fits;
  few = log.few;
})

-- each number is below the count of the appends
pub numbers_below : (n : ℕ) (es : List (ℕ × Logged)) (ds : List (Dot × ℕ)) (cs : List (ObjectId × List Cell)) (ps : List Place) → IsLog n es ds cs ps → All (λ e. e.0 < n) es
numbers_below n es ds cs ps log = In-All (λ e. e.0 < n) es (λ e i. omega (arith, All-In (λ e. e.0 ≡ e.1.number) es e log.table.keyed i, log.below e.1 (In_map (λ e. e.1) es e i)))

-- one more transaction
pub log_with : (n : ℕ) (es fs : List (ℕ × Logged)) (ds gs : List (Dot × ℕ)) (cs hs : List (ObjectId × List Cell)) (ps qs : List Place) (tx : Tx) (stamps : List Stamp) → IsLog n es ds cs ps → has_dot tx.dot (values_of es) ≡ false → length tx.updates ≤ MOST_UPDATES → tx.dot.number < 2 ^ 64 → fs ≡ es ++ (n, record { number = n; tx = tx; stamps = stamps }) ∷ [] → SameBut tx.dot ds gs → lookup (is_at (dot_cmp tx.dot)) gs ≡ Some n → ((o : ObjectId) → listed hs o ≡ listed cs o ++ cells_in o n tx) → IsPlaced qs (values_of es ++ record { number = n; tx = tx; stamps = stamps } ∷ []) → HasFitNumbers qs → IsLog (n + 1) fs gs hs qs
log_with n es fs ds gs cs hs ps qs tx stamps log new few fits is apart there finds placed fit = subst (λ fs. IsLog (n + 1) fs gs hs qs) (sym is) (record {
  table = record {
    keyed = All-push (λ e. e.0 ≡ e.1.number) es (n, one) log.table.keyed refl;
    rises = subst (λ l. Rises l) (sym values) (rises_more (values_of es) one log.table.rises log.below);
    names = λ x i. ⊎_elim (λ j. names_kept tx.dot ds gs (values_of es) new apart log.table.names x j) (λ same. subst (λ y. lookup (is_at (dot_cmp y.tx.dot)) gs ≡ Some y.number) (sym same) there) (each x i);
    placed = subst (λ l. IsPlaced qs l) (sym values) placed;
    fit = fit;
  };
  below = λ x i. ⊎_elim (λ j. omega (arith, log.below x j)) (λ same. omega (arith, ap (λ y. y.number) same)) (each x i);
  finds = λ o. finds o ∙ ap (λ l. l ++ cells_in o n tx) (log.finds o) ∙ sym (chain_more o (values_of es) one) ∙ ap (chain_of o) (sym values);
  fits = λ x i. ⊎_elim (λ j. log.fits x j) (λ same. subst (λ y. y.tx.dot.number < 2 ^ 64) (sym same) fits) (each x i);
  few = λ x i. ⊎_elim (λ j. log.few x j) (λ same. subst (λ y. length y.tx.updates ≤ MOST_UPDATES) (sym same) few) (each x i);
})
  where
    one : Logged
    one = record { number = n; tx = tx; stamps = stamps }

    values : values_of (es ++ (n, one) ∷ []) ≡ values_of es ++ one ∷ []
    values = map-append (λ e. e.1) es ((n, one) ∷ [])

    each : (x : Logged) → In x (values_of (es ++ (n, one) ∷ [])) → In x (values_of es) ⊎ (x ≡ one)
    each x i = In_more (values_of es) one x (subst (λ l. In x l) values i)

-- that of a record, with its stamp
pub log_more : (n : ℕ) (es fs : List (ℕ × Logged)) (ds gs : List (Dot × ℕ)) (cs hs : List (ObjectId × List Cell)) (ps qs : List Place) (r : Record) → IsLog n es ds cs ps → has_dot r.tx.dot (values_of es) ≡ false → length r.tx.updates ≤ MOST_UPDATES → r.tx.dot.number < 2 ^ 64 → n < 2 ^ 64 → fs ≡ es ++ (n, first_of n r) ∷ [] → SameBut r.tx.dot ds gs → lookup (is_at (dot_cmp r.tx.dot)) gs ≡ Some n → ((o : ObjectId) → listed hs o ≡ listed cs o ++ cells_in o n r.tx) → ((p : Place) → has_place qs p ≡ cond (is_at (place_cmp (place_of n r.stamp)) p) true (has_place ps p)) → IsLog (n + 1) fs gs hs qs
log_more n es fs ds gs cs hs ps qs r log new few fits small is apart there finds places = log_with n es fs ds gs cs hs ps qs r.tx (r.stamp ∷ []) log new few fits is apart there finds
    (placed_more ps qs (values_of es) (first_of n r) r.stamp refl log.table.placed places)
    (fit_more ps qs n r.stamp small log.table.fit places)

-- and that of a part, with all of its stamps
pub log_part : (n : ℕ) (es fs : List (ℕ × Logged)) (ds gs : List (Dot × ℕ)) (cs hs : List (ObjectId × List Cell)) (ps qs : List Place) (p : RestPart) → IsLog n es ds cs ps → has_dot p.tx.dot (values_of es) ≡ false → length p.tx.updates ≤ MOST_UPDATES → p.tx.dot.number < 2 ^ 64 → n < 2 ^ 64 → fs ≡ es ++ (n, logged_part n p) ∷ [] → SameBut p.tx.dot ds gs → lookup (is_at (dot_cmp p.tx.dot)) gs ≡ Some n → ((o : ObjectId) → listed hs o ≡ listed cs o ++ cells_in o n p.tx) → AreNoted n p.stamps ps qs → IsLog (n + 1) fs gs hs qs
log_part n es fs ds gs cs hs ps qs p log new few fits small is apart there finds noted = log_with n es fs ds gs cs hs ps qs p.tx p.stamps log new few fits is apart there finds
    (placed_part ps qs (values_of es) (logged_part n p) noted log.table.placed)
    (fit_part ps qs n p.stamps noted small log.table.fit)

-- one more stamp
pub log_stamped : (n : ℕ) (es fs : List (ℕ × Logged)) (ds : List (Dot × ℕ)) (cs : List (ObjectId × List Cell)) (ps qs : List Place) (d : Dot) (s : Stamp) → IsLog n es ds cs ps → IsKeyed fs → values_of fs ≡ with_stamp d s (values_of es) → IsPlaced qs (with_stamp d s (values_of es)) → HasFitNumbers qs → IsLog n fs ds cs qs
log_stamped n es fs ds cs ps qs d s log keyed is placed fit = record {
  table = record {
    keyed = keyed;
    rises = subst (λ l. Rises l) (sym is) (rises_map (stamped d s) (values_of es) (stamped_number d s) log.table.rises);
    names = λ x i. let m = from x i in subst (λ y. lookup (is_at (dot_cmp y.tx.dot)) ds ≡ Some y.number) (sym m.2) (subst (λ t. lookup (is_at (dot_cmp t.dot)) ds ≡ Some (stamped d s m.0).number) (sym (stamped_tx d s m.0)) (log.table.names m.0 m.1 ∙ ap Some (sym (stamped_number d s m.0))));
    placed = subst (λ l. IsPlaced qs l) (sym is) placed;
    fit = fit;
  };
  below = λ x i. let m = from x i in omega (arith, log.below m.0 m.1, ap (λ y. y.number) m.2, stamped_number d s m.0);
  finds = λ o. log.finds o ∙ sym (chain_of-with_stamp o d s (values_of es)) ∙ ap (chain_of o) (sym is);
  fits = λ x i. let m = from x i in subst (λ y. y.tx.dot.number < 2 ^ 64) (sym m.2) (subst (λ t. t.dot.number < 2 ^ 64) (sym (stamped_tx d s m.0)) (log.fits m.0 m.1));
  few = λ x i. let m = from x i in subst (λ y. length y.tx.updates ≤ MOST_UPDATES) (sym m.2) (subst (λ t. length t.updates ≤ MOST_UPDATES) (sym (stamped_tx d s m.0)) (log.few m.0 m.1));
}
  where
    from : (x : Logged) → In x (values_of fs) → (y : Logged) × In y (values_of es) × (x ≡ stamped d s y)
    from x i = In_from_map (stamped d s) (values_of es) x (subst (λ l. In x l) is i)

-- a number that is found for a dot is that of all transactions with it
pub only_named : (n : ℕ) (es : List (ℕ × Logged)) (ds : List (Dot × ℕ)) (cs : List (ObjectId × List Cell)) (ps : List Place) (d : Dot) (number : ℕ) → IsLog n es ds cs ps → lookup (is_at (dot_cmp d)) ds ≡ Some number → OnlyAt d number (values_of es)
only_named n es ds cs ps d number log is x i same = same_Some x.number number (sym (log.table.names x i) ∙ ap (λ e. lookup (is_at (dot_cmp e)) ds) (same_dot-true x.tx.dot d same) ∙ is)

-- one more stamp, or nothing where memory was refused
pub log_added : {T E : Type 0} (r : Result T E) (n : ℕ) (es fs : List (ℕ × Logged)) (ds : List (Dot × ℕ)) (cs : List (ObjectId × List Cell)) (ps qs : List Place) (d : Dot) (s : Stamp) (number : ℕ) → IsLog n es ds cs ps → lookup (is_at (dot_cmp d)) ds ≡ Some number → n < 2 ^ 64 → IsKeyed fs → OnOk r (values_of fs ≡ with_stamp d s (values_of es)) → OnErr r (fs ≡ es) → OnOk r ((p : Place) → has_place qs p ≡ ((has_dot d (values_of es) && is_at (place_cmp (place_of number s)) p) || has_place ps p)) → OnErr r (SamePlaces ps qs) → IsLog n fs ds cs qs
log_added (Ok x) n es fs ds cs ps qs d s number log named small keyed is same places kept = log_stamped n es fs ds cs ps qs d s log keyed is
    (placed_stamped ps qs (values_of es) d s number (only_named n es ds cs ps d number log named) places log.table.placed (λ x i has. dot_there x i has))
    (fit_stamped ps qs (values_of es) d s number (only_named n es ds cs ps d number log named) places (λ x i. let lt = log.below x i in omega (arith, lt, small)) log.table.fit)
  where
    dot_there : (x : Logged) → In x (values_of es) → same_dot x.tx.dot d ≡ true → has_dot d (values_of es) ≡ true
    dot_there x i has = ⊎_elim (λ some. some) (λ none. absurd (false≢true (sym (found_none (λ y. same_dot y.tx.dot d) (values_of es) x none i) ∙ has))) (cases_Bool (has_dot d (values_of es)))
log_added (Err x) n es fs ds cs ps qs d s number log named small keyed is same places kept = log_same n es fs ds ds cs cs ps qs log same log.table.names (λ o. refl) kept

-- where none is found for a dot, no transaction has it
pub none_named : (n : ℕ) (es : List (ℕ × Logged)) (ds : List (Dot × ℕ)) (cs : List (ObjectId × List Cell)) (ps : List Place) (d : Dot) → IsLog n es ds cs ps → lookup (is_at (dot_cmp d)) ds ≡ None → (x : Logged) → In x (values_of es) → same_dot x.tx.dot d ≡ true → ⊥
none_named n es ds cs ps d log is x i same = none-some x.number (sym is ∙ ap (λ e. lookup (is_at (dot_cmp e)) ds) (sym (same_dot-true x.tx.dot d same)) ∙ log.table.names x i)

pub no_dot : (n : ℕ) (es : List (ℕ × Logged)) (ds : List (Dot × ℕ)) (cs : List (ObjectId × List Cell)) (ps : List Place) (d : Dot) → IsLog n es ds cs ps → lookup (is_at (dot_cmp d)) ds ≡ None → false ≡ has_dot d (values_of es)
no_dot n es ds cs ps d log is = sym (finds_none (λ x. same_dot x.tx.dot d) (values_of es) (none_named n es ds cs ps d log is))

pub no_stamp : (n : ℕ) (es : List (ℕ × Logged)) (ds : List (Dot × ℕ)) (cs : List (ObjectId × List Cell)) (ps : List Place) (d : Dot) (s : Stamp) → IsLog n es ds cs ps → lookup (is_at (dot_cmp d)) ds ≡ None → values_of es ≡ with_stamp d s (values_of es)
no_stamp n es ds cs ps d s log is = sym (stamps_none d s (values_of es) (none_named n es ds cs ps d log is))

-- the transactions without a stamp within the vector are left
pub log_left : (n : ℕ) (w : List ℕ) (es fs : List (ℕ × Logged)) (ds gs : List (Dot × ℕ)) (cs hs : List (ObjectId × List Cell)) (ps qs : List Place) → IsLog n es ds cs ps → fs ≡ filter (λ e. not (is_inside w e.1)) es → IsTable fs gs qs → ((o : ObjectId) → IsSwept w (values_of es) hs o) → IsLog n fs gs hs qs
log_left n w es fs ds gs cs hs ps qs log is table swept = record {
  table = table;
  below = λ x i. log.below x (from x i);
  finds = λ o. swept o ∙ ap (chain_of o) (sym values);
  fits = λ x i. log.fits x (from x i);
  few = λ x i. log.few x (from x i);
}
  where
    values : values_of fs ≡ left_of w (values_of es)
    values = ap values_of is ∙ values_of-filter (λ x. not (is_inside w x)) es

    from : (x : Logged) → In x (values_of fs) → In x (values_of es)
    from x i = (In_from_filter (λ x. not (is_inside w x)) (values_of es) x (subst (λ l. In x l) values i)).0
