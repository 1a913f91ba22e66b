-- A log after one record more, and after what is within a later base was taken out of it.
use Rattle.std.proofs.Common.{◌≡◌, ℕ, Bool, true, false, cond, ◌||◌, inl, inr, ⊎_elim, List, [], ◌∷◌, ◌++◌, refl, sym, ap, subst, ◌∙◌, arith}
use Rattle.std.specs.Prelude.{filter, not}
use Rattle.std.proofs.lemmas.Bool.{false≢true, false_from_ne_true}
use Rattle.std.proofs.lemmas.List.{append-nil, map-append}
use Rattle.list_core.specs.Members.{In}
use Rattle.list_core.proofs.Apart.{apart_append, apart_filter}
use Rattle.list_core.proofs.Permutations.{perm_in}
use Rattle.list_core.proofs.Members.{In_right, In_more, In_map, In_from_map, In_from_filter, filter-agree}
use Rattle.list_core.proofs.Images.{filter-map}
use Rattle.list_core.specs.Apart.{Apart}
use Rattle.ids_core.specs.declared.ids.Dot.{Dot}
use Rattle.ids_core.specs.Ids.{same_dot}
use Rattle.ids_core.specs.Same.{same_dot-true, same_dot-same}
use Rattle.vv_core.specs.declared.stamp.Stamp.{Stamp}
use Rattle.vv_core.specs.Vectors.{within, Covers}
use Rattle.tx_core.specs.declared.tx.Tx.{Tx}
use Rattle.tx_core.specs.declared.tx.Record.{Record}
use Rattle.dc_talk.specs.Records.{has, firsts}
use Rattle.dc_talk.specs.Dots.{dots_of, stamps_of}
use Rattle.dc_talk.proofs.Dots.{In_has}
use Rattle.dc_talk.proofs.Firsts.{firsts_in}
use Rattle.dc_talk.proofs.Stamps.{stamps_more, stamps_none}
use Rattle.op_log.specs.declared.logged.Logged.{Logged}
use Rattle.op_log.specs.Logs as log
use Rattle.op_log.proofs.Items.{stamped_number, stamped_tx}
use Rattle.point_log.specs.Splits.{first_txs, is_inside, IsSplit}
use Rattle.point_log.specs.LogSplits.{txs_of, IsLogSplit}
use Rattle.point_log.proofs.Growth.{split_none, split_first, split_again, split_on}
use Rattle.point_log.proofs.Ordered.{order_first, order_again, order_on}
use Rattle.point_log.proofs.LogSplits.{inside_both, txs_inside}

-- ---- one stamp more

stamped_txs : (d : Dot) (s : Stamp) (items : List Logged) → txs_of (log.with_stamp d s items) ≡ txs_of items
stamped_txs d s [] = refl
stamped_txs d s (x ∷ items) = ap (λ tx. tx ∷ txs_of (log.with_stamp d s items)) (stamped_tx d s x) ∙ ap (λ l. x.tx ∷ l) (stamped_txs d s items)

stamped_apart : (d : Dot) (s : Stamp) (items : List Logged) → Apart (λ (x : Logged). x.number) items → Apart (λ (x : Logged). x.number) (log.with_stamp d s items)
stamped_apart d s [] apart = tt
stamped_apart d s (x ∷ items) apart = (
  λ y i same. let m = In_from_map (log.stamped d s) items y i in apart.0 m.0 m.1 (sym (stamped_number d s x) ∙ (same ∙ (ap (λ (y : Logged). y.number) m.2 ∙ stamped_number d s m.0))),
  stamped_apart d s items apart.1,
)

-- ---- the log

-- with nothing applied the log is empty
pub log_none : (base : List ℕ) → IsLogSplit [] base [] (record { appended = 0; items = [] })
log_none base = record { split = split_none base; order = refl; stamps = λ x i. absurd i; apart = tt; below = λ x i. absurd i }

module _ (A : List Record) (base : List ℕ) (folded : List Tx) (kept : log.LogView) (split : IsLogSplit A base folded kept) where
  -- what the log has is the transaction of a record
  pub log_from : (x : Logged) → In x kept.items → (r : Record) × In r A × (x.tx ≡ r.tx)
  log_from x i =
      let t = (perm_in (folded ++ txs_of kept.items) (first_txs A) x.tx split.split.whole).0 (In_right folded (txs_of kept.items) x.tx (In_map (λ (x : Logged). x.tx) kept.items x i)) in
      let m = In_from_map (λ (r : Record). r.tx) (firsts A) x.tx t in
      (m.0, firsts_in [] A m.0 m.1, m.2)

  -- and so its dot is that of one
  known : (x : Logged) → In x kept.items → has x.tx.dot (dots_of A) ≡ true
  known x i =
      let m = log_from x i in
      In_has x.tx.dot (dots_of A) (subst (λ (tx : Tx). In tx.dot (dots_of A)) (sym m.2) (In_map (λ (r : Record). r.tx.dot) A m.0 m.1))

  -- so a new dot is another one
  pub other_dot : (d : Dot) → has d (dots_of A) ≡ false → (x : Logged) → In x kept.items → same_dot x.tx.dot d ≡ false
  other_dot d new x i = false_from_ne_true (same_dot x.tx.dot d) (λ same. false≢true (sym new ∙ (ap (λ d. has d (dots_of A)) (sym (same_dot-true x.tx.dot d same)) ∙ known x i)))

  -- and not in the log
  pub log_new : (d : Dot) → has d (dots_of A) ≡ false → log.has_dot d kept.items ≡ false
  log_new d new = go kept.items (other_dot d new)
    where
      go : (items : List Logged) → ((x : Logged) → In x items → same_dot x.tx.dot d ≡ false) → log.has_dot d items ≡ false
      go [] other = refl
      go (x ∷ items) other = ap (λ b. b || log.has_dot d items) (other x (inl refl)) ∙ go items (λ y i. other y (inr i))

  -- the first record of a dot stands in the log
  pub log_first : (r : Record) → within r.stamp base ≡ false → has r.tx.dot (dots_of A) ≡ false → IsLogSplit (A ++ r ∷ []) base folded (log.with_record kept r)
  log_first r out new = record {
    split = subst (λ l. IsSplit (A ++ r ∷ []) base folded l) (sym (map-append (λ (x : Logged). x.tx) kept.items (last ∷ []))) (split_first A base folded (txs_of kept.items) r split.split out new);
    order = map-append (λ (x : Logged). x.tx) kept.items (last ∷ []) ∙ order_first A base (txs_of kept.items) split.order r out new;
    stamps = λ x i. ⊎_elim (λ j. split.stamps x j ∙ sym (stamps_more x.tx.dot A r false (other_dot r.tx.dot new x j) ∙ append-nil (stamps_of x.tx.dot A))) (λ same. subst (λ (x : Logged). x.stamps ≡ stamps_of x.tx.dot (A ++ r ∷ [])) (sym same) here) (In_more kept.items last x i);
    apart = apart_append (λ (x : Logged). x.number) kept.items (last ∷ []) split.apart ((λ y i same. i), tt) (λ x y i j same. ⊎_elim (λ e. let lt = split.below x i in let n : y.number ≡ kept.appended = ap (λ (x : Logged). x.number) e in omega (arith, lt, n, same)) (λ none. none) j);
    below = λ x i. ⊎_elim (λ j. let lt = split.below x j in omega (arith, lt)) (λ e. let n : x.number ≡ kept.appended = ap (λ (x : Logged). x.number) e in omega (arith, n)) (In_more kept.items last x i);
  }
    where
      last : Logged
      last = log.first_of kept.appended r

      here : r.stamp ∷ [] ≡ stamps_of r.tx.dot (A ++ r ∷ [])
      here = sym (stamps_more r.tx.dot A r true (same_dot-same r.tx.dot r.tx.dot refl) ∙ ap (λ l. l ++ r.stamp ∷ []) (stamps_none r.tx.dot A new))

  -- another record of a dot is one stamp more of it, where it is in the log
  pub log_again : (r : Record) → within r.stamp base ≡ false → has r.tx.dot (dots_of A) ≡ true → IsLogSplit (A ++ r ∷ []) base folded (record kept { items = log.with_stamp r.tx.dot r.stamp kept.items })
  log_again r out known = record {
    split = subst (λ l. IsSplit (A ++ r ∷ []) base folded l) (sym (stamped_txs r.tx.dot r.stamp kept.items)) (split_again A base folded (txs_of kept.items) r split.split out known);
    order = stamped_txs r.tx.dot r.stamp kept.items ∙ order_again A base (txs_of kept.items) split.order r out known;
    stamps = λ x i. let m = In_from_map (log.stamped r.tx.dot r.stamp) kept.items x i in subst (λ (x : Logged). x.stamps ≡ stamps_of x.tx.dot (A ++ r ∷ [])) (sym m.2) (one m.0 m.1 (same_dot m.0.tx.dot r.tx.dot) refl);
    apart = stamped_apart r.tx.dot r.stamp kept.items split.apart;
    below = λ x i.
        let m = In_from_map (log.stamped r.tx.dot r.stamp) kept.items x i in
        let lt = split.below m.0 m.1 in
        let n : x.number ≡ m.0.number = ap (λ (x : Logged). x.number) m.2 ∙ stamped_number r.tx.dot r.stamp m.0 in
        omega (arith, lt, n);
  }
    where
      one : (x : Logged) → In x kept.items → (b : Bool) → same_dot x.tx.dot r.tx.dot ≡ b → (cond b (log.with_one r.stamp x) x).stamps ≡ stamps_of (cond b (log.with_one r.stamp x) x).tx.dot (A ++ r ∷ [])
      one x i true same = ap (λ l. l ++ r.stamp ∷ []) (split.stamps x i) ∙ sym (stamps_more x.tx.dot A r true same)
      one x i false other = split.stamps x i ∙ sym (stamps_more x.tx.dot A r false other ∙ append-nil (stamps_of x.tx.dot A))

  -- what is within a later base is folded, behind the others, and taken out of the log
  pub log_on : (to : List ℕ) → Covers to base → IsLogSplit A to (folded ++ txs_of (log.within_of to kept.items)) (record kept { items = log.left_of to kept.items })
  log_on to covers = record {
    split = subst (λ l. IsSplit A to (folded ++ l) (txs_of (log.left_of to kept.items))) (sym (txs_inside A base folded kept split to)) (subst (λ l. IsSplit A to (folded ++ filter (is_inside A to) (txs_of kept.items)) l) (sym left) (split_on A base to folded (txs_of kept.items) split.split covers));
    order = left ∙ order_on A base (txs_of kept.items) split.order to covers;
    stamps = λ x i. split.stamps x (In_from_filter (λ x. not (log.is_inside to x)) kept.items x i).0;
    apart = apart_filter (λ (x : Logged). x.number) (λ x. not (log.is_inside to x)) kept.items split.apart;
    below = λ x i. split.below x (In_from_filter (λ x. not (log.is_inside to x)) kept.items x i).0;
  }
    where
      left : txs_of (log.left_of to kept.items) ≡ filter (λ tx. not (is_inside A to tx)) (txs_of kept.items)
      left = ap txs_of (filter-agree (λ x. not (log.is_inside to x)) (λ x. not (is_inside A to x.tx)) kept.items (λ x i. ap not (inside_both A base folded kept split x i to))) ∙ sym (filter-map (λ tx. not (is_inside A to tx)) (λ (x : Logged). x.tx) kept.items)
