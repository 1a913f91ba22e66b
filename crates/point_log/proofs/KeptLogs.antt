-- What a point and a log tell is folded on, and stays so, by facts on the log alone, whatever the point's states are;
-- and a log keeps these facts.
use Rattle.std.proofs.Common.{◌≡◌, ◌<◌, ℕ, Bool, true, false, cond, ◌&&◌, ◌||◌, inl, inr, ⊎_elim, List, [], ◌∷◌, ◌++◌, map, refl, sym, ap, ◌∙◌, subst, arith}
use Rattle.std.specs.Prelude.{filter, flat_map, not}
use Rattle.std.proofs.Math.Bool.{or-false}
use Rattle.std.proofs.lemmas.Bool.{or_cases, or_left, or_right, false≢true}
use Rattle.std.proofs.lemmas.Grind.{flat_map-append}
use Rattle.std.proofs.lemmas.List.{append-nil}
use Rattle.std.proofs.lemmas.List.Elements.{filter-append}
use Rattle.std.proofs.lemmas.List.Sums.{fold-append}
use Rattle.list_core.specs.Members.{In}
use Rattle.list_core.specs.Apart.{Apart}
use Rattle.list_core.specs.Permutations.{Perm}
use Rattle.list_core.proofs.Apart.{apart_append, apart_filter, apart_map}
use Rattle.list_core.proofs.Blocks.{flat_order, turned_order}
use Rattle.list_core.proofs.Images.{filter-map}
use Rattle.list_core.proofs.Members.{filter_all, filter-agree, In_more, In_from_filter, In_from_map}
use Rattle.list_core.proofs.Permutations.{filter_order, both_ways}
use Rattle.ids_core.specs.declared.ids.Dot.{Dot}
use Rattle.ids_core.specs.declared.object.ObjectId.{ObjectId}
use Rattle.ids_core.specs.Ids.{same_dot}
use Rattle.ids_core.specs.Same.{same_dot-same}
use Rattle.ids_core.specs.Kinds.{Distinct}
use Rattle.vv_core.specs.declared.stamp.Stamp.{Stamp}
use Rattle.vv_core.specs.Vectors.{within, Covers}
use Rattle.vv_core.specs.Stamps.{is_any_within}
use Rattle.tx_core.specs.declared.tx.Tx.{Tx}
use Rattle.tx_core.specs.declared.tx.Record.{Record}
use Rattle.tx_core.specs.States.{fold_of, step}
use Rattle.tx_core.specs.Operations.{ops_of}
use Rattle.tx_core.proofs.Folds.{fold_of-order}
use Rattle.tx_core.proofs.Operations.{distinct_ops}
use Rattle.op_log.specs.declared.logged.Logged.{Logged}
use Rattle.op_log.specs.Logs as log
use Rattle.op_log.proofs.Items.{stamped_number, stamped_tx}
use Rattle.check_point.specs.Points.{PointView, state_of}
use Rattle.point_log.specs.LogSplits.{txs_of, ops_in}
use Rattle.point_log.specs.StandFor.{state_told, with_one}
use Rattle.point_log.specs.Served.{is_since}
use Rattle.point_log.proofs.Inside.{within_grows}
use Rattle.op_log.proofs.Cells.{chain_passing}
use Rattle.point_log.proofs.Chains.{number_inside, chain_inside, chain_ops}
use Rattle.point_log.specs.KeptLogs.{IsKeptLog}

-- a test after another one
filter_both : {X : Type 0} (p q : X → Bool) (xs : List X) → filter (λ x. p x && not (q x)) xs ≡ filter p (filter (λ x. not (q x)) xs)
filter_both p q [] = refl
filter_both {X} p q (x ∷ xs) = go (p x) refl (q x) (filter_both p q xs)
  where
    go : (b : Bool) → p x ≡ b → (c : Bool) → filter (λ x. p x && not (q x)) xs ≡ filter p (filter (λ x. not (q x)) xs) → cond (b && not c) (x ∷ filter (λ x. p x && not (q x)) xs) (filter (λ x. p x && not (q x)) xs) ≡ filter p (cond (not c) (x ∷ filter (λ x. not (q x)) xs) (filter (λ x. not (q x)) xs))
    go true is true rest = rest
    go false is true rest = rest
    go true is false rest = ap (λ l. x ∷ l) rest ∙ sym (ap (λ b. cond b (x ∷ filter p (filter (λ x. not (q x)) xs)) (filter p (filter (λ x. not (q x)) xs))) is)
    go false is false rest = rest ∙ sym (ap (λ b. cond b (x ∷ filter p (filter (λ x. not (q x)) xs)) (filter p (filter (λ x. not (q x)) xs))) is)

pub any_later : (w v : List ℕ) (stamps : List Stamp) → Covers w v → is_any_within v stamps ≡ true → is_any_within w stamps ≡ true
any_later w v [] later is = is
any_later w v (s ∷ stamps) later is = ⊎_elim (λ here. or_left (within s w) (is_any_within w stamps) (within_grows w v s later here)) (λ rest. or_right (within s w) (is_any_within w stamps) (any_later w v stamps later rest)) (or_cases (within s v) (is_any_within v stamps) is)

pub any_stays : (w : List ℕ) (stamps : List Stamp) (s : Stamp) → within s w ≡ false → is_any_within w (stamps ++ s ∷ []) ≡ is_any_within w stamps
any_stays w [] s out = or-false (within s w) ∙ out
any_stays w (t ∷ stamps) s out = ap (λ b. within t w || b) (any_stays w stamps s out)

map_same : {X Y : Type 0} (f g : X → Y) (xs : List X) → ((x : X) → f x ≡ g x) → map f xs ≡ map g xs
map_same f g [] same = refl
map_same f g (x ∷ xs) same = ap (λ y. y ∷ map f xs) (same x) ∙ ap (λ ys. g x ∷ ys) (map_same f g xs same)

or_none : (a b : Bool) → (a || b) ≡ false → (a ≡ false) × (b ≡ false)
or_none true b h = absurd (false≢true (sym h))
or_none false b h = (refl, h)

map_twice : {X Y Z : Type 0} (f : Y → Z) (g : X → Y) (xs : List X) → map f (map g xs) ≡ map (λ x. f (g x)) xs
map_twice f g [] = refl
map_twice f g (x ∷ xs) = ap (λ ys. f (g x) ∷ ys) (map_twice f g xs)

-- keys that a map keeps are different still
apart_kept : {X K : Type 0} (key : X → K) (f : X → X) (xs : List X) → ((x : X) → key (f x) ≡ key x) → Apart key xs → Apart key (map f xs)
apart_kept key f [] same apart = tt
apart_kept key f (x ∷ xs) same apart = (λ y i is. let m = In_from_map f xs y i in apart.0 m.0 m.1 (sym (same x) ∙ (is ∙ (ap key m.2 ∙ same m.0))), apart_kept key f xs same apart.1)

module _ (point : PointView) (kept : log.LogView) (h : IsKeptLog kept) (o : ObjectId) where
  -- the operations of the chain within a vector are those of the transactions within it
  told_ops : (w : List ℕ) → ops_in (filter (λ c. log.is_inside_at w c.tx kept.items) (log.chain_of o kept.items)) ≡ flat_map (ops_of o) (txs_of (log.within_of w kept.items))
  told_ops w = chain_inside w o kept.items h.apart

  since_ops : (v w : List ℕ) → ops_in (filter (is_since v w kept.items) (log.chain_of o kept.items)) ≡ flat_map (ops_of o) (txs_of (filter (log.is_inside w) (log.left_of v kept.items)))
  since_ops v w =
      ap ops_in (chain_passing (λ number. log.is_inside_at w number kept.items && not (log.is_inside_at v number kept.items)) (λ x. log.is_inside w x && not (log.is_inside v x)) o kept.items (λ x i. both x i))
      ∙ (chain_ops o (filter (λ x. log.is_inside w x && not (log.is_inside v x)) kept.items)
      ∙ ap (λ l. flat_map (ops_of o) (txs_of l)) (filter_both (log.is_inside w) (log.is_inside v) kept.items))
    where
      both : (x : Logged) → In x kept.items → (log.is_inside_at w x.number kept.items && not (log.is_inside_at v x.number kept.items)) ≡ (log.is_inside w x && not (log.is_inside v x))
      both x i = λ k. number_inside w kept.items x h.apart i k && not (number_inside v kept.items x h.apart i k)

  -- those within a vector, and those within a later one alone, are those within the later one
  parted : (v w : List ℕ) → Covers w v → Perm (log.within_of v kept.items ++ filter (log.is_inside w) (log.left_of v kept.items)) (log.within_of w kept.items)
  parted v w later = subst (λ l. Perm l (log.within_of w kept.items))
      (filter-append (log.is_inside w) (log.within_of v kept.items) (log.left_of v kept.items) ∙ ap (λ l. l ++ filter (log.is_inside w) (log.left_of v kept.items)) (filter_all (log.is_inside w) (log.within_of v kept.items) (λ x i. any_later w v x.stamps later (In_from_filter (log.is_inside v) kept.items x i).1)))
      (filter_order (log.is_inside w) (log.within_of v kept.items ++ log.left_of v kept.items) kept.items (both_ways (log.is_inside v) kept.items))

  flat_txs : (items : List Logged) → flat_map (ops_of o) (txs_of items) ≡ flat_map (λ (x : Logged). ops_of o x.tx) items
  flat_txs [] = refl
  flat_txs (x ∷ items) = ap (λ l. ops_of o x.tx ++ l) (flat_txs items)

  -- what came since, folded into the state at a vector, gives that at a later one
  pub told_on : (v w : List ℕ) → Covers w v → fold_of (state_told point kept o v) (ops_in (filter (is_since v w kept.items) (log.chain_of o kept.items))) ≡ state_told point kept o w
  told_on v w later =
      ap (fold_of (state_told point kept o v)) (since_ops v w)
      ∙ (ap (λ ops. fold_of (fold_of (state_of point o) ops) (flat_map (ops_of o) (txs_of (filter (log.is_inside w) (log.left_of v kept.items))))) (told_ops v)
      ∙ (sym (fold-append step (state_of point o) (flat_map (ops_of o) (txs_of (log.within_of v kept.items))) (flat_map (ops_of o) (txs_of (filter (log.is_inside w) (log.left_of v kept.items)))))
      ∙ (ap (fold_of (state_of point o)) (joined ∙ sym (flat_txs (log.within_of v kept.items ++ filter (log.is_inside w) (log.left_of v kept.items))))
      ∙ (sym (fold_of-order (state_of point o) (flat_map (ops_of o) (txs_of (log.within_of w kept.items))) (flat_map (ops_of o) (txs_of (log.within_of v kept.items ++ filter (log.is_inside w) (log.left_of v kept.items)))) order distinct)
      ∙ ap (fold_of (state_of point o)) (sym (told_ops w))))))
    where
      joined : flat_map (ops_of o) (txs_of (log.within_of v kept.items)) ++ flat_map (ops_of o) (txs_of (filter (log.is_inside w) (log.left_of v kept.items))) ≡ flat_map (λ (x : Logged). ops_of o x.tx) (log.within_of v kept.items ++ filter (log.is_inside w) (log.left_of v kept.items))
      joined =
          ap (λ l. l ++ flat_map (ops_of o) (txs_of (filter (log.is_inside w) (log.left_of v kept.items)))) (flat_txs (log.within_of v kept.items))
          ∙ (ap (λ l. flat_map (λ (x : Logged). ops_of o x.tx) (log.within_of v kept.items) ++ l) (flat_txs (filter (log.is_inside w) (log.left_of v kept.items)))
          ∙ sym (flat_map-append (λ (x : Logged). ops_of o x.tx) (log.within_of v kept.items) (filter (log.is_inside w) (log.left_of v kept.items))))

      order : Perm (flat_map (ops_of o) (txs_of (log.within_of w kept.items))) (flat_map (ops_of o) (txs_of (log.within_of v kept.items ++ filter (log.is_inside w) (log.left_of v kept.items))))
      order = subst (λ l. Perm l (flat_map (ops_of o) (txs_of (log.within_of v kept.items ++ filter (log.is_inside w) (log.left_of v kept.items))))) (sym (flat_txs (log.within_of w kept.items)))
          (subst (λ l. Perm (flat_map (λ (x : Logged). ops_of o x.tx) (log.within_of w kept.items)) l) (sym (flat_txs (log.within_of v kept.items ++ filter (log.is_inside w) (log.left_of v kept.items))))
          (flat_order (λ (x : Logged). ops_of o x.tx) (log.within_of w kept.items) (log.within_of v kept.items ++ filter (log.is_inside w) (log.left_of v kept.items)) (turned_order _ _ (parted v w later))))

      distinct : Distinct (flat_map (ops_of o) (txs_of (log.within_of w kept.items)))
      distinct = distinct_ops o (txs_of (log.within_of w kept.items)) (apart_map (λ (x : Logged). x.tx) (λ (tx : Tx). tx.dot) (log.within_of w kept.items) (apart_filter (λ (x : Logged). x.tx.dot) (log.is_inside w) kept.items h.dots))

  -- a new transaction that is not within a vector changes nothing there
  pub told_new : (w : List ℕ) (r : Record) → within r.stamp w ≡ false → state_told point (log.with_record kept r) o w ≡ state_told point kept o w
  told_new w r out =
      ap (fold_of (state_of point o)) (chain_inside w o (kept.items ++ log.first_of kept.appended r ∷ []) apart_more
      ∙ (ap (λ l. flat_map (ops_of o) (txs_of l)) (filter-append (log.is_inside w) kept.items (log.first_of kept.appended r ∷ []) ∙ (ap (λ b. log.within_of w kept.items ++ cond b (log.first_of kept.appended r ∷ []) []) (or-false (within r.stamp w) ∙ out) ∙ append-nil (log.within_of w kept.items)))
      ∙ sym (told_ops w)))
    where
      apart_more : Apart (λ (x : Logged). x.number) (kept.items ++ log.first_of kept.appended r ∷ [])
      apart_more = apart_append (λ (x : Logged). x.number) kept.items (log.first_of kept.appended r ∷ []) h.apart ((λ y i. absurd i), tt) (λ x y i j same. one x (h.below x i) y j same)
        where
          one : (x : Logged) → x.number < kept.appended → (y : Logged) → In y (log.first_of kept.appended r ∷ []) → x.number ≡ y.number → ⊥
          one x lt y (inl is) same = let number = ap (λ (y : Logged). y.number) is in absurd (omega (arith, lt, same, number))
          one x lt y (inr i) same = absurd i

  -- one stamp more that is not within a vector changes nothing there
  pub told_again : (w : List ℕ) (d : Dot) (s : Stamp) → within s w ≡ false → state_told point (record kept { items = log.with_stamp d s kept.items }) o w ≡ state_told point kept o w
  told_again w d s out =
      ap (fold_of (state_of point o)) (chain_inside w o (log.with_stamp d s kept.items) (apart_kept (λ (x : Logged). x.number) (log.stamped d s) kept.items (stamped_number d s) h.apart)
      ∙ (ap (flat_map (ops_of o)) (ap txs_of (filter-map (log.is_inside w) (log.stamped d s) kept.items) ∙ (map_twice (λ (x : Logged). x.tx) (log.stamped d s) (filter (λ x. log.is_inside w (log.stamped d s x)) kept.items) ∙ (map_same (λ (x : Logged). (log.stamped d s x).tx) (λ (x : Logged). x.tx) (filter (λ x. log.is_inside w (log.stamped d s x)) kept.items) (stamped_tx d s) ∙ ap txs_of (filter-agree (λ x. log.is_inside w (log.stamped d s x)) (log.is_inside w) kept.items (λ x i. stays x)))))
      ∙ sym (told_ops w)))
    where
      stays : (x : Logged) → log.is_inside w (log.stamped d s x) ≡ log.is_inside w x
      stays x = go (same_dot x.tx.dot d)
        where
          go : (b : Bool) → log.is_inside w (cond b (log.with_one s x) x) ≡ log.is_inside w x
          go true = any_stays w x.stamps s out
          go false = refl

  -- so it is with one record more
  pub told_more : (w : List ℕ) (r : Record) (fresh : Bool) → within r.stamp w ≡ false → state_told point (with_one kept r fresh) o w ≡ state_told point kept o w
  told_more w r true out = told_new w r out
  told_more w r false out = told_again w r.tx.dot r.stamp out

-- ---- a log keeps these facts

-- an empty one
pub none_kept : IsKeptLog (record { appended = 0; items = [] })
none_kept = record { apart = tt; below = λ x i. absurd i; dots = tt }

-- a dot that is not in the log is that of no transaction
not_there : (d : Dot) (items : List Logged) → log.has_dot d items ≡ false → (x : Logged) → In x items → x.tx.dot ≡ d → ⊥
not_there d [] none x i same = absurd i
not_there d (y ∷ items) none x i same = ⊎_elim
    (λ is. false≢true (sym (or_none (same_dot y.tx.dot d) (log.has_dot d items) none).0 ∙ same_dot-same y.tx.dot d (ap (λ (y : Logged). y.tx.dot) (sym is) ∙ same)))
    (λ j. not_there d items (or_none (same_dot y.tx.dot d) (log.has_dot d items) none).1 x j same)
    i

module _ (kept : log.LogView) (h : IsKeptLog kept) where
  -- one with a new transaction more
  kept_first : (r : Record) → log.has_dot r.tx.dot kept.items ≡ false → IsKeptLog (log.with_record kept r)
  kept_first r new = record {
    apart = apart_append (λ (x : Logged). x.number) kept.items (last ∷ []) h.apart ((λ y i same. i), tt) (λ x y i j same. ⊎_elim (λ e. let lt = h.below x i in let n : y.number ≡ kept.appended = ap (λ (x : Logged). x.number) e in omega (arith, lt, n, same)) (λ none. none) j);
    below = λ x i. ⊎_elim (λ j. let lt = h.below x j in omega (arith, lt)) (λ e. let n : x.number ≡ kept.appended = ap (λ (x : Logged). x.number) e in omega (arith, n)) (In_more kept.items last x i);
    dots = apart_append (λ (x : Logged). x.tx.dot) kept.items (last ∷ []) h.dots ((λ y i same. i), tt) (λ x y i j same. ⊎_elim (λ e. not_there r.tx.dot kept.items new x i (same ∙ ap (λ (y : Logged). y.tx.dot) e)) (λ none. none) j);
  }
    where
      last : Logged
      last = log.first_of kept.appended r

  -- one with a stamp more
  kept_again : (d : Dot) (s : Stamp) → IsKeptLog (record kept { items = log.with_stamp d s kept.items })
  kept_again d s = record {
    apart = apart_kept (λ (x : Logged). x.number) (log.stamped d s) kept.items (stamped_number d s) h.apart;
    below = λ x i.
        let m = In_from_map (log.stamped d s) kept.items x i in
        let lt = h.below m.0 m.1 in
        let n : x.number ≡ m.0.number = ap (λ (x : Logged). x.number) m.2 ∙ stamped_number d s m.0 in
        omega (arith, lt, n);
    dots = apart_kept (λ (x : Logged). x.tx.dot) (log.stamped d s) kept.items (λ x. ap (λ t. t.dot) (stamped_tx d s x)) h.dots;
  }

  pub kept_more : (r : Record) (fresh : Bool) → (fresh ≡ true → log.has_dot r.tx.dot kept.items ≡ false) → IsKeptLog (with_one kept r fresh)
  kept_more r true new = kept_first r (new refl)
  kept_more r false new = kept_again r.tx.dot r.stamp

  -- one from which some were taken out
  pub kept_left : (w : List ℕ) → IsKeptLog (record kept { items = log.left_of w kept.items })
  kept_left w = record {
    apart = apart_filter (λ (x : Logged). x.number) (λ x. not (log.is_inside w x)) kept.items h.apart;
    below = λ x i. h.below x (In_from_filter (λ x. not (log.is_inside w x)) kept.items x i).0;
    dots = apart_filter (λ (x : Logged). x.tx.dot) (λ x. not (log.is_inside w x)) kept.items h.dots;
  }
