-- What came to an object between two vectors, folded into its state at the first, gives its state at the second.
use Rattle.std.proofs.Common.{◌≡◌, ℕ, Bool, true, false, cond, ◌&&◌, List, [], ◌∷◌, ◌++◌, map, refl, sym, ap, subst, ◌∙◌, arith}
use Rattle.std.specs.Prelude.{filter, flat_map, not}
use Rattle.std.proofs.lemmas.Bool.{leb-true, le-leb}
use Rattle.std.proofs.lemmas.Grind.{flat_map-append}
use Rattle.std.proofs.lemmas.List.Elements.{filter-append}
use Rattle.std.proofs.lemmas.List.Folds.{flat_map-map}
use Rattle.std.proofs.lemmas.List.Sums.{fold-append}
use Rattle.list_core.specs.Members.{In}
use Rattle.list_core.specs.Permutations.{Perm}
use Rattle.list_core.proofs.Apart.{apart_filter, apart_map}
use Rattle.list_core.proofs.Blocks.{flat_order, turned_order}
use Rattle.list_core.proofs.Members.{In_map, In_from_map, In_filter, In_from_filter, filter_all}
use Rattle.list_core.proofs.Permutations.{both_ways, filter_order}
use Rattle.ids_core.specs.declared.ids.Dot.{Dot}
use Rattle.ids_core.specs.declared.ids.Mark.{Mark}
use Rattle.ids_core.specs.declared.object.ObjectId.{ObjectId}
use Rattle.ids_core.specs.Kinds.{Distinct}
use Rattle.vv_core.specs.declared.stamp.Stamp.{Stamp}
use Rattle.vv_core.specs.Vectors.{at, within, Covers}
use Rattle.tx_core.specs.declared.op.Op.{Op}
use Rattle.tx_core.specs.declared.tx.Tx.{Tx}
use Rattle.tx_core.specs.declared.tx.Record.{Record}
use Rattle.tx_core.specs.States.{empty_of, fold_of, step}
use Rattle.tx_core.specs.Operations.{ops_of}
use Rattle.tx_core.proofs.Folds.{fold_of-order}
use Rattle.tx_core.proofs.Operations.{distinct_ops}
use Rattle.dc_talk.specs.Records.{has, inside, firsts}
use Rattle.dc_talk.specs.Objects.{state_at, ops_since}
use Rattle.dc_talk.proofs.Dots.{has_In, In_has}
use Rattle.dc_talk.proofs.Firsts.{firsts_apart}

-- ---- a greater vector

-- a stamp within a vector is within each that covers it
pub within_later : (w before : List ℕ) (s : Stamp) → Covers w before → within s before ≡ true → within s w ≡ true
within_later w before s covers is =
    let low = leb-true s.seq (at before s.centre) is in
    let le = covers.holds s.centre in
    le-leb s.seq (at w s.centre) (omega (arith, low, le))

-- a dot within a vector is within each that covers it
pub inside_later : (A : List Record) (w before : List ℕ) (d : Dot) → Covers w before → has d (inside A before) ≡ true → has d (inside A w) ≡ true
inside_later A w before d covers is =
    let m = In_from_map (λ (r : Record). r.tx.dot) (filter (λ r. within r.stamp before) A) d (has_In d (inside A before) is) in
    let f = In_from_filter (λ (r : Record). within r.stamp before) A m.0 m.1 in
    In_has d (inside A w) (subst (λ d. In d (inside A w)) (sym m.2) (In_map (λ (r : Record). r.tx.dot) (filter (λ r. within r.stamp w) A) m.0 (In_filter (λ (r : Record). within r.stamp w) A m.0 f.0 (within_later w before m.0.stamp covers f.1))))

-- ---- one test after another

-- those that pass two tests
filter_both : {X : Type 0} (p q : X → Bool) (xs : List X) → filter (λ x. p x && not (q x)) xs ≡ filter p (filter (λ x. not (q x)) xs)
filter_both p q [] = refl
filter_both {X} p q (x ∷ xs) = go (p x) refl (q x) (filter_both p q xs)
  where
    go : (b : Bool) → p x ≡ b → (c : Bool) → filter (λ x. p x && not (q x)) xs ≡ filter p (filter (λ x. not (q x)) xs) → cond (b && not c) (x ∷ filter (λ x. p x && not (q x)) xs) (filter (λ x. p x && not (q x)) xs) ≡ filter p (cond (not c) (x ∷ filter (λ x. not (q x)) xs) (filter (λ x. not (q x)) xs))
    go true is true rest = rest
    go false is true rest = rest
    go true is false rest = ap (λ l. x ∷ l) rest ∙ sym (ap (λ b. cond b (x ∷ filter p (filter (λ x. not (q x)) xs)) (filter p (filter (λ x. not (q x)) xs))) is)
    go false is false rest = rest ∙ sym (ap (λ b. cond b (x ∷ filter p (filter (λ x. not (q x)) xs)) (filter p (filter (λ x. not (q x)) xs))) is)

module _ (A : List Record) (before w : List ℕ) (o : ObjectId) where
  -- the first records within a vector
  abbrev there : List ℕ → List Record
  there v = filter (λ r. has r.tx.dot (inside A v)) (firsts A)

  -- those that came between the two
  abbrev came : List Record
  came = filter (λ r. has r.tx.dot (inside A w) && not (has r.tx.dot (inside A before))) (firsts A)

  -- the operations of records
  abbrev ops : List Record → List (Mark × Op)
  ops rs = flat_map (λ (r : Record). ops_of o r.tx) rs

  -- those within the first vector, and those that came, are those within the second
  parted : Covers w before → Perm (there before ++ came) (there w)
  parted covers = subst (λ l. Perm l (there w))
      (filter-append (λ r. has r.tx.dot (inside A w)) (there before) (filter (λ r. not (has r.tx.dot (inside A before))) (firsts A))
      ∙ ap (λ l. l ++ filter (λ r. has r.tx.dot (inside A w)) (filter (λ r. not (has r.tx.dot (inside A before))) (firsts A))) (filter_all (λ (r : Record). has r.tx.dot (inside A w)) (there before) (λ r i. inside_later A w before r.tx.dot covers (In_from_filter (λ (r : Record). has r.tx.dot (inside A before)) (firsts A) r i).1))
      ∙ ap (λ l. there before ++ l) (sym (filter_both (λ r. has r.tx.dot (inside A w)) (λ r. has r.tx.dot (inside A before)) (firsts A))))
      (filter_order (λ (r : Record). has r.tx.dot (inside A w)) (there before ++ filter (λ r. not (has r.tx.dot (inside A before))) (firsts A)) (firsts A) (both_ways (λ (r : Record). has r.tx.dot (inside A before)) (firsts A)))

  -- no two operations within a vector have one mark
  distinct : Distinct (ops (there w))
  distinct = subst Distinct (flat_map-map (ops_of o) (λ (r : Record). r.tx) (there w)) (distinct_ops o (map (λ (r : Record). r.tx) (there w)) (apart_map (λ (r : Record). r.tx) (λ (tx : Tx). tx.dot) (there w) (apart_filter (λ (r : Record). r.tx.dot) (λ r. has r.tx.dot (inside A w)) (firsts A) (firsts_apart [] A))))

  pub state_since : Covers w before → fold_of (state_at o A before) (ops_since o A before w) ≡ state_at o A w
  state_since covers =
      sym (fold-append step (empty_of o.sort) (ops (there before)) (ops came))
      ∙ (ap (fold_of (empty_of o.sort)) (sym (flat_map-append (λ (r : Record). ops_of o r.tx) (there before) came))
      ∙ sym (fold_of-order (empty_of o.sort) (ops (there w)) (ops (there before ++ came)) (flat_order (λ (r : Record). ops_of o r.tx) (there w) (there before ++ came) (turned_order _ _ (parted covers))) distinct))
