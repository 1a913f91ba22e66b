-- The rest of records beside a base: what it tells of later vectors, and what one record more makes of it.
use Rattle.std.proofs.Common.{◌≡◌, ◌≤◌, ℕ, ◌+◌, max, Bool, true, false, cond, ⊎_elim, List, [], ◌∷◌, ◌++◌, length, map, refl, sym, ap, subst, ◌∙◌, arith}
use Rattle.std.specs.Prelude.{not, ◌&&◌, filter, flat_map}
use Rattle.std.proofs.lemmas.Bool.{cases_Bool, false≢true, and_right}
use Rattle.std.proofs.lemmas.List.{length-append, length-map, map-append}
use Rattle.std.proofs.lemmas.List.Elements.{filter-append, filter_agree}
use Rattle.std.proofs.lemmas.List.Folds.{flat_map-map}
use Rattle.std.proofs.lemmas.List.Sums.{fold-append}
use Rattle.std.proofs.lemmas.Grind.{flat_map-append}
use Rattle.std.proofs.lemmas.Simd.{map-map}
use Rattle.list_core.specs.Members.{In}
use Rattle.list_core.specs.Permutations.{Perm}
use Rattle.list_core.proofs.Apart.{apart_filter, apart_map}
use Rattle.list_core.proofs.Blocks.{turned_order, flat_order}
use Rattle.list_core.proofs.Images.{filter-map}
use Rattle.list_core.proofs.Members.{In_map, In_from_map, In_filter, In_from_filter, filter_all, filter-agree}
use Rattle.list_core.proofs.Permutations.{filter_order, length_order, both_ways}
use Rattle.ids_core.specs.declared.ids.Dot.{Dot}
use Rattle.ids_core.specs.declared.ids.Mark.{Mark}
use Rattle.ids_core.specs.declared.object.ObjectId.{ObjectId}
use Rattle.ids_core.specs.Ids.{same_dot}
use Rattle.ids_core.specs.Kinds.{Distinct}
use Rattle.ids_core.specs.Same.{same_dot-same}
use Rattle.vv_core.specs.Vectors.{within, Covers}
use Rattle.vv_core.specs.Stamps.{is_any_within}
use Rattle.tx_core.specs.declared.op.Op.{Op}
use Rattle.tx_core.specs.declared.tx.Tx.{Tx}
use Rattle.tx_core.specs.declared.tx.Record.{Record}
use Rattle.tx_core.specs.declared.part.RestPart.{RestPart}
use Rattle.tx_core.specs.States.{empty_of, fold_of, step}
use Rattle.tx_core.specs.Operations.{ops_of}
use Rattle.tx_core.proofs.Folds.{fold_of-order}
use Rattle.tx_core.proofs.Operations.{distinct_ops}
use Rattle.dc_talk.specs.Records.{has, inside, firsts, mine}
use Rattle.dc_talk.specs.Dots.{dots_of, stamps_of}
use Rattle.dc_talk.specs.Objects.{state_at, ops_since}
use Rattle.dc_talk.specs.Answers.{count_inside}
use Rattle.dc_talk.proofs.Dots.{has_In, In_has, in_mine, mine_bound, mine_grows}
use Rattle.dc_talk.proofs.Firsts.{firsts_apart, firsts_has}
use Rattle.dc_talk.proofs.Stamps.{any_inside, stamps_more, stamps_none}
use Rattle.cut_law.specs.Cuts.{rest_part, rest_of}
use Rattle.cut_law.proofs.Inside.{inside_from, inside_grows, has_grows, firsts_outside}

-- those of the rest with a stamp within a vector
abbrev pub rest_within : List RestPart → List ℕ → List RestPart
rest_within rest w = filter (λ x. is_any_within w x.stamps) rest

-- the others
abbrev pub rest_beyond : List RestPart → List ℕ → List RestPart
rest_beyond rest w = filter (λ x. not (is_any_within w x.stamps)) rest

-- a filter after one that passes more
filter_within : {X : Type 0} (p q : X → Bool) (xs : List X) → ((x : X) → q x ≡ false → p x ≡ false) → filter p (filter q xs) ≡ filter p xs
filter_within p q [] less = refl
filter_within {X} p q (x ∷ xs) less = go (q x) refl (p x) refl (filter_within p q xs less)
  where
    go : (b : Bool) → q x ≡ b → (c : Bool) → p x ≡ c → filter p (filter q xs) ≡ filter p xs → filter p (cond b (x ∷ filter q xs) (filter q xs)) ≡ cond c (x ∷ filter p xs) (filter p xs)
    go true is c own rest = ap (λ d. cond d (x ∷ filter p (filter q xs)) (filter p (filter q xs))) own ∙ ap (λ l. cond c (x ∷ l) l) rest
    go false is true own rest = absurd (false≢true (sym (less x is) ∙ own))
    go false is false own rest = rest

-- what is not outside is inside
not_outside : (b : Bool) → not b ≡ false → b ≡ true
not_outside true is = refl
not_outside false is = absurd (false≢true (sym is))

-- a test beside one that passes is the test
beside_true : (b c : Bool) → c ≡ true → (b && c) ≡ b
beside_true true c is = is
beside_true false c is = refl

-- ---- a later vector

module _ (A : List Record) (base w : List ℕ) (covers : Covers w base) where
  -- whether a record's dot lies within the base, and within the later vector
  abbrev in_base : Record → Bool
  in_base r = has r.tx.dot (inside A base)

  abbrev in_later : Record → Bool
  in_later r = has r.tx.dot (inside A w)

  -- the first records within the base, and of the others those within the later vector
  abbrev folded : List Record
  folded = filter (λ (r : Record). has r.tx.dot (inside A base)) (firsts A)

  abbrev others : List Record
  others = filter (λ (r : Record). not (has r.tx.dot (inside A base))) (firsts A)

  abbrev added : List Record
  added = filter (λ (r : Record). has r.tx.dot (inside A w)) others

  -- are those within the later vector, in another order
  parted : Perm (folded ++ added) (filter (λ (r : Record). has r.tx.dot (inside A w)) (firsts A))
  parted =
      subst (λ l. Perm l (filter (λ (r : Record). has r.tx.dot (inside A w)) (firsts A)))
      (filter-append (λ (r : Record). has r.tx.dot (inside A w)) folded others ∙ ap (λ l. l ++ added) (filter_all (λ (r : Record). has r.tx.dot (inside A w)) folded (λ r i. has_grows A w base r.tx.dot covers (In_from_filter (λ (r : Record). has r.tx.dot (inside A base)) (firsts A) r i).1)))
      (filter_order (λ (r : Record). has r.tx.dot (inside A w)) (folded ++ others) (firsts A) (both_ways (λ (r : Record). has r.tx.dot (inside A base)) (firsts A)))

  -- the rest tells which are added
  rest_added : rest_within (rest_of A base) w ≡ map (rest_part A) added
  rest_added =
      filter-map (λ (x : RestPart). is_any_within w x.stamps) (rest_part A) others
      ∙ ap (map (rest_part A)) (filter_agree (λ (r : Record). is_any_within w (stamps_of r.tx.dot A)) (λ (r : Record). has r.tx.dot (inside A w)) (λ r. any_inside w r.tx.dot A) others)

  -- the first records that came between the two are those that are added
  came : filter (λ (r : Record). has r.tx.dot (inside A w) && not (has r.tx.dot (inside A base))) (firsts A) ≡ added
  came =
      sym (filter_within (λ (r : Record). has r.tx.dot (inside A w) && not (has r.tx.dot (inside A base))) (λ (r : Record). not (has r.tx.dot (inside A base))) (firsts A) (λ r is. and_right (has r.tx.dot (inside A w)) (not (has r.tx.dot (inside A base))) is))
      ∙ filter-agree (λ (r : Record). has r.tx.dot (inside A w) && not (has r.tx.dot (inside A base))) (λ (r : Record). has r.tx.dot (inside A w)) others (λ r i. beside_true (has r.tx.dot (inside A w)) (not (has r.tx.dot (inside A base))) (In_from_filter (λ (r : Record). not (has r.tx.dot (inside A base))) (firsts A) r i).1)

  -- the operations that came to an object
  pub ops_later : (o : ObjectId) → ops_since o A base w ≡ flat_map (λ (x : RestPart). ops_of o x.tx) (rest_within (rest_of A base) w)
  ops_later o =
      ap (flat_map (λ (r : Record). ops_of o r.tx)) came
      ∙ sym (ap (flat_map (λ (x : RestPart). ops_of o x.tx)) rest_added ∙ flat_map-map (λ (x : RestPart). ops_of o x.tx) (rest_part A) added)

  -- how many transactions are within the later vector
  pub count_later : count_inside A w ≡ count_inside A base + length (rest_within (rest_of A base) w)
  count_later =
      sym (length_order (folded ++ added) (filter (λ (r : Record). has r.tx.dot (inside A w)) (firsts A)) parted)
      ∙ (length-append folded added
      ∙ ap (λ m. length folded + m) (sym (ap length rest_added ∙ length-map added (rest_part A))))

  -- the state of an object there
  pub state_later : (o : ObjectId) → state_at o A w ≡ fold_of (state_at o A base) (flat_map (λ (x : RestPart). ops_of o x.tx) (rest_within (rest_of A base) w))
  state_later o =
      fold_of-order (empty_of o.sort) (flat_map ops later) (flat_map ops (folded ++ added)) (flat_order ops later (folded ++ added) (turned_order (folded ++ added) later parted)) distinct
      ∙ (ap (fold_of (empty_of o.sort)) (flat_map-append ops folded added)
      ∙ (fold-append step (empty_of o.sort) (flat_map ops folded) (flat_map ops added)
      ∙ ap (fold_of (state_at o A base)) (sym (ap (flat_map (λ (x : RestPart). ops_of o x.tx)) rest_added ∙ flat_map-map (λ (x : RestPart). ops_of o x.tx) (rest_part A) added))))
    where
      ops : Record → List (Mark × Op)
      ops r = ops_of o r.tx

      later : List Record
      later = filter (λ (r : Record). has r.tx.dot (inside A w)) (firsts A)

      distinct : Distinct (flat_map ops later)
      distinct = subst Distinct (flat_map-map (ops_of o) (λ (r : Record). r.tx) later)
          (distinct_ops o (map (λ (r : Record). r.tx) later) (apart_map (λ (r : Record). r.tx) (λ (tx : Tx). tx.dot) later (apart_filter (λ (r : Record). r.tx.dot) (λ (r : Record). has r.tx.dot (inside A w)) (firsts A) (firsts_apart [] A))))

  -- a dot is added where the rest has it with a stamp within the later vector
  added_dot : (d : Dot) → In d (map (λ (r : Record). r.tx.dot) added) → In d (inside A w)
  added_dot d i =
      let m = In_from_map (λ (r : Record). r.tx.dot) added d i in
      subst (λ d. In d (inside A w)) (sym m.2) (has_In m.0.tx.dot (inside A w) (In_from_filter (λ (r : Record). has r.tx.dot (inside A w)) others m.0 m.1).1)

  -- and each within it is, or lies within the base
  dot_added : (d : Dot) → In d (inside A w) → has d (inside A base) ≡ false → In d (map (λ (r : Record). r.tx.dot) added)
  dot_added d i out =
      let h = inside_from A w d i in
      let q = firsts_has [] A h.item h.there refl in
      let same : q.0.tx.dot ≡ d = q.2 ∙ sym h.dot_is in
      let other = In_filter (λ (r : Record). not (has r.tx.dot (inside A base))) (firsts A) q.0 q.1 (ap (λ d. not (has d (inside A base))) same ∙ ap not out) in
      let there = In_filter (λ (r : Record). has r.tx.dot (inside A w)) others q.0 other (ap (λ d. has d (inside A w)) same ∙ In_has d (inside A w) i) in
      subst (λ d. In d (map (λ (r : Record). r.tx.dot) added)) same (In_map (λ (r : Record). r.tx.dot) added q.0 there)

  -- the greatest number of a client there
  pub mine_later : (client : ℕ) → mine client (inside A w) ≡ max (mine client (inside A base)) (mine client (map (λ (x : RestPart). x.tx.dot) (rest_within (rest_of A base) w)))
  mine_later client = number ∙ ap (λ l. max (mine client (inside A base)) (mine client l)) (sym (ap (map (λ (x : RestPart). x.tx.dot)) rest_added ∙ map-map (λ (x : RestPart). x.tx.dot) (rest_part A) added))
    where
      dots : List Dot
      dots = map (λ (r : Record). r.tx.dot) added

      each : (d : Dot) → In d (inside A w) → d.client ≡ client → d.number ≤ max (mine client (inside A base)) (mine client dots)
      each d i own = ⊎_elim
          (λ t. let le = in_mine client (inside A base) d (has_In d (inside A base) t) own in omega (arith, le))
          (λ f. let le = in_mine client dots d (dot_added d i f) own in omega (arith, le))
          (cases_Bool (has d (inside A base)))

      number : mine client (inside A w) ≡ max (mine client (inside A base)) (mine client dots)
      number =
          let all = mine_bound client (inside A w) (max (mine client (inside A base)) (mine client dots)) each in
          let old = mine_grows client (inside A base) (inside A w) (λ d i. inside_grows A w base d covers i) in
          let new = mine_grows client dots (inside A w) added_dot in
          omega (arith, all, old, new)

  -- the rest beside it
  pub rest_later : rest_of A w ≡ rest_beyond (rest_of A base) w
  rest_later = sym (filter-map (λ (x : RestPart). not (is_any_within w x.stamps)) (rest_part A) others ∙ ap (map (rest_part A)) (same_test ∙ less))
    where
      same_test : filter (λ (r : Record). not (is_any_within w (stamps_of r.tx.dot A))) others ≡ filter (λ (r : Record). not (has r.tx.dot (inside A w))) others
      same_test = filter_agree (λ (r : Record). not (is_any_within w (stamps_of r.tx.dot A))) (λ (r : Record). not (has r.tx.dot (inside A w))) (λ r. ap not (any_inside w r.tx.dot A)) others

      less : filter (λ (r : Record). not (has r.tx.dot (inside A w))) others ≡ filter (λ (r : Record). not (has r.tx.dot (inside A w))) (firsts A)
      less = filter_within (λ (r : Record). not (has r.tx.dot (inside A w))) (λ (r : Record). not (has r.tx.dot (inside A base))) (firsts A) (λ r is. ap not (has_grows A w base r.tx.dot covers (not_outside (has r.tx.dot (inside A base)) is)))

-- ---- one record more

-- a part of the rest with the stamp of a record, where the record is of its transaction
abbrev with_stamp : Record → RestPart → RestPart
with_stamp r x = record { tx = x.tx; stamps = x.stamps ++ cond (same_dot x.tx.dot r.tx.dot) (r.stamp ∷ []) [] }

-- the rest with one record more, that is the first of its transaction or not
abbrev pub rest_with : List RestPart → Record → Bool → List RestPart
rest_with rest r known = map (with_stamp r) rest ++ cond known [] (record { tx = r.tx; stamps = r.stamp ∷ [] } ∷ [])

pub rest_more : (A : List Record) (base : List ℕ) (r : Record) → within r.stamp base ≡ false → rest_of (A ++ r ∷ []) base ≡ rest_with (rest_of A base) r (has r.tx.dot (dots_of A))
rest_more A base r out =
    ap (map (rest_part (A ++ r ∷ []))) (firsts_outside A base r out)
    ∙ (map-append (rest_part (A ++ r ∷ [])) others (cond (has r.tx.dot (dots_of A)) [] (r ∷ []))
    ∙ ((λ i. map (λ q. each q i) others ++ map (rest_part (A ++ r ∷ [])) (cond (has r.tx.dot (dots_of A)) [] (r ∷ [])))
    ∙ (λ i. turned i ++ last (has r.tx.dot (dots_of A)) refl i)))
  where
    others : List Record
    others = filter (λ (q : Record). not (has q.tx.dot (inside A base))) (firsts A)

    turned : map (λ q. with_stamp r (rest_part A q)) others ≡ map (with_stamp r) (map (rest_part A) others)
    turned = sym (map-map (with_stamp r) (rest_part A) others)

    each : (q : Record) → rest_part (A ++ r ∷ []) q ≡ with_stamp r (rest_part A q)
    each q i = record { tx = q.tx; stamps = stamps_more q.tx.dot A r (same_dot q.tx.dot r.tx.dot) refl i }

    last : (b : Bool) → has r.tx.dot (dots_of A) ≡ b → map (rest_part (A ++ r ∷ [])) (cond b [] (r ∷ [])) ≡ cond b [] (record { tx = r.tx; stamps = r.stamp ∷ [] } ∷ [])
    last true is = refl
    last false is = λ i. record { tx = r.tx; stamps = (stamps_more r.tx.dot A r true (same_dot-same r.tx.dot r.tx.dot refl) ∙ ap (λ l. l ++ r.stamp ∷ []) (stamps_none r.tx.dot A is)) i } ∷ []
