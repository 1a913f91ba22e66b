-- The bundle that a donor gives can be adopted.
use Rattle.std.proofs.Common.{◌≡◌, ◌≤◌, ◌<◌, ℕ, zero, suc, Bool, true, false, cond, inl, inr, List, [], ◌∷◌, length, take, map, refl, sym, ap, ◌∙◌, subst, arith}
use Rattle.std.specs.Prelude.{◌==◌, not, filter}
use Rattle.std.proofs.lemmas.Bool.{eq-eqb}
use Rattle.std.proofs.lemmas.List.{length-map}
use Rattle.std.proofs.lemmas.List.FromFn.{get_or-map-range_with_len, length-map-range_with_len}
use Rattle.list_core.specs.Apart.{Apart}
use Rattle.list_core.specs.Members.{In}
use Rattle.list_core.proofs.Apart.{apart_filter, apart_map}
use Rattle.list_core.proofs.Gets.{get_In, In_get}
use Rattle.list_core.proofs.Members.{In-All, In_from_map, In_filter, In_from_filter}
use Rattle.ids_core.specs.declared.ids.Dot.{Dot}
use Rattle.ids_core.specs.declared.limits.TheConstants.{MOST_CLIENTS}
use Rattle.ids_core.specs.declared.object.Sort.{Sort}
use Rattle.ids_core.specs.declared.object.Sort.TheVariants as sort
use Rattle.ids_core.specs.Ids.{same_dot}
use Rattle.ids_core.specs.Same.{same_dot-same}
use Rattle.vv_core.specs.declared.stamp.Stamp.{Stamp}
use Rattle.vv_core.specs.Vectors.{at, centres, kth_largest, Covers}
use Rattle.vv_core.proofs.Entrywise.{at-tabulate_le, at-tabulate_past, at-meet_of, length-tabulate}
use Rattle.tx_core.specs.declared.tx.Record.{Record}
use Rattle.tx_core.specs.declared.part.RestPart.{RestPart}
use Rattle.tx_core.specs.declared.part.StatePart.{StatePart}
use Rattle.tx_core.specs.Checks.{IsFit}
use Rattle.tx_core.specs.States.{empty_of, sort_of}
use Rattle.tx_core.proofs.Folds.{fold_of-sort}
use Rattle.join_bundle.specs.declared.condition.TheConstants.{MOST_DEPTH}
use Rattle.join_bundle.specs.declared.condition.Condition.{Condition}
use Rattle.join_bundle.specs.declared.condition.Condition.TheVariants.{BaseWidth, MarkWidth, RowCount, RowWidths, Donor, Depth, MarkOverBase, VectorOverMark, ClientOrder, ClientRange, ClientNumbers, ClientStamps, ObjectOrder, StateSorts, RestFit, RestNumbers, RestDots, RestStamps}
use Rattle.join_bundle.specs.declared.part.ClientPart.{ClientPart}
use Rattle.join_bundle.specs.declared.part.BundleParts.{BundleParts}
use Rattle.join_bundle.specs.Conditions.{IsCentre, noted, Meets}
use Rattle.dc_talk.specs.declared.settings.Settings.{Settings}
use Rattle.dc_talk.specs.Entries.{Entry}
use Rattle.dc_talk.specs.Records.{count, vector, guard, has, inside, firsts}
use Rattle.dc_talk.specs.Trails.{applied}
use Rattle.dc_talk.specs.Laws.{IsCentreHistory, IsInOrder}
use Rattle.dc_talk.proofs.Counts.{in_guard, stamp_counted}
use Rattle.dc_talk.proofs.Firsts.{first_stamp_is, firsts_in, firsts_apart}
use Rattle.cut_law.specs.Parts.{Parts, list, rows_over, stable_over, parts_of}
use Rattle.cut_law.specs.Cuts.{rest_part, ops_inside, IsCutOver, IsCutOf}
use Rattle.cut_law.specs.Adopting.{row_at, stable_by, CanAdopt, MayStart}
use Rattle.cut_law.proofs.Timely.{stable_reached}
use Rattle.cut_law.proofs.Givers.{IsGiver, row_even, giver_of}

-- the row of a centre among the rows of all
row_of-centres : (f : ℕ → List ℕ) (n j : ℕ) → IsCentre n j → row_at (map f (centres n)) j ≡ f j
row_of-centres f n zero centre = absurd (let low = centre.0 in omega (arith, low))
row_of-centres f n (suc i) centre = let high = centre.1 in get_or-map-range_with_len f 1 n i (suc i) [] (omega (arith, high)) (omega arith)

-- a list with a member is not empty
some_in : {X : Type 0} (xs : List X) (x : X) → In x xs → 1 ≤ length xs
some_in [] x i = absurd i
some_in (y ∷ xs) x i = omega arith

-- the number of a part is noted of its client
noted_in : (parts : List ClientPart) (p : ClientPart) → In p parts → p.number ≤ noted parts p.client
noted_in [] p i = absurd i
noted_in (q ∷ parts) p (inl same) =
    let number : p.number ≡ q.number = ap (λ (p : ClientPart). p.number) same in
    let client : (q.client == p.client) ≡ true = eq-eqb _ _ (sym (ap (λ (p : ClientPart). p.client) same)) in
    let value : cond (q.client == p.client) q.number 0 ≡ q.number = ap (λ b. cond b q.number 0) client in
    omega (arith, number, value)
noted_in (q ∷ parts) p (inr i) = let rest = noted_in parts p i in omega (arith, rest)

-- the state of an object before any operation is of its sort
sort_of-empty : (kind : Sort) → sort_of (empty_of kind) ≡ kind
sort_of-empty sort.Counter = refl
sort_of-empty sort.Register = refl
sort_of-empty sort.Set = refl
sort_of-empty sort.Map = refl

-- ---- the conditions

module _ (s : Settings) (P : Parts) (b : BundleParts) (giver : IsGiver s P) (depth : b.depth ≤ MOST_DEPTH) (given : IsCutOver s P b) where
  width : length b.vector ≡ s.n
  width = ap length given.cut.vector ∙ length-tabulate s.n (λ e. count e (list P))

  -- a record that was applied is in order
  ordered : (r : Record) → In r (list P) → (X : List Record) × IsInOrder s X r
  ordered r i = let place = In_get (list P) r i in (take place.0 (list P), giver.order.holds place.0 r place.1)

  -- the record of a client's greatest number
  record LastOf (p : ClientPart) : Type 0 where
    item : Record
    there : In item (list P)
    stamp_is : item.stamp ≡ p.stamp
    client_is : item.tx.dot.client ≡ p.client
    number : 1 ≤ p.number

  last_of : (p : ClientPart) → In p b.clients → LastOf p
  last_of p i =
      let is = given.cut.clients.each p i in
      let f = first_stamp_is (record { client = p.client; number = p.number }) (list P) p.stamp is.stamp in
      record { item = f.0; there = f.1; stamp_is = f.2; client_is = ap (λ (d : Dot). d.client) f.3; number = is.some }

  -- the record of a part of the rest
  record FirstOf (x : RestPart) : Type 0 where
    item : Record
    there : In item (list P)
    is : x ≡ rest_part (list P) item

  first_of : (x : RestPart) → In x b.rest → FirstOf x
  first_of x i =
      let m = In_from_map (rest_part (list P)) (filter (λ r. not (has r.tx.dot (inside (list P) b.base))) (firsts (list P))) x (subst (λ l. In x l) given.cut.rest i) in
      let f = In_from_filter (λ (r : Record). not (has r.tx.dot (inside (list P) b.base))) (firsts (list P)) m.0 m.1 in
      record { item = m.0; there = firsts_in [] (list P) m.0 f.0; is = m.2 }

  base_wide : length b.base ≡ s.n
  base_wide = ap length given.base ∙ giver.even.base

  mark_wide : length b.mark ≡ s.n
  mark_wide = ap length given.mark ∙ giver.even.mark

  row_wide : (row : List ℕ) → In row b.rows → length row ≡ length b.vector
  row_wide row i =
      let m = In_from_map (λ j. cond (j == s.me) (vector s.n (list P)) (P.told j)) (centres s.n) row (subst (λ l. In row l) given.rows i) in
      ap length m.2 ∙ (row_even s P giver.centre giver.even m.0 ∙ sym width)

  vector_over : Covers b.vector b.mark
  vector_over = record { holds = λ e. holds e }
    where
      holds : (e : ℕ) → at b.mark e ≤ at b.vector e
      holds e =
          let steady = giver.timely.steady.holds e in
          let meet = at-meet_of (kth_largest s.k (rows_over s P)) (vector s.n (list P)) e in
          let mark : at b.mark e ≡ at P.horizon.mark e = ap (λ v. at v e) given.mark in
          let have : at b.vector e ≡ at (vector s.n (list P)) e = ap (λ v. at v e) given.cut.vector in
          omega (arith, steady, meet, mark, have)

  mark_over : Covers b.mark b.base
  mark_over = subst (λ v. Covers v b.base) (sym given.mark) (subst (λ v. Covers P.horizon.mark v) (sym given.base) giver.timely.ahead)

  client_range : (p : ClientPart) → In p b.clients → (1 ≤ p.client) × (p.client ≤ MOST_CLIENTS)
  client_range p i =
      let r = last_of p i in
      let fit = (ordered r.item r.there).1.fit.client in
      let low = fit.0 in
      let high = fit.1 in
      let is = r.client_is in
      (omega (arith, low, is), omega (arith, high, is))

  client_stamp : (p : ClientPart) → In p b.clients → IsCentre (length b.vector) p.stamp.centre
  client_stamp p i =
      let r = last_of p i in
      let centre = (ordered r.item r.there).1.centre in
      let low = centre.0 in
      let high = centre.1 in
      let is : r.item.stamp.centre ≡ p.stamp.centre = ap (λ (t : Stamp). t.centre) r.stamp_is in
      (omega (arith, low, is), omega (arith, high, is, width))

  state_sort : (p : StatePart) → In p b.states → sort_of p.state ≡ p.object.sort
  state_sort p i = ap sort_of (given.cut.states.each p i).state ∙ (fold_of-sort (empty_of p.object.sort) (ops_inside p.object (list P) b.base) ∙ sort_of-empty p.object.sort)

  rest_fit : (x : RestPart) → In x b.rest → IsFit (length b.vector) x.tx
  rest_fit x i = let r = first_of x i in subst (λ n. IsFit n x.tx) (sym width) (subst (λ (x : RestPart). IsFit s.n x.tx) (sym r.is) (ordered r.item r.there).1.fit)

  rest_number : (x : RestPart) → In x b.rest → x.tx.dot.number ≤ noted b.clients x.tx.dot.client
  rest_number x i =
      let r = first_of x i in
      let low = (ordered r.item r.there).1.fit.number.0 in
      let greatest = in_guard (list P) r.item r.there in
      let part = given.cut.clients.all r.item.tx.dot.client (omega (arith, low, greatest)) in
      let has = noted_in b.clients part.0 part.1 in
      let number = (given.cut.clients.each part.0 part.1).number in
      let same : guard part.0.client (list P) ≡ guard r.item.tx.dot.client (list P) = ap (λ c. guard c (list P)) part.2 in
      let known : noted b.clients part.0.client ≡ noted b.clients r.item.tx.dot.client = ap (noted b.clients) part.2 in
      subst (λ (x : RestPart). x.tx.dot.number ≤ noted b.clients x.tx.dot.client) (sym r.is) (omega (arith, greatest, has, number, same, known))

  rest_apart : Apart (λ (x : RestPart). x.tx.dot) b.rest
  rest_apart = subst (Apart (λ (x : RestPart). x.tx.dot)) (sym given.cut.rest)
      (apart_map (rest_part (list P)) (λ (x : RestPart). x.tx.dot) (filter (λ r. not (has r.tx.dot (inside (list P) b.base))) (firsts (list P)))
      (apart_filter (λ (r : Record). r.tx.dot) (λ r. not (has r.tx.dot (inside (list P) b.base))) (firsts (list P)) (firsts_apart [] (list P))))

  rest_stamp : (x : RestPart) → In x b.rest → 1 ≤ length x.stamps
  rest_stamp x i =
      let r = first_of x i in
      let among = In_filter (λ (q : Record). same_dot q.tx.dot r.item.tx.dot) (list P) r.item r.there (same_dot-same r.item.tx.dot r.item.tx.dot refl) in
      let some = some_in (filter (λ (q : Record). same_dot q.tx.dot r.item.tx.dot) (list P)) r.item among in
      let long = length-map (filter (λ (q : Record). same_dot q.tx.dot r.item.tx.dot) (list P)) (λ (q : Record). q.stamp) in
      subst (λ (x : RestPart). 1 ≤ length x.stamps) (sym r.is) (omega (arith, some, long))

  -- the bundle meets all conditions
  meets : (condition : Condition) → Meets condition b
  meets BaseWidth = base_wide ∙ sym width
  meets MarkWidth = mark_wide ∙ sym width
  meets RowCount = ap length given.rows ∙ (length-map-range_with_len (λ j. cond (j == s.me) (vector s.n (list P)) (P.told j)) 1 s.n ∙ sym width)
  meets RowWidths = In-All (λ (row : List ℕ). length row ≡ length b.vector) b.rows row_wide
  meets Donor = subst (λ d. IsCentre (length b.vector) d) (sym given.donor) (subst (λ n. IsCentre n s.me) (sym width) giver.centre)
  meets Depth = depth
  meets MarkOverBase = record { width = mark_wide ∙ sym base_wide; covers = mark_over }
  meets VectorOverMark = record { width = width ∙ sym mark_wide; covers = vector_over }
  meets ClientOrder = given.cut.clients.order
  meets ClientRange = In-All (λ (c : ClientPart). (1 ≤ c.client) × (c.client ≤ MOST_CLIENTS)) b.clients client_range
  meets ClientNumbers = In-All (λ (c : ClientPart). 1 ≤ c.number) b.clients (λ p i. (given.cut.clients.each p i).some)
  meets ClientStamps = In-All (λ (c : ClientPart). IsCentre (length b.vector) c.stamp.centre) b.clients client_stamp
  meets ObjectOrder = given.cut.states.order
  meets StateSorts = In-All (λ (p : StatePart). sort_of p.state ≡ p.object.sort) b.states state_sort
  meets RestFit = In-All (λ (x : RestPart). IsFit (length b.vector) x.tx) b.rest rest_fit
  meets RestNumbers = In-All (λ (x : RestPart). x.tx.dot.number ≤ noted b.clients x.tx.dot.client) b.rest rest_number
  meets RestDots = rest_apart
  meets RestStamps = In-All (λ (x : RestPart). 1 ≤ length x.stamps) b.rest rest_stamp

-- ---- another centre

-- another centre among as many, with the same K
abbrev pub joiner : Settings → ℕ → ℕ → Settings
joiner donor me limit = record { me = me; n = donor.n; k = donor.k; limit = limit }

module _ (s : Settings) (me limit : ℕ) (P : Parts) (b : BundleParts) (giver : IsGiver s P) (known : 1 ≤ s.k) (depth : b.depth < MOST_DEPTH) (given : IsCutOver s P b) (other : me ≡ s.me → ⊥) (none : count me (list P) ≡ 0) where
  -- what the other centre knows each centre to have, it has from the donor, or it has so itself
  row : ℕ → List ℕ
  row j = cond (j == s.me) (vector s.n (list P)) (P.told j)

  row_given : (j : ℕ) → IsCentre s.n j → row_at b.rows j ≡ cond (j == s.me) (vector s.n (list P)) (P.told j)
  row_given j centre = ap (λ l. row_at l j) given.rows ∙ row_of-centres (λ j. cond (j == s.me) (vector s.n (list P)) (P.told j)) s.n j centre

  few : b.depth ≤ MOST_DEPTH
  few = omega (arith, depth)

  -- the donor's mark is stable there
  stable_there : Covers (stable_by (joiner s me limit) b) b.mark
  stable_there = record { holds = holds }
    where
      holds : (e : ℕ) → at b.mark e ≤ at (stable_by (joiner s me limit) b) e
      holds e = stable_reached s.n s.k
          (λ j. cond (j == s.me) (vector s.n (list P)) (P.told j)) (λ j. cond (j == me) b.vector (row_at b.rows j)) (vector s.n (list P)) b.vector known
          (λ e lt. at-tabulate_past s.n e (λ e. count e (list P)) lt) (wide (1 == me)) e (at b.mark e)
          (λ j centre le. reaches j centre (j == me) le) stable have
        where
          stable : at b.mark e ≤ at (stable_over s P) e
          stable = let steady = giver.timely.steady.holds e in let mark : at b.mark e ≡ at P.horizon.mark e = ap (λ v. at v e) given.mark in omega (arith, steady, mark)

          have : at b.mark e ≤ at b.vector e
          have = (vector_over s P b giver few given).holds e

          one : IsCentre s.n 1
          one = let low = giver.centre.0 in let high = giver.centre.1 in (omega arith, omega (arith, low, high))

          wide : (b1 : Bool) → s.n ≤ length (cond b1 b.vector (row_at b.rows 1))
          wide true = let long = width s P b giver few given in omega (arith, long)
          wide false = let long = ap length (row_given 1 one) ∙ row_even s P giver.centre giver.even 1 in omega (arith, long)

          reaches : (j : ℕ) → IsCentre s.n j → (own : Bool) → at b.mark e ≤ at (cond (j == s.me) (vector s.n (list P)) (P.told j)) e → at b.mark e ≤ at (cond own b.vector (row_at b.rows j)) e
          reaches j centre true le = have
          reaches j centre false le = subst (λ v. at b.mark e ≤ at v e) (sym (row_given j centre)) le

  -- the bundle can be adopted there
  pub can_adopt : CanAdopt (joiner s me limit) b
  can_adopt = record {
    bundle = record { meets = meets s P b giver few given };
    width = width s P b giver few given;
    depth = depth;
    other = λ same. other (sym same ∙ given.donor);
    none = let vector : at b.vector me ≡ at (vector s.n (list P)) me = ap (λ v. at v me) given.cut.vector in let counts = at-tabulate_le s.n me (λ e. count e (list P)) in omega (arith, vector, counts, none);
    stable = stable_there;
  }

  -- a record that was applied is of another centre
  not_own : (X : List Record) (r : Record) → In r (list P) → IsInOrder s X r → r.stamp.centre ≡ me → ⊥
  not_own X r i order same =
      let counted = stamp_counted s (list P) r giver.order i in
      let number = order.number in
      let counts : count r.stamp.centre (list P) ≡ count me (list P) = ap (λ e. count e (list P)) same in
      omega (arith, counted, number, counts, none)

  -- what the donor applied is in order there too
  order_there : (X : List Record) (r : Record) → In r (list P) → IsInOrder s X r → IsInOrder (joiner s me limit) X r
  order_there X r i order = record {
    centre = order.centre;
    number = order.number;
    few = order.few;
    width = order.width;
    waited = order.waited;
    fit = order.fit;
    next = order.next;
    made = λ same. absurd (not_own X r i order same);
  }

  -- and the centre may start from it
  pub may_start : MayStart (joiner s me limit) b (list P)
  may_start = record { order = record { holds = λ p r there. order_there (take p (list P)) r (get_In (list P) p r there) (giver.order.holds p r there) }; cut = given.cut }

-- ---- after a trail

pub can_adopt_given : (donor : Settings) (trail : List Entry) (b : BundleParts) (me limit : ℕ) → IsCentreHistory donor trail → 1 ≤ donor.k → IsCutOf donor trail b → (me ≡ donor.me → ⊥) → count me (applied donor.n trail) ≡ 0 → CanAdopt (record { me = me; n = donor.n; k = donor.k; limit = limit }) b
can_adopt_given donor trail b me limit history known cut other none = can_adopt donor me limit (parts_of donor trail) b (giver_of donor trail history known) known (let depth = cut.depth in omega (arith, depth)) cut.given other none

pub may_start_given : (donor : Settings) (trail : List Entry) (b : BundleParts) (me limit : ℕ) → IsCentreHistory donor trail → 1 ≤ donor.k → IsCutOf donor trail b → (me ≡ donor.me → ⊥) → count me (applied donor.n trail) ≡ 0 → MayStart (record { me = me; n = donor.n; k = donor.k; limit = limit }) b (applied donor.n trail)
may_start_given donor trail b me limit history known cut other none = may_start donor me limit (parts_of donor trail) b (giver_of donor trail history known) known (let depth = cut.depth in omega (arith, depth)) cut.given other none
