-- The cells of a holder of a bounded counter: they are counters, all different, and few; and which cells are among them.
use Rattle.std.proofs.Common.{◌≡◌, ℕ, ◌+◌, ◌≤◌, ◌==◌, not, inl, inr, ⊎_elim, Bool, true, false, cond, List, [], ◌∷◌, ◌++◌, length, refl, sym, ap, ◌∙◌, subst, arith}
use Rattle.std.specs.Prelude.{filter}
use Rattle.std.specs.List.{range_with_len}
use Rattle.std.proofs.Math.Seq.{drop-append_seam}
use Rattle.std.proofs.lemmas.Bool.{false≢true, eq-eqb}
use Rattle.std.proofs.lemmas.List.{length-append, length-map, map-append}
use Rattle.std.proofs.lemmas.List.FromFn.{length-range_with_len}
use Rattle.list_core.specs.Members.{In}
use Rattle.list_core.specs.Apart.{Apart}
use Rattle.list_core.proofs.Members.{In_from_map, In_from_filter, In_more, In_either}
use Rattle.list_core.proofs.Apart.{apart_map, apart_drop}
use Rattle.list_core.proofs.Ranges.{In_range}
use Rattle.ids_core.specs.declared.object.ObjectId.{ObjectId}
use Rattle.ids_core.specs.declared.object.Sort.TheVariants.{Counter, Register, Set, Map}
use Rattle.ids_core.specs.Ids.{same_object}
use Rattle.ids_core.specs.Same.{same_object-true}
use Rattle.obj_bounded.specs.CellNames.{cell_name, cell_names, counter_of, gain_cells, gain_names, IsHolder, loss_cells, loss_names, other_holders}
use Rattle.obj_bounded.proofs.CellNames.{cells_apart, one_cell}
use Rattle.dc_talk.specs.declared.calls.Change.{Change}
use Rattle.dc_talk.specs.declared.calls.Change.TheVariants.{Inc, Write, Add, Remove, Put, Erase}
use Rattle.dc_talk.specs.Calls.{sort_of_change}
use Rattle.script_core.specs.Steps.{is_cell_name, SparesCells}
use Rattle.run_rights.specs.Takings.{AreCounters}
use Rattle.run_rights.specs.Steps.{IsNoneOf}

-- ---- lists

-- elements with different keys are different
apart_by : {X K : Type 0} (key : X → K) (xs : List X) → Apart key xs → Apart (λ (x : X). x) xs
apart_by key [] apart = tt
apart_by key (x ∷ xs) apart = (λ y i same. apart.0 y i (ap key same), apart_by key xs apart.1)

-- of those that pass a test there are no more
filter_few : {X : Type 0} (p : X → Bool) (xs : List X) → length (filter p xs) ≤ length xs
filter_few p [] = omega arith
filter_few p (x ∷ xs) = go (p x) (filter_few p xs)
  where
    go : (b : Bool) → length (filter p xs) ≤ length xs → length (cond b (x ∷ filter p xs) (filter p xs)) ≤ length (x ∷ xs)
    go true few = omega (arith, few)
    go false few = omega (arith, few)

-- and fewer where a member fails it
filter_fewer : {X : Type 0} (p : X → Bool) (xs : List X) (x : X) → In x xs → p x ≡ false → length (filter p xs) + 1 ≤ length xs
filter_fewer p [] x i fails = absurd i
filter_fewer {X} p (y ∷ ys) x i fails = ⊎_elim (λ same. first (ap p (sym same) ∙ fails)) (λ j. later (p y) (filter_fewer p ys x j fails)) i
  where
    first : p y ≡ false → length (filter p (y ∷ ys)) + 1 ≤ length (y ∷ ys)
    first is =
        let none : length (filter p (y ∷ ys)) ≡ length (filter p ys) = ap (λ b. length (cond b (y ∷ filter p ys) (filter p ys))) is in
        let few = filter_few p ys in
        omega (arith, none, few)

    later : (b : Bool) → length (filter p ys) + 1 ≤ length ys → length (cond b (y ∷ filter p ys) (filter p ys)) + 1 ≤ length (y ∷ ys)
    later true few = omega (arith, few)
    later false few = omega (arith, few)

-- ---- one cell

-- its name begins as those of cells do
cell_marked : (name : List ℕ) (from to : ℕ) → is_cell_name (cell_name name from to) ≡ true
cell_marked name from to = refl

-- a change that spares cells is of none of them
pub spared_cell : (o : ObjectId) (change : Change) (name : List ℕ) (from to : ℕ) → o.sort ≡ sort_of_change change → SparesCells o change → o ≡ counter_of (cell_name name from to) → ⊥
spared_cell o (Inc delta) name from to sort spares is = false≢true (sym (ap (λ (o : ObjectId). not (is_cell_name o.name)) is) ∙ spares)
spared_cell o (Write word) name from to sort spares is = let other : Register ≡ Counter = sym sort ∙ ap (λ (o : ObjectId). o.sort) is in absurd (cc)
spared_cell o (Add word) name from to sort spares is = let other : Set ≡ Counter = sym sort ∙ ap (λ (o : ObjectId). o.sort) is in absurd (cc)
spared_cell o (Remove word) name from to sort spares is = let other : Set ≡ Counter = sym sort ∙ ap (λ (o : ObjectId). o.sort) is in absurd (cc)
spared_cell o (Put key word) name from to sort spares is = let other : Map ≡ Counter = sym sort ∙ ap (λ (o : ObjectId). o.sort) is in absurd (cc)
spared_cell o (Erase key) name from to sort spares is = let other : Map ≡ Counter = sym sort ∙ ap (λ (o : ObjectId). o.sort) is in absurd (cc)

-- ---- the cells of a holder

module _ (name : List ℕ) (holder holders : ℕ) where
  abbrev gains : List ObjectId
  gains = gain_cells name holder holders

  abbrev losses : List ObjectId
  losses = loss_cells name holder holders

  -- each is a cell
  record IsOne (o : ObjectId) : Type 0 where
    from : ℕ
    to : ℕ
    is : o ≡ counter_of (cell_name name from to)

  gain_is : (o : ObjectId) → In o gains → IsOne o
  gain_is o i =
      let m = In_from_map counter_of (gain_names name holder holders) o i in
      let f = In_from_map (λ from. cell_name name from holder) (range_with_len 1 holders) m.0 m.1 in
      record { from = f.0; to = holder; is = m.2 ∙ ap counter_of f.2 }

  -- one that counts against the holder is a cell from it, and to it only if it is 0
  record IsLoss (o : ObjectId) : Type 0 where
    to : ℕ
    is : o ≡ counter_of (cell_name name holder to)
    other : to ≡ holder → to ≡ 0

  loss_is : (o : ObjectId) → In o losses → IsLoss o
  loss_is o i =
      let m = In_from_map counter_of (loss_names name holder holders) o i in
      let t = In_from_map (cell_name name holder) (other_holders holder holders ++ 0 ∷ []) m.0 m.1 in
      record { to = t.0; is = m.2 ∙ ap counter_of t.2; other = λ same. other t.0 same t.1 }
    where
      other : (to : ℕ) → to ≡ holder → In to (other_holders holder holders ++ 0 ∷ []) → to ≡ 0
      other to same i = ⊎_elim
          (λ j. absurd (false≢true (sym (ap not (eq-eqb to holder same)) ∙ (In_from_filter (λ other. not (other == holder)) (range_with_len 1 holders) to j).1)))
          (λ none. none)
          (In_more (other_holders holder holders) 0 to i)

  cell_is : (o : ObjectId) → In o (gains ++ losses) → IsOne o
  cell_is o i = ⊎_elim (gain_is o) (λ j. let loss = loss_is o j in record { from = holder; to = loss.to; is = loss.is }) (In_either gains losses o i)

  -- all are counters
  pub cells_count : AreCounters gains losses
  cells_count o (inl i) = ap (λ (o : ObjectId). o.sort) (gain_is o i).is
  cells_count o (inr i) = ap (λ (o : ObjectId). o.sort) (loss_is o i).is

  -- a change that spares cells is of none of them
  pub cells_spared : (o : ObjectId) (change : Change) → o.sort ≡ sort_of_change change → SparesCells o change → IsNoneOf (gains ++ losses) o
  cells_spared o change sort spares cell among hit =
      let one = cell_is cell among in
      spared_cell o change name one.from one.to sort spares (same_object-true o cell hit ∙ one.is)

  -- what a cell is that counts against the holder
  record HitsLoss (other : List ℕ) (from to : ℕ) : Type 0 where
    counter : other ≡ name
    giver : from ≡ holder
    taker : to ≡ holder → to ≡ 0

  hits_loss : (other : List ℕ) (from to : ℕ) (cell : ObjectId) → In cell losses → same_object (counter_of (cell_name other from to)) cell ≡ true → HitsLoss other from to
  hits_loss other from to cell among hit =
      let loss = loss_is cell among in
      let same = same_object-true (counter_of (cell_name other from to)) cell hit ∙ loss.is in
      let one = one_cell other name from to holder loss.to (ap (λ (o : ObjectId). o.name) same) in
      record { counter = one.0; giver = one.1; taker = λ itself. one.2 ∙ loss.other (sym one.2 ∙ itself) }

  -- what a holder was granted does not count against this one
  pub grant_spared : (other : List ℕ) (from : ℕ) → 1 ≤ from → IsNoneOf losses (counter_of (cell_name other from from))
  grant_spared other from low cell among hit =
      let loss = hits_loss other from from cell among hit in
      omega (arith, low, loss.taker loss.giver)

  -- nor does what another holder, or a holder of another counter, gave or took
  pub other_spared : (other : List ℕ) (from to : ℕ) → (other ≡ name → from ≡ holder → ⊥) → IsNoneOf losses (counter_of (cell_name other from to))
  other_spared other from to differs cell among hit = let loss = hits_loss other from to cell among hit in differs loss.counter loss.giver

  -- they are all different
  pub apart_cells : Apart (λ (o : ObjectId). o) (gains ++ losses)
  apart_cells = apart_by (λ (o : ObjectId). o.name) (gains ++ losses)
      (subst (Apart (λ (o : ObjectId). o.name)) (map-append counter_of (gain_names name holder holders) (loss_names name holder holders))
      (apart_map counter_of (λ (o : ObjectId). o.name) (cell_names name holder holders) (cells_apart name holder holders)))

  pub apart_losses : Apart (λ (o : ObjectId). o) losses
  apart_losses = subst (Apart (λ (o : ObjectId). o)) (drop-append_seam gains losses) (apart_drop (λ (o : ObjectId). o) (length gains) (gains ++ losses) apart_cells)

  -- as many count for the holder as there are holders
  pub gains_long : length gains ≡ holders
  gains_long =
      length-map (gain_names name holder holders) counter_of
      ∙ (length-map (range_with_len 1 holders) (λ from. cell_name name from holder)
      ∙ length-range_with_len 1 holders)

  -- and all together are few
  pub few_cells : IsHolder holders holder → length gains + length losses ≤ 16
  few_cells is =
      let fewer = filter_fewer (λ other. not (other == holder)) (range_with_len 1 holders) holder (In_range 1 holders holder is.low (omega (arith, is.high))) (ap not (eq-eqb holder holder refl)) in
      let all = length-range_with_len 1 holders in
      let zero_alone : List ℕ = 0 ∷ [] in
      let numbers = length-append (other_holders holder holders) zero_alone in
      let one : length zero_alone ≡ 1 = refl in
      let names = length-map (other_holders holder holders ++ 0 ∷ []) (cell_name name holder) in
      let cells = length-map (loss_names name holder holders) counter_of in
      omega (arith, gains_long, fewer, all, numbers, one, names, cells, is.most)
