-- Chains that the operations of some transactions are taken out of.
use Rattle.std.proofs.Common.{◌≡◌, ◌≤◌, ◌<◌, ℕ, zero, suc, ◌+◌, ltb, Bool, true, false, cond, ◌⊎◌, inl, inr, ⊎_elim, List, [], ◌∷◌, ◌++◌, length, map, get_or, refl, sym, ap, ◌∙◌, subst, arith}
use Rattle.std.specs.Prelude.{◌&&◌, ◌==◌, not, filter}
use Rattle.std.specs.Bool.{OnFalse}
use Rattle.std.specs.List.{list_any}
use Rattle.std.proofs.lemmas.Bool.{cases_Bool, cases_lt, false≢true, and_parts, and_from, or_parts, eq-eqb, ltb-true, ltb-false}
use Rattle.std.proofs.lemmas.Bool.Decides.{Decides-eqb}
use Rattle.std.specs.List.Sorted.{IsPartitionPoint, IsPartitionedBy}
use Rattle.std.proofs.lemmas.List.Sorted.{IsPartitionedBy-ltb}
use Rattle.std.proofs.lemmas.Option.{slice_get_within, get_or_from_slice_get, slice_get-get_or, same_Some}
use Rattle.list_core.specs.Members.{In}
use Rattle.list_core.proofs.Gets.{In_get}
use Rattle.list_core.proofs.Members.{In_either, In_from_filter, In_map, In_flat_map, In_from_flat_map, filter_all}
use Rattle.ids_core.specs.declared.ids.Dot.{Dot}
use Rattle.ids_core.specs.declared.ids.Mark.{Mark}
use Rattle.ids_core.specs.declared.object.ObjectId.{ObjectId}
use Rattle.ids_core.specs.Ids.{same_object}
use Rattle.ids_core.specs.Same.{same_object-true, same_object-same}
use Rattle.tx_core.specs.declared.op.Op.{Op}
use Rattle.tx_core.specs.declared.tx.Update.{Update}
use Rattle.tx_core.specs.Operations.{mark, ops_from, ops_of}
use Rattle.object_lists.specs.Listed.{listed}
use Rattle.op_log.specs.declared.chains.Cell.{Cell}
use Rattle.op_log.specs.declared.logged.Logged.{Logged}
use Rattle.stamp_index.specs.declared.places.Place.{Place}
use Rattle.op_log.specs.Logs.{cell, cells_of, chain_of, is_inside, is_inside_at, left_of}
use Rattle.stamp_index.specs.Places.{reached_of}
use Rattle.op_log.specs.Places.{IsPlaced}
use Rattle.op_log.specs.Tables.{stays, Rises, Ascends, Lacks, HasCell, IsSwept, MaySwept}
use Rattle.stamp_index.proofs.Finds.{finds_none, found_none, found_some}
use Rattle.op_log.proofs.Cells.{cells_number, chain_passing}
use Rattle.op_log.proofs.Items.{get_or_In, rises_one, rises_filter}
use Rattle.op_log.proofs.Reaching.{reached_inside}

-- ---- what stays of a chain

-- a transaction of the log is found by its number
inside_member : (w : List ℕ) (items : List Logged) (x : Logged) → Rises items → In x items → is_inside_at w x.number items ≡ is_inside w x
inside_member w items x rises i = by (is_inside w x) refl
  where
    test : Logged → Bool
    test y = (y.number == x.number) && is_inside w y

    by : (b : Bool) → is_inside w x ≡ b → list_any test items ≡ b
    by true is = ⊎_elim (λ found. found) (λ none. absurd (false≢true (sym (found_none test items x none i) ∙ and_from (x.number == x.number) (is_inside w x) ((Decides-eqb x.number x.number).1 refl) is))) (cases_Bool (list_any test items))
    by false is = finds_none test items (λ y j both. let parts = and_parts (y.number == x.number) (is_inside w y) both in absurd (false≢true (sym is ∙ ap (is_inside w) (sym (rises_one items y x rises j i ((Decides-eqb y.number x.number).0 parts.0))) ∙ parts.1)))

-- what is left of a chain is the chain of what is left
chain_left : (w : List ℕ) (o : ObjectId) (items part : List Logged) → Rises items → ((x : Logged) → In x part → In x items) → filter (stays w items) (chain_of o part) ≡ chain_of o (left_of w part)
chain_left w o items part rises within = chain_passing (λ number. not (is_inside_at w number items)) (λ x. not (is_inside w x)) o part (λ x i. ap not (inside_member w items x rises (within x i)))

-- what stays of a whole chain
pub swept_chain : (w : List ℕ) (o : ObjectId) (items : List Logged) → Rises items → filter (stays w items) (chain_of o items) ≡ chain_of o (left_of w items)
swept_chain w o items rises = chain_left w o items items rises (λ x i. i)

-- what is left stays
left_again : (w : List ℕ) (items : List Logged) → left_of w (left_of w items) ≡ left_of w items
left_again w items = filter_all (λ x. not (is_inside w x)) (left_of w items) (λ x i. (In_from_filter (λ x. not (is_inside w x)) items x i).1)

-- and of a chain that was swept all stays
swept_again : (w : List ℕ) (o : ObjectId) (items : List Logged) → Rises items → filter (stays w items) (chain_of o (left_of w items)) ≡ chain_of o (left_of w items)
swept_again w o items rises = chain_left w o items (left_of w items) rises (λ x i. (In_from_filter (λ x. not (is_inside w x)) items x i).0) ∙ ap (chain_of o) (left_again w items)

-- ---- the numbers of a chain do not fall

-- operations of one number do not fall, and stand before those of no less numbers
ascends_before : (number : ℕ) (cells chain : List Cell) → ((c : Cell) → In c cells → c.tx ≡ number) → ((c : Cell) → In c chain → number ≤ c.tx) → Ascends chain → Ascends (cells ++ chain)
ascends_before number [] chain own above ascends = ascends
ascends_before number (c ∷ cells) chain own above ascends = (
  λ d i. let here = own c (inl refl) in ⊎_elim (λ j. let there = own d (inr j) in omega (arith, here, there)) (λ j. let there = above d j in omega (arith, here, there)) (In_either cells chain d i),
  ascends_before number cells chain (λ d i. own d (inr i)) above ascends,
)

-- an operation of a chain is of a transaction
cell_from : (o : ObjectId) (items : List Logged) (c : Cell) → In c (chain_of o items) → (x : Logged) × In x items × (c.tx ≡ x.number)
cell_from o items c i = let r = In_from_flat_map (cells_of o) items c i in (r.0, r.1, cells_number o r.0 c r.2)

chain_ascends : (o : ObjectId) (items : List Logged) → Rises items → Ascends (chain_of o items)
chain_ascends o [] rises = tt
chain_ascends o (x ∷ items) rises = ascends_before x.number (cells_of o x) (chain_of o items) (λ c i. cells_number o x c i) (λ c i. let r = cell_from o items c i in let lt = rises.0 r.0 r.1 in let same = r.2 in omega (arith, lt, same)) (chain_ascends o items rises.1)

-- whole or swept, it ascends
pub may_ascends : (w : List ℕ) (items : List Logged) (chains : List (ObjectId × List Cell)) (o : ObjectId) → Rises items → MaySwept w items chains → Ascends (listed chains o)
may_ascends w items chains o rises may = ⊎_elim
    (λ whole. subst Ascends (sym whole) (chain_ascends o items rises))
    (λ swept. subst Ascends (sym swept) (chain_ascends o (left_of w items) (rises_filter (λ x. not (is_inside w x)) items rises)))
    (may o)

-- in a list that ascends, no number before is greater
pub ascends_at : (chain : List Cell) → Ascends chain → (i j : ℕ) (d : Cell) → i ≤ j → j < length chain → (get_or chain i d).tx ≤ (get_or chain j d).tx
ascends_at [] ascends i j d le lt = absurd (omega (arith, lt))
ascends_at (c ∷ chain) ascends zero zero d le lt = omega arith
ascends_at (c ∷ chain) ascends zero (suc j) d le lt = ascends.0 (get_or chain j d) (get_or_In chain j d (omega (arith, lt)))
ascends_at (c ∷ chain) ascends (suc i) zero d le lt = absurd (omega (arith, le))
ascends_at (c ∷ chain) ascends (suc i) (suc j) d le lt = ascends_at chain ascends.1 i j d (omega (arith, le)) (omega (arith, lt))

-- where the numbers before a place are less, and that at it is greater, none is the number
pub lacks_past : (chain : List Cell) (n i : ℕ) → Ascends chain → IsPartitionPoint (λ (c : Cell). ltb c.tx n ≡ true) (λ c. ltb c.tx n ≡ false) chain i → ((d : Cell) → i < length chain → (get_or chain i d).tx ≡ n → ⊥) → Lacks n chain
lacks_past chain n i ascends point other c there same =
    let g = In_get chain c there in
    let k = g.0 in
    let lt = slice_get_within chain k c g.1 in
    let is : get_or chain k c ≡ c = get_or_from_slice_get chain k c c g.1 in
    ⊎_elim
    (λ below. let low = ltb-true (get_or chain k c).tx n (point.0 k c (omega arith) below) in let here : (get_or chain k c).tx ≡ n = ap (λ (c : Cell). c.tx) is ∙ same in omega (arith, low, here))
    (λ from.
    let up = ascends_at chain ascends i k c from lt in
    let here : (get_or chain k c).tx ≡ n = ap (λ (c : Cell). c.tx) is ∙ same in
    let small : i < length chain = omega (arith, from, lt) in
    let low = ltb-false (get_or chain i c).tx n (point.1 i c (omega arith) small) in
    other c small (omega (arith, up, here, low)))
    (cases_lt k i)

-- so none is where what stands at the place is not of the number
pub lacks_there : (chain : List Cell) (n i : ℕ) (d : Cell) → Ascends chain → IsPartitionPoint (λ (c : Cell). ltb c.tx n ≡ true) (λ c. ltb c.tx n ≡ false) chain i → i < length chain → OnFalse ((get_or chain i d).tx == n) (Lacks n chain)
lacks_there chain n i d ascends point small = by ((get_or chain i d).tx == n) refl
  where
    by : (b : Bool) → ((get_or chain i d).tx == n) ≡ b → OnFalse b (Lacks n chain)
    by true is = tt
    by false is = lacks_past chain n i ascends point (λ e lt same. false≢true (sym is ∙ eq-eqb (get_or chain i d).tx n (ap (λ (c : Cell). c.tx) (same_Some (get_or chain i d) (get_or chain i e) (sym (slice_get-get_or chain i d lt) ∙ slice_get-get_or chain i e lt)) ∙ same)))

-- what partition_point asks
pub parted_by : (chain : List Cell) (n : ℕ) → Ascends chain → IsPartitionedBy (λ (c : Cell). ltb c.tx n) chain
parted_by chain n ascends = IsPartitionedBy-ltb (λ (c : Cell). c.tx) chain n (λ i j d le lt. ascends_at chain ascends i j d le lt)

-- ---- an update's operation stands in the chain of its object

op_there : (rank : ℕ) (dot : Dot) (place : ℕ) (us : List Update) (u : Update) → In u us → (m : Mark × Op) × In m (ops_from u.object rank dot place us)
op_there rank dot place [] u i = absurd i
op_there rank dot place (v ∷ us) u i = go (same_object v.object u.object) refl i (λ j. op_there rank dot (place + 1) us u j)
  where
    rest : List (Mark × Op)
    rest = ops_from u.object rank dot (place + 1) us

    go : (b : Bool) → same_object v.object u.object ≡ b → In u (v ∷ us) → (In u us → (m : Mark × Op) × In m rest) → (m : Mark × Op) × In m (cond b ((mark rank dot place, v.op) ∷ rest) rest)
    go true same j later = ((mark rank dot place, v.op), inl refl)
    go false other (inl here) later = absurd (false≢true (sym other ∙ same_object-same v.object u.object (ap (λ (u : Update). u.object) (sym here))))
    go false other (inr j) later = later j

pub has_cell : (items : List Logged) (x : Logged) (u : Update) → In x items → In u x.tx.updates → HasCell items u.object x.number
has_cell items x u i j =
    let m = op_there x.tx.rank x.tx.dot 0 x.tx.updates u j in
    let c = cell x.number m.0 in
    record { cell = c; there = In_flat_map (cells_of u.object) items x c i (In_map (cell x.number) (ops_of u.object x.tx) m.0 m.1); is = refl }

-- ---- one chain after another

module _ (w : List ℕ) (items : List Logged) (rises : Rises items) where
  -- after a chain was swept, or left where it has no operation of the number, it is swept
  pub at_swept : (before after : List (ObjectId × List Cell)) (o : ObjectId) (number : ℕ) → MaySwept w items before → HasCell items o number → (listed after o ≡ filter (stays w items) (listed before o)) ⊎ ((listed after o ≡ listed before o) × Lacks number (listed before o)) → IsSwept w items after o
  at_swept before after o number may has either = ⊎_elim (λ swept. swept ∙ by (may o)) (λ same. same.0 ∙ old (may o) same.1) either
    where
      by : (listed before o ≡ chain_of o items) ⊎ IsSwept w items before o → filter (stays w items) (listed before o) ≡ chain_of o (left_of w items)
      by (inl whole) = ap (filter (stays w items)) whole ∙ swept_chain w o items rises
      by (inr swept) = ap (filter (stays w items)) swept ∙ swept_again w o items rises

      old : (listed before o ≡ chain_of o items) ⊎ IsSwept w items before o → Lacks number (listed before o) → IsSwept w items before o
      old (inl whole) lacks = absurd (lacks has.cell (subst (λ l. In has.cell l) (sym whole) has.there) has.is)
      old (inr swept) lacks = swept

  -- the chains of other objects are as they were
  pub at_others : (before after : List (ObjectId × List Cell)) (o : ObjectId) → IsSwept w items after o → ((q : ObjectId) → same_object o q ≡ false → listed after q ≡ listed before q) → (q : ObjectId) → (listed after q ≡ listed before q) ⊎ IsSwept w items after q
  at_others before after o swept apart q = ⊎_elim (λ here. inr (subst (λ q. IsSwept w items after q) (same_object-true o q here) swept)) (λ other. inl (apart q other)) (cases_Bool (same_object o q))

  pub may_after : (before after : List (ObjectId × List Cell)) → MaySwept w items before → ((q : ObjectId) → (listed after q ≡ listed before q) ⊎ IsSwept w items after q) → MaySwept w items after
  may_after before after may each q = ⊎_elim (λ same. ⊎_elim (λ whole. inl (same ∙ whole)) (λ swept. inr (same ∙ swept)) (may q)) (λ swept. inr swept) (each q)

  pub kept_after : (before after : List (ObjectId × List Cell)) → ((q : ObjectId) → (listed after q ≡ listed before q) ⊎ IsSwept w items after q) → (q : ObjectId) → IsSwept w items before q → IsSwept w items after q
  kept_after before after each q swept = ⊎_elim (λ same. same ∙ swept) (λ now. now) (each q)

-- ---- all chains

-- the chain of an object that no transaction with a stamp within the vector has an update on is left whole
whole_left : (w : List ℕ) (o : ObjectId) (items : List Logged) → ((x : Logged) → In x items → is_inside w x ≡ true → cells_of o x ≡ []) → chain_of o items ≡ chain_of o (left_of w items)
whole_left w o [] none = refl
whole_left w o (x ∷ items) none = go (is_inside w x) refl (whole_left w o items (λ y i. none y (inr i)))
  where
    go : (b : Bool) → is_inside w x ≡ b → chain_of o items ≡ chain_of o (left_of w items) → cells_of o x ++ chain_of o items ≡ chain_of o (cond (not b) (x ∷ left_of w items) (left_of w items))
    go true is rest = ap (λ l. l ++ chain_of o items) (none x (inl refl) is) ∙ rest
    go false is rest = ap (λ l. cells_of o x ++ l) rest

-- where no update is on the object, it has no operation there
no_ops : (o : ObjectId) (rank : ℕ) (dot : Dot) (place : ℕ) (us : List Update) → list_any (λ u. same_object u.object o) us ≡ false → ops_from o rank dot place us ≡ []
no_ops o rank dot place [] none = refl
no_ops o rank dot place (u ∷ us) none =
    let parts = or_parts (same_object u.object o) (list_any (λ u. same_object u.object o) us) none in
    ap (λ b. cond b ((mark rank dot place, u.op) ∷ ops_from o rank dot (place + 1) us) (ops_from o rank dot (place + 1) us)) parts.0 ∙ no_ops o rank dot (place + 1) us parts.1

-- once the chains of all updates of what is reached are swept, all are
pub all_swept : (w : List ℕ) (items : List Logged) (places : List Place) (chains : List (ObjectId × List Cell)) → IsPlaced places items → MaySwept w items chains → ((centre : ℕ) → centre ≤ length w → (p : Place) → In p (reached_of w centre places) → (x : Logged) → In x items → x.number ≡ p.number → (u : Update) → In u x.tx.updates → IsSwept w items chains u.object) → (o : ObjectId) → IsSwept w items chains o
all_swept w items places chains placed may each o = go (may o)
  where
    touches : Logged → Bool
    touches x = is_inside w x && list_any (λ u. same_object u.object o) x.tx.updates

    by : listed chains o ≡ chain_of o items → (b : Bool) → list_any touches items ≡ b → IsSwept w items chains o
    by whole true some =
        let f = found_some touches items some in
        let parts = and_parts (is_inside w f.0) (list_any (λ u. same_object u.object o) f.0.tx.updates) f.2 in
        let u = found_some (λ (u : Update). same_object u.object o) f.0.tx.updates parts.1 in
        let r = reached_inside w items places f.0 placed f.1 parts.0 in
        subst (λ o. IsSwept w items chains o) (same_object-true u.0.object o u.2) (each r.centre r.small r.place r.there f.0 f.1 (sym r.is) u.0 u.1)
    by whole false none = whole ∙ whole_left w o items (λ x i pass. ap (map (cell x.number)) (no_ops o x.tx.rank x.tx.dot 0 x.tx.updates (sym (ap (λ t. t && list_any (λ u. same_object u.object o) x.tx.updates) pass) ∙ found_none touches items x none i)))

    go : (listed chains o ≡ chain_of o items) ⊎ IsSwept w items chains o → IsSwept w items chains o
    go (inl whole) = by whole (list_any touches items) refl
    go (inr swept) = swept
