-- Each test tells whether its condition is met.
use Rattle.std.proofs.Common.{◌≡◌, ◌≤◌, ℕ, Bool, true, false, ◌||◌, not, nat_le, nat_lt, ◌==◌, inl, inr, ⊎_elim, List, [], ◌∷◌, length, map, All, refl, sym, ap, ◌∙◌, subst}
use Rattle.std.specs.Prelude.{is_none}
use Rattle.std.specs.Bool.{Decides}
use Rattle.std.specs.List.{list_all, AllByRecursion}
use Rattle.std.specs.List.Sorted.{IsStrictlySortedBy}
use Rattle.std.specs.Ordering.{is_lt}
use Rattle.std.specs.declared.cmp.Ordering.{Ordering}
use Rattle.std.specs.declared.cmp.Ordering.TheVariants.{Less}
use Rattle.std.specs.Cmp.{IsTotalOrder, nat_cmp_total}
use Rattle.std.proofs.lemmas.Bool.{and_parts, and_from, leb-true, le-leb, ltb-true, lt-ltb, false≢true}
use Rattle.std.proofs.lemmas.Bool.Decides.{Decides-eqb, Decides-and}
use Rattle.std.proofs.lemmas.List.Sums.{AllPass-from_list_all, list_all-from_AllPass}
use Rattle.list_core.specs.Apart.{Apart}
use Rattle.list_core.specs.Members.{In}
use Rattle.list_core.proofs.Choices.{is_none_true}
use Rattle.ids_core.specs.declared.ids.Dot.{Dot}
use Rattle.ids_core.specs.declared.object.Sort.{Sort}
use Rattle.ids_core.specs.declared.limits.TheConstants.{MOST_CLIENTS}
use Rattle.ids_core.specs.Ids.{same_dot, same_sort}
use Rattle.ids_core.specs.Same.{same_dot-true, same_dot-same, same_sort-true, same_sort-itself}
use Rattle.ids_core.specs.Orders.{object_cmp_total}
use Rattle.ids_core.proofs.Orders.{is_lt-true}
use Rattle.vv_core.specs.Vectors.{covers}
use Rattle.vv_core.proofs.Covering.{covers-true, covers_from}
use Rattle.tx_core.specs.declared.part.RestPart.{RestPart}
use Rattle.tx_core.specs.declared.tx.Tx.{Tx}
use Rattle.tx_core.specs.Checks.{fault_of, is_within, IsFit}
use Rattle.tx_core.specs.States.{sort_of}
use Rattle.tx_core.proofs.Fits.{fault_of-none, none-fault_of}
use Rattle.join_bundle.specs.declared.condition.TheConstants.{MOST_DEPTH}
use Rattle.join_bundle.specs.declared.condition.Condition.{Condition}
use Rattle.join_bundle.specs.declared.condition.Condition.TheVariants.{BaseWidth, MarkWidth, RowCount, RowWidths, Donor, Depth, MarkOverBase, VectorOverMark, ClientOrder, ClientRange, ClientNumbers, ClientStamps, ObjectOrder, StateSorts, RestFit, RestNumbers, RestDots, RestStamps}
use Rattle.join_bundle.specs.declared.part.BundleParts.{BundleParts}
use Rattle.join_bundle.specs.Conditions.{noted, IsCentre, IsOver, Meets}
use Rattle.join_bundle.specs.Tests.{ascends, ascends_from, are_apart, has_dot, is_over, passes}

-- a test of each element
pub each_of : {X : Type 0} (test : X → Bool) (P : X → Type 0) → ((x : X) → Decides (test x) (P x)) → (xs : List X) → Decides (list_all test xs) (All P xs)
each_of test P tells xs = (λ h k d below. (tells _).0 (AllPass-from_list_all test xs h k d below), λ all. list_all-from_AllPass test xs (λ k d below. (tells _).1 (all k d below)))

-- at most
pub at_most : (a b : ℕ) → Decides (nat_le a b) (a ≤ b)
at_most a b = (leb-true a b, le-leb a b)

-- from low to high
pub in_range : (low high number : ℕ) → Decides (is_within low high number) ((low ≤ number) × (number ≤ high))
in_range low high number = Decides-and (nat_le low number) (nat_le number high) (at_most low number) (at_most number high)

-- over another vector
pub over : (vector other : List ℕ) → Decides (is_over vector other) (IsOver vector other)
over vector other = (
  λ h. let parts = and_parts (length vector == length other) (covers vector other) h in record { width = (Decides-eqb (length vector) (length other)).0 parts.0; covers = covers-true vector other parts.1 },
  λ h. and_from (length vector == length other) (covers vector other) ((Decides-eqb (length vector) (length other)).1 h.width) (covers_from vector other h.covers),
)

module _ {K : Type 0} {cmp : K → K → Ordering} (total : IsTotalOrder cmp) where
  -- what is above a key is above those below it
  above_too : (low key : K) → cmp low key ≡ Less → (keys : List K) → AllByRecursion (λ k. cmp key k ≡ Less) keys → AllByRecursion (λ k. cmp low k ≡ Less) keys
  above_too low key less [] h = tt
  above_too low key less (k ∷ keys) h = (total.trans low key k less h.0, above_too low key less keys h.1)

  -- keys that ascend, from one on
  sorted_from : (low : K) (keys : List K) → ascends_from cmp low keys ≡ true → IsStrictlySortedBy cmp (low ∷ keys)
  unfolding IsStrictlySortedBy
  sorted_from low [] h = (tt, tt)
  sorted_from low (key ∷ keys) h =
      let parts = and_parts (is_lt (cmp low key)) (ascends_from cmp key keys) h in
      let less = is_lt-true (cmp low key) parts.0 in
      let rest = sorted_from key keys parts.1 in
      ((less, above_too low key less keys rest.0), rest)

  -- and the other way round
  from_sorted : (low : K) (keys : List K) → IsStrictlySortedBy cmp (low ∷ keys) → ascends_from cmp low keys ≡ true
  unfolding IsStrictlySortedBy
  from_sorted low [] h = refl
  from_sorted low (key ∷ keys) h = and_from (is_lt (cmp low key)) (ascends_from cmp key keys) (ap is_lt h.0.0) (from_sorted key keys h.1)

  -- keys that ascend
  pub ascending : (keys : List K) → Decides (ascends cmp keys) (IsStrictlySortedBy cmp keys)
  unfolding IsStrictlySortedBy
  ascending [] = (λ _. tt, λ _. refl)
  ascending (key ∷ keys) = (sorted_from key keys, from_sorted key keys)

-- one kind
one_sort : (a b : Sort) → Decides (same_sort a b) (a ≡ b)
one_sort a b = (same_sort-true a b, λ is. subst (λ z. same_sort a z ≡ true) is (same_sort-itself a))

-- a fit transaction
fit : (n : ℕ) (tx : Tx) → Decides (is_none (fault_of n tx)) (IsFit n tx)
fit n tx = (λ h. fault_of-none n tx (is_none_true (fault_of n tx) h), λ h. ap is_none (none-fault_of n tx h))

-- none of them has the dot
abbrev LacksDot : Dot → List RestPart → Type 0
LacksDot dot rest = (r : RestPart) → In r rest → dot ≡ r.tx.dot → ⊥

-- neither of two
neither : (a b : Bool) → not (a || b) ≡ true → (a ≡ false) × (not b ≡ true)
neither true b h = absurd (false≢true h)
neither false b h = (refl, h)

-- and the other way round
from_neither : (a b : Bool) → a ≡ false → not b ≡ true → not (a || b) ≡ true
from_neither true b h k = absurd (false≢true (sym h))
from_neither false b h k = k

-- not the same
not_same : (a b : Bool) → (a ≡ true → ⊥) → a ≡ false
not_same true b h = absurd (h refl)
not_same false b h = refl

-- the test of a dot
lacks : (dot : Dot) (rest : List RestPart) → Decides (not (has_dot dot rest)) (LacksDot dot rest)
lacks dot [] = (λ _ r i _. i, λ _. refl)
lacks dot (r ∷ rest) = (
  λ h. let both = neither (same_dot dot r.tx.dot) (has_dot dot rest) h in
      λ other i is. ⊎_elim (λ same. false≢true (sym both.0 ∙ same_dot-same dot r.tx.dot (is ∙ ap (λ (x : RestPart). x.tx.dot) same))) (λ j. (lacks dot rest).0 both.1 other j is) i,
  λ h. from_neither (same_dot dot r.tx.dot) (has_dot dot rest) (not_same (same_dot dot r.tx.dot) true (λ same. h r (inl refl) (same_dot-true dot r.tx.dot same))) ((lacks dot rest).1 (λ other j is. h other (inr j) is)),
)

-- different dots
pub apart : (rest : List RestPart) → Decides (are_apart rest) (Apart (λ (r : RestPart). r.tx.dot) rest)
apart [] = (λ _. tt, λ _. refl)
apart (r ∷ rest) = Decides-and (not (has_dot r.tx.dot rest)) (are_apart rest) (lacks r.tx.dot rest) (apart rest)

-- each test tells whether its condition is met
pub tells : (condition : Condition) (p : BundleParts) → Decides (passes condition p) (Meets condition p)
tells BaseWidth p = Decides-eqb (length p.base) (length p.vector)
tells MarkWidth p = Decides-eqb (length p.mark) (length p.vector)
tells RowCount p = Decides-eqb (length p.rows) (length p.vector)
tells RowWidths p = each_of (λ row. length row == length p.vector) (λ row. length row ≡ length p.vector) (λ row. Decides-eqb (length row) (length p.vector)) p.rows
tells Donor p = in_range 1 (length p.vector) p.donor
tells Depth p = at_most p.depth MOST_DEPTH
tells MarkOverBase p = over p.mark p.base
tells VectorOverMark p = over p.vector p.mark
tells ClientOrder p = ascending nat_cmp_total (map (λ c. c.client) p.clients)
tells ClientRange p = each_of (λ c. is_within 1 MOST_CLIENTS c.client) (λ c. (1 ≤ c.client) × (c.client ≤ MOST_CLIENTS)) (λ c. in_range 1 MOST_CLIENTS c.client) p.clients
tells ClientNumbers p = each_of (λ c. nat_le 1 c.number) (λ c. 1 ≤ c.number) (λ c. at_most 1 c.number) p.clients
tells ClientStamps p = each_of (λ c. is_within 1 (length p.vector) c.stamp.centre) (λ c. IsCentre (length p.vector) c.stamp.centre) (λ c. in_range 1 (length p.vector) c.stamp.centre) p.clients
tells ObjectOrder p = ascending object_cmp_total (map (λ s. s.object) p.states)
tells StateSorts p = each_of (λ s. same_sort (sort_of s.state) s.object.sort) (λ s. sort_of s.state ≡ s.object.sort) (λ s. one_sort (sort_of s.state) s.object.sort) p.states
tells RestFit p = each_of (λ r. is_none (fault_of (length p.vector) r.tx)) (λ r. IsFit (length p.vector) r.tx) (λ r. fit (length p.vector) r.tx) p.rest
tells RestNumbers p = each_of (λ r. nat_le r.tx.dot.number (noted p.clients r.tx.dot.client)) (λ r. r.tx.dot.number ≤ noted p.clients r.tx.dot.client) (λ r. at_most r.tx.dot.number (noted p.clients r.tx.dot.client)) p.rest
tells RestDots p = apart p.rest
tells RestStamps p = each_of (λ r. nat_lt 0 (length r.stamps)) (λ r. 1 ≤ length r.stamps) (λ r. (ltb-true 0 (length r.stamps), lt-ltb 0 (length r.stamps))) p.rest
