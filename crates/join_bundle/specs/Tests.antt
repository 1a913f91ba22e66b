-- The tests of the conditions on the parts of a bundle, and the first that parts do not pass.
use Rattle.std.specs.Prelude.{◌==◌, ◌&&◌, ℕ, Bool, true, not, nat_le, nat_lt, Option, is_none, List, [], ◌∷◌, length, map}
use Rattle.std.specs.List.{list_all, list_any}
use Rattle.std.specs.declared.cmp.Ordering.{Ordering}
use Rattle.std.specs.Ordering.{nat_cmp, is_lt}
use Rattle.list_core.specs.Firsts.{first_that}
use Rattle.ids_core.specs.declared.ids.Dot.{Dot}
use Rattle.ids_core.specs.declared.limits.TheConstants.{MOST_CLIENTS}
use Rattle.ids_core.specs.Ids.{same_dot, same_sort}
use Rattle.ids_core.specs.Orders.{object_cmp}
use Rattle.vv_core.specs.Vectors.{covers}
use Rattle.tx_core.specs.declared.part.RestPart.{RestPart}
use Rattle.tx_core.specs.Checks.{fault_of, is_within}
use Rattle.tx_core.specs.States.{sort_of}
use Rattle.join_bundle.specs.declared.condition.TheConstants.{MOST_DEPTH}
use Rattle.join_bundle.specs.declared.condition.Condition.{Condition}
use Rattle.join_bundle.specs.declared.condition.Condition.TheVariants.{BaseWidth, MarkWidth, RowCount, RowWidths, Donor, Depth, MarkOverBase, VectorOverMark, ClientOrder, ClientRange, ClientNumbers, ClientStamps, ObjectOrder, StateSorts, RestFit, RestNumbers, RestDots, RestStamps}
use Rattle.join_bundle.specs.declared.part.BundleParts.{BundleParts}
use Rattle.join_bundle.specs.Conditions.{noted, order}

-- the first key is above low, and each is below the next
abbrev pub ascends_from : {K : Type 0} → (K → K → Ordering) → K → List K → Bool
ascends_from cmp low [] = true
ascends_from cmp low (key ∷ keys) = is_lt (cmp low key) && ascends_from cmp key keys

-- each key is below the next
abbrev pub ascends : {K : Type 0} → (K → K → Ordering) → List K → Bool
ascends cmp [] = true
ascends cmp (key ∷ keys) = ascends_from cmp key keys

-- the number of one of so many centres
abbrev pub is_centre : ℕ → ℕ → Bool
is_centre n centre = is_within 1 n centre

-- the vector has the other's width, and covers it
abbrev pub is_over : List ℕ → List ℕ → Bool
is_over vector other = (length vector == length other) && covers vector other

-- a transaction has the dot
abbrev pub has_dot : Dot → List RestPart → Bool
has_dot dot rest = list_any (λ r. same_dot dot r.tx.dot) rest

-- no two transactions have one dot
abbrev pub are_apart : List RestPart → Bool
are_apart [] = true
are_apart (r ∷ rest) = not (has_dot r.tx.dot rest) && are_apart rest

-- whether the parts pass the test of the condition
abbrev pub passes : Condition → BundleParts → Bool
passes BaseWidth p = length p.base == length p.vector
passes MarkWidth p = length p.mark == length p.vector
passes RowCount p = length p.rows == length p.vector
passes RowWidths p = list_all (λ row. length row == length p.vector) p.rows
passes Donor p = is_centre (length p.vector) p.donor
passes Depth p = nat_le p.depth MOST_DEPTH
passes MarkOverBase p = is_over p.mark p.base
passes VectorOverMark p = is_over p.vector p.mark
passes ClientOrder p = ascends nat_cmp (map (λ c. c.client) p.clients)
passes ClientRange p = list_all (λ c. is_within 1 MOST_CLIENTS c.client) p.clients
passes ClientNumbers p = list_all (λ c. nat_le 1 c.number) p.clients
passes ClientStamps p = list_all (λ c. is_centre (length p.vector) c.stamp.centre) p.clients
passes ObjectOrder p = ascends object_cmp (map (λ s. s.object) p.states)
passes StateSorts p = list_all (λ s. same_sort (sort_of s.state) s.object.sort) p.states
passes RestFit p = list_all (λ r. is_none (fault_of (length p.vector) r.tx)) p.rest
passes RestNumbers p = list_all (λ r. nat_le r.tx.dot.number (noted p.clients r.tx.dot.client)) p.rest
passes RestDots p = are_apart p.rest
passes RestStamps p = list_all (λ r. nat_lt 0 (length r.stamps)) p.rest

-- the first condition that the parts do not pass
abbrev pub first_failed : BundleParts → Option Condition
first_failed p = first_that (λ condition. not (passes condition p)) order
