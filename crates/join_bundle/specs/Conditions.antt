-- The conditions on the parts of a bundle, and which of them parts break first.
use Rattle.std.specs.Prelude.{◌≡◌, ◌≤◌, ◌==◌, ℕ, cond, max, List, [], ◌∷◌, ◌++◌, length, map, All}
use Rattle.std.specs.List.Sorted.{IsStrictlySortedBy}
use Rattle.std.specs.Ordering.{nat_cmp}
use Rattle.list_core.specs.Apart.{Apart}
use Rattle.ids_core.specs.declared.limits.TheConstants.{MOST_CLIENTS}
use Rattle.ids_core.specs.Orders.{object_cmp}
use Rattle.vv_core.specs.Vectors.{Covers}
use Rattle.tx_core.specs.declared.part.RestPart.{RestPart}
use Rattle.tx_core.specs.Checks.{IsFit}
use Rattle.tx_core.specs.States.{sort_of}
use Rattle.join_bundle.specs.declared.condition.TheConstants.{MOST_DEPTH}
use Rattle.join_bundle.specs.declared.condition.Condition.{Condition}
use Rattle.join_bundle.specs.declared.condition.Condition.TheVariants.{BaseWidth, MarkWidth, RowCount, RowWidths, Donor, Depth, MarkOverBase, VectorOverMark, ClientOrder, ClientRange, ClientNumbers, ClientStamps, ObjectOrder, StateSorts, RestFit, RestNumbers, RestDots, RestStamps}
use Rattle.join_bundle.specs.declared.part.ClientPart.{ClientPart}
use Rattle.join_bundle.specs.declared.part.BundleParts.{BundleParts}

-- one of so many centres, counted from 1
abbrev pub IsCentre : ℕ → ℕ → Type 0
IsCentre n centre = (1 ≤ centre) × (centre ≤ n)

-- the vector has the other's width, and covers it
pub record IsOver (vector other : List ℕ) : Type 0 where
  pub width : length vector ≡ length other
  pub covers : Covers vector other

-- the greatest number that the parts note of the client, 0 for none
abbrev pub noted : List ClientPart → ℕ → ℕ
noted [] client = 0
noted (p ∷ parts) client = max (cond (p.client == client) p.number 0) (noted parts client)

-- what the condition says of the parts
abbrev pub Meets : Condition → BundleParts → Type 0
Meets BaseWidth p = length p.base ≡ length p.vector
Meets MarkWidth p = length p.mark ≡ length p.vector
Meets RowCount p = length p.rows ≡ length p.vector
Meets RowWidths p = All (λ row. length row ≡ length p.vector) p.rows
Meets Donor p = IsCentre (length p.vector) p.donor
Meets Depth p = p.depth ≤ MOST_DEPTH
Meets MarkOverBase p = IsOver p.mark p.base
Meets VectorOverMark p = IsOver p.vector p.mark
Meets ClientOrder p = IsStrictlySortedBy nat_cmp (map (λ c. c.client) p.clients)
Meets ClientRange p = All (λ c. (1 ≤ c.client) × (c.client ≤ MOST_CLIENTS)) p.clients
Meets ClientNumbers p = All (λ c. 1 ≤ c.number) p.clients
Meets ClientStamps p = All (λ c. IsCentre (length p.vector) c.stamp.centre) p.clients
Meets ObjectOrder p = IsStrictlySortedBy object_cmp (map (λ s. s.object) p.states)
Meets StateSorts p = All (λ s. sort_of s.state ≡ s.object.sort) p.states
Meets RestFit p = All (λ r. IsFit (length p.vector) r.tx) p.rest
Meets RestNumbers p = All (λ r. r.tx.dot.number ≤ noted p.clients r.tx.dot.client) p.rest
Meets RestDots p = Apart (λ (r : RestPart). r.tx.dot) p.rest
Meets RestStamps p = All (λ r. 1 ≤ length r.stamps) p.rest

-- all conditions, in the order in which they are tested
abbrev pub order : List Condition
order =
    BaseWidth ∷ MarkWidth ∷ RowCount ∷ RowWidths ∷ Donor ∷ Depth ∷ MarkOverBase ∷ VectorOverMark
    ∷ ClientOrder ∷ ClientRange ∷ ClientNumbers ∷ ClientStamps ∷ ObjectOrder ∷ StateSorts
    ∷ RestFit ∷ RestNumbers ∷ RestDots ∷ RestStamps ∷ []

-- the parts break the condition, and meet all before it in this order
pub record IsFirstBroken (parts : BundleParts) (condition : Condition) : Type 0 where
  pub before : List Condition
  pub after : List Condition
  pub place : order ≡ before ++ condition ∷ after
  pub met : All (λ other. Meets other parts) before
  pub broken : Meets condition parts → ⊥
