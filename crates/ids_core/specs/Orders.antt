-- The orders of dots, identifiers, marks, names and objects.
use Rattle.std.specs.Prelude.{◌≡◌, ℕ, List, refl}
use Rattle.std.specs.Bool.{one_answer}
use Rattle.std.specs.Ordering.{nat_cmp, on, then_cmp, ordering_then, is_eq, eq_by_cmp}
use Rattle.std.specs.declared.cmp.Ordering.{Ordering}
use Rattle.std.specs.declared.cmp.Ordering.TheVariants.{Less, Equal, Greater}
use Rattle.std.specs.Cmp.{IsTotalOrder, nat_cmp_total, Equal-is, tied_itself}
use Rattle.std.specs.Cmp.Lexicographic.{slice_cmp, nat_list_cmp_total}
use Rattle.std.specs.FinMap.{IsAntisymmetric, nat_cmp-IsAntisymmetric, slice_cmp-IsAntisymmetric}
use Rattle.std.proofs.Common.{ap, ◌∙◌, subst}
use Rattle.std.proofs.lemmas.Cmp.{then_total, on_total}
use Rattle.ids_core.specs.declared.ids.Dot.{Dot}
use Rattle.ids_core.specs.declared.ids.OpId.{OpId}
use Rattle.ids_core.specs.declared.ids.Mark.{Mark}
use Rattle.ids_core.specs.declared.object.Sort.{Sort}
use Rattle.ids_core.specs.declared.object.Sort.TheVariants.{Counter, Register, Set, Map}
use Rattle.ids_core.specs.declared.object.ObjectId.{ObjectId}
use Rattle.ids_core.specs.Ids.{same_sort, same_object}
use Rattle.ids_core.specs.Same.{same_sort-true, same_object-true, same_object-same}

-- by client, then number
abbrev pub dot_cmp : Dot → Dot → Ordering
dot_cmp = then_cmp (on (λ d. d.client) nat_cmp) (on (λ d. d.number) nat_cmp)

-- by dot, then place
abbrev pub id_cmp : OpId → OpId → Ordering
id_cmp = then_cmp (on (λ i. i.dot) dot_cmp) (on (λ i. i.place) nat_cmp)

-- by rank, then identifier
abbrev pub mark_cmp : Mark → Mark → Ordering
mark_cmp = then_cmp (on (λ m. m.rank) nat_cmp) (on (λ m. m.id) id_cmp)

-- by the bytes, from the first on
abbrev pub name_cmp : List ℕ → List ℕ → Ordering
name_cmp = slice_cmp nat_cmp

-- the place of a kind among the kinds
abbrev pub sort_number : Sort → ℕ
sort_number Counter = 0
sort_number Register = 1
sort_number Set = 2
sort_number Map = 3

-- by the place among the kinds
abbrev pub sort_cmp : Sort → Sort → Ordering
sort_cmp = on sort_number nat_cmp

-- by kind, then name
abbrev pub object_cmp : ObjectId → ObjectId → Ordering
object_cmp = then_cmp (on (λ o. o.sort) sort_cmp) (on (λ o. o.name) name_cmp)

-- ---- the orders are total

-- of dots
pub dot_cmp_total : IsTotalOrder dot_cmp
dot_cmp_total = then_total (on_total (λ d. d.client) nat_cmp_total) (on_total (λ d. d.number) nat_cmp_total)

-- of identifiers
pub id_cmp_total : IsTotalOrder id_cmp
id_cmp_total = then_total (on_total (λ i. i.dot) dot_cmp_total) (on_total (λ i. i.place) nat_cmp_total)

-- of marks
pub mark_cmp_total : IsTotalOrder mark_cmp
mark_cmp_total = then_total (on_total (λ m. m.rank) nat_cmp_total) (on_total (λ m. m.id) id_cmp_total)

-- of names
pub name_cmp_total : IsTotalOrder name_cmp
name_cmp_total = nat_list_cmp_total

-- of objects
pub object_cmp_total : IsTotalOrder object_cmp
object_cmp_total = then_total (on_total (λ o. o.sort) (on_total sort_number nat_cmp_total)) (on_total (λ o. o.name) name_cmp_total)

-- ---- what is equal in them is the same

-- two orders one after the other say equal only where both do
pub both_equal : (r s : Ordering) → ordering_then r s ≡ Equal → (r ≡ Equal) × (s ≡ Equal)
both_equal Less s e = cc
both_equal Equal s e = (refl, e)
both_equal Greater s e = cc

-- for dots
pub dot_cmp_same : IsAntisymmetric dot_cmp
dot_cmp_same x y e =
    let b = both_equal (nat_cmp x.client y.client) (nat_cmp x.number y.number) e in
    λ i. record { client = nat_cmp-IsAntisymmetric x.client y.client b.0 i; number = nat_cmp-IsAntisymmetric x.number y.number b.1 i }

-- for identifiers
pub id_cmp_same : IsAntisymmetric id_cmp
id_cmp_same x y e =
    let b = both_equal (dot_cmp x.dot y.dot) (nat_cmp x.place y.place) e in
    λ i. record { dot = dot_cmp_same x.dot y.dot b.0 i; place = nat_cmp-IsAntisymmetric x.place y.place b.1 i }

-- for marks
pub mark_cmp_same : IsAntisymmetric mark_cmp
mark_cmp_same x y e =
    let b = both_equal (nat_cmp x.rank y.rank) (id_cmp x.id y.id) e in
    λ i. record { rank = nat_cmp-IsAntisymmetric x.rank y.rank b.0 i; id = id_cmp_same x.id y.id b.1 i }

-- for names
pub name_cmp_same : IsAntisymmetric name_cmp
name_cmp_same = slice_cmp-IsAntisymmetric nat_cmp-IsAntisymmetric

-- kinds are the same exactly where they are equal in their order
pub same_sort-by_cmp : (a b : Sort) → same_sort a b ≡ eq_by_cmp sort_cmp a b
same_sort-by_cmp Counter Counter = refl
same_sort-by_cmp Register Register = refl
same_sort-by_cmp Set Set = refl
same_sort-by_cmp Map Map = refl
same_sort-by_cmp _ _ = refl

-- for objects
pub object_cmp_same : IsAntisymmetric object_cmp
object_cmp_same x y e =
    let b = both_equal (sort_cmp x.sort y.sort) (name_cmp x.name y.name) e in
    let sort = same_sort-true x.sort y.sort (same_sort-by_cmp x.sort y.sort ∙ ap is_eq b.0) in
    λ i. record { sort = sort i; name = name_cmp_same x.name y.name b.1 i }

-- objects are the same exactly where they are equal in their order
pub same_object-by_cmp : (a b : ObjectId) → same_object a b ≡ eq_by_cmp object_cmp a b
same_object-by_cmp a b = one_answer (same_object a b) (eq_by_cmp object_cmp a b) (same_object-true a b, same_object-same a b) (
  λ e. object_cmp_same a b ((Equal-is (object_cmp a b)).0 e),
  λ same. ap is_eq (subst (λ o. object_cmp a o ≡ object_cmp a a) same refl ∙ tied_itself object_cmp_total a),
)
