-- The order of places is total.
use Rattle.std.specs.Cmp.{IsTotalOrder}
use Rattle.std.specs.FinMap.{IsAntisymmetric}
use Rattle.std.proofs.lemmas.Cmp.{then_total, on_total}
use Rattle.ids_core.specs.Orders.{both_equal, name_cmp, name_cmp_total, name_cmp_same, id_cmp, id_cmp_total, id_cmp_same}
use Rattle.tally_core.specs.Places.{place_cmp}

pub place_cmp_total : IsTotalOrder place_cmp
place_cmp_total = then_total (on_total (λ p. p.name) name_cmp_total) (on_total (λ p. p.id) id_cmp_total)

pub place_cmp_same : IsAntisymmetric place_cmp
place_cmp_same x y e =
    let b = both_equal (name_cmp x.name y.name) (id_cmp x.id y.id) e in
    λ i. record { name = name_cmp_same x.name y.name b.0 i; id = id_cmp_same x.id y.id b.1 i }
