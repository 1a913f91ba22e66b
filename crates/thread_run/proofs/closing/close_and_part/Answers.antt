use Rattle.std.proofs.Common.{◌≡◌, refl, sym, subst}
use Rattle.dc_links.specs.Links.{AreGiverRows, rows_of}
use Rattle.thread_run.specs.Closing.{HaveClosed}
use Rattle.thread_run.proofs.Halving.{giver_rows, halves_fit, all_parted}
use Rattle.thread_run.proofs.closing.close_and_part.Goals as goal

pub close_halves-requires-clause-givers : goal.close_halves-requires-clause-givers
close_halves-requires-clause-givers g c κs within =
    let same : c.deref.result.now ≡ c.in_ok-halves.field-0.givers.items = c.deref.ensures.value in
    subst (λ givers. AreGiverRows c.args.scene.links.now (rows_of givers)) (sym same)
    (giver_rows c.args.scene c.args.cast.crews.items c.in_ok-halves.field-0.givers.items c.requires.scene c.requires.crews c.requires.centres c.in_ok-halves.ensures.givers)

pub close_halves-requires-clause-halves : goal.close_halves-requires-clause-halves
close_halves-requires-clause-halves g c κs within = halves_fit c.args.scene c.args.cast.crews.items c.in_ok-halves.field-0.halves.items c.requires.crews c.in_ok-halves.ensures.halves

pub returns : goal.returns
returns g c =
    let same : c.deref.result.now ≡ c.in_ok-halves.field-0.givers.items = c.deref.ensures.value in
    let closed = subst (λ givers. HaveClosed c.args.scene (rows_of givers) c.part_clients.new.parts c.in_ok-halves.field-0.halves.items c.close_halves.new.parts) same c.in_ok-close_halves.ensures in
    all_parted c.args.scene _ _ c.args.cast c.new-parts.result c.add.new.self c.part_clients.new.parts c.close_halves.new.parts _ c.in_ok-halves.field-0 c.new-parts.ensures c.in_ok-add.ensures c.in_ok-part_clients.ensures c.in_ok-halves.ensures closed refl refl refl refl refl refl c.requires.centres c.requires.clients
