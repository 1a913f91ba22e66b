use Rattle.std.proofs.Common.{◌∙◌, sym, subst}
use Rattle.ids_core.specs.Name.{IsName}
use Rattle.obj_bounded.specs.CellNames.{IsCell}
use Rattle.obj_bounded.proofs.CellNames.{cell_is_name, err_from}
use Rattle.obj_bounded.proofs.cell_names.spelled.Goals as goal

pub returns-clause-there : goal.returns-clause-there
returns-clause-there c =
    let cell : IsCell c.as_slice.result.now c.args.from c.args.to = subst (λ name. IsCell name c.args.from c.args.to) (sym c.as_slice.ensures.value) c.requires in
    λ none.
    c.read.ensures.refused.0 (err_from c.read.result (sym c.ok.ensures.variant ∙ none))
    (subst IsName (sym c.spell-end.ensures.written) (cell_is_name c.as_slice.result.now c.args.from c.args.to c.as_slice.ensures.name cell))
