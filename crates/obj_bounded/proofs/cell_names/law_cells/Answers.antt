use Rattle.obj_bounded.proofs.CellNames.{cell_is_name, one_cell, cells_apart}
use Rattle.obj_bounded.proofs.cell_names.law_cells.Goals as goal

pub returns : goal.returns
returns c = record { names = cell_is_name; one = one_cell; apart = cells_apart }
