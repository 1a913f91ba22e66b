use Rattle.std.proofs.Common.{◌∙◌, take}
use Rattle.std.specs.Prelude.{codes}
use Rattle.script_reader.proofs.CellTests.{bytes_eq-turned}
use Rattle.script_reader.proofs.shares.is_cell_name.Goals as goal

pub returns : goal.returns
returns c = c.starts_with.ensures.value ∙ bytes_eq-turned (codes "bc_") (take 3 c.args.name.now)
