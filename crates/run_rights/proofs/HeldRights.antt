-- In the book of a script no holder of a bounded counter falls below 0, and so neither does the counter.
use Rattle.std.proofs.Common.{ℕ, List, arith}
use Rattle.std.specs.Prelude.{pos, ◌≤ℤ◌}
use Rattle.std.specs.List.{range_with_len}
use Rattle.std.proofs.Math.Nat.{min-le_right}
use Rattle.list_core.proofs.Ranges.{In_from_range}
use Rattle.ids_core.specs.declared.ids.Dot.{Dot}
use Rattle.obj_bounded.specs.declared.cell_names.TheConstants.{MOST_HOLDERS}
use Rattle.obj_bounded.specs.CellNames.{IsHolder}
use Rattle.script_core.specs.declared.script.Script.{Script}
use Rattle.script_core.specs.Steps.{holders_of, IsCount}
use Rattle.tx_graph.specs.Nodes.{Closed}
use Rattle.run_book.specs.declared.book.Book.{Book}
use Rattle.run_book.specs.Setups.{setup_of}
use Rattle.run_book.specs.Graphs.{graph}
use Rattle.graph_rights.proofs.Accounts.{sum_at_least}
use Rattle.run_rights.specs.Holders.{holder_gains, holder_losses, holder_rights, IsPlayOf, value_over}
use Rattle.run_rights.proofs.Guarding.{bounded}
use Rattle.run_rights.proofs.HolderCells.{apart_losses, few_cells}
use Rattle.run_rights.proofs.ScriptSteps.{goes_by_steps}
use Rattle.run_rights.proofs.Steps.{checks_takings}

module _ (script : Script) (b : Book) (plays : IsPlayOf script b) where
  abbrev holders : ℕ
  holders = holders_of script.clients

  -- a holder of a counter in the script
  is_holder : (holder : ℕ) → IsCount holders holder → IsHolder holders holder
  is_holder holder count = record { low = count.0; high = count.1; most = min-le_right script.clients MOST_HOLDERS }

  -- its rights
  pub held : (name : List ℕ) (holder : ℕ) (set : List Dot) → IsCount holders holder → Closed (graph b (setup_of script)) set → pos 0 ≤ℤ holder_rights script b name holder set
  held name holder set count closed =
      let gains = holder_gains script name holder in
      let losses = holder_losses script name holder in
      let takes = checks_takings b (setup_of script) plays.fits holder gains losses (few_cells name holder holders (is_holder holder count)) (goes_by_steps script b name holder plays) in
      bounded b (setup_of script) plays.fits holder gains losses takes (apart_losses name holder holders) set closed

  -- and the sum of the rights of all holders
  pub value_held : (name : List ℕ) (set : List Dot) → Closed (graph b (setup_of script)) set → pos 0 ≤ℤ value_over script b name set
  value_held name set closed = sum_at_least (λ holder. holder_rights script b name holder set) (range_with_len 1 holders) (λ holder i.
      let range = In_from_range 1 holders holder i in
      held name holder set (range.0, omega (arith, range.1)) closed)
