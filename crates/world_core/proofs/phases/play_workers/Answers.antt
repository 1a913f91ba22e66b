use Rattle.std.proofs.Common.{◌+◌, subst}
use Rattle.script_core.specs.declared.script.Script.{Script}
use Rattle.run_book.specs.Moves.{worker_turn}
use Rattle.world_core.specs.Runs.{MakesMoves}
use Rattle.world_core.proofs.Phasing.{counted_then}
use Rattle.world_core.proofs.phases.play_workers.Goals as goal

pub centres-preserved : goal.centres-preserved
centres-preserved c =
    let a = c.args.world.now in
    let mid = c.centres.world in
    counted_then (worker_turn c.args.number a.script.rounds c.args.turn) c.centres.before a mid c.play_centre.new.world c.centres.invariant
    (subst (λ (script : Script). MakesMoves (worker_turn c.args.number script.rounds c.args.turn (c.centres.before + 1)) mid c.play_centre.new.world) c.centres.invariant.script c.in_ok-play_centre.ensures)
