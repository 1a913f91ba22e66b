use Rattle.std.proofs.Common.{◌≡◌, length, arith}
use Rattle.phase_actors.proofs.Passing.{door_width}
use Rattle.phase_actors.proofs.reporters.prune_through.Goals as goal

pub prune_rounds-requires : goal.prune_rounds-requires
prune_rounds-requires g c =
    let width : length c.new-door.result.passes ≡ c.args.scene.script.now.n = door_width c.args.scene.hosts.now.hosts c.args.caller c.args.scene.script.now.n c.new-door.result.passes c.requires.caller c.requires.scene.hosts c.new-door.ensures.passes in
    record { centre = (c.requires.centre.0, omega (arith, c.requires.centre.1, width)) }
