use Rattle.std.proofs.Common.{◌≡◌, length, arith}
use Rattle.phase_actors.proofs.Passing.{door_width}
use Rattle.phase_actors.proofs.reporters.report_through.Goals as goal

pub report_rounds-requires-clause-centres : goal.report_rounds-requires-clause-centres
report_rounds-requires-clause-centres g c = door_width c.args.scene.hosts.now.hosts c.args.caller c.args.scene.script.now.n c.new-door.result.passes c.requires.caller c.requires.scene.hosts c.new-door.ensures.passes

pub report_rounds-requires-clause-centre : goal.report_rounds-requires-clause-centre
report_rounds-requires-clause-centre g c =
    let width : length c.new-door.result.passes ≡ c.args.scene.script.now.n = door_width c.args.scene.hosts.now.hosts c.args.caller c.args.scene.script.now.n c.new-door.result.passes c.requires.caller c.requires.scene.hosts c.new-door.ensures.passes in
    (c.requires.centre.0, omega (arith, c.requires.centre.1, width))
