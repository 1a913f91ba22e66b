use Rattle.std.proofs.Common.{true, refl}
use Rattle.trail_journal.proofs.Groups.{asked_none, asked_more}
use Rattle.trail_journal.proofs.asking.ask_trail.Goals as goal

pub groups-init : goal.groups-init
groups-init g c = asked_none g.D.Disk.stands c.args.journal.now c.args.trail.now c.requires

pub groups-preserved : goal.groups-preserved
groups-preserved g c =
    let asked = c.in_ok-ask_group.ensures in
    asked_more g.D.Disk.stands c.args.journal.now c.groups.journal c.ask_group.new.journal c.args.trail.now c.groups.rest.now c.split_at.result.0.now c.split_at.result.1.now
    c.groups.invariant c.split_at.ensures.by_index.0 asked.numbers (asked.open (refl {a = true})) asked.stands
