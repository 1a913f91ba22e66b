use Rattle.std.proofs.Common.{refl}
use Rattle.machine_trail.specs.History.{entry}
use Rattle.machine_trail.proofs.Histories.{kept_more}
use Rattle.machine_trail.proofs.machine.Kept.answer.Goals as goal

pub returns-clause-kept : goal.returns-clause-kept
returns-clause-kept g c =
    let m = g.M.Machine in
    kept_more m.reply m.stands m.settings c.args.self.now.machine c.step.new.self c.args.self.now.trail.entries c.push.new.self.entries (entry c.args.caller c.args.ask.now c.in_ok-kept.kept) c.requires c.in_ok-kept.ensures.same
    (c.in_ok-kept.ensures.one c.args.self.now.trail.entries c.requires.stands_for).0
    (c.in_ok-kept.ensures.after c.args.self.now.trail.entries c.args.caller c.requires.stands_for)
    (rw (c.in-Ok.ensures.added, c.in_ok-room.ensures.same, c.in_ok-copy.ensures) refl)
