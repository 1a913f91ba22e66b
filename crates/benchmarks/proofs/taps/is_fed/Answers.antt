use Rattle.dc_talk.proofs.Acting.{behind_later}
use Rattle.benchmarks.proofs.taps.is_fed.Goals as goal

pub returns-in-Ok : goal.returns-in-Ok
returns-in-Ok g c = behind_later (g.D.Door.shown c.args.door.now) (g.D.Door.shown c.feed.new.door) 1 c.in-Ok.ensures.feeds.adds.leaves.door.same c.requires

pub returns-in-Err : goal.returns-in-Err
returns-in-Err g c = behind_later (g.D.Door.shown c.args.door.now) (g.D.Door.shown c.feed.new.door) 1 c.in-Err.ensures.short.door.same c.requires
