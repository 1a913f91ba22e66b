use Rattle.dc_talk.specs.Doors.{IsBehind}
use Rattle.benchmarks.proofs.taps.feeds.Given as goal

abbrev pub invariant-feeds : goal.invariant-feeds
invariant-feeds g l = IsBehind (g.D.Door.shown l.door) 1
