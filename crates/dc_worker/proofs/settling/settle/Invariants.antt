use Rattle.std.proofs.Common.{◌≡◌, ◌-◌, ◌^◌, length}
use Rattle.dc_talk.specs.Acting.{acting}
use Rattle.dc_worker.proofs.Passing.{SettlesOn}
use Rattle.dc_worker.proofs.settling.settle.Given as goal

abbrev pub invariant-passes : goal.invariant-passes
invariant-passes g l = record {
  place : g.D.Door.place l.door ≡ g.D.Door.place l.fn.door;
  settles : SettlesOn l.n l.passes (acting (g.D.Door.shown l.fn.door) l.fn.log) (acting (g.D.Door.shown l.door) l.log);
}

abbrev pub decreases-passes : goal.decreases-passes
decreases-passes g l = 2 ^ 62 - length ((g.D.Door.shown l.door).made 2)
