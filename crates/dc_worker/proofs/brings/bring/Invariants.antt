use Rattle.std.proofs.Common.{◌≡◌}
use Rattle.dc_talk.specs.Acting.{acting}
use Rattle.script_core.specs.Carrying.{route}
use Rattle.dc_worker.proofs.Bringing.{BringsOn}
use Rattle.dc_worker.proofs.brings.bring.Given as goal

abbrev pub invariant-frames : goal.invariant-frames
invariant-frames g l = record {
  place : g.D.Door.place l.door ≡ g.D.Door.place l.fn.door;
  brings : BringsOn (route l.from l.at) l.fn.inlet l.fn.frames.items l.frame-iterator.rest.items l.inlet (acting (g.D.Door.shown l.fn.door) l.fn.log) (acting (g.D.Door.shown l.door) l.log);
}
