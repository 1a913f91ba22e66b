use Rattle.std.proofs.Common.{◌≡◌, take}
use Rattle.dc_talk.specs.Acting.{acting}
use Rattle.phase_actors.specs.Taps.{shows_kept, HaveFed}
use Rattle.phase_actors.specs.Workers.{PlaysOperator}
use Rattle.phase_actors.proofs.operators.take_orders.Given as goal

abbrev pub invariant-steps : goal.invariant-steps
invariant-steps g l = record {
  place : g.D.Door.place l.door ≡ g.D.Door.place l.fn.door;
  number : l.number ≡ l.step-index;
  fed : HaveFed l.fn.feeders.items l.feeders.items;
  plays : PlaysOperator l.fn.scene.taps.now l.fn.scene.script.now.n l.fn.scene.number (shows_kept l.fn.scene.taps.now l.fn.feeders.items) (take l.step-index l.steps) (acting (g.D.Door.shown l.fn.door) l.fn.log) (acting (g.D.Door.shown l.door) l.log) (shows_kept l.fn.scene.taps.now l.feeders.items);
}
