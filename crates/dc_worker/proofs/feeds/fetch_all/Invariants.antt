use Rattle.std.proofs.Common.{◌≡◌, take}
use Rattle.dc_talk.specs.Acting.{acting}
use Rattle.dc_worker.specs.Work.{AddsSuch}
use Rattle.script_core.specs.Feeds.{FetchesAll}
use Rattle.dc_worker.proofs.feeds.fetch_all.Given as goal

abbrev pub invariant-objects : goal.invariant-objects
invariant-objects g l = record {
  place : g.D.Door.place l.door ≡ g.D.Door.place l.fn.door;
  fetched : AddsSuch (FetchesAll l.centre l.at (take l.object-index l.objects) l.states) (acting (g.D.Door.shown l.fn.door) l.fn.log) (acting (g.D.Door.shown l.door) l.log);
}
