use Rattle.std.proofs.Common.{refl}
use Rattle.top_call.specs.Runs.{given_by}
use Rattle.top_call.proofs.Owing.{owed_status}
use Rattle.top_call.proofs.alone.run_alone.Goals as goal

pub returns-in-Ok-clause-ends : goal.returns-in-Ok-clause-ends
returns-in-Ok-clause-ends g c = c.write_owed.ensures.ends (given_by c.args.words.now (g.S.Source.left c.args.source.now) (g.W.Sink.taken c.args.sink.now)) refl (c.in-Ok.ensures.owed (g.W.Sink.taken c.args.sink.now))

pub returns-in-Ok-clause-read : goal.returns-in-Ok-clause-read
returns-in-Ok-clause-read g c = λ four. absurd (c.write_owed.ensures.read (owed_status _ c.in-Ok.owed (c.in-Ok.ensures.owed (g.W.Sink.taken c.args.sink.now))).0 four)

pub returns-in-Ok-clause-write : goal.returns-in-Ok-clause-write
returns-in-Ok-clause-write g c = c.write_owed.ensures.write (owed_status _ c.in-Ok.owed (c.in-Ok.ensures.owed (g.W.Sink.taken c.args.sink.now))).1
