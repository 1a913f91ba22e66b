use Rattle.top_call.proofs.Owing.{owed_given, owed_status}
use Rattle.top_call.proofs.threads.run_with_threads.Goals as goal

pub returns-in-Ok-clause-ends : goal.returns-in-Ok-clause-ends
returns-in-Ok-clause-ends g c given words left taken = c.write_owed.ensures.ends given taken (owed_given c.args.form given (g.S.Source.left c.args.source.now) c.in-Ok.owed words left c.in-Ok.ensures.owed)

pub returns-in-Ok-clause-read : goal.returns-in-Ok-clause-read
returns-in-Ok-clause-read g c = λ four. absurd (c.write_owed.ensures.read (owed_status _ c.in-Ok.owed c.in-Ok.ensures.owed).0 four)

pub returns-in-Ok-clause-write : goal.returns-in-Ok-clause-write
returns-in-Ok-clause-write g c = c.write_owed.ensures.write (owed_status _ c.in-Ok.owed c.in-Ok.ensures.owed).1
