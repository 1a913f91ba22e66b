use Rattle.std.proofs.Common.{refl, subst}
use Rattle.top_call.specs.Runs.{IsTask, Refused}
use Rattle.top_call.proofs.threads.owed_by_threads.Goals as goal

pub returns-in_ok-owed-in-Play-clause-owed : goal.returns-in_ok-owed-in-Play-clause-owed
returns-in_ok-owed-in-Play-clause-owed g c = c.in_ok-owed-in-Play.ensures (g.S.Source.left c.args.source.now) (subst (IsTask c.args.form (g.S.Source.left c.args.source.now)) c.in-Play.is c.in_ok-script.ensures.task).1

pub returns-in_ok-owed-in-Refuse-clause-owed : goal.returns-in_ok-owed-in-Refuse-clause-owed
returns-in_ok-owed-in-Refuse-clause-owed g c =
    let task = subst (IsTask c.args.form (g.S.Source.left c.args.source.now)) c.in-Refuse.is c.in_ok-script.ensures.task in
    Refused (record {
      form = record { asked = c.args.form; reads = task.0; form = refl };
      status = c.in_ok-owed-in-Refuse.ensures.status;
      fault = c.in-Refuse.fault;
      refused = task.1;
      text = c.in_ok-owed-in-Refuse.ensures.text;
      script = c.in_ok-owed-in-Refuse.ensures.script;
      book = c.in_ok-owed-in-Refuse.ensures.book;
      disks = c.in_ok-owed-in-Refuse.ensures.disks;
      told = c.in_ok-owed-in-Refuse.ensures.told;
    })
