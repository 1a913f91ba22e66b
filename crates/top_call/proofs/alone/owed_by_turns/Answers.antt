use Rattle.std.proofs.Common.{refl, subst}
use Rattle.top_call.specs.Runs.{IsTask, Refused}
use Rattle.top_call.proofs.Owing.{owed_given, task_asked}
use Rattle.top_call.proofs.alone.owed_by_turns.Goals as goal

pub returns-in_ok-owed-in-Play-clause-owed : goal.returns-in_ok-owed-in-Play-clause-owed
returns-in_ok-owed-in-Play-clause-owed g c given words left =
    let old = g.S.Source.left c.args.source.now in
    let task = task_asked c.args.form old c.in_ok-script.field-0 c.requires.reads c.in_ok-script.ensures.task in
    owed_given c.args.form given old c.in_ok-owed-in-Play.owed words left (c.in_ok-owed-in-Play.ensures old (subst (IsTask c.args.form old) c.in-Play.is task).1)

pub returns-in_ok-owed-in-Refuse-clause-owed : goal.returns-in_ok-owed-in-Refuse-clause-owed
returns-in_ok-owed-in-Refuse-clause-owed g c given words left =
    let old = g.S.Source.left c.args.source.now in
    let task = subst (IsTask c.args.form old) c.in-Refuse.is (task_asked c.args.form old c.in_ok-script.field-0 c.requires.reads c.in_ok-script.ensures.task) in
    owed_given c.args.form given old c.in_ok-owed-in-Refuse.owed words left (Refused (record {
      form = record { asked = c.args.form; reads = c.requires.reads; form = refl };
      status = c.in_ok-owed-in-Refuse.ensures.status;
      fault = c.in-Refuse.fault;
      refused = task.1;
      text = c.in_ok-owed-in-Refuse.ensures.text;
      script = c.in_ok-owed-in-Refuse.ensures.script;
      book = c.in_ok-owed-in-Refuse.ensures.book;
      disks = c.in_ok-owed-in-Refuse.ensures.disks;
      told = c.in_ok-owed-in-Refuse.ensures.told;
    }))
