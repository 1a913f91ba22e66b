use Rattle.std.proofs.Common.{sym, subst}
use Rattle.script_core.specs.Scripts.{header_of}
use Rattle.script_core.specs.Steps.{IsCount, IsStep, IsStepOf, IsOwn}
use Rattle.thread_run.proofs.Taking.{centres_many, stub_linked}
use Rattle.thread_run.proofs.sections.take_one.Goals as goal

pub step-requires-clause-fits : goal.step-requires-clause-fits
step-requires-clause-fits c =
    let script = c.args.script.now in
    let is : IsCount script.clients c.in-Client.client × IsStep script.n c.in-Client.step × IsOwn script.clients c.in-Client.client c.in-Client.step = subst (IsStepOf (header_of script)) c.in-Client.is c.requires.step in
    subst (λ n. IsStep n c.in-Client.step) (sym (centres_many script c.args.table.now c.requires.table)) is.1

pub step-requires-clause-linked : goal.step-requires-clause-linked
step-requires-clause-linked c =
    let script = c.args.script.now in
    let is : IsCount script.clients c.in-Client.client × IsStep script.n c.in-Client.step × IsOwn script.clients c.in-Client.client c.in-Client.step = subst (IsStepOf (header_of script)) c.in-Client.is c.requires.step in
    λ stub there. stub_linked script c.args.table.now c.in-Client.client stub c.requires.table c.requires.linked is.0 there

pub order-requires-clause-centres : goal.order-requires-clause-centres
order-requires-clause-centres c = sym (centres_many c.args.script.now c.args.table.now c.requires.table)
