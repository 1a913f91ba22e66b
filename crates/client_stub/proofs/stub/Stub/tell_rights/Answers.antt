use Rattle.std.proofs.Common.{◌≡◌, ap, ◌∙◌, Some, rules, subst}
use Rattle.std.specs.Prelude.{FitsSigned}
use Rattle.std.specs.Int.{w128}
use Rattle.std.proofs.lemmas.Int.{to_z-of_z}
use Rattle.dc_talk.specs.declared.line.Line.{Line}
use Rattle.dc_talk.specs.declared.line.Line.TheVariants.{RightsValue}
use Rattle.dc_talk.specs.declared.line.StepWord.TheVariants as step
use Rattle.dc_talk.specs.Acting.{acting, noted_all}
use Rattle.dc_talk.proofs.Acting.{cut_none}
use Rattle.script_core.specs.Deeds.{counter_of_share, told}
use Rattle.client_stub.specs.BoundedSteps.{HasRead}
use Rattle.client_stub.specs.Playing.{StubView, beside}
use Rattle.client_stub.proofs.Growth.{on_err, cut_grown}
use Rattle.client_stub.proofs.BoundedSteps.{rights_told, rights_end}
use Rattle.client_stub.proofs.stub.Stub.tell_rights.Goals as goal

pub returns-in_err-tell-clause-short : goal.returns-in_err-tell-clause-short
returns-in_err-tell-clause-short g c =
    let share = c.args.share.now in
    let p = beside c.args.self.now (g.D.Door.shown c.args.door.now) c.args.log.now in
    let q = beside c.read_rights.new.self (g.D.Door.shown c.read_rights.new.door) c.read_rights.new.log in
    let reads : HasRead step.Rights share (Some c.in-Some.rights) p q = subst (λ rights. HasRead step.Rights share rights p q) c.in-Some.is c.in_ok-rights.ensures.reads in
    on_err _ (cut_grown p q (acting q.door c.tell.new.log) reads.2.deeds reads.2.grows (cut_none _ _ _ c.in_err-tell.ensures.err))

pub returns-clause-grows : goal.returns-clause-grows
returns-clause-grows g c =
    let share = c.args.share.now in
    let p = beside c.args.self.now (g.D.Door.shown c.args.door.now) c.args.log.now in
    let q = beside c.read_rights.new.self (g.D.Door.shown c.read_rights.new.door) c.read_rights.new.log in
    let reads : HasRead step.Rights share (Some c.in-Some.rights) p q = subst (λ rights. HasRead step.Rights share rights p q) c.in-Some.is c.in_ok-rights.ensures.reads in
    let fits : FitsSigned w128 c.in-Some.rights = search rules in
    let client : c.client-client.result ≡ q.client.client = c.client-client.ensures ∙ ap (λ (s : StubView). s.client.client) c.self.view_is in
    let line : c.rights_line.result ≡ RightsValue c.client-client.result (counter_of_share share) c.in-Some.rights = c.rights_line.ensures ∙ ap (RightsValue c.client-client.result (counter_of_share share)) (to_z-of_z w128 c.in-Some.rights fits) in
    rights_told p q c.tell.new.log share c.in-Some.rights c.client-client.result reads client (c.in_ok-tell.ensures.ok ∙ ap (λ (line : Line). noted_all q.log (told (Some line))) line)

pub returns-in_default-clause-grows : goal.returns-in_default-clause-grows
returns-in_default-clause-grows g c =
    let share = c.args.share.now in
    let p = beside c.args.self.now (g.D.Door.shown c.args.door.now) c.args.log.now in
    let q = beside c.read_rights.new.self (g.D.Door.shown c.read_rights.new.door) c.read_rights.new.log in
    rights_end p q share (subst (λ rights. HasRead step.Rights share rights p q) c.in_default.is c.in_ok-rights.ensures.reads)
