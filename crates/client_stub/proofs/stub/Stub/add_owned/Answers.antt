use Rattle.std.proofs.Common.{Some, ◌∙◌, rules, subst}
use Rattle.std.specs.Prelude.{FitsSigned}
use Rattle.std.specs.Int.{w128}
use Rattle.std.proofs.lemmas.Int.{to_z-of_z}
use Rattle.dc_talk.specs.Acting.{acting}
use Rattle.client_stub.specs.BoundedSteps.{HasRead}
use Rattle.client_stub.specs.Playing.{beside}
use Rattle.client_stub.proofs.Growth.{on_err, cut_grown}
use Rattle.client_stub.proofs.BoundedSteps.{taking, taking_ends}
use Rattle.client_stub.proofs.stub.Stub.add_owned.Goals as goal

pub returns-in_err-add_within-in-Some-clause-short : goal.returns-in_err-add_within-in-Some-clause-short
returns-in_err-add_within-in-Some-clause-short g c =
    let adding = c.args.adding.now in
    let p = beside c.args.self.now (g.D.Door.shown c.args.door.now) c.args.log.now in
    let q = beside c.read_rights.new.self (g.D.Door.shown c.read_rights.new.door) c.read_rights.new.log in
    let reads : HasRead adding.word adding.share (Some c.in-Some.rights) p q = subst (λ rights. HasRead adding.word adding.share rights p q) c.in-Some.is c.in_ok-rights.ensures.reads in
    on_err _ (cut_grown p q (acting q.door c.add_within.new.log) reads.2.deeds reads.2.grows (c.in_err-add_within-in-Some.ensures.short q.door))

pub returns-in_ok-add_within-in-Some-clause-grows : goal.returns-in_ok-add_within-in-Some-clause-grows
returns-in_ok-add_within-in-Some-clause-grows g c =
    let adding = c.args.adding.now in
    let p = beside c.args.self.now (g.D.Door.shown c.args.door.now) c.args.log.now in
    let q = beside c.read_rights.new.self (g.D.Door.shown c.read_rights.new.door) c.read_rights.new.log in
    let r = beside c.add_within.new.self q.door c.add_within.new.log in
    let fits : FitsSigned w128 c.in-Some.rights = search rules in
    let reads : HasRead adding.word adding.share (Some c.in-Some.rights) p q = subst (λ rights. HasRead adding.word adding.share rights p q) c.in-Some.is c.in_ok-rights.ensures.reads in
    taking p q r adding.word adding.share adding.to adding.amount c.in-Some.rights reads (λ numbers is. c.in_ok-add_within-in-Some.ensures.adds numbers (to_z-of_z w128 c.in-Some.rights fits ∙ is) q.door)

pub returns-in-None-clause-grows : goal.returns-in-None-clause-grows
returns-in-None-clause-grows g c =
    let adding = c.args.adding.now in
    let p = beside c.args.self.now (g.D.Door.shown c.args.door.now) c.args.log.now in
    let q = beside c.read_rights.new.self (g.D.Door.shown c.read_rights.new.door) c.read_rights.new.log in
    taking_ends p q adding.word adding.share adding.to adding.amount (subst (λ rights. HasRead adding.word adding.share rights p q) c.in-None.is c.in_ok-rights.ensures.reads)
