use Rattle.std.proofs.Common.{length, sym}
use Rattle.object_delta.specs.Passed.{IsPassed, passed_of}
use Rattle.object_delta.proofs.Passing.{passed_found, passed_later}
use Rattle.object_delta.proofs.passed.passed_before.Goals as goal

pub returns-in-Some-clause-first : goal.returns-in-Some-clause-first
returns-in-Some-clause-first c =
    let n = length c.args.at.now in
    let is = passed_found (IsPassed n c.args.log.now c.args.object.now) (passed_of c.args.kept.now.entries c.args.object.now) c.in-Some.passed.now (sym c.in-Some.ensures.value) (c.requires c.args.object.now) in
    passed_later c.args.at.now n c.args.log.now c.args.object.now c.in-Some.passed.now is (c.covers.ensures.entries.0 c.if-covers.true)
