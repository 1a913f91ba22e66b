use Rattle.std.proofs.Common.{◌≡◌, subst}
use Rattle.script_core.specs.declared.object_call.ObjectCall.{ObjectCall}
use Rattle.script_core.specs.Deeds.{calls_on}
use Rattle.client_stub.specs.Playing.{beside}
use Rattle.client_stub.specs.Errands.{GrowsBy}
use Rattle.client_stub.proofs.Calling.{called}
use Rattle.client_stub.proofs.stub.Stub.add.Goals as goal

pub returns-clause-adds : goal.returns-clause-adds
returns-clause-adds c = λ door.
    let p = beside c.args.self.now door c.args.log.now in
    let q = beside c.call.new.self door c.call.new.log in
    subst (λ (on : ObjectCall). GrowsBy (λ deeds. deeds ≡ calls_on c.args.self.now.client on) p q) c.inc_of.ensures (called p q c.inc_of.result c.in_ok-call.field-0 (c.in_ok-call.ensures.makes door))
