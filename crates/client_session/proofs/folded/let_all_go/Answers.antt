use Rattle.std.proofs.Common.{All, false, ◌≡◌, subst}
use Rattle.std.proofs.lemmas.List.{take_all}
use Rattle.ids_core.specs.Ids.{same_object}
use Rattle.client_session.proofs.Found.{one_let_go}
use Rattle.client_session.proofs.folded.let_all_go.Goals as goal

pub loop-update-preserved : goal.loop-update-preserved
loop-update-preserved c = one_let_go c.args.updates.now c.loop-update.update-index c.update-item.result c.args.folded.now.entries c.loop-update.folded.entries c.let_go.new.folded.entries c.loop-update-test.true c.update-item.is c.loop-update.invariant c.let_go.ensures.gone c.let_go.ensures.apart

pub returns : goal.returns
returns c o seen there =
    let b = c.loop-update.invariant o seen there in
    (b.0, subst (All (λ u. same_object u.object o ≡ false)) (take_all c.loop-update.update-index c.args.updates.now c.loop-update-test.false) b.1)
