use Rattle.std.proofs.Common.{◌≡◌, ap, ◌∙◌, subst}
use Rattle.std.specs.Prelude.{flat_map}
use Rattle.std.proofs.lemmas.Result.{on_ok_weaker, on_err_weaker}
use Rattle.tx_core.specs.States.{fold_of}
use Rattle.tx_core.specs.Operations.{ops_of}
use Rattle.client_pending.specs.Folding.{FoldsPart}
use Rattle.client_pending.proofs.pending.Pending.fold.Goals as goal

pub returns-clause-all : goal.returns-clause-all
returns-clause-all c =
    let o = c.args.object.now in
    on_ok_weaker c.fold_all.result (λ e. e ∙ ap (fold_of c.args.state.now) (c.get.ensures ∙ c.self.invariant.0 o ∙ ap (flat_map (ops_of o)) c.self.view_is)) c.fold_all.ensures.all

pub returns-clause-part : goal.returns-clause-part
returns-clause-part c =
    let o = c.args.object.now in
    let listed : c.get.result.now ≡ flat_map (ops_of o) c.args.self.now = c.get.ensures ∙ c.self.invariant.0 o ∙ ap (flat_map (ops_of o)) c.self.view_is in
    on_err_weaker c.fold_all.result (λ part. subst (λ ops. FoldsPart ops c.args.state.now c.fold_all.new.state) listed part) c.fold_all.ensures.part
