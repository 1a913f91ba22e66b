use Rattle.std.proofs.Common.{◌≡◌, length, ap, ◌∙◌}
use Rattle.std.specs.Prelude.{IfOk}
use Rattle.std.proofs.lemmas.Result.{IfOk-weaker}
use Rattle.ids_core.specs.declared.limits.TheConstants.{MOST_CLIENTS}
use Rattle.dup_guard.proofs.Parts.{AreOnly, only_noted}
use Rattle.dup_guard.proofs.guard.Guard.parts.Goals as goal

pub returns : goal.returns
returns c =
    let long : length c.deref.result.now ≡ MOST_CLIENTS = ap length c.deref.ensures.value ∙ c.self.invariant in
    let told : IfOk c.parts_of.result (λ parts. AreOnly c.args.self.now parts.items) = IfOk-weaker c.parts_of.result _ _ (λ parts made. only_noted c.args.self.now c.deref.result.now parts.items (c.deref.ensures.value ∙ c.self.view_is) long made) c.parts_of.ensures in
    record {
      parts = IfOk-weaker c.parts_of.result _ _ (λ parts h. h.parts_are) told;
      noted = IfOk-weaker c.parts_of.result _ _ (λ parts h. h.noted) told;
      only = IfOk-weaker c.parts_of.result _ _ (λ parts h. h.only) told;
    }
