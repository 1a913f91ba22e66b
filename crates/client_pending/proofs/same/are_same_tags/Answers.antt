use Rattle.std.proofs.Common.{sym, ◌∙◌}
use Rattle.std.proofs.lemmas.Bool.{OnTrue_from}
use Rattle.client_pending.proofs.Alike.{same_ids-true}
use Rattle.client_pending.proofs.same.are_same_tags.Goals as goal

pub returns : goal.returns
returns c = OnTrue_from c.eq.result _ (λ is. sym c.as_slice.ensures.value ∙ (same_ids-true c.as_slice.result.now c.as_slice-2.result.now (sym c.eq.ensures ∙ is) ∙ c.as_slice-2.ensures.value))
