use Rattle.std.proofs.Common.{inl, inr, ⊎_elim, ap, ◌∙◌, subst}
use Rattle.list_core.specs.Members.{In}
use Rattle.op_log.proofs.sweep.sweep_centre.Goals as goal

pub loop-place-preserved : goal.loop-place-preserved
loop-place-preserved c = record {
  may = c.sweep_number.ensures.may;
  kept = λ o swept. c.sweep_number.ensures.kept o (c.loop-place.invariant.kept o swept);
  swept = λ p i. ⊎_elim
      (λ j. ⊎_elim
      (λ same. inr (λ x there number u k. c.sweep_number.ensures.swept x there (number ∙ ap (λ p. p.number) same) u k))
      (λ later. inl later)
      (subst (λ l. In p l) c.in-Some.ensures.steps j))
      (λ done. inr (λ x there number u k. c.sweep_number.ensures.kept u.object (done x there number u k)))
      (c.loop-place.invariant.swept p i);
}

pub returns-clause-swept : goal.returns-clause-swept
returns-clause-swept c p i = ⊎_elim (λ j. absurd (subst (λ l. In p l) c.in-None.ensures.steps.0 j)) (λ done. done) (c.loop-place.invariant.swept p i)
