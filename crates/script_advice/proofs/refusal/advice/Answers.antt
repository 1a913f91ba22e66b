-- The advice is its heading, the reason and the line.
use Rattle.std.proofs.Common.{◌≡◌, ◌++◌, List, ℕ, ap, ◌∙◌}
use Rattle.std.specs.Prelude.{string_bytes}
use Rattle.script_reader.specs.declared.fault.Cause.{Cause}
use Rattle.script_advice.specs.Advice.{first_of, line_told}
use Rattle.script_advice.specs.Shown.{escaped}
use Rattle.script_advice.proofs.refusal.advice.Goals as goal

joined : (cause : Cause) (all more told head bytes reason line own : List ℕ) → all ≡ more ++ line_told line cause → more ≡ told ++ escaped bytes → told ≡ head → bytes ≡ reason → line ≡ own
    → all ≡ head ++ escaped reason ++ line_told own cause
joined cause all more told head bytes reason line own whole part begun same lines = whole ∙ ((λ i. part i ++ line_told (lines i) cause) ∙ (λ i. begun i ++ escaped (same i) ++ line_told own cause))

pub returns : goal.returns
returns c = record {
  reason = string_bytes c.in_ok-reason.reason;
  parts = joined c.args.cause _ _ _ _ _ _ _ _ c.in_ok-push_line.ensures c.in_ok-push_escaped.ensures c.in_ok-told.ensures c.as_bytes.ensures.value (c.first_of.ensures ∙ ap first_of c.from_line-text.ensures);
}
