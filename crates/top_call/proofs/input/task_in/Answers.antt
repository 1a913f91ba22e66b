use Rattle.std.proofs.Common.{Err, refl, sym, ap, ◌∙◌}
use Rattle.script_reader.specs.Scripts.{script_read}
use Rattle.top_call.proofs.input.task_in.Goals as goal

pub returns-in-Ok : goal.returns-in-Ok
returns-in-Ok c = (c.in-Ok.ensures.range, ap script_read (sym c.deref.ensures.value) ∙ sym (c.in-Ok.ensures.exact (λ bad. cc)))

pub returns-in-Err-Refused : goal.returns-in-Err-Refused
returns-in-Err-Refused c = (refl, ap script_read (sym c.deref.ensures.value) ∙ (sym (c.in-Err-Refused.ensures.exact (λ bad. cc)) ∙ ap (λ fault. Err fault) c.in-Err-Refused.field-0-is))
