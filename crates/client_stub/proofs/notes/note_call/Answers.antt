use Rattle.std.proofs.Common.{[], ◌∷◌, refl, ap, ◌∙◌}
use Rattle.dc_talk.specs.declared.log.Deed.TheVariants.{Did}
use Rattle.dc_talk.specs.declared.calls.Outcome.{Outcome}
use Rattle.dc_talk.specs.Logs.{Logged, noted}
use Rattle.dc_talk.specs.Acting.{noted_all}
use Rattle.dc_talk.proofs.Acting.{cut_none, noted_then}
use Rattle.script_core.specs.Deeds.{told}
use Rattle.client_stub.proofs.Growth.{on_err, cut_noted}
use Rattle.client_stub.proofs.notes.note_call.Goals as goal

pub returns-in_err-outcome-clause-short : goal.returns-in_err-outcome-clause-short
returns-in_err-outcome-clause-short c = λ door. on_err _ (cut_none _ _ _ refl)

pub returns-in_err-push-clause-short : goal.returns-in_err-push-clause-short
returns-in_err-push-clause-short c = λ door. on_err _ (cut_none _ _ _ c.in_err-push.ensures.err)

pub returns-in_err-tell-clause-short : goal.returns-in_err-tell-clause-short
returns-in_err-tell-clause-short c = λ door. on_err _ (cut_noted _ _ _ _ _ c.in_ok-push.ensures.ok c.in_err-tell.ensures.err)

pub returns-clause-ok : goal.returns-clause-ok
returns-clause-ok c = c.in_ok-tell.ensures.ok ∙ (ap (λ (log : Logged). noted_all log (told c.args.line)) c.in_ok-push.ensures.ok ∙ (ap (λ (outcome : Outcome). noted_all (noted c.args.log.now (Did c.args.call.now outcome)) (told c.args.line)) c.in_ok-outcome.ensures ∙ noted_then c.args.log.now (Did c.args.call.now c.args.outcome ∷ []) (told c.args.line)))
