use Rattle.std.proofs.Common.{◌∙◌, sym, eq-eqb, ne_eqb, ap}
use Rattle.std.specs.Prelude.{◌==◌, length, cond, Ok, Err}
use Rattle.std.proofs.lemmas.Bool.{cond-true, cond-false}
use Rattle.script_reader.specs.declared.fault.Cause.TheVariants.{Count}
use Rattle.script_reader.proofs.Sieving.{named_cut}
use Rattle.script_reader.proofs.fit.form_by_verb.Goals as goal

pub returns-then-parts-words : goal.returns-then-parts-words
returns-then-parts-words c =
    sym (named_cut c.in_ok-form-in-len2-up.form c.args.words.now _ c.in-len2-up.len_at_least (sym c.is_client_word.ensures ∙ c.if-not-is_client_word.false) c.in_ok-form-in-len2-up.ensures.one c.in_ok-form-in-len2-up.ensures.open
    ∙ cond-true _ _ _ (eq-eqb _ _ (ap length (sym c.parts.ensures) ∙ c.if-parts-words.true)))

pub returns-else-parts-words : goal.returns-else-parts-words
returns-else-parts-words c =
    sym (named_cut c.in_ok-form-in-len2-up.form c.args.words.now _ c.in-len2-up.len_at_least (sym c.is_client_word.ensures ∙ c.if-not-is_client_word.false) c.in_ok-form-in-len2-up.ensures.one c.in_ok-form-in-len2-up.ensures.open
    ∙ (ap (λ n. cond (n == length c.args.words.now) (Ok c.in_ok-form-in-len2-up.form) (Err Count)) (ap length (sym c.parts.ensures)) ∙ cond-false _ _ _ (ne_eqb _ _ c.if-parts-words.false)))
