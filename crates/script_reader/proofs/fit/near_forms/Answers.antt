use Rattle.std.proofs.Common.{◌∙◌, ap, sym}
use Rattle.script_reader.specs.Words.{texts_of}
use Rattle.script_reader.specs.Forms.{form_among}
use Rattle.script_reader.proofs.Sieving.{client_words, other_words}
use Rattle.script_reader.proofs.fit.near_forms.Goals as goal

pub returns-then-not-is_client_word : goal.returns-then-not-is_client_word
returns-then-not-is_client_word c =
    ap (λ some. form_among some (texts_of c.args.words.now)) c.forms_from.ensures
    ∙ other_words c.args.words.now _ _ c.in-len1-up.len_at_least (sym c.is_client_word.ensures ∙ c.if-not-is_client_word.true) c.first_letter.ensures

pub returns-in-len1-up-others : goal.returns-in-len1-up-others
returns-in-len1-up-others c =
    ap (λ some. form_among some (texts_of c.args.words.now)) c.client_forms.ensures
    ∙ client_words c.args.words.now _ _ c.in-len1-up-others.len_at_least (sym c.is_client_word.ensures ∙ c.if-not-is_client_word.false) c.first_letter-in-len1-up-others.ensures
