use Rattle.std.proofs.Common.{refl, ap, ◌∙◌, arith}
use Rattle.std.specs.Prelude.{codes}
use Rattle.std.proofs.lemmas.Slice.Eq.{text_from_reads}
use Rattle.script_reader.specs.Leads.{verb_forms}
use Rattle.script_reader.proofs.leads.form_of_verb.Goals as goal

pub returns-in-connect-clause-one : goal.returns-in-connect-clause-one
unfolding verb_forms
returns-in-connect-clause-one c = ap verb_forms (text_from_reads c.args.verb.now (codes "connect") (omega arith) (omega arith, (omega arith, (omega arith, (omega arith, (omega arith, (omega arith, (omega arith, tt)))))))) ∙ refl

pub returns-in-begin-clause-one : goal.returns-in-begin-clause-one
unfolding verb_forms
returns-in-begin-clause-one c = ap verb_forms (text_from_reads c.args.verb.now (codes "begin") (omega arith) (omega arith, (omega arith, (omega arith, (omega arith, (omega arith, tt)))))) ∙ refl

pub returns-in-inc-clause-one : goal.returns-in-inc-clause-one
unfolding verb_forms
returns-in-inc-clause-one c = ap verb_forms (text_from_reads c.args.verb.now (codes "inc") (omega arith) (omega arith, (omega arith, (omega arith, tt)))) ∙ refl

pub returns-in-set-clause-one : goal.returns-in-set-clause-one
unfolding verb_forms
returns-in-set-clause-one c = ap verb_forms (text_from_reads c.args.verb.now (codes "set") (omega arith) (omega arith, (omega arith, (omega arith, tt)))) ∙ refl

pub returns-in-add-clause-one : goal.returns-in-add-clause-one
unfolding verb_forms
returns-in-add-clause-one c = ap verb_forms (text_from_reads c.args.verb.now (codes "add") (omega arith) (omega arith, (omega arith, (omega arith, tt)))) ∙ refl

pub returns-in-del-clause-one : goal.returns-in-del-clause-one
unfolding verb_forms
returns-in-del-clause-one c = ap verb_forms (text_from_reads c.args.verb.now (codes "del") (omega arith) (omega arith, (omega arith, (omega arith, tt)))) ∙ refl

pub returns-in-put-clause-one : goal.returns-in-put-clause-one
unfolding verb_forms
returns-in-put-clause-one c = ap verb_forms (text_from_reads c.args.verb.now (codes "put") (omega arith) (omega arith, (omega arith, (omega arith, tt)))) ∙ refl

pub returns-in-drop-clause-one : goal.returns-in-drop-clause-one
unfolding verb_forms
returns-in-drop-clause-one c = ap verb_forms (text_from_reads c.args.verb.now (codes "drop") (omega arith) (omega arith, (omega arith, (omega arith, (omega arith, tt))))) ∙ refl

pub returns-in-read-clause-one : goal.returns-in-read-clause-one
unfolding verb_forms
returns-in-read-clause-one c = ap verb_forms (text_from_reads c.args.verb.now (codes "read") (omega arith) (omega arith, (omega arith, (omega arith, (omega arith, tt))))) ∙ refl

pub returns-in-grant-clause-one : goal.returns-in-grant-clause-one
unfolding verb_forms
returns-in-grant-clause-one c = ap verb_forms (text_from_reads c.args.verb.now (codes "grant") (omega arith) (omega arith, (omega arith, (omega arith, (omega arith, (omega arith, tt)))))) ∙ refl

pub returns-in-give-clause-one : goal.returns-in-give-clause-one
unfolding verb_forms
returns-in-give-clause-one c = ap verb_forms (text_from_reads c.args.verb.now (codes "give") (omega arith) (omega arith, (omega arith, (omega arith, (omega arith, tt))))) ∙ refl

pub returns-in-take-clause-one : goal.returns-in-take-clause-one
unfolding verb_forms
returns-in-take-clause-one c = ap verb_forms (text_from_reads c.args.verb.now (codes "take") (omega arith) (omega arith, (omega arith, (omega arith, (omega arith, tt))))) ∙ refl

pub returns-in-rights-clause-one : goal.returns-in-rights-clause-one
unfolding verb_forms
returns-in-rights-clause-one c = ap verb_forms (text_from_reads c.args.verb.now (codes "rights") (omega arith) (omega arith, (omega arith, (omega arith, (omega arith, (omega arith, (omega arith, tt))))))) ∙ refl

pub returns-in-commit-clause-one : goal.returns-in-commit-clause-one
unfolding verb_forms
returns-in-commit-clause-one c = ap verb_forms (text_from_reads c.args.verb.now (codes "commit") (omega arith) (omega arith, (omega arith, (omega arith, (omega arith, (omega arith, (omega arith, tt))))))) ∙ refl

pub returns-in-abort-clause-one : goal.returns-in-abort-clause-one
unfolding verb_forms
returns-in-abort-clause-one c = ap verb_forms (text_from_reads c.args.verb.now (codes "abort") (omega arith) (omega arith, (omega arith, (omega arith, (omega arith, (omega arith, tt)))))) ∙ refl

pub returns-in-push-clause-one : goal.returns-in-push-clause-one
unfolding verb_forms
returns-in-push-clause-one c = ap verb_forms (text_from_reads c.args.verb.now (codes "push") (omega arith) (omega arith, (omega arith, (omega arith, (omega arith, tt))))) ∙ refl

pub returns-in-flush-clause-one : goal.returns-in-flush-clause-one
unfolding verb_forms
returns-in-flush-clause-one c = ap verb_forms (text_from_reads c.args.verb.now (codes "flush") (omega arith) (omega arith, (omega arith, (omega arith, (omega arith, (omega arith, tt)))))) ∙ refl

pub returns-in-refresh-clause-one : goal.returns-in-refresh-clause-one
unfolding verb_forms
returns-in-refresh-clause-one c = ap verb_forms (text_from_reads c.args.verb.now (codes "refresh") (omega arith) (omega arith, (omega arith, (omega arith, (omega arith, (omega arith, (omega arith, (omega arith, tt)))))))) ∙ refl

pub returns-in-again-clause-one : goal.returns-in-again-clause-one
unfolding verb_forms
returns-in-again-clause-one c = ap verb_forms (text_from_reads c.args.verb.now (codes "again") (omega arith) (omega arith, (omega arith, (omega arith, (omega arith, (omega arith, tt)))))) ∙ refl

pub returns-in-twice-clause-one : goal.returns-in-twice-clause-one
unfolding verb_forms
returns-in-twice-clause-one c = ap verb_forms (text_from_reads c.args.verb.now (codes "twice") (omega arith) (omega arith, (omega arith, (omega arith, (omega arith, (omega arith, tt)))))) ∙ refl

pub returns-in-tap-clause-one : goal.returns-in-tap-clause-one
unfolding verb_forms
returns-in-tap-clause-one c = ap verb_forms (text_from_reads c.args.verb.now (codes "tap") (omega arith) (omega arith, (omega arith, (omega arith, tt)))) ∙ refl
