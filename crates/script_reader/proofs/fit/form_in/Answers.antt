use Rattle.std.proofs.Common.{◌∙◌}
use Rattle.script_reader.proofs.Counted.{form_counted}
use Rattle.script_reader.proofs.fit.form_in.Goals as goal

pub returns-in-Some-clause-count : goal.returns-in-Some-clause-count
returns-in-Some-clause-count c = form_counted c.args.words.now c.in-Some.found c.in-Some.ensures

pub returns-in-None-clause-count : goal.returns-in-None-clause-count
returns-in-None-clause-count c = form_counted c.args.words.now c.form_among.result (c.form_among.ensures ∙ c.near_forms.ensures)
