use Rattle.std.proofs.Common.{◌∙◌, refl}
use Rattle.std.specs.Prelude.{Ok, Err}
use Rattle.script_reader.proofs.Straight.{inc_words}
use Rattle.script_reader.proofs.steps.put_inc.Goals as goal

pub returns-in-Ok-summand_in : goal.returns-in-Ok-summand_in
returns-in-Ok-summand_in c =
    c.put_sum.ensures
    ∙ inc_words c.args.header c.args.words.now _ (Ok c.in-Ok.client) (Ok c.in-Ok-summand_in.object) _ c.requires c.in-Ok.ensures c.in-Ok-summand_in.ensures refl

pub returns-in-Err-summand_in : goal.returns-in-Err-summand_in
returns-in-Err-summand_in c = inc_words c.args.header c.args.words.now _ (Ok c.in-Ok.client) (Err c.in-Err-summand_in.why) _ c.requires c.in-Ok.ensures c.in-Err-summand_in.ensures refl
