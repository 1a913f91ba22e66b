use Rattle.std.proofs.Common.{◌∙◌, codes, decimal}
use Rattle.clap.specs.Words.{found_of}
use Rattle.clap.proofs.WalkLemmas.{first_value-rows}
use Rattle.command_line.proofs.Matches.{some_inj}
use Rattle.std.proofs.lemmas.Option.{none-some}
use Rattle.command_line.proofs.matched.number.Goals as goal

pub returns-in-Some-clause-found : goal.returns-in-Some-clause-found
returns-in-Some-clause-found c num one most is =
    c.num_of.ensures.found num one most (some_inj c.in-Some.word.now (decimal num) (c.in-Some.ensures ∙ first_value-rows (found_of c.args.rows.now) (codes "num") ∙ is))

pub returns-in-None-clause-found : goal.returns-in-None-clause-found
returns-in-None-clause-found c num one most is =
    absurd (none-some (decimal num) (c.in-None.ensures ∙ first_value-rows (found_of c.args.rows.now) (codes "num") ∙ is))
