use Rattle.std.proofs.Common.{◌∙◌, rules}
use Rattle.clap.specs.Words.{subcommand_rows_of}
use Rattle.command_line.proofs.Matches.{journal_form, load_form, make_form, name_is, no_form, run_form, serial_form}
use Rattle.command_line.proofs.matched.form_in.Goals as goal

pub returns-then-eq-clause-found : goal.returns-then-eq-clause-found
returns-then-eq-clause-found c form fits is =
    run_form form fits (subcommand_rows_of c.args.matches.now) is c.in-Some.name.now (search rules) (c.in-Some.ensures.name ∙ name_is c.args.matches.now)
    _ c.in-Some.ensures.rows c.has_trail.result c.has_trail.ensures

pub returns-then-eq-2-clause-found : goal.returns-then-eq-2-clause-found
returns-then-eq-2-clause-found c form fits is =
    serial_form form fits (subcommand_rows_of c.args.matches.now) is c.in-Some.name.now (search rules) (c.in-Some.ensures.name ∙ name_is c.args.matches.now)
    _ c.in-Some.ensures.rows c.has_trail-then-eq-2.result c.has_trail-then-eq-2.ensures

pub returns-then-eq-3-clause-found : goal.returns-then-eq-3-clause-found
returns-then-eq-3-clause-found c form fits is =
    journal_form form fits (subcommand_rows_of c.args.matches.now) is c.in-Some.name.now (search rules) (c.in-Some.ensures.name ∙ name_is c.args.matches.now)

pub returns-then-eq-4-clause-found : goal.returns-then-eq-4-clause-found
returns-then-eq-4-clause-found c form fits is =
    c.make_of.ensures.made ∙ make_form form fits (subcommand_rows_of c.args.matches.now) is c.in-Some.name.now (search rules) (c.in-Some.ensures.name ∙ name_is c.args.matches.now)
    _ c.in-Some.ensures.rows c.number.result c.number.ensures.found

pub returns-then-eq-5-clause-found : goal.returns-then-eq-5-clause-found
returns-then-eq-5-clause-found c form fits is =
    c.load_of.ensures.made ∙ load_form form fits (subcommand_rows_of c.args.matches.now) is c.in-Some.name.now (search rules) (c.in-Some.ensures.name ∙ name_is c.args.matches.now)
    _ c.in-Some.ensures.rows c.number-then-eq-5.result c.number-then-eq-5.ensures.found

pub returns-in-None-clause-found : goal.returns-in-None-clause-found
returns-in-None-clause-found c form fits is =
    absurd (no_form form fits (subcommand_rows_of c.args.matches.now) is (c.in-None.ensures.name ∙ name_is c.args.matches.now))
