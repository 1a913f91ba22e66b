use Rattle.std.proofs.Common.{rules, ap, ap₂, codes, ◌≡◌, ◌∙◌, true}
use Rattle.std.proofs.lemmas.Result.{IfOk-weaker}
use Rattle.clap.specs.Simple.{app_of_fields}
use Rattle.clap.specs.Words.{App, app_of, with_subcommand}
use Rattle.command_line.specs.Apps.{bare_app, journal_app, number_app, play_app}
use Rattle.clap.specs.declared.builder.command.Command.{Command}
use Rattle.clap.specs.declared.builder.command.Command.TheOpen.{Command-F}
use Rattle.command_line.proofs.app.program.Goals as goal

-- a command whose words come without its name, and that has no help of its own
abbrev without_help : App → App
without_help app =
    record app { top = record app.top { no_binary_name = true; disable_help_flag = true; disable_help_subcommand = true } }

pub returns : goal.returns
returns c =
    let plain_is : app_of c.disable_help_subcommand-program.result ≡ without_help (app_of c.new.result) =
    ap app_of_fields (c.disable_help_subcommand-program.ensures
    ∙ ap (λ (f : Command-F Command). record f { disable_help_subcommand = true }) (c.disable_help_flag.ensures
    ∙ ap (λ (f : Command-F Command). record f { disable_help_flag = true }) c.no_binary_name.ensures)) in
    let bare_is : app_of c.disable_help_subcommand-program.result ≡ bare_app = plain_is ∙ ap without_help c.new.ensures.app in
    let first_is : app_of c.in_ok-subcommand.field-0 ≡ with_subcommand bare_app (play_app (codes "run")).top =
    c.in_ok-subcommand.ensures.shape (search rules) ∙ ap₂ with_subcommand bare_is (ap (λ (a : App). a.top) c.in_ok-run.ensures.app) in
    let second_is : app_of c.in_ok-subcommand-2.field-0 ≡ with_subcommand (with_subcommand bare_app (play_app (codes "run")).top) (play_app (codes "serial")).top =
    c.in_ok-subcommand-2.ensures.shape (search rules) ∙ ap₂ with_subcommand first_is (ap (λ (a : App). a.top) c.in_ok-serial.ensures.app) in
    let third_is : app_of c.in_ok-subcommand-3.field-0 ≡ with_subcommand (with_subcommand (with_subcommand bare_app (play_app (codes "run")).top) (play_app (codes "serial")).top) journal_app.top =
    c.in_ok-subcommand-3.ensures.shape (search rules) ∙ ap₂ with_subcommand second_is (ap (λ (a : App). a.top) c.new-journal.ensures.app) in
    let fourth_is : app_of c.in_ok-subcommand-4.field-0 ≡ with_subcommand (with_subcommand (with_subcommand (with_subcommand bare_app (play_app (codes "run")).top) (play_app (codes "serial")).top) journal_app.top) (number_app (codes "make")).top =
    c.in_ok-subcommand-4.ensures.shape (search rules) ∙ ap₂ with_subcommand third_is (ap (λ (a : App). a.top) c.in_ok-make.ensures.app) in
    IfOk-weaker c.subcommand-5.result _ _ (λ command h. h.shape (search rules)
    ∙ ap₂ with_subcommand fourth_is (ap (λ (a : App). a.top) c.in_ok-load.ensures.app)) c.subcommand-5.ensures
