-- The command line as `clap` sees it.
use Rattle.std.specs.Prelude.{ℕ, List, Some, true, codes}
use Rattle.clap.specs.Words.{App, Rule, new_app, new_rule, with_rule, with_subcommand}
use Rattle.clap.specs.declared.builder.action.ArgAction.TheVariants.{Set, SetTrue}

-- the flag `--trail`
abbrev pub trail_rule : Rule
trail_rule = record (new_rule (codes "trail")) { long = Some (codes "trail"); action = Some SetTrue }

-- the value NUM
abbrev pub num_rule : Rule
num_rule = record (new_rule (codes "num")) { required = true; action = Some Set }

-- a command of this name that plays a script, with its flag
abbrev pub play_app : List ℕ → App
play_app name = with_rule (new_app name) trail_rule

-- a command of this name that takes a number
abbrev pub number_app : List ℕ → App
number_app name = with_rule (new_app name) num_rule

-- the command `journal`, with nothing behind it
abbrev pub journal_app : App
journal_app = new_app (codes "journal")

-- the program, whose words come without its name
abbrev pub bare_app : App
bare_app = let app = new_app (codes "swift_sim") in
    record app { top = record app.top { no_binary_name = true; disable_help_flag = true; disable_help_subcommand = true } }

-- the program with its five subcommands
abbrev pub program_app : App
program_app = with_subcommand (with_subcommand (with_subcommand (with_subcommand (with_subcommand bare_app (play_app (codes "run")).top) (play_app (codes "serial")).top) journal_app.top) (number_app (codes "make")).top) (number_app (codes "load")).top
