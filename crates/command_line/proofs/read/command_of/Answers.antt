use Rattle.std.proofs.Common.{◌∙◌, sym, ap, is_some, true≢false}
use Rattle.clap.specs.Words.{takes}
use Rattle.command_line.specs.Apps.{program_app}
use Rattle.command_line.proofs.Matches.{command_taken}
use Rattle.command_line.proofs.read.command_of.Goals as goal

-- src/read.rt:76:1
pub returns-in-None-clause-read : goal.returns-in-None-clause-read
returns-in-None-clause-read c form fits spells =
    let taken = c.in_ok-found.ensures.taken (ap (takes program_app) spells ∙ command_taken form fits) in
    absurd (true≢false (sym taken ∙ ap is_some c.in-None.is))
