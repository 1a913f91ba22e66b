use Rattle.std.proofs.Common.{◌∙◌, true, false, codes}
use Rattle.clap.specs.Words.{found_of}
use Rattle.clap.proofs.WalkLemmas.{one_text-rows}
use Rattle.command_line.proofs.matched.has_trail.Goals as goal

-- src/matched.rt:13:1
pub returns : goal.returns
returns c true is = c.get_flag.ensures.value (one_text-rows (found_of c.args.rows.now) (codes "trail") ∙ is)
returns c false is = c.get_flag.ensures.other (one_text-rows (found_of c.args.rows.now) (codes "trail") ∙ is)
