use Rattle.std.proofs.Common.{◌≡◌, take}
use Rattle.print_text.specs.Text.{last_section}
use Rattle.print_text.proofs.text.last_section.Given as goal

abbrev pub invariant-loop-log : goal.invariant-loop-log
invariant-loop-log l = l.last ≡ last_section (take l.log-index l.logs)
