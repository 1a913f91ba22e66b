use Rattle.std.proofs.Common.{take}
use Rattle.run_table.specs.Dealing.{IsDealt}
use Rattle.run_table.proofs.dealing.deal_all.Given as goal

abbrev pub invariant-steps : goal.invariant-steps
invariant-steps l = IsDealt l.clients (take l.step-index l.steps) l.dealt
