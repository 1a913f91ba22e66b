use Rattle.std.proofs.Common.{◌≡◌, take}
use Rattle.run_table.proofs.Lines.{longest_of}
use Rattle.run_table.proofs.dealing.Dealt.longest.Given as goal

abbrev pub invariant-clients : goal.invariant-clients
invariant-clients l = l.most ≡ longest_of l.self (take l.line-index l.self.clients.items)
