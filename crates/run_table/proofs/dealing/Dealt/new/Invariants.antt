use Rattle.run_table.proofs.Lines.{AreEmpty}
use Rattle.run_table.proofs.dealing.Dealt.new.Given as goal

abbrev pub invariant-clients : goal.invariant-clients
invariant-clients l = AreEmpty l._client l.lines.items
