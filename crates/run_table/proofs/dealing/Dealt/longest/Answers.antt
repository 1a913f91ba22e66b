use Rattle.std.proofs.Common.{◌≤◌, length, ap, ◌∙◌, arith}
use Rattle.std.proofs.lemmas.List.{take_all}
use Rattle.run_table.proofs.Lines.{longest_of, longest_is}
use Rattle.run_table.proofs.dealing.Dealt.longest.Goals as goal

pub returns : goal.returns
returns c = λ clients section is.
    let all : length c.args.self.now.clients.items ≤ c.clients.line-index = omega (arith, c.clients-test.false) in
    c.clients.invariant ∙ (ap (longest_of c.args.self.now) (take_all c.clients.line-index c.args.self.now.clients.items all) ∙ longest_is clients section c.args.self.now is)
