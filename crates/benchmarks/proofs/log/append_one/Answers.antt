use Rattle.std.proofs.Common.{◌+◌, ◌∙◌, sym, ap, subst}
use Rattle.tx_core.specs.declared.tx.Tx.{Tx}
use Rattle.op_log.specs.Logs.{LogView}
use Rattle.benchmarks.specs.Logs.{IsBelow}
use Rattle.benchmarks.proofs.Logs.{fresh, below_more}
use Rattle.benchmarks.proofs.log.append_one.Goals as goal

pub append-requires-clause-new : goal.append-requires-clause-new
append-requires-clause-new c = fresh c.args.number c.in_ok-tx.tx.dot c.args.log.now.items c.requires (ap (λ (tx : Tx). tx.dot.number) c.in_ok-tx.ensures ∙ c.from.ensures)

pub returns : goal.returns
returns c =
    let items = ap (λ (log : LogView). log.items) c.in_ok-append.ensures.ok in
    let number = ap (λ (tx : Tx). tx.dot.number) c.in_ok-tx.ensures ∙ c.from.ensures in
    subst (IsBelow (c.args.number + 1)) (sym items) (below_more c.args.number c.args.log.now.items _ c.requires number)
