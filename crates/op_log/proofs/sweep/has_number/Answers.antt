use Rattle.std.proofs.Common.{ltb, arith, rules}
use Rattle.std.proofs.lemmas.List.Sorted.{IsPartitionPoint-from_clause}
use Rattle.op_log.specs.declared.chains.Cell.{Cell}
use Rattle.op_log.proofs.Sweeping.{lacks_past, lacks_there, parted_by}
use Rattle.op_log.proofs.sweep.has_number.Goals as goal

pub returns-then-before-chain : goal.returns-then-before-chain
returns-then-before-chain c =
    let chain = c.args.chain.now in
    let point = IsPartitionPoint-from_clause (λ (y : Cell). ltb y.tx c.args.number) chain c.partition_point-before.result c.partition_point-before.ensures.partitioned (parted_by chain c.args.number c.requires) (λ a r q called. search rules) in
    lacks_there chain c.args.number c.partition_point-before.result c.index-chain-before.result c.requires point c.if-before-chain.true

pub returns-else-before-chain : goal.returns-else-before-chain
returns-else-before-chain c =
    let chain = c.args.chain.now in
    let point = IsPartitionPoint-from_clause (λ (y : Cell). ltb y.tx c.args.number) chain c.partition_point-before.result c.partition_point-before.ensures.partitioned (parted_by chain c.args.number c.requires) (λ a r q called. search rules) in
    lacks_past chain c.args.number c.partition_point-before.result c.requires point (λ d small same. let none = c.if-before-chain.false in omega (arith, none, small))
