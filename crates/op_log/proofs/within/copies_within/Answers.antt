use Rattle.std.proofs.Common.{map, ap, ◌∙◌}
use Rattle.std.proofs.lemmas.Result.{IfOk-weaker}
use Rattle.op_log.specs.declared.logged.Logged.{Logged}
use Rattle.op_log.proofs.Found.{found_within}
use Rattle.op_log.proofs.within.copies_within.Goals as goal

pub returns : goal.returns
returns c = IfOk-weaker c.copies_of.result _ _ (λ txs is. is ∙ ap (map (λ (x : Logged). x.tx)) (found_within c.args.base.now c.args.slots.now.entries c.args.places.now.keys c.in_ok-numbers.numbers.keys c.requires.keyed c.requires.rises c.requires.placed c.copies_of.ensures.ordered c.in_ok-numbers.ensures.there c.in_ok-numbers.ensures.all)) c.copies_of.ensures.copies
