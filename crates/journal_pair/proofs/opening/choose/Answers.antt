use Rattle.std.proofs.Common.{rules, ◌≡◌}
use Rattle.journal_pair.specs.Entries.{generation}
use Rattle.journal_pair.proofs.Choosing.{chosen, faulty}
use Rattle.journal_pair.proofs.opening.choose.Goals as goal

pub returns-in-Some-Some-clause-chosen : goal.returns-in-Some-Some-clause-chosen
returns-in-Some-Some-clause-chosen g c =
    let x = c.in-Some-Some.x in
    let y = c.in-Some-Some.y in
    let xs_is : c.args.first.items ≡ generation x.mark x.checkpoint.items x.behind.items = search rules in
    let ys_is : c.args.second.items ≡ generation y.mark y.checkpoint.items y.behind.items = search rules in
    chosen x y c.args.first.items c.args.second.items xs_is ys_is c.later.result c.later.ensures.first c.later.ensures.second

pub returns-in-Some-Some-clause-fault : goal.returns-in-Some-Some-clause-fault
returns-in-Some-Some-clause-fault g c =
    let x = c.in-Some-Some.x in
    let y = c.in-Some-Some.y in
    let xs_is : c.args.first.items ≡ generation x.mark x.checkpoint.items x.behind.items = search rules in
    let ys_is : c.args.second.items ≡ generation y.mark y.checkpoint.items y.behind.items = search rules in
    faulty x y c.args.first.items c.args.second.items xs_is ys_is c.later.result c.later.ensures.same
