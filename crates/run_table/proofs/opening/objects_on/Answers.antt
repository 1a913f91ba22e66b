use Rattle.std.proofs.Common.{◌∙◌}
use Rattle.run_table.proofs.Objects.{one_more, none_more}
use Rattle.run_table.proofs.opening.objects_on.Goals as goal
use Rattle.run_table.proofs.opening.objects_on.Goals.{then-tapped-centre+in_ok-push, else-tapped-centre}

pub taps-preserved : goal.taps-preserved
taps-preserved c =
    let taps = c.args.taps.now in
    let place = c.taps.tapped-index in
    elim c.if-tapped-centre.branch [
      | then-tapped-centre+in_ok-push w ↦ w.objects-is ∙ (w.in_ok-push.ensures.ok ∙ one_more taps c.args.centre place c.tapped-item.result c.taps-test.true c.tapped-item.is w.if-tapped-centre.true c.taps.objects c.taps.invariant)
      | else-tapped-centre w ↦ w.objects-is ∙ none_more taps c.args.centre place c.tapped-item.result c.taps-test.true c.tapped-item.is w.if-tapped-centre.false c.taps.objects c.taps.invariant
    ]
