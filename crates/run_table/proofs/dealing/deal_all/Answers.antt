use Rattle.std.proofs.Common.{◌≡◌, ◌+◌, take, [], ◌∷◌, ◌++◌, sym, ap, ◌∙◌, subst, arith}
use Rattle.std.proofs.lemmas.List.{take_more}
use Rattle.run_table.specs.Dealing.{IsDealt}
use Rattle.run_table.proofs.dealing.deal_all.Goals as goal

pub steps-preserved : goal.steps-preserved
steps-preserved c =
    let all = c.args.steps.now in
    let place = c.steps.step-index in
    let step = c.step-item.result in
    let taken : take (place + 1) all ≡ take place all ++ step ∷ [] = take_more all place step (omega (arith, c.steps-test.true)) ∙ ap (λ step. take place all ++ step ∷ []) (sym c.step-item.is) in
    subst (λ steps. IsDealt c.args.clients steps c.add.new.self) (sym taken) (c.in_ok-add.ensures c.args.clients (take place all) c.steps.invariant)
