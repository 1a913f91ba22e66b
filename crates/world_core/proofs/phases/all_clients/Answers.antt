use Rattle.std.proofs.Common.{◌≡◌, ◌+◌, ◌∷◌, [], ◌++◌, ℕ, sym, ap, ◌∙◌, arith}
use Rattle.std.specs.List.{range_with_len}
use Rattle.std.proofs.lemmas.List.{map-id}
use Rattle.std.proofs.lemmas.List.FromFn.{map-range_with_len_more}
use Rattle.world_core.proofs.phases.all_clients.Goals as goal

pub numbers-preserved : goal.numbers-preserved
numbers-preserved c =
    let before = c.numbers.before in
    c.in_ok-push.ensures.items ∙ ((λ i. c.numbers.invariant i ++ (before + 1) ∷ []) ∙ sym (map-range_with_len_more (λ (client : ℕ). client) 1 before (before + 1) (omega arith)))

pub returns : goal.returns
returns c =
    let all : c.numbers.before ≡ c.args.clients = omega (arith, c.numbers-test.false, c.numbers.auto.before-end) in
    c.numbers.invariant ∙ (map-id (range_with_len 1 c.numbers.before) ∙ ap (λ count. range_with_len 1 count) all)
