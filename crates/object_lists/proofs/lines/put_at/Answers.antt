use Rattle.std.proofs.Common.{◌++◌, ◌∷◌, [], refl, sym, ap, ◌∙◌, subst}
use Rattle.std.specs.Option.{IsSome}
use Rattle.std.proofs.lemmas.Result.{on_ok_weaker, on_err_weaker}
use Rattle.object_lists.specs.Listed.{items_of, listed}
use Rattle.object_lists.proofs.Turned.{turned_apart}
use Rattle.object_lists.proofs.lines.put_at.Goals as goal

pub returns-in-Some-clause-there : goal.returns-in-Some-clause-there
returns-in-Some-clause-there g c =
    let there = sym c.in-Some.ensures.value in
    let t = (c.get_mut.follows.holds c.push.new.self).3 (subst IsSome (sym there) refl) in
    on_ok_weaker c.push.result (λ e. ap items_of t.1 ∙ e ∙ sym (ap (λ l. items_of l ++ c.args.item ∷ []) there)) c.push.ensures.ok

pub returns-in-Some-clause-apart : goal.returns-in-Some-clause-apart
returns-in-Some-clause-apart g c =
    let there = sym c.in-Some.ensures.value in
    let t = (c.get_mut.follows.holds c.push.new.self).3 (subst IsSome (sym there) refl) in
    turned_apart _ _ _ _ t.0

pub returns-in-Some-clause-err : goal.returns-in-Some-clause-err
returns-in-Some-clause-err g c =
    let there = sym c.in-Some.ensures.value in
    let t = (c.get_mut.follows.holds c.push.new.self).3 (subst IsSome (sym there) refl) in
    on_err_weaker c.push.result (λ e. ap items_of t.1 ∙ e ∙ sym (ap items_of there)) c.push.ensures.err

pub returns-in_ok-insert-in-None-clause-there : goal.returns-in_ok-insert-in-None-clause-there
returns-in_ok-insert-in-None-clause-there g c =
    ap items_of c.in_ok-insert-in-None.ensures.updates.1 ∙ c.in_ok-push-in-None.ensures.ok ∙ ap (λ items. items ++ c.args.item ∷ []) c.new-line.ensures ∙ ap (λ l. items_of l ++ c.args.item ∷ []) c.in-None.ensures.value

pub returns-in_ok-insert-in-None-clause-apart : goal.returns-in_ok-insert-in-None-clause-apart
returns-in_ok-insert-in-None-clause-apart g c k apart = turned_apart _ _ _ _ c.in_ok-insert-in-None.ensures.updates.0 k apart ∙ ap (λ lines. listed lines.entries k) c.get_mut.follows.holds-at-none
