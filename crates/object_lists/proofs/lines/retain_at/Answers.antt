use Rattle.std.proofs.Common.{[], refl, sym, ap, ◌∙◌, subst}
use Rattle.std.specs.Fn.{CalledAt}
use Rattle.std.specs.Option.{IsSome}
use Rattle.object_lists.specs.Listed.{items_of, listed}
use Rattle.object_lists.proofs.Turned.{turned_apart, filtered_same}
use Rattle.object_lists.proofs.lines.retain_at.Goals as goal

pub returns-in-Some-clause-there : goal.returns-in-Some-clause-there
returns-in-Some-clause-there g c =
    let there = sym c.in-Some.ensures.value in
    let t = (c.get_mut.follows.holds c.retain.new.self).3 (subst IsSome (sym there) refl) in
    filtered_same (CalledAt g.F.FnMut) c.args.keeps _ _ _ _ (ap items_of there) (ap items_of t.1) c.retain.ensures

pub returns-in-Some-clause-apart : goal.returns-in-Some-clause-apart
returns-in-Some-clause-apart g c =
    let there = sym c.in-Some.ensures.value in
    let t = (c.get_mut.follows.holds c.retain.new.self).3 (subst IsSome (sym there) refl) in
    turned_apart _ _ _ _ t.0

pub returns-in-None-clause-there : goal.returns-in-None-clause-there
returns-in-None-clause-there g c =
    let none = ap items_of (sym c.in-None.ensures.value) in
    filtered_same (CalledAt g.F.FnMut) c.args.keeps _ _ [] [] none (ap (λ lines. listed lines.entries c.args.object.now) c.get_mut.follows.holds-at-none ∙ none) ([], c.args.keeps, refl, refl, refl)
