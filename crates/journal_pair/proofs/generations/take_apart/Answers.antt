use Rattle.std.proofs.Common.{◌≡◌, ◌<◌, ◌++◌, ◌∷◌, length, map, rules, ◌∙◌, ap}
use Rattle.journal_pair.specs.declared.entry.Entry.TheVariants.{Generation, Kept, Behind}
use Rattle.journal_pair.specs.Entries.{generation}
use Rattle.journal_pair.proofs.Taking.{second, misplaced, no_generation}
use Rattle.journal_pair.proofs.generations.take_apart.Goals as goal

pub returns-in-Generation-clause-none : goal.returns-in-Generation-clause-none
returns-in-Generation-clause-none g c = λ _ mark checkpoint behind is.
    let m = c.in-Some-Generation.mark in
    let kept = c.entries.checkpoint.items in
    let late = c.entries.behind.items in
    let left = c.next-in-entries.new.self.rest.items in
    let items : c.entries.entry-iterator.rest.items ≡ Generation c.in-Generation.field-0 ∷ left = c.in-Some.ensures.steps.0 ∙ ap (λ e. e ∷ left) c.in-Generation.is in
    let begins = c.entries.invariant ∙ ap (λ l. generation m kept late ++ l) items in
    no_generation m ((map Kept kept ++ map Behind late) ++ Generation c.in-Generation.field-0 ∷ left) c.args.entries.items begins (second kept late c.in-Generation.field-0 left) mark checkpoint behind is

pub returns-then-not-is_empty-clause-none : goal.returns-then-not-is_empty-clause-none
returns-then-not-is_empty-clause-none g c = λ _ mark checkpoint behind is.
    let m = c.in-Some-Generation.mark in
    let kept = c.entries.checkpoint.items in
    let late = c.entries.behind.items in
    let left = c.next-in-entries.new.self.rest.items in
    let some : 0 < length late = search rules in
    let items : c.entries.entry-iterator.rest.items ≡ Kept c.in-Kept.item ∷ left = c.in-Some.ensures.steps.0 ∙ ap (λ e. e ∷ left) c.in-Kept.is in
    let begins = c.entries.invariant ∙ ap (λ l. generation m kept late ++ l) items in
    no_generation m ((map Kept kept ++ map Behind late) ++ Kept c.in-Kept.item ∷ left) c.args.entries.items begins (misplaced kept late c.in-Kept.item left some) mark checkpoint behind is
