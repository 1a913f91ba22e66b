use Rattle.std.proofs.Common.{◌≡◌, ◌+◌, [], ◌∷◌, ◌++◌, take, map, sym, ◌∙◌, ap}
use Rattle.std.proofs.lemmas.List.{take_more}
use Rattle.journal_file.specs.Journal.{opened}
use Rattle.journal_pair.specs.declared.entry.Entry.TheVariants.{Kept}
use Rattle.journal_pair.specs.Entries.{entry_bytes}
use Rattle.journal_pair.proofs.Taking.{opened_kept}
use Rattle.journal_pair.proofs.generations.checkpoint_size.Goals as goal

pub loop-item-preserved : goal.loop-item-preserved
loop-item-preserved g c =
    let spelled = g.T.Item.spelled in
    let i = c.loop-item.item-index in
    let items = c.args.checkpoint.now in
    let x = c.item-item.result in
    let all = opened (entry_bytes spelled) (map Kept (take i items)) in
    let once : c.push.new.self.items ≡ all ++ 1 ∷ [] = c.in_ok-push.ensures.items ∙ ap (λ l. l ++ 1 ∷ []) c.loop-item.invariant in
    let twice : c.push-in-loop-item.new.self.items ≡ (all ++ 1 ∷ []) ++ 1 ∷ [] = c.in_ok-push-2.ensures.items ∙ ap (λ l. l ++ 1 ∷ []) once in
    let more : take (i + 1) items ≡ take i items ++ x ∷ [] = take_more items i x c.loop-item-test.true ∙ ap (λ y. take i items ++ y ∷ []) (sym c.item-item.is) in
    c.in_ok-spell.ensures ∙ ap (λ l. l ++ spelled x) twice ∙ sym (opened_kept spelled (take i items) x) ∙ ap (λ l. opened (entry_bytes spelled) (map Kept l)) (sym more)
