use Rattle.std.proofs.Common.{◌≡◌, ◌+◌, [], ◌∷◌, ◌++◌, take, sym, ◌∙◌, ap}
use Rattle.std.proofs.lemmas.List.{take_more}
use Rattle.journal_file.specs.Journal.{opened}
use Rattle.journal_file.proofs.Items.{opened-push}
use Rattle.journal_file.proofs.append.spell_all.Goals as goal

pub loop-item-preserved : goal.loop-item-preserved
loop-item-preserved g c =
    let spelled = g.T.Item.spelled in
    let i = c.loop-item.item-index in
    let items = c.args.items.now in
    let x = c.item-item.result in
    let pushed : c.push.new.self.items ≡ opened spelled (take i items) ++ 1 ∷ [] = c.in_ok-push.ensures.items ∙ ap (λ l. l ++ 1 ∷ []) c.loop-item.invariant in
    let more : take (i + 1) items ≡ take i items ++ x ∷ [] = take_more items i x c.loop-item-test.true ∙ ap (λ y. take i items ++ y ∷ []) (sym c.item-item.is) in
    c.in_ok-spell.ensures ∙ ap (λ l. l ++ spelled x) pushed ∙ sym (opened-push spelled (take i items) x) ∙ ap (opened spelled) (sym more)
