use Rattle.std.proofs.Common.{◌++◌, ◌∷◌, [], cond, sym, ap, ◌∙◌}
use Rattle.run_book.specs.Graphs.{basis}
use Rattle.run_book.specs.ReadBases.{in_order}
use Rattle.run_book.proofs.ReadBases.{stamped_basis}
use Rattle.run_book.proofs.book.Book.push_basis.Goals as goal

pub returns-in_ok-push : goal.returns-in_ok-push
returns-in_ok-push c = λ setup s fit shows wide lists.
    let b = c.args.self.now in
    let told = c.args.bases.now.items in
    c.in_ok-push.ensures.items
    ∙ ap (λ dots. told ++ dots ∷ []) (c.in_ok-ordered_basis.ensures ∙ ap in_order (stamped_basis b setup c.args.stamped.now c.args.replay.now s fit shows wide lists))
    ∙ ap (λ tells. told ++ cond tells (in_order (basis b s) ∷ []) []) (sym c.if-tells_value.true ∙ c.tells_value.ensures)
