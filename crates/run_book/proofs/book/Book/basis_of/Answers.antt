use Rattle.std.proofs.Common.{◌++◌, ◌+◌, ◌∷◌, [], ap, ◌∙◌}
use Rattle.run_book.specs.Basis.{stamped_cover}
use Rattle.run_book.proofs.Bases.{own_dots_more}
use Rattle.run_book.proofs.book.Book.basis_of.Goals as goal

pub loop-before-preserved : goal.loop-before-preserved
loop-before-preserved c =
    let r = c.args.replay.now in
    c.in_ok-push.ensures.items ∙ (ap (λ l. l ++ record { client = r.client; number = c.loop-before.before + 1 } ∷ []) c.loop-before.invariant ∙ own_dots_more (stamped_cover c.args.self.now r.vector) r.client c.loop-before.before)
