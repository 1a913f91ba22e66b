use Rattle.std.proofs.Common.{◌∙◌}
use Rattle.run_book.proofs.Bases.{trail_there}
use Rattle.run_book.proofs.book.Book.trail.Goals as goal

pub returns-in-Some : goal.returns-in-Some
returns-in-Some c =
    let h = c.in-Some.ensures.lookup in
    c.as_slice-in-Some.ensures ∙ trail_there c.args.self.now c.as_slice.result.now c.args.centre c.from.result c.in-Some.trail.now c.as_slice.ensures c.requires c.from.ensures h.3.0 h.1
