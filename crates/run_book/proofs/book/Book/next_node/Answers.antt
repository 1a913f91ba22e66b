use Rattle.std.proofs.Common.{◌≡◌, ◌+◌, ◌∙◌, arith}
use Rattle.run_book.proofs.BareNodes.{next_is}
use Rattle.run_book.proofs.book.Book.next_node.Goals as goal

pub returns : goal.returns
returns c = λ setup s fit h range wide.
    let number : c.saturating_add.result ≡ s.own + 1 = omega (arith, c.saturating_add.ensures, h.own, range.own) in
    let rank : c.saturating_add-2.result ≡ s.clock + 1 = omega (arith, c.saturating_add-2.ensures, h.clock, range.clock) in
    next_is c.args.self.now setup c.args.replay.now s c.saturating_add.result c.saturating_add-2.result c.from_vec.result c.in_ok-edits.field-0 fit h wide number rank (c.from_vec.ensures ∙ c.in_ok-basis_of.ensures) (c.in_ok-edits.ensures s h)
