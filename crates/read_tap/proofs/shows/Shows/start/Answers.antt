use Rattle.std.proofs.Common.{arith}
use Rattle.read_tap.proofs.Fronts.{read_at}
use Rattle.read_tap.proofs.shows.Shows.start.Goals as goal

pub one-requires : goal.one-requires
one-requires c =
    let tokens = c.self.inside.tokens.items in
    c.self.invariant.0.each 0 c.index.result.now (read_at tokens 0 c.index.result.now (omega arith) c.index.ensures)
