use Rattle.std.proofs.Common.{sym}
use Rattle.client_cache.proofs.Tables.{peeked, peeked_none}
use Rattle.client_cache.proofs.cache.Cache.peek.Goals as goal

pub returns-in-Some-clause-some : goal.returns-in-Some-clause-some
returns-in-Some-clause-some c = rw (← c.self.view_is, c.vector.ensures) (peeked c.args.object.now c.self.inside.table.entries c.in-Some.held.now c.len-size.ensures.valid.0 (sym c.in-Some.ensures))

pub returns-in-None-clause-none : goal.returns-in-None-clause-none
returns-in-None-clause-none c = rw (← c.self.view_is) (peeked_none c.args.object.now c.self.inside.table.entries c.len-size.ensures.valid.0 (sym c.in-None.ensures))
