use Rattle.std.proofs.Common.{[], refl, sym, subst}
use Rattle.dc_talk.specs.Acting.{acting}
use Rattle.dc_talk.proofs.Acting.{leaves_none}
use Rattle.client_stub.specs.Playing.{Operates}
use Rattle.client_stub.proofs.operator.operate.Goals as goal

-- a fault of a link asks nobody
pub returns-in-Link-clause-operates : goal.returns-in-Link-clause-operates
returns-in-Link-clause-operates g c =
    let a = acting (g.D.Door.shown c.args.door.now) c.args.log.now in
    subst (λ step. Operates c.args.n step a a) (sym c.in-Link.is) (record { deeds = []; such = refl; leaves = leaves_none a })

-- a feed that is left to the caller asks nobody
pub returns-in-Feed-clause-operates : goal.returns-in-Feed-clause-operates
returns-in-Feed-clause-operates g c =
    let a = acting (g.D.Door.shown c.args.door.now) c.args.log.now in
    subst (λ step. Operates c.args.n step a a) (sym c.in-Feed.is) (record { deeds = []; such = ([], refl); leaves = leaves_none a })
