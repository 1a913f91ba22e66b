use Rattle.std.proofs.Common.{subst}
use Rattle.std.specs.Option.{option_to_list}
use Rattle.dc_talk.specs.Acting.{acting}
use Rattle.script_core.specs.Carrying.{route}
use Rattle.script_core.specs.Rounds.{Brings}
use Rattle.dc_worker.specs.Work.{AddsSuch}
use Rattle.dc_worker.proofs.Work.{on_turn}
use Rattle.dc_worker.proofs.brings.bring_held.Goals as goal

pub returns-clause-brings : goal.returns-clause-brings
returns-clause-brings g c =
    let a = acting (g.D.Door.shown c.args.door.now) c.args.log.now in
    let e = acting (g.D.Door.shown c.bring_some.new.door) c.bring_some.new.log in
    on_turn c.bring_some.result (AddsSuch (Brings (route c.args.from c.args.at) (option_to_list c.release-held.result)) a e) (AddsSuch (Brings (route c.args.from c.args.at) c.args.inlet.now.held) a e)
    (λ last. subst (λ held. AddsSuch (Brings (route c.args.from c.args.at) held) a e) c.release-held.ensures.held last)
    c.bring_some.ensures.brings
