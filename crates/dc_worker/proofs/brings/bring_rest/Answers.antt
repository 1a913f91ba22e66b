use Rattle.dc_talk.specs.Acting.{acting, IsCutShort}
use Rattle.script_core.specs.Carrying.{route}
use Rattle.script_core.specs.Links.{arrivals}
use Rattle.script_core.specs.Rounds.{Brings}
use Rattle.dc_worker.specs.Work.{AddsSuch}
use Rattle.dc_worker.proofs.Work.{cut_then, on_turn, err_turn}
use Rattle.dc_worker.specs.Brings.{BringsPart}
use Rattle.dc_worker.proofs.Bringing.{brings_rest, brings_part_held}
use Rattle.dc_worker.proofs.brings.bring_rest.Goals as goal

pub returns-clause-brings : goal.returns-clause-brings
returns-clause-brings g c =
    let a = acting (g.D.Door.shown c.args.door.now) c.args.log.now in
    let b = acting (g.D.Door.shown c.bring.new.door) c.bring.new.log in
    let e = acting (g.D.Door.shown c.bring_held.new.door) c.bring_held.new.log in
    on_turn c.bring_held.result (AddsSuch (Brings (route c.args.from c.args.at) c.bring.new.inlet.held) b e) (AddsSuch (Brings (route c.args.from c.args.at) (arrivals c.args.inlet.now c.args.frames.items)) a e)
    (λ last. brings_rest (route c.args.from c.args.at) c.args.inlet.now c.args.frames.items c.bring.new.inlet a b e c.in_ok-bring.ensures.brings c.in_ok-bring.ensures.inlet last)
    c.bring_held.ensures.brings

pub returns-clause-short : goal.returns-clause-short
returns-clause-short g c =
    let a = acting (g.D.Door.shown c.args.door.now) c.args.log.now in
    let b = acting (g.D.Door.shown c.bring.new.door) c.bring.new.log in
    let e = acting (g.D.Door.shown c.bring_held.new.door) c.bring_held.new.log in
    err_turn c.bring_held.result (IsCutShort b e) (IsCutShort a e) (λ cut. cut_then a b e _ c.in_ok-bring.ensures.brings.adds cut) c.bring_held.ensures.short

pub returns-clause-part : goal.returns-clause-part
returns-clause-part g c =
    let a = acting (g.D.Door.shown c.args.door.now) c.args.log.now in
    let b = acting (g.D.Door.shown c.bring.new.door) c.bring.new.log in
    let e = acting (g.D.Door.shown c.bring_held.new.door) c.bring_held.new.log in
    err_turn c.bring_held.result (IsCutShort b e) (BringsPart (route c.args.from c.args.at) c.args.frames.items c.args.inlet.now c.bring_held.new.inlet a e)
    (λ cut. brings_part_held (route c.args.from c.args.at) c.args.inlet.now c.args.frames.items c.bring.new.inlet c.bring_held.new.inlet a b e c.in_ok-bring.ensures.brings c.in_ok-bring.ensures.inlet c.bring_held.ensures.inlet cut)
    c.bring_held.ensures.short
