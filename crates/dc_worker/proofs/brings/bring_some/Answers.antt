use Rattle.std.proofs.Common.{rules, ◌≡◌, [], ◌∷◌, ap}
use Rattle.std.specs.Option.{option_to_list}
use Rattle.dc_talk.specs.declared.links.Arrival.TheVariants as arrival
use Rattle.dc_talk.specs.declared.log.Deed.TheVariants.{Spoilt}
use Rattle.dc_talk.specs.Logs.{noted}
use Rattle.dc_talk.specs.Acting.{acting, IsCutShort}
use Rattle.dc_talk.proofs.Acting.{cut_none}
use Rattle.script_core.specs.Carrying.{route}
use Rattle.script_core.specs.Rounds.{Brings}
use Rattle.dc_worker.specs.Work.{AddsSuch}
use Rattle.dc_worker.proofs.Work.{on_turn, err_turn}
use Rattle.dc_worker.proofs.Bringing.{brings_absent, brings_spoilt}
use Rattle.dc_worker.proofs.brings.bring_some.Goals as goal

pub returns-in-None-clause-brings : goal.returns-in-None-clause-brings
returns-in-None-clause-brings g c = brings_absent (route c.args.from c.args.at) (option_to_list c.args.arrival) _ (ap option_to_list c.in-None.is)

pub returns-in-Some-Spoilt-clause-brings : goal.returns-in-Some-Spoilt-clause-brings
returns-in-Some-Spoilt-clause-brings g c =
    let door = g.D.Door.shown c.args.door.now in
    let item = c.in-Some-Spoilt.item in
    let why = c.in-Some-Spoilt.why in
    let items = option_to_list c.args.arrival in
    let is : items ≡ arrival.Spoilt item why ∷ [] = search rules in
    on_turn c.push.result (c.push.new.self ≡ noted c.args.log.now (Spoilt c.args.from item why)) (AddsSuch (Brings (route c.args.from c.args.at) items) (acting door c.args.log.now) (acting door c.push.new.self))
    (brings_spoilt (route c.args.from c.args.at) items door c.args.log.now c.push.new.self item why is)
    c.push.ensures.ok

pub returns-in-Some-Spoilt-clause-short : goal.returns-in-Some-Spoilt-clause-short
returns-in-Some-Spoilt-clause-short g c =
    let door = g.D.Door.shown c.args.door.now in
    err_turn c.push.result (c.push.new.self ≡ c.args.log.now) (IsCutShort (acting door c.args.log.now) (acting door c.push.new.self)) (cut_none door c.args.log.now c.push.new.self) c.push.ensures.err
