use Rattle.std.proofs.Common.{rules, ◌++◌}
use Rattle.std.specs.Option.{option_to_list}
use Rattle.dc_talk.specs.Acting.{acting, IsCutShort}
use Rattle.script_core.specs.Carrying.{route}
use Rattle.script_core.specs.Rounds.{Brings}
use Rattle.dc_worker.specs.Work.{AddsSuch}
use Rattle.dc_worker.proofs.Work.{cut_then, on_turn, err_turn}
use Rattle.dc_worker.proofs.Bringing.{brings_both}
use Rattle.dc_worker.proofs.brings.bring_due.Goals as goal

pub returns-in_err-bring_some-2-clause-short : goal.returns-in_err-bring_some-2-clause-short
returns-in_err-bring_some-2-clause-short g c =
    let a = acting (g.D.Door.shown c.args.door.now) c.args.log.now in
    let b = acting (g.D.Door.shown c.bring_some.new.door) c.bring_some.new.log in
    let e = acting (g.D.Door.shown c.bring_some-2.new.door) c.bring_some-2.new.log in
    let cut : IsCutShort a e = cut_then a b e _ c.in_ok-bring_some.ensures.brings.adds c.in_err-bring_some-2.ensures.short in
    search rules

pub returns-clause-brings : goal.returns-clause-brings
returns-clause-brings g c =
    let a = acting (g.D.Door.shown c.args.door.now) c.args.log.now in
    let b = acting (g.D.Door.shown c.bring_some.new.door) c.bring_some.new.log in
    let d = acting (g.D.Door.shown c.bring_some-2.new.door) c.bring_some-2.new.log in
    let e = acting (g.D.Door.shown c.bring_some-3.new.door) c.bring_some-3.new.log in
    let first = option_to_list c.args.due.first in
    let again = option_to_list c.args.due.again in
    let held = option_to_list c.args.due.held in
    on_turn c.bring_some-3.result (AddsSuch (Brings (route c.args.from c.args.at) held) d e) (AddsSuch (Brings (route c.args.from c.args.at) (first ++ again ++ held)) a e)
    (λ last. brings_both (route c.args.from c.args.at) (first ++ again) held a d e (brings_both (route c.args.from c.args.at) first again a b d c.in_ok-bring_some.ensures.brings c.in_ok-bring_some-2.ensures.brings) last)
    c.bring_some-3.ensures.brings

pub returns-clause-short : goal.returns-clause-short
returns-clause-short g c =
    let a = acting (g.D.Door.shown c.args.door.now) c.args.log.now in
    let b = acting (g.D.Door.shown c.bring_some.new.door) c.bring_some.new.log in
    let d = acting (g.D.Door.shown c.bring_some-2.new.door) c.bring_some-2.new.log in
    let e = acting (g.D.Door.shown c.bring_some-3.new.door) c.bring_some-3.new.log in
    err_turn c.bring_some-3.result (IsCutShort d e) (IsCutShort a e)
    (λ cut. cut_then a b e _ c.in_ok-bring_some.ensures.brings.adds (cut_then b d e _ c.in_ok-bring_some-2.ensures.brings.adds cut))
    c.bring_some-3.ensures.short
