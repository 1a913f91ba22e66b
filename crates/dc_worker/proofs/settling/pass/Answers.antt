use Rattle.std.proofs.Common.{rules, List, length, ap}
use Rattle.dc_talk.specs.declared.log.Note.{Note}
use Rattle.dc_talk.specs.Acting.{acting, IsCutShort}
use Rattle.dc_worker.proofs.Work.{cut_then}
use Rattle.dc_worker.proofs.Passing.{pass_of_all}
use Rattle.dc_worker.proofs.settling.pass.Goals as goal

pub returns-in_err-over_all_detours-clause-short : goal.returns-in_err-over_all_detours-clause-short
returns-in_err-over_all_detours-clause-short g c =
    let a = acting (g.D.Door.shown c.args.door.now) c.args.log.now in
    let b = acting (g.D.Door.shown c.over_all_routes.new.door) c.over_all_routes.new.log in
    let d = acting (g.D.Door.shown c.over_all_detours.new.door) c.over_all_detours.new.log in
    let cut : IsCutShort a d = cut_then a b d _ c.in_ok-over_all_routes.ensures.does.adds c.in_err-over_all_detours.ensures.short in
    search rules

pub returns-in_err-over_all_routes-2-clause-short : goal.returns-in_err-over_all_routes-2-clause-short
returns-in_err-over_all_routes-2-clause-short g c =
    let a = acting (g.D.Door.shown c.args.door.now) c.args.log.now in
    let b = acting (g.D.Door.shown c.over_all_routes.new.door) c.over_all_routes.new.log in
    let d = acting (g.D.Door.shown c.over_all_detours.new.door) c.over_all_detours.new.log in
    let e = acting (g.D.Door.shown c.over_all_routes-2.new.door) c.over_all_routes-2.new.log in
    let later : IsCutShort b e = cut_then b d e _ c.in_ok-over_all_detours.ensures.does.adds c.in_err-over_all_routes-2.ensures.short in
    let cut : IsCutShort a e = cut_then a b e _ c.in_ok-over_all_routes.ensures.does.adds later in
    search rules

pub returns-clause-passes : goal.returns-clause-passes
returns-clause-passes g c =
    let a = acting (g.D.Door.shown c.args.door.now) c.args.log.now in
    let b = acting (g.D.Door.shown c.over_all_routes.new.door) c.over_all_routes.new.log in
    let d = acting (g.D.Door.shown c.over_all_detours.new.door) c.over_all_detours.new.log in
    let e = acting (g.D.Door.shown c.over_all_routes-2.new.door) c.over_all_routes-2.new.log in
    pass_of_all c.args.n a b d e (length c.as_slice-before.result.now) c.as_slice.result.now c.has_news.result c.in_ok-over_all_routes.ensures.does c.in_ok-over_all_detours.ensures.does c.in_ok-over_all_routes-2.ensures.does (ap (λ (notes : List Note). length notes) c.as_slice-before.ensures) c.as_slice.ensures c.has_news.ensures
