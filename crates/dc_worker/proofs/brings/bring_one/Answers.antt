use Rattle.std.proofs.Common.{◌≡◌, ◌⊎◌, inl, inr, [], ◌∷◌, rules, refl}
use Rattle.dc_talk.specs.Acting.{acting, IsCutShort}
use Rattle.dc_talk.proofs.Acting.{cut_none}
use Rattle.script_core.specs.Links.{inlet_after}
use Rattle.dc_worker.proofs.Work.{err_turn}
use Rattle.dc_worker.proofs.brings.bring_one.Goals as goal

pub returns-in_err-due-clause-short : goal.returns-in_err-due-clause-short
returns-in_err-due-clause-short g c =
    let a = acting (g.D.Door.shown c.args.door.now) c.args.log.now in
    let cut : IsCutShort a a = cut_none (g.D.Door.shown c.args.door.now) c.args.log.now c.args.log.now refl in
    search rules

pub returns-in_err-due-clause-left : goal.returns-in_err-due-clause-left
returns-in_err-due-clause-left g c =
    let old = c.args.inlet.now in let new = c.pass.new.self in
    let left : (new ≡ old) ⊎ (new ≡ inlet_after old (c.args.frame ∷ [])) = inl c.in_err-due.ensures.err in
    search rules

pub returns-clause-left : goal.returns-clause-left
returns-clause-left g c =
    let a = acting (g.D.Door.shown c.args.door.now) c.args.log.now in
    let e = acting (g.D.Door.shown c.bring_due.new.door) c.bring_due.new.log in
    let old = c.args.inlet.now in let new = c.pass.new.self in
    err_turn c.bring_due.result (IsCutShort a e) ((new ≡ old) ⊎ (new ≡ inlet_after old (c.args.frame ∷ []))) (λ cut. inr c.in_ok-due.ensures.ok) c.bring_due.ensures.short
