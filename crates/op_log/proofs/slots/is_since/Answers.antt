use Rattle.std.proofs.Common.{sym, ap, ◌∙◌}
use Rattle.std.specs.Prelude.{◌&&◌, not}
use Rattle.std.specs.Map.{values_of}
use Rattle.op_log.specs.Logs.{is_inside, is_inside_at}
use Rattle.op_log.proofs.Numbers.{passes_some, passes_none}
use Rattle.op_log.proofs.slots.is_since.Goals as goal

pub returns-in-Some : goal.returns-in-Some
returns-in-Some c =
    let items = values_of c.args.slots.now.entries in
    let there = sym c.in-Some.ensures.value in
    let later = passes_some (is_inside c.args.at.now) c.args.number _ _ c.requires.keyed c.requires.rises there in
    let earlier = passes_some (is_inside c.args.before.now) c.args.number _ _ c.requires.keyed c.requires.rises there in
    c.came_since.ensures ∙ (ap (λ b. b && not (is_inside c.args.before.now c.in-Some.x.now)) later ∙ ap (λ b. is_inside_at c.args.at.now c.args.number items && not b) earlier)

pub returns-in-None : goal.returns-in-None
returns-in-None c =
    let items = values_of c.args.slots.now.entries in
    ap (λ b. b && not (is_inside_at c.args.before.now c.args.number items)) (passes_none (is_inside c.args.at.now) c.args.number _ c.requires.keyed c.requires.rises (sym c.in-None.ensures.value))
