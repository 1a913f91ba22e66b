use Rattle.std.proofs.Common.{rules, ◌≡◌, [], ◌∷◌, ◌++◌, ◌+◌, sym, ap, ◌∙◌}
use Rattle.std.specs.Option.{option_to_list}
use Rattle.dc_talk.specs.declared.sent.Sent.{Sent}
use Rattle.script_core.specs.Links.{Inlet, arrived, inlet_after}
use Rattle.dc_worker.specs.Inlets.{comes, stays}
use Rattle.dc_worker.proofs.Items.{arrived_one, after_one}
use Rattle.dc_worker.proofs.inlets.Inlet.pass.Goals as goal

pub returns-clause-due : goal.returns-clause-due
returns-clause-due c =
    let fault = c.self.inside.fault in
    let before = c.self.inside.before in
    let held = option_to_list c.self.inside.held in
    let number : c.in-Some.number ≡ before + 1 = search rules in
    (λ i. c.in_ok-first.ensures.items i ++ option_to_list (c.take-held.ensures.value i))
    ∙ (ap (λ n. comes fault n c.args.frame ++ held) number
    ∙ (sym (arrived_one fault before held c.args.frame)
    ∙ ap (λ (i : Inlet Sent). arrived i (c.args.frame ∷ [])) c.self.view_is))

pub returns-clause-ok : goal.returns-clause-ok
returns-clause-ok c =
    let fault = c.self.inside.fault in
    let before = c.self.inside.before in
    let held = option_to_list c.self.inside.held in
    let number : c.in-Some.number ≡ before + 1 = search rules in
    let kept : option_to_list c.in_ok-first.field-0.kept ≡ stays fault (before + 1) c.args.frame = c.in_ok-first.ensures.kept ∙ ap (λ n. stays fault n c.args.frame) number in
    (λ i. record { fault = fault; before = number i; held = kept i })
    ∙ (sym (after_one fault before held c.args.frame)
    ∙ ap (λ (i : Inlet Sent). inlet_after i (c.args.frame ∷ [])) c.self.view_is)
