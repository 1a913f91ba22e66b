use Rattle.std.proofs.Common.{◌≡◌, ◌-◌, List, length, [], ◌∷◌, ◌++◌, refl, sym, ap, ◌∙◌, subst}
use Rattle.std.specs.Vec.{with_item}
use Rattle.script_core.specs.declared.steps.ClientStep.{ClientStep}
use Rattle.script_core.specs.declared.steps.Step.{Step}
use Rattle.script_core.specs.Steps.{IsCount}
use Rattle.run_table.specs.declared.dealing.Dealt.{Dealt}
use Rattle.run_table.specs.Dealing.{IsOf, IsDealt, line_of}
use Rattle.run_table.proofs.Lines.{dealt_client, dealt_operator, line_got}
use Rattle.run_table.proofs.dealing.Dealt.add.Goals as goal

pub returns-in_ok-push-in-Client : goal.returns-in_ok-push-in-Client
returns-in_ok-push-in-Client c = λ clients steps dealt.
    let old = c.args.self.now in
    let client = c.in-Client.client in
    let now : Dealt = record { clients = with_item old.clients (client - 1) c.push.new.self; operator = old.operator } in
    let range : IsCount (length old.clients.items) client = subst (IsOf (length old.clients.items)) c.in-Client.is c.requires.1 in
    let high : IsCount clients client = subst (λ n. IsCount n client) dealt.count range in
    let line : c.push.new.self.items ≡ line_of old client ++ c.in-Client.step ∷ [] = c.in_ok-push-in-Client.ensures.items ∙ ap (λ (line : List ClientStep). line ++ c.in-Client.step ∷ []) (line_got old client c.index_mut-line.result.now range c.index_mut-line.ensures.value) in
    subst (λ (step : Step). IsDealt clients (steps ++ step ∷ []) now) (sym c.in-Client.is)
    (dealt_client clients client c.in-Client.step steps old now c.push.new.self high refl line refl dealt)

pub returns-in_ok-push-in-Operator : goal.returns-in_ok-push-in-Operator
returns-in_ok-push-in-Operator c = λ clients steps dealt.
    let now : Dealt = record { clients = c.args.self.now.clients; operator = c.push-in-Operator.new.self } in
    subst (λ (step : Step). IsDealt clients (steps ++ step ∷ []) now) (sym c.in-Operator.is)
    (dealt_operator clients c.in-Operator.step steps c.args.self.now now refl c.in_ok-push-in-Operator.ensures.items dealt)
