use Rattle.std.proofs.Common.{◌≡◌, pos, true, false, Some, sym, ap, ◌∙◌, subst, to_z, of_z}
use Rattle.std.specs.Prelude.{int_lt}
use Rattle.std.specs.Int.{w128}
use Rattle.std.proofs.lemmas.Int.{to_z-of_z}
use Rattle.dc_talk.specs.declared.line.Line.{Line}
use Rattle.dc_talk.specs.declared.line.Line.TheVariants.{Short}
use Rattle.dc_talk.specs.Acting.{noted_all}
use Rattle.dc_talk.proofs.Acting.{cut_none}
use Rattle.script_core.specs.Deeds.{counter_of_share, told}
use Rattle.client_stub.specs.Playing.{StubView, beside}
use Rattle.client_stub.proofs.Growth.{on_err}
use Rattle.client_stub.proofs.BoundedSteps.{owned_adds, short_tells}
use Rattle.client_stub.proofs.stub.Stub.add_within.Goals as goal

pub returns-in_err-tell-clause-short : goal.returns-in_err-tell-clause-short
returns-in_err-tell-clause-short c = λ door. on_err _ (cut_none _ _ _ c.in_err-tell.ensures.err)

pub returns-in_ok-tell-clause-adds : goal.returns-in_ok-tell-clause-adds
returns-in_ok-tell-clause-adds c = λ numbers is door.
    let adding = c.args.adding.now in
    let rights : to_z w128 (of_z w128 c.args.rights) ≡ c.args.rights = to_z-of_z w128 c.args.rights c.ranges.rights in
    let less : int_lt c.args.rights (pos adding.amount) ≡ true = subst (λ rights. int_lt rights (pos adding.amount) ≡ true) rights (sym c.is_less.ensures ∙ c.if-is_less.true) in
    let client : c.client-client.result ≡ c.args.self.now.client.client = c.client-client.ensures ∙ ap (λ (s : StubView). s.client.client) c.self.view_is in
    let line : c.short_line.result ≡ Short c.client-client.result adding.word (counter_of_share adding.share) c.args.rights = c.short_line.ensures ∙ ap (Short c.client-client.result adding.word (counter_of_share adding.share)) rights in
    short_tells (beside c.args.self.now door c.args.log.now) c.tell.new.log adding.word adding.share adding.to adding.amount c.client-client.result c.args.rights numbers is less client
    (c.in_ok-tell.ensures.ok ∙ ap (λ (line : Line). noted_all c.args.log.now (told (Some line))) line)

pub returns-in_ok-add-clause-adds : goal.returns-in_ok-add-clause-adds
returns-in_ok-add-clause-adds c = λ numbers is door.
    let adding = c.args.adding.now in
    let rights : to_z w128 (of_z w128 c.args.rights) ≡ c.args.rights = to_z-of_z w128 c.args.rights c.ranges.rights in
    let enough : int_lt c.args.rights (pos adding.amount) ≡ false = subst (λ rights. int_lt rights (pos adding.amount) ≡ false) rights (sym c.is_less.ensures ∙ c.if-is_less.false) in
    owned_adds (beside c.args.self.now door c.args.log.now) (beside c.add.new.self door c.add.new.log) adding.word adding.share adding.to adding.amount c.args.rights numbers is enough (c.in_ok-add.ensures.adds door)
