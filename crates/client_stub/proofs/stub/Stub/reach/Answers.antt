use Rattle.std.proofs.Common.{◌≡◌, Some, refl, sym, ap, rules}
use Rattle.dc_talk.specs.declared.say.Say.TheVariants.{Misfit}
use Rattle.dc_talk.specs.declared.log.Fate.TheVariants.{ReplyLost, Heard}
use Rattle.dc_talk.proofs.Doors.{done_ask, done_lost, may_asked, may_not}
use Rattle.script_core.specs.declared.steps.AskFault.TheVariants.{LoseAsk}
use Rattle.script_core.specs.Deeds.{fate_of}
use Rattle.client_stub.proofs.Growth.{on_err}
use Rattle.client_stub.proofs.stub.Stub.reach.Goals as goal

pub returns-in_err-say-in-Some-LoseReply-clause-short : goal.returns-in_err-say-in-Some-LoseReply-clause-short
returns-in_err-say-in-Some-LoseReply-clause-short g c = on_err _ (may_not _ _ c.in_err-say-in-Some-LoseReply.ensures.none)

pub returns-in_err-say-in_default-clause-short : goal.returns-in_err-say-in_default-clause-short
returns-in_err-say-in_default-clause-short g c = on_err _ (may_not _ _ c.in_err-say-in_default.ensures.none)

pub returns-in_err-took-in_default-clause-short : goal.returns-in_err-took-in_default-clause-short
returns-in_err-took-in_default-clause-short g c = on_err _ (may_asked _ _ _ _ c.in_ok-say-in_default.ensures.asked)

pub returns-in-Some-LoseAsk-clause-fate : goal.returns-in-Some-LoseAsk-clause-fate
returns-in-Some-LoseAsk-clause-fate g c =
    let armed : c.args.self.now.armed ≡ Some LoseAsk = search rules in
    (Misfit, ap (λ armed. fate_of armed Misfit) (sym armed))

pub returns-in-Some-LoseAsk-clause-door : goal.returns-in-Some-LoseAsk-clause-door
returns-in-Some-LoseAsk-clause-door g c = done_lost _ c.args.centre c.args.ask.now

pub returns-in_ok-say-in-Some-LoseReply-clause-door : goal.returns-in_ok-say-in-Some-LoseReply-clause-door
returns-in_ok-say-in-Some-LoseReply-clause-door g c = done_ask _ _ c.args.centre c.args.ask.now (ReplyLost c.in_ok-say-in-Some-LoseReply.say) _ refl c.in_ok-say-in-Some-LoseReply.ensures.asked

pub returns-in_ok-took-in_default-clause-door : goal.returns-in_ok-took-in_default-clause-door
returns-in_ok-took-in_default-clause-door g c = done_ask _ _ c.args.centre c.args.ask.now (Heard c.in_ok-say-in_default.say) _ refl c.in_ok-say-in_default.ensures.asked
