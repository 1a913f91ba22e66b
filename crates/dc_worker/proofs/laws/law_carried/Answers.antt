use Rattle.std.proofs.Common.{[]}
use Rattle.dc_talk.specs.declared.ask.Ask.TheVariants.{Send}
use Rattle.script_core.proofs.Provenance.{carries_more, carries_then, sends_carry, ships_carry, relays_carry, tells_carry, settles_carry}
use Rattle.dc_worker.proofs.Bringing.{brings_carry}
use Rattle.script_core.proofs.Mailing.{mails_carry}
use Rattle.script_core.proofs.RoundDeeds.{sender_carries, reporter_carries, pruner_carries}
use Rattle.dc_worker.proofs.laws.law_carried.Goals as goal

pub returns-clause-sends : goal.returns-clause-sends
returns-clause-sends c = λ r last after most deeds end is. sends_carry [] r last (Send after most) deeds end (λ say. tt) is

pub returns-clause-ships : goal.returns-clause-ships
returns-clause-ships c = ships_carry

pub returns-clause-relays : goal.returns-clause-relays
returns-clause-relays c = relays_carry

pub returns-clause-tells : goal.returns-clause-tells
returns-clause-tells c = tells_carry

pub returns-clause-settles : goal.returns-clause-settles
returns-clause-settles c = settles_carry

pub returns-clause-more : goal.returns-clause-more
returns-clause-more c = carries_more

pub returns-clause-both : goal.returns-clause-both
returns-clause-both c = carries_then

pub returns-clause-mails : goal.returns-clause-mails
returns-clause-mails c = mails_carry

pub returns-clause-sender : goal.returns-clause-sender
returns-clause-sender c = sender_carries

pub returns-clause-reporter : goal.returns-clause-reporter
returns-clause-reporter c = reporter_carries

pub returns-clause-pruner : goal.returns-clause-pruner
returns-clause-pruner c = pruner_carries

pub returns-clause-brings : goal.returns-clause-brings
returns-clause-brings c = brings_carry
