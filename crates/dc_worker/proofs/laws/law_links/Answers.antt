use Rattle.dc_worker.proofs.Bringing.{arrivals_from, arrived_from, held_from, arrivals_then, arrived_then, after_then}
use Rattle.dc_worker.proofs.laws.law_links.Goals as goal

pub returns-clause-arrivals : goal.returns-clause-arrivals
returns-clause-arrivals c = arrivals_from

pub returns-clause-arrived : goal.returns-clause-arrived
returns-clause-arrived c = arrived_from

pub returns-clause-held : goal.returns-clause-held
returns-clause-held c = held_from

pub returns-clause-arrivals_then : goal.returns-clause-arrivals_then
returns-clause-arrivals_then c = arrivals_then

pub returns-clause-arrived_then : goal.returns-clause-arrived_then
returns-clause-arrived_then c = arrived_then

pub returns-clause-after_then : goal.returns-clause-after_then
returns-clause-after_then c = after_then
