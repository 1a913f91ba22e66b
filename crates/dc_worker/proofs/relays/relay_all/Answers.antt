use Rattle.dc_worker.proofs.relays.relay_all.Goals as goal

pub returns-clause-relays : goal.returns-clause-relays
returns-clause-relays g c = c.supply.ensures.supplies
