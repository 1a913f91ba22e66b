use Rattle.dc_worker.proofs.ships.ship_all.Goals as goal

pub returns-clause-ships : goal.returns-clause-ships
returns-clause-ships g c = c.supply.ensures.supplies
