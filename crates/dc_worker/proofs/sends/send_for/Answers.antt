use Rattle.dc_worker.proofs.sends.send_for.Goals as goal

pub returns-clause-sends : goal.returns-clause-sends
returns-clause-sends g c = c.hand_on.ensures.asks
