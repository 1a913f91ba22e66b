use Rattle.dc_worker.proofs.Work.{on_turn}
use Rattle.phase_actors.proofs.Reading.{looked_so}
use Rattle.phase_actors.proofs.looking.look.Goals as goal

pub returns-clause-looked : goal.returns-clause-looked
returns-clause-looked c =
    on_turn c.tell_seen.result _ _
    (λ log. looked_so c.args.taps.now c.seen_now.new.readers.items c.args.client c.args.centre c.args.object c.in_ok-seen.seen c.args.log.now c.tell_seen.new.log c.in_ok-seen.ensures.seen log)
    c.tell_seen.ensures.ok
