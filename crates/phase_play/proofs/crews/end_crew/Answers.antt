use Rattle.phase_play.proofs.crews.end_crew.Goals as goal

pub returns : goal.returns
returns g c = λ scene crew will. record {
  centre = will.centre;
  sender = c.in_ok-sender.ensures scene crew.centre crew.sender will.sender;
  receiver = c.in_ok-receiver.ensures scene crew.centre crew.receiver will.receiver;
  reporter = c.in_ok-reporter.ensures scene crew.centre crew.reporter will.reporter;
  pruner = c.in_ok-pruner.ensures scene crew.centre crew.pruner will.pruner;
}
