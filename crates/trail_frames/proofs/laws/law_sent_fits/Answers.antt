use Rattle.dc_talk.specs.declared.ask.Ask.TheVariants.{Send, Relay}
use Rattle.trail_frames.specs.Carried.{AreDeliverable, AreDeliverableNear}
use Rattle.trail_frames.proofs.Carrying.{relayed_near, sent_deliverable, answered_before}
use Rattle.trail_frames.proofs.laws.law_sent_fits.Goals as goal

pub returns : goal.returns
returns c = record {
  sent = λ s trail after most list history is. sent_deliverable s trail history after most list is;
  relayed = λ s trail origin after most list history is. relayed_near s trail history origin after most list is;
  was_sent = λ s trail entry after most list history i asks says. answered_before AreDeliverable s trail entry (Send after most) list history i asks says (λ before h is. sent_deliverable s before h after most list is);
  was_relayed = λ s trail entry origin after most list history i asks says. answered_before AreDeliverableNear s trail entry (Relay origin after most) list history i asks says (λ before h is. relayed_near s before h origin after most list is);
}
