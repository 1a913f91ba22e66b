-- What is known of the records that a centre has, and which records can be delivered.
use Rattle.std.specs.Prelude.{◌≡◌, ◌≤◌, ◌+◌, ◌↔◌, true, List, All}
use Rattle.dc_talk.specs.declared.ask.TheConstants.{MOST_HOPS}
use Rattle.dc_talk.specs.declared.sent.Sent.{Sent}
use Rattle.dc_talk.specs.declared.settings.Settings.{Settings}
use Rattle.dc_talk.specs.Answers.{is_fit_item}
use Rattle.link_frames.specs.Frames.{is_deliverable}

-- the record can be delivered among the centres but for its hops, which are at most one more than a delivery has; where the centre
-- stamped it, it has none
pub record IsCarried (s : Settings) (sent : Sent) : Type 0 where
  pub fit : is_fit_item s.n sent.item ≡ true
  pub hops : sent.hops ≤ MOST_HOPS + 1
  pub own : sent.item.stamp.centre ≡ s.me → sent.hops ≡ 0

-- all of them can be delivered with their hops
abbrev pub AreDeliverable : List Sent → Type 0
AreDeliverable list = All (λ sent. is_deliverable sent ≡ true) list

-- they can be delivered exactly where they have no more hops than a delivery has
abbrev pub AreDeliverableNear : List Sent → Type 0
AreDeliverableNear list = All (λ sent. (is_deliverable sent ≡ true) ↔ (sent.hops ≤ MOST_HOPS)) list
