-- Trails with a record that came too far.
use Rattle.std.specs.Prelude.{◌<◌, List}
use Rattle.list_core.specs.Members.{In}
use Rattle.dc_talk.specs.declared.ask.TheConstants.{MOST_HOPS}
use Rattle.dc_talk.specs.declared.sent.Sent.{Sent}
use Rattle.dc_talk.specs.declared.settings.Settings.{Settings}
use Rattle.dc_talk.specs.Entries.{Entry}
use Rattle.dc_talk.specs.Trails.{carried}

-- some record that the centre has after the trail has more hops than a delivery may have
pub record HasFarRecord (s : Settings) (trail : List Entry) : Type 0 where
  pub sent : Sent
  pub there : In sent (carried s.n trail)
  pub far : MOST_HOPS < sent.hops
