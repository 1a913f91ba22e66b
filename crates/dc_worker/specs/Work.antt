-- How the log of a worker, and what its door shows, grow by deeds of a kind.
use Rattle.std.specs.Prelude.{◌≡◌, ◌≢◌, ◌<◌, ◌^◌, ℕ, Bool, length, List, [], ◌∷◌, Option}
use Rattle.dc_talk.specs.declared.sent.Sent.{Sent}
use Rattle.dc_talk.specs.declared.ask.Ask.TheVariants.{Deliver}
use Rattle.dc_talk.specs.declared.say.Say.{Say}
use Rattle.dc_talk.specs.declared.log.Fate.TheVariants.{Unheard}
use Rattle.dc_talk.specs.declared.log.Deed.TheVariants.{Asked}
use Rattle.dc_talk.specs.declared.line.ShipEnd.{ShipEnd}
use Rattle.script_core.specs.Carrying.{is_there, delivery_end}
use Rattle.dc_talk.specs.declared.log.Deed.{Deed}
use Rattle.dc_talk.specs.Logs.{entries_made}
use Rattle.dc_talk.specs.Acting.{Acting, Leaves}
use Rattle.script_core.specs.Provenance.{CarriesAll}

-- a log and what the door shows grow by these deeds; the door's list of a centre that was asked stays short
pub record Adds (old new : Acting) (deeds : List Deed) : Type 0 where
  pub leaves : Leaves old new deeds
  pub short : (i : ℕ) → entries_made old.door.actor i deeds ≢ [] → length (new.door.made i) < 2 ^ 62

-- they grow by the delivery of a record, which ended so, and after which the record is there or not
pub record HasDelivered (to : ℕ) (item : Sent) (it : Option ShipEnd × Bool) (old new : Acting) : Type 0 where
  pub say : Say
  pub adds : Adds old new (Asked to (Deliver item.item item.hops) (Unheard say) ∷ [])
  pub end : it.0 ≡ delivery_end to item.item say
  pub there : it.1 ≡ is_there say

-- they grow by deeds that are so
pub record AddsSuch (Are : List Deed → Type 0) (old new : Acting) : Type 0 where
  pub deeds : List Deed
  pub such : Are deeds
  pub adds : Adds old new deeds

-- they grow by deeds that are so, each of which carries no more than an earlier one of them brought
pub record CarriesSuch (Are : List Deed → Type 0) (old new : Acting) : Type 0 where
  pub deeds : List Deed
  pub such : Are deeds
  pub adds : Adds old new deeds
  pub carries : CarriesAll [] deeds
