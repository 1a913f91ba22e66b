-- What holds of the asks of a fetch for a call, and of what follows them, holds of the fetch.
use Rattle.std.proofs.Common.{inl, inr, List, [], ◌++◌, Option, None, sym, subst}
use Rattle.dc_talk.specs.declared.say.Say.{Say}
use Rattle.dc_talk.specs.declared.calls.Connection.{Connection}
use Rattle.dc_talk.specs.declared.log.Deed.{Deed}
use Rattle.dc_talk.specs.Clients.{Client}
use Rattle.dc_talk.specs.Rule.{fetch_of}
use Rattle.script_core.specs.declared.object_call.ObjectCall.{ObjectCall}
use Rattle.script_core.specs.declared.steps.AskFault.{AskFault}
use Rattle.script_core.specs.Deeds.{Progress, Asks, after_fetch, let_go, Fetches}

-- the last ask of a fetch for a call, by a client that is so, with what follows it
abbrev pub LastAsk : ObjectCall → Connection → Client → Option AskFault → List Deed → Type 0
LastAsk c link s armed deeds = Asks armed link.centre (fetch_of s c.object) (after_fetch s link.centre c) deeds

module _ (P : List Deed → Type 0) (both : (first later : List Deed) → P first → P later → P (first ++ later)) where
  -- what holds of an ask that nothing follows, and of the last one, whether it is the only one or not
  pub fetches_hold : (p : Progress) (c : ObjectCall) (link : Connection) (deeds : List Deed) → ((first : List Deed) → Asks p.armed link.centre (fetch_of p.client c.object) (λ fate. []) first → P first)
      → ((last : List Deed) → LastAsk c link p.client p.armed last → P last) → ((say : Say) (last : List Deed) → LastAsk c link (let_go p link c say) None last → P last)
      → Fetches p c link deeds → P deeds
  fetches_hold p c link deeds first only second (inl once) = only deeds once.asks
  fetches_hold p c link deeds first only second (inr twice) = subst P (sym twice.whole) (both twice.first twice.rest (first twice.first twice.asks) (second twice.asks.say twice.rest twice.then))
