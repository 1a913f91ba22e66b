-- Deeds that leave what a session stands on, and its open transaction.
use Rattle.std.specs.Prelude.{◌≡◌}
use Rattle.dc_talk.specs.declared.ask.Ask.TheVariants.{Fetch, Delta}
use Rattle.dc_talk.specs.declared.calls.Call.TheVariants.{Read}
use Rattle.dc_talk.specs.declared.log.Deed.{Deed}
use Rattle.dc_talk.specs.declared.log.Deed.TheVariants.{Did, Asked, Told}
use Rattle.dc_talk.specs.Clients.{Client}

-- a read, an ask for an object or a line
abbrev pub IsQuiet : Deed → Type 0
IsQuiet (Did (Read o) outcome) = Unit {0}
IsQuiet (Asked i (Fetch o here) fate) = Unit {0}
IsQuiet (Asked i (Delta o from here) fate) = Unit {0}
IsQuiet (Told line) = Unit {0}
IsQuiet _ = ⊥

-- two states of a client with one snapshot, as many commits, one clock and one open transaction
pub record StandAlike (s t : Client) : Type 0 where
  pub client : s.client ≡ t.client
  pub own : s.own ≡ t.own
  pub clock : s.clock ≡ t.clock
  pub vector : s.vector ≡ t.vector
  pub draft : s.draft ≡ t.draft
