-- How calls ended, as notes keep it.
use Rattle.dc_talk.specs.declared.calls.Outcome.{Outcome}
use Rattle.dc_talk.specs.declared.calls.Outcome.TheVariants.{Fine, Got, Number, Nothing, Refused}
use Rattle.dc_talk.specs.declared.noted.Kept.{Kept}
use Rattle.dc_talk.specs.declared.noted.Kept.TheVariants.{Fine as FineKept, Got as GotKept, Number as NumberKept, Nothing as NothingKept, Refused as RefusedKept}
use Rattle.dc_talk.specs.declared.noted.Ended.{Ended}
use Rattle.dc_talk.specs.declared.noted.Ended.TheVariants.{Fine as FineSeen, Got as GotSeen, Number as NumberSeen, Nothing as NothingSeen, Refused as RefusedSeen}

-- the outcome that is kept so
abbrev pub outcome_kept : Kept → Outcome
outcome_kept FineKept = Fine
outcome_kept (GotKept value) = Got value.value
outcome_kept (NumberKept number) = Number number
outcome_kept NothingKept = Nothing
outcome_kept (RefusedKept refusal) = Refused refusal.value

-- the outcome that is lent so
abbrev pub outcome_seen : Ended → Outcome
outcome_seen FineSeen = Fine
outcome_seen (GotSeen value) = Got value.now
outcome_seen (NumberSeen number) = Number number
outcome_seen NothingSeen = Nothing
outcome_seen (RefusedSeen refusal) = Refused refusal.now
