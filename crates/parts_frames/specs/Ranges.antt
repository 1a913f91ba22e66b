-- The parts of a centre whose numbers are in range, as far as their types do not say it.
use Rattle.std.specs.Prelude.{◌≡◌, true, Option, Some, None, length, All}
use Rattle.ids_core.specs.declared.ids.Mark.{Mark}
use Rattle.obj_register.specs.declared.register.RegisterOp.{RegisterOp}
use Rattle.obj_map.specs.declared.put.Put.{Put}
use Rattle.tally_core.specs.declared.place.Place.{Place}
use Rattle.tally_core.specs.declared.place.Cell.{Cell}
use Rattle.tx_core.specs.declared.part.RestPart.{RestPart}
use Rattle.tx_core.specs.Checks.{IsTag, IsFit}
use Rattle.dc_talk.specs.declared.sent.Sent.{Sent}
use Rattle.link_frames.specs.Frames.{is_deliverable}
use Rattle.state_codec.specs.declared.state.PlainState.{PlainState}
use Rattle.state_codec.specs.declared.state.PlainState.TheVariants.{Counter, Register, Set, Map}
use Rattle.state_codec.specs.declared.state.PlainPart.{PlainPart}
use Rattle.state_codec.specs.Spelling.{IsRank}
use Rattle.parts_codec.specs.declared.plain.PlainCentre.{PlainCentre}

-- the rank and the identifier of a write, where there is one
abbrev pub IsRangedLast : Option (Mark × RegisterOp) → Type 0
IsRangedLast None = Unit {0}
IsRangedLast (Some write) = IsRank write.0.rank × IsTag write.0.id

-- the rank of a put, where one is kept
abbrev pub IsRangedKept : Option Put → Type 0
IsRangedKept None = Unit {0}
IsRangedKept (Some put) = IsRank put.rank

-- the identifier of a tally of a set
abbrev pub IsRangedMember : (Place × Cell (Unit {0})) → Type 0
IsRangedMember e = IsTag e.0.id

-- that of a tally of a map, and the rank of the put that it keeps
abbrev pub IsRangedEntry : (Place × Cell Put) → Type 0
IsRangedEntry e = IsTag e.0.id × IsRangedKept e.1.kept

-- all of these in a state
abbrev pub IsRangedState : PlainState → Type 0
IsRangedState (Counter sum) = Unit {0}
IsRangedState (Register last) = IsRangedLast last
IsRangedState (Set tallies) = All IsRangedMember tallies
IsRangedState (Map tallies) = All IsRangedEntry tallies

-- an object with such a state
abbrev pub IsRangedPart : PlainPart → Type 0
IsRangedPart part = IsRangedState part.state

-- a transaction that is fit among as many centres as its snapshot has entries
abbrev pub IsRangedRest : RestPart → Type 0
IsRangedRest part = IsFit (length part.tx.snap) part.tx

-- a record that can be delivered with its hops
abbrev pub IsRangedSent : Sent → Type 0
IsRangedSent sent = is_deliverable sent ≡ true

-- a centre with such states, transactions and records
pub record IsRangedCentre (centre : PlainCentre) : Type 0 where
  pub states : All IsRangedPart centre.applied.point.states
  pub rest : All IsRangedRest centre.applied.rest
  pub outbox : All (All IsRangedSent) centre.outbox
