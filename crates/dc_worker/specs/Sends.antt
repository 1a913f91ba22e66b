-- A report and an ask for what a centre lacks, by themselves.
use Rattle.std.specs.Prelude.{◌≡◌, ◌≤◌, ℕ, List, [], ◌∷◌}
use Rattle.vv_core.specs.Vectors.{at}
use Rattle.dc_talk.specs.declared.ask.Ask.{Ask}
use Rattle.dc_talk.specs.declared.ask.Ask.TheVariants.{Send, Relay, Report}
use Rattle.dc_talk.specs.declared.ask.TheConstants.{MOST_SENT}
use Rattle.dc_talk.specs.declared.say.Say.{Say}
use Rattle.dc_talk.specs.declared.say.Say.TheVariants.{Records, Vector}
use Rattle.dc_talk.specs.declared.log.Fate.TheVariants.{Unheard}
use Rattle.dc_talk.specs.declared.log.Deed.{Deed}
use Rattle.dc_talk.specs.declared.log.Deed.TheVariants.{Asked}
use Rattle.script_core.specs.Carrying.{Route, send_end, stopped_end}
use Rattle.dc_worker.specs.declared.sends.Need.{Need}
use Rattle.dc_worker.specs.declared.sends.Need.TheVariants.{Own, Of}
use Rattle.dc_worker.specs.declared.sends.Handed.{Handed}
use Rattle.dc_worker.specs.declared.sends.Handed.TheVariants.{Items, Ended}

-- what the answer of the centre that was asked for records gives
abbrev pub handed_of : ℕ → Say → Handed
handed_of from (Records list) = Items list
handed_of from say = Ended (send_end from say)

-- what follows the report of the centre that is delivered to: an ask for what it needs by its vector
abbrev pub AfterNeed : Route → (List ℕ → Ask) → Say → List Deed → Handed → Type 0
AfterNeed r need (Vector vector) deeds handed = (say : Say) × (deeds ≡ Asked r.from (need vector) (Unheard say) ∷ []) × (handed ≡ handed_of r.from say)
AfterNeed r need say deeds handed = (deeds ≡ []) × (handed ≡ Ended (stopped_end r.to say))

-- the asks for what a centre lacks, and what they came to
pub record AsksFor (r : Route) (need : List ℕ → Ask) (deeds : List Deed) (handed : Handed) : Type 0 where
  pub say : Say
  pub later : List Deed
  pub whole : deeds ≡ Asked r.to Report (Unheard say) ∷ later
  pub follows : AfterNeed r need say later handed

-- so many of the records of the centre that is asked, behind those that the other one has
abbrev pub own_part : Route → ℕ → List ℕ → Ask
own_part r most vector = Send (at vector r.from) most

-- what the centre that hands on is asked, by the vector of the one that lacks
abbrev pub need_of : Need → ℕ → List ℕ → Ask
need_of (Own most) from vector = Send (at vector from) most
need_of (Of origin) from vector = Relay origin (at vector origin) MOST_SENT

-- an origin has a number, which is at least 1
abbrev pub IsNumbered : Need → Type 0
IsNumbered (Own most) = Unit {0}
IsNumbered (Of origin) = 1 ≤ origin
