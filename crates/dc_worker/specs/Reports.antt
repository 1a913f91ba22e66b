-- What a centre said to a report.
use Rattle.std.specs.Prelude.{◌≡◌, ℕ, List}
use Rattle.dc_talk.specs.declared.say.Say.{Say}
use Rattle.dc_talk.specs.declared.say.Say.TheVariants.{Vector}
use Rattle.dc_worker.specs.declared.reports.Reported.{Reported}
use Rattle.dc_worker.specs.declared.reports.Reported.TheVariants.{Has, Else}

-- what it said
abbrev pub said_by : Reported → Say
said_by (Has vector) = Vector vector
said_by (Else say) = say

-- what is taken for another answer is no vector
abbrev pub IsToldApart : Reported → Type 0
IsToldApart (Has vector) = Unit {0}
IsToldApart (Else say) = (vector : List ℕ) → say ≡ Vector vector → ⊥
