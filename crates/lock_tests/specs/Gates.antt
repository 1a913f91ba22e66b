-- A gate for so many guests, as a machine.
use Rattle.std.specs.Prelude.{◌≡◌, ℕ, Bool, List, length, min, nat_lt}
use Rattle.machine_trail.specs.declared.machine.Entry.{Entry}
use Rattle.samples.specs.declared.gate.Gate.{Gate}

-- whether a guest is let in after these
abbrev pub gate_reply : ℕ → List (Entry ℕ Bool) → ℕ → Bool → Type 0
gate_reply most log guest enters = enters ≡ nat_lt (length log) most

-- so many are inside
abbrev pub gate_stands : Gate → List (Entry ℕ Bool) → Type 0
gate_stands gate log = gate.inside ≡ min (length log) gate.most
