-- The first of several choices that is there.
use Rattle.std.specs.Prelude.{Bool, true, false, List, [], ◌∷◌, Option, Some, None}

-- a choice that is there exactly where the test holds
abbrev pub when : {X : Type 0} → Bool → X → Option X
when true x = Some x
when false x = None

-- the first choice that is there, or the last resort
abbrev pub first_of : {X : Type 0} → List (Option X) → X → X
first_of [] last = last
first_of (Some x ∷ rest) last = x
first_of (None ∷ rest) last = first_of rest last
