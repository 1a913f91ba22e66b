-- Which objects taps show, as far as lines said it.
use Rattle.std.specs.Prelude.{◌==◌, ◌&&◌, ℕ, Bool, true, List}
use Rattle.std.specs.List.{list_any}
use Rattle.ids_core.specs.Ids.{same_object}
use Rattle.ids_core.specs.declared.object.ObjectId.{ObjectId}
use Rattle.script_core.specs.declared.taps.Tapped.{Tapped}
use Rattle.script_core.specs.declared.steps.ClientStep.{ClientStep}
use Rattle.script_core.specs.declared.steps.ClientStep.TheVariants.{Look}
use Rattle.script_core.specs.declared.steps.OperatorStep.{OperatorStep}
use Rattle.script_core.specs.declared.steps.OperatorStep.TheVariants.{Feed}
use Rattle.script_core.specs.declared.steps.Step.{Step}
use Rattle.script_core.specs.declared.steps.Step.TheVariants.{Client, Operator}

-- the tap of a centre shows an object
abbrev pub shows : List Tapped → ℕ → ObjectId → Bool
shows taps centre object = list_any (λ (tapped : Tapped). tapped.centre == centre && same_object tapped.object object) taps

-- a centre has a tap
abbrev pub has_tap : List Tapped → ℕ → Bool
has_tap taps centre = list_any (λ (tapped : Tapped). tapped.centre == centre) taps

-- the tap is there through which a client's step looks, where it does
abbrev pub looks_on_tap : List Tapped → ClientStep → Bool
looks_on_tap taps (Look centre object) = shows taps centre object
looks_on_tap taps step = true

-- the tap is there that the operator's step feeds, where it does
abbrev pub feeds_tap : List Tapped → OperatorStep → Bool
feeds_tap taps (Feed centre) = has_tap taps centre
feeds_tap taps step = true

-- the tap is there that a step feeds or looks through, where it does
abbrev pub is_on_tap : List Tapped → Step → Bool
is_on_tap taps (Client client step) = looks_on_tap taps step
is_on_tap taps (Operator step) = feeds_tap taps step
