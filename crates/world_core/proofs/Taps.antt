-- The taps of a world, and taps that are the same at the centres that there are.
use Rattle.std.proofs.Common.{◌≡◌, ◌<◌, ℕ, zero, suc, ◌+◌, ◌==◌, cond, List, Option, Some, None, ap, ◌∙◌, subst, arith}
use Rattle.std.proofs.lemmas.Option.{get_or_from_slice_get}
use Rattle.dc_talk.specs.declared.log.Deed.{Deed}
use Rattle.script_core.specs.declared.taps.Tapped.{Tapped}
use Rattle.script_core.specs.declared.taps.TapState.{TapState}
use Rattle.script_core.specs.declared.steps.ClientStep.{ClientStep}
use Rattle.script_core.specs.declared.steps.ClientStep.TheVariants.{Look}
use Rattle.script_core.specs.declared.steps.OperatorStep.{OperatorStep}
use Rattle.script_core.specs.declared.steps.OperatorStep.TheVariants.{Feed}
use Rattle.script_core.specs.Steps.{IsCount, IsStep, IsOperatorStep}
use Rattle.script_core.specs.Feeds.{FeedDeeds, show_in}
use Rattle.script_core.specs.Taps.{first_tap, fed_tap, FeedsSo, taps_fed, seen_through, looks, LooksSo}
use Rattle.run_table.specs.Taps.{no_tap, taps_of, new_taps}
use Rattle.run_table.proofs.Numbered.{get_below}

-- at first each centre has its first tap
pub new_tap_at : (n : ℕ) (taps : List Tapped) (centre : ℕ) → IsCount n centre → taps_of (new_taps n taps) centre ≡ first_tap n taps centre
new_tap_at n taps zero range = absurd (omega (arith, range.0))
new_tap_at n taps (suc place) range =
    let within : place < n = omega (arith, range.1) in
    let next : 1 + place ≡ suc place = omega arith in
    get_or_from_slice_get (new_taps n taps) place (first_tap n taps (1 + place)) no_tap (get_below (first_tap n taps) n place within) ∙ ap (first_tap n taps) next

-- taps that are the same at n centres
abbrev AreSame : ℕ → (ℕ → TapState) → (ℕ → TapState) → Type 0
AreSame n one two = (centre : ℕ) → IsCount n centre → one centre ≡ two centre

-- a look sees the same through them
pub looks_as : (n : ℕ) (one two : ℕ → TapState) (client : ℕ) (step : ClientStep) (deeds : List Deed) → AreSame n one two → IsStep n step → LooksSo one client step deeds → LooksSo two client step deeds
looks_as n one two client (Look centre object) deeds same fits are = are ∙ ap (λ tap. looks client centre object (seen_through tap object)) (same centre fits.0)
looks_as n one two client _ deeds same fits are = are

-- a feed asks for the same
pub feeds_as : (n : ℕ) (one two : ℕ → TapState) (step : OperatorStep) (deeds : List Deed) → AreSame n one two → IsOperatorStep n step → FeedsSo one step deeds → FeedsSo two step deeds
feeds_as n one two (Feed centre) deeds same fits are = subst (λ (tap : TapState). FeedDeeds centre tap.objects deeds) (same centre fits) are
feeds_as n one two _ deeds same fits are = are

-- and they are the same behind it
pub taps_as : (n : ℕ) (fed : Option ℕ) (deeds : List Deed) (one two : ℕ → TapState) → AreSame n one two → (centre : ℕ) → IsCount n centre → taps_fed fed deeds one centre ≡ taps_fed fed deeds two centre
taps_as n None deeds one two same centre range = same centre range
taps_as n (Some fed) deeds one two same centre range = ap (λ tap. cond (centre == fed) (fed_tap (show_in deeds) tap) tap) (same centre range)
