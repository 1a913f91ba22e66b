-- Lists of tallies.
use Rattle.std.proofs.Common.{◌≡◌, true, List}
use Rattle.std.specs.Prelude.{All}
use Rattle.tally_core.specs.declared.place.Place.{Place}
use Rattle.tally_core.specs.declared.place.Cell.{Cell}
use Rattle.tally_core.specs.Listing.{is_stored, AreStored}
use Rattle.tally_core.proofs.Ascent.{ascent_sorted}
use Rattle.state_codec.specs.Spelling.{AreTallies}
use Rattle.parts_codec.specs.Spelling.{IsSpelledList}

-- tallies that are stored have bytes where each has them that is stored and in range
pub spelled_tallies : {P : Type 0} (Is Ranged : (Place × Cell P) → Type 0) (tallies : List (Place × Cell P)) → (All (λ e. (is_stored e.1 ≡ true) × Ranged e) tallies → IsSpelledList Is tallies) → AreStored tallies → All Ranged tallies → AreTallies Is tallies
spelled_tallies Is Ranged tallies see stored ranged =
    let list = see (λ k d within. (stored.each k d within, ranged k d within)) in
    record { few = list.few; each = list.each; ascending = ascent_sorted tallies stored.ascending }
