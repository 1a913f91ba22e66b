use Rattle.std.proofs.Common.{[], ◌∷◌}
use Rattle.script_core.specs.Taps.{opening}
use Rattle.show_law.proofs.Feeding.{adds}
use Rattle.show_law.proofs.Showing.{seen_by, tap_rises, tap_stays}
use Rattle.show_law.proofs.laws.law_tap.Goals as goal

pub returns : goal.returns
returns c = record {
  shows = λ s trail actor centre objects shows feeds history fed sub.
      let more = adds s trail history actor centre objects 0 (opening s.n objects ∷ []) shows feeds fed sub in
      record { later = more.later; whole = more.whole; are = more.are };
  readers = seen_by;
  rise = tap_rises;
  states = tap_stays;
}
