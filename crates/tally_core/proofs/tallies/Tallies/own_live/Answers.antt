use Rattle.std.proofs.Common.{◌++◌, subst, sym, ap, ◌∙◌}
use Rattle.std.specs.Prelude.{option_map}
use Rattle.std.specs.Arc.{arc_value}
use Rattle.std.proofs.lemmas.Bool.{false≢true}
use Rattle.ids_core.specs.Ascending.{ascends}
use Rattle.tally_core.specs.Cells.{seen}
use Rattle.tally_core.specs.Shared.{owed_of}
use Rattle.tally_core.specs.Parted.{AreApart}
use Rattle.tally_core.proofs.Listed.{live_ascends}
use Rattle.tally_core.proofs.Shown.{live_seen}
use Rattle.tally_core.proofs.tallies.Tallies.own_live.Goals as goal

pub unreachable-requires : goal.unreachable-requires
unreachable-requires g c = false≢true (c.in-Err.ensures.exact.1 (ap ascends c.in_ok-live_from.ensures.list ∙ live_ascends _ _ c.in_ok-live_from.ensures.ordered))

pub returns : goal.returns
returns g c =
    let owed = owed_of (option_map arc_value c.self.inside.cells) in
    let apart = subst (λ live. AreApart live owed) (sym c.live_or.ensures) c.self.invariant in
    rw (← ap (λ live. seen (live ++ owed)) c.live_or.ensures ∙ c.self.view_is) (c.in-Ok.ensures.taken ∙ (c.in_ok-live_from.ensures.list ∙ live_seen _ _ owed c.in_ok-live_from.ensures.ordered apart))
