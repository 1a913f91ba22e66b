use Rattle.std.proofs.Common.{◌≡◌, ◌++◌, subst, sym, IfOk, ap, ◌∙◌}
use Rattle.std.specs.Prelude.{option_map}
use Rattle.std.specs.Arc.{arc_value}
use Rattle.tally_core.specs.Cells.{seen}
use Rattle.tally_core.specs.Shared.{owed_of}
use Rattle.tally_core.proofs.Shown.{kept_seen}
use Rattle.tally_core.specs.Parted.{AreApart}
use Rattle.tally_core.proofs.tallies.Tallies.kept.Goals as goal

pub returns : goal.returns
returns g c =
    let owed = owed_of (option_map arc_value c.self.inside.cells) in
    let apart = subst (λ live. AreApart live owed) (sym c.live_or.ensures) c.self.invariant in
    rw (← ap (λ live. seen (live ++ owed)) c.live_or.ensures ∙ c.self.view_is) (subst (λ x. IfOk c.kept_from.result (λ list. list.items ≡ x)) (kept_seen _ _ owed c.kept_from.ensures.ordered apart) c.kept_from.ensures.list)
