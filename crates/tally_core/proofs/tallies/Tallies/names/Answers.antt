use Rattle.std.proofs.Common.{◌≡◌, ◌++◌, ◌∙◌, sym, subst, ap}
use Rattle.std.specs.Prelude.{option_map}
use Rattle.std.specs.Arc.{arc_value}
use Rattle.std.specs.List.Sorted.{IsStrictlySortedBy}
use Rattle.list_core.specs.Members.{In}
use Rattle.ids_core.specs.Orders.{name_cmp}
use Rattle.tally_core.specs.Cells.{seen}
use Rattle.tally_core.specs.Live.{live_names}
use Rattle.tally_core.specs.Shared.{owed_of}
use Rattle.tally_core.specs.Parted.{AreApart}
use Rattle.tally_core.proofs.Listed.{names_ascend, names_exact}
use Rattle.tally_core.proofs.Shown.{names_seen}
use Rattle.tally_core.proofs.tallies.Tallies.names.Goals as goal

pub returns : goal.returns
returns g c =
    let m = c.args.self.now in
    let owed = owed_of (option_map arc_value c.self.inside.cells) in
    let apart = subst (λ live. AreApart live owed) (sym c.live_or.ensures) c.self.invariant in
    let names : c.in_ok-list.list.items ≡ live_names m = rw (← ap (λ live. seen (live ++ owed)) c.live_or.ensures ∙ c.self.view_is) (c.in_ok-list.ensures.list ∙ names_seen _ owed c.in_ok-list.ensures.ordered apart) in
    record {
      names = names;
      ascending = subst (IsStrictlySortedBy name_cmp) (sym names) (names_ascend m);
      exact = λ name. (λ i. (names_exact m name).0 (subst (In name) names i), λ h. subst (In name) (sym names) ((names_exact m name).1 h));
    }
