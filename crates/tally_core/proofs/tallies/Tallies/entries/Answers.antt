use Rattle.std.proofs.Common.{◌++◌, ap, sym, subst, ◌∙◌}
use Rattle.std.specs.Prelude.{option_map}
use Rattle.std.specs.Arc.{arc_value}
use Rattle.std.specs.FinMap.{entries}
use Rattle.tally_core.specs.Cells.{seen}
use Rattle.tally_core.specs.Shared.{live_of, owed_of}
use Rattle.tally_core.specs.Listing.{AreStored}
use Rattle.tally_core.proofs.Stored.{no_entries, none_stored}
use Rattle.tally_core.proofs.tallies.Tallies.entries.Goals as goal

pub returns-in-None-clause-list : goal.returns-in-None-clause-list
returns-in-None-clause-list g c =
    let none = ap (λ cells. seen (live_of (option_map arc_value cells) ++ owed_of (option_map arc_value cells))) (sym c.in-None.is) ∙ c.self.view_is in
    c.new.ensures.items ∙ (sym no_entries ∙ ap entries none)

pub returns-in-None-clause-stored : goal.returns-in-None-clause-stored
returns-in-None-clause-stored g c = subst AreStored (sym c.new.ensures.items) none_stored
