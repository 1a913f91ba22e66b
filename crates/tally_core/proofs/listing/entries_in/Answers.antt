use Rattle.std.proofs.Common.{◌≡◌, [], ap, sym, subst, ◌∙◌}
use Rattle.std.proofs.lemmas.List.{nil_from_length}
use Rattle.std.proofs.lemmas.Map.Entries.{option_filter}
use Rattle.std.proofs.lemmas.Result.{IfOk-weaker}
use Rattle.tally_core.specs.Changes.{or_else}
use Rattle.tally_core.specs.Listing.{AreStored, is_there}
use Rattle.tally_core.proofs.Kept.{find}
use Rattle.tally_core.proofs.Stored.{joined_entries}
use Rattle.tally_core.proofs.listing.entries_in.Goals as goal

pub returns-then-is_empty : goal.returns-then-is_empty
returns-then-is_empty g c =
    let live = c.args.live.now.entries in let owed = c.args.owed.now.entries in
    let none : owed ≡ [] = nil_from_length owed (c.is_empty.ensures.0 c.if-is_empty.true) in
    let is = joined_entries live owed live c.requires (λ q. sym (ap (λ es. or_else (option_filter is_there (find es q)) (find live q)) none)) c.list_of.ensures.ordered c.list_of.ensures.found in
    record {
      list = IfOk-weaker c.list_of.result _ _ (λ l h. h ∙ is.1) c.list_of.ensures.list;
      stored = IfOk-weaker c.list_of.result _ _ (λ l h. subst AreStored (sym h) is.0) c.list_of.ensures.list;
    }

pub returns : goal.returns
returns g c =
    let is = joined_entries c.args.live.now.entries c.args.owed.now.entries c.in_ok-tree_of.field-0.entries c.requires c.in_ok-tree_of.ensures c.list_of-2.ensures.ordered c.list_of-2.ensures.found in
    record {
      list = IfOk-weaker c.list_of-2.result _ _ (λ l h. h ∙ is.1) c.list_of-2.ensures.list;
      stored = IfOk-weaker c.list_of-2.result _ _ (λ l h. subst AreStored (sym h) is.0) c.list_of-2.ensures.list;
    }
