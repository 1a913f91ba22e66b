use Rattle.std.proofs.Common.{sym, ◌∙◌}
use Rattle.std.proofs.lemmas.Bool.{false≢true}
use Rattle.std.proofs.lemmas.List.Sums.{AllPass-from_list_all, list_all-from_AllPass}
use Rattle.tally_core.specs.Listing.{is_stored}
use Rattle.tally_core.proofs.Ascent.{sorted_ascent, ascent_sorted}
use Rattle.tally_core.proofs.listing.are_stored.Goals as goal

pub returns-then-ascend : goal.returns-then-ascend
returns-then-ascend g c =
    let list = c.args.list.now in
    let sorted = sorted_ascent list (sym c.ascend.ensures ∙ c.if-ascend.true) in (
      λ h. record { ascending = sorted; each = AllPass-from_list_all (λ e. is_stored e.1) list (sym c.each_stored.ensures ∙ h) },
      λ s. c.each_stored.ensures ∙ list_all-from_AllPass (λ e. is_stored e.1) list s.each,
    )

pub returns-else-ascend : goal.returns-else-ascend
returns-else-ascend g c = (
  λ t. absurd (false≢true (sym c.if-ascend.false ∙ t)),
  λ s. c.ascend.ensures ∙ ascent_sorted c.args.list.now s.ascending,
)
