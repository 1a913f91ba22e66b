use Rattle.std.proofs.Common.{◌∙◌}
use Rattle.centre_parts.proofs.Guards.{guard_parts, all_noted}
use Rattle.centre_parts.proofs.rest.are_within.Goals as goal

pub of_parts-requires : goal.of_parts-requires
of_parts-requires c = guard_parts c.args.notes.now c.requires

pub returns : goal.returns
returns c = c.are_seen.ensures ∙ all_noted _ c.args.notes.now c.args.rest.now c.in_ok-guard.ensures
