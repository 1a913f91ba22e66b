use Rattle.std.proofs.Common.{◌+◌, ◌++◌, ap, ◌∙◌}
use Rattle.run_book.specs.Parts.{trail_of}
use Rattle.trail_text.specs.Trails.{entries_text}
use Rattle.trail_text.proofs.Growing.{ranged_next}
use Rattle.trail_text.proofs.trail.write_trails.Goals as goal

pub loop-before-preserved : goal.loop-before-preserved
loop-before-preserved c =
    ranged_next (λ centre. entries_text centre (trail_of c.args.book.now centre)) c.loop-before.before c.args.text.now.items c.loop-before.text.items c.write_entries.new.text.items c.loop-before.invariant
    (c.in_ok-write_entries.ensures ∙ ap (λ entries. c.loop-before.text.items ++ entries_text (c.loop-before.before + 1) entries) c.trail.ensures)
