use Rattle.trail_text.specs.Trails.{entry_text}
use Rattle.trail_text.proofs.Growing.{numbered_next}
use Rattle.trail_text.proofs.entry.write_entries.Goals as goal

pub loop-before-preserved : goal.loop-before-preserved
loop-before-preserved c = numbered_next (entry_text c.args.centre) c.args.entries.now c.loop-before.before c.index-entries-before.result c.args.text.now.items c.loop-before.text.items c.write_entry.new.text.items c.loop-before-test.true c.index-entries-before.is c.loop-before.invariant c.in_ok-write_entry.ensures
