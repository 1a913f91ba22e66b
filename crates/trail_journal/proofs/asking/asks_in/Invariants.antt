use Rattle.std.proofs.Common.{◌≡◌, map, take}
use Rattle.trail_journal.specs.Files.{ask_in}
use Rattle.trail_journal.proofs.asking.asks_in.Given as goal

abbrev pub invariant-loop-entry : goal.invariant-loop-entry
invariant-loop-entry l = l.asks.items ≡ map ask_in (take l.entry-index l.entries)
