use Rattle.std.proofs.Common.{subst}
use Rattle.script_core.specs.LineCounts.{Counts}
use Rattle.script_core.proofs.LongTexts.{passes_more}
use Rattle.script_core.proofs.CountedLines.{lines_feed, lines_byte, lines_too_long, lines_too_many}
use Rattle.script_core.proofs.limits.LineCount.after_byte.Goals as goal

pub returns-in-Past : goal.returns-in-Past
returns-in-Past c = λ seen h. passes_more seen _ (subst (λ k. Counts k seen) c.in-Past.is h)

pub returns-then-feeds-ge-MAX_LINES : goal.returns-then-feeds-ge-MAX_LINES
returns-then-feeds-ge-MAX_LINES c = λ seen h. lines_too_many _ _ _ seen c.if-feeds-ge-MAX_LINES.true (subst (λ k. Counts k seen) c.in-Within.is h)

pub returns-then-byte-eq10 : goal.returns-then-byte-eq10
returns-then-byte-eq10 c = λ seen h. lines_feed _ _ _ seen c.if-byte-eq10.true c.if-feeds-ge-MAX_LINES.false (subst (λ k. Counts k seen) c.in-Within.is h)

pub returns-then-column-ge-MAX_LINE : goal.returns-then-column-ge-MAX_LINE
returns-then-column-ge-MAX_LINE c = λ seen h. lines_too_long _ _ _ seen c.if-byte-eq10.false c.if-column-ge-MAX_LINE.true (subst (λ k. Counts k seen) c.in-Within.is h)

pub returns-else-column-ge-MAX_LINE : goal.returns-else-column-ge-MAX_LINE
returns-else-column-ge-MAX_LINE c = λ seen h. lines_byte _ _ _ seen c.if-byte-eq10.false c.if-feeds-ge-MAX_LINES.false c.if-column-ge-MAX_LINE.false (subst (λ k. Counts k seen) c.in-Within.is h)
