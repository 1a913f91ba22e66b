use Rattle.std.proofs.Common.{◌≡◌, ◌++◌, sym, ◌∙◌, ap, subst}
use Rattle.journal_disk.specs.Disk.{seen}
use Rattle.journal_disk.specs.Steady.{steady_bytes}
use Rattle.trail_journal.specs.Files.{IsJust}
use Rattle.trail_journal.specs.Told.{told_of}
use Rattle.trail_journal.proofs.Just.{journal_just}
use Rattle.trail_journal.proofs.steady.told_again.Goals as goal

pub no_memory-requires-clause-bad : goal.no_memory-requires-clause-bad
no_memory-requires-clause-bad c =
    let w = c.requires.stood in
    (c.in-Err.ensures.err w.0 c.args.trail.now tt w.1.0 w.1.1).ends

pub returns-in-Ok-clause-just : goal.returns-in-Ok-clause-just
returns-in-Ok-clause-just c =
    let w = c.requires.stood in
    let trail = c.args.trail.now in
    let r = c.in-Ok.ensures.ok w.0 trail tt w.1.0 w.1.1 in
    let bytes : seen (r.later ++ w.0) ≡ steady_bytes c.part.result = r.stands_for ∙ sym (ap steady_bytes c.part.ensures) in
    subst (IsJust c.args.settings trail) bytes (journal_just c.in-Ok.journal (r.later ++ w.0) trail r.ends c.args.settings c.in-Ok.ensures.numbers)

pub returns-in-Ok-clause-told : goal.returns-in-Ok-clause-told
returns-in-Ok-clause-told c =
    let w = c.requires.stood in
    let trail = c.args.trail.now in
    let r = c.in-Ok.ensures.ok w.0 trail tt w.1.0 w.1.1 in
    let bytes : seen (r.later ++ w.0) ≡ steady_bytes c.part.result = r.stands_for ∙ sym (ap steady_bytes c.part.ensures) in
    c.told_by-told.ensures (r.later ++ w.0) r.ends ∙ ap (told_of c.args.settings trail) bytes
