use Rattle.std.proofs.Common.{◌<◌, ◌+◌, List, length, ◌∙◌, ap, subst, arith}
use Rattle.journal_disk.specs.Steady.{steady_bytes}
use Rattle.dc_talk.specs.Entries.{Entry}
use Rattle.trail_journal.specs.Files.{IsJust}
use Rattle.trail_journal.specs.Told.{told_of}
use Rattle.trail_journal.specs.Journals.{centre_of}
use Rattle.trail_journal.proofs.Joining.{journals_next}
use Rattle.trail_journal.proofs.journals.add_journal.Goals as goal

pub returns : goal.returns
returns c =
    let b = c.args.book.now in
    let old = c.args.journals.now in
    let s = centre_of b c.args.limit (c.args.before + 1) in
    let told = c.in_ok-told.told in
    let disk = c.in_ok-told.disk in
    let within : c.args.before < length b.trails = omega (arith, c.requires.next, c.requires.histories.trails) in
    journals_next b c.args.limit c.args.before old.disks.items c.push.new.self.items disk old.text.items c.write_told.new.text.items told within c.requires.first
    (subst (λ (l : List Entry). IsJust s l (steady_bytes disk)) c.trail.ensures c.in_ok-told.ensures.just)
    (c.in_ok-told.ensures.told ∙ ap (λ (l : List Entry). told_of s l (steady_bytes disk)) c.trail.ensures)
    c.in_ok-write_told.ensures c.in_ok-push.ensures.items
