use Rattle.std.proofs.Common.{◌≡◌, length, ◌∙◌, ap}
use Rattle.journal_disk.specs.Disk.{seen}
use Rattle.dc_talk.specs.declared.settings.Settings.{Settings}
use Rattle.dc_talk.specs.Records.{vector}
use Rattle.dc_talk.specs.Trails.{applied}
use Rattle.trail_kept.specs.Kept.{kept}
use Rattle.trail_journal.proofs.Just.{journal_long}
use Rattle.trail_journal.proofs.steady.told_by.Goals as goal

pub returns : goal.returns
returns g c = λ h is.
    let s = c.args.settings in
    let trail = c.args.trail.now in
    let entries_are : c.entries_in.result ≡ length (kept trail) = c.entries_in.ensures in
    let bytes_are : c.size.result ≡ length (seen h) = c.size.ensures ∙ journal_long c.args.journal.now h trail is in
    let vector_is : c.vector.result ≡ vector s.n (applied s.n trail) = c.vector.ensures h trail is ∙ ap (λ (g : Settings). vector g.n (applied g.n trail)) c.requires in
    (λ i. record { centre = s.me; entries = entries_are i; bytes = bytes_are i; vector = vector_is i })
