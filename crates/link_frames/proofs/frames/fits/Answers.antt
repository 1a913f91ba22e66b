use Rattle.std.proofs.Common.{◌∙◌}
use Rattle.std.proofs.lemmas.Bool.{false≢true}
use Rattle.link_frames.proofs.Fitting.{delivered_from}
use Rattle.link_frames.proofs.frames.fits.Goals as goal

pub returns-then-not-is_deliverable-clause-exact : goal.returns-then-not-is_deliverable-clause-exact
returns-then-not-is_deliverable-clause-exact c = (λ e. absurd (false≢true e), λ h. c.if-not-is_deliverable.ensures ∙ delivered_from c.args.sent.now h)
