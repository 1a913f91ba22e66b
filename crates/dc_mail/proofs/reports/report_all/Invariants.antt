use Rattle.std.proofs.Common.{◌≡◌}
use Rattle.dc_talk.specs.Acting.{acting}
use Rattle.script_core.specs.Rounds.{ReporterDeeds}
use Rattle.dc_worker.specs.Work.{CarriesSuch}
use Rattle.dc_mail.proofs.reports.report_all.Given as goal

abbrev pub invariant-others : goal.invariant-others
invariant-others g l = record {
  place : g.D.Door.place l.door ≡ g.D.Door.place l.fn.door;
  reports : CarriesSuch (ReporterDeeds l.before l.from) (acting (g.D.Door.shown l.fn.door) l.fn.log) (acting (g.D.Door.shown l.door) l.log);
}
