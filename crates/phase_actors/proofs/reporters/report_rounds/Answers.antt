use Rattle.std.proofs.Common.{refl, ◌∙◌}
use Rattle.dc_talk.specs.Acting.{acting}
use Rattle.run_sections.specs.Orders.{ReporterGoes}
use Rattle.phase_actors.proofs.Growing.{plays_none}
use Rattle.phase_actors.proofs.Rounds.{reporter_more}
use Rattle.phase_actors.proofs.reporters.report_rounds.Goals as goal

pub rounds-init : goal.rounds-init
rounds-init g c = record { place = refl; plays = plays_none (ReporterGoes c.args.n c.args.centre) c.args.section tt (acting (g.D.Door.shown c.args.door.now) c.args.log.now) }

pub rounds-preserved : goal.rounds-preserved
rounds-preserved g c = record {
  place = c.in_ok-report_all.ensures.place ∙ c.rounds.invariant.place;
  plays =
      let a = acting (g.D.Door.shown c.args.door.now) c.args.log.now in
      let b = acting (g.D.Door.shown c.rounds.door) c.rounds.log in
      let e = acting (g.D.Door.shown c.report_all.new.door) c.report_all.new.log in
      reporter_more c.args.n c.args.centre c.args.section c.rounds.before a b e c.set.new.self c.set.ensures c.rounds.invariant.plays c.in_ok-report_all.ensures.reports;
}
