use Rattle.dc_talk.specs.Acting.{acting}
use Rattle.run_table.proofs.Links.{prunes_none}
use Rattle.run_table.proofs.works.prune.Goals as goal

pub returns-else-number-eq0-clause-prunes : goal.returns-else-number-eq0-clause-prunes
returns-else-number-eq0-clause-prunes g c = prunes_none c.args.centre c.args.number (acting (g.D.Door.shown c.args.door.now) c.args.log.now) c.if-number-eq0.false
