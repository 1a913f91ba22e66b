use Rattle.std.proofs.Common.{sym}
use Rattle.dc_talk.proofs.CommitPlaces.{lead_other}
use Rattle.dc_talk.proofs.commit_places.keep_place.Goals as goal

pub returns-in-None-clause-behind : goal.returns-in-None-clause-behind
returns-in-None-clause-behind c = lead_other c.args.places.now.entries c.args.notes.now c.args.deed.now c.requires (sym c.in-None.ensures)
