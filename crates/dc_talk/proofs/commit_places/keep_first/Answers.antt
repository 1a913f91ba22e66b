use Rattle.std.proofs.Common.{sym}
use Rattle.dc_talk.proofs.CommitPlaces.{lead_ahead, lead_first, lead_later}
use Rattle.dc_talk.proofs.commit_places.keep_first.Goals as goal

pub returns-in-Some-clause-behind : goal.returns-in-Some-clause-behind
returns-in-Some-clause-behind c deed committed = lead_later c.args.places.now.entries c.args.notes.now deed c.args.tx.now c.in-Some.field-0.now c.requires committed (sym c.in-Some.ensures)

pub returns-in_ok-insert-in-None-clause-so_far : goal.returns-in_ok-insert-in-None-clause-so_far
returns-in_ok-insert-in-None-clause-so_far c = lead_ahead c.args.places.now.entries c.insert.new.self.entries c.args.notes.now c.args.tx.now c.requires (sym c.in-None.ensures) c.in_ok-insert-in-None.ensures.updates.0

pub returns-in_ok-insert-in-None-clause-behind : goal.returns-in_ok-insert-in-None-clause-behind
returns-in_ok-insert-in-None-clause-behind c deed committed = lead_first c.args.places.now.entries c.insert.new.self.entries c.args.notes.now c.args.tx.now c.requires (sym c.in-None.ensures) c.in_ok-insert-in-None.ensures.updates.0 deed committed
