use Rattle.phase_play.proofs.Rows.{no_readers, played_blind, rows_same}
use Rattle.phase_play.proofs.idle.play_idle.Goals as goal

pub play_clients-requires-clause-block : goal.play_clients-requires-clause-block
play_clients-requires-clause-block g c κs within = record { players = c.requires.cast.clients; readers = no_readers c.args.scene c.new.result.items c.new.ensures.items }

pub returns : goal.returns
returns g c = record {
  operator = c.in_ok-operator.ensures;
  clients = played_blind c.args.scene c.args.opened.rows.items (record { players = c.args.cast.clients; readers = c.new.result }) c.in_ok-clients.field-0 c.new.ensures.items c.in_ok-clients.ensures;
  rows_read = rows_same c.args.opened.rows.items;
  crews = c.in_ok-crews.ensures;
}
