use Rattle.std.proofs.Common.{length, refl, sym}
use Rattle.std.proofs.lemmas.Bool.{ltb-true}
use Rattle.std.proofs.lemmas.Option.{slice_get_read}
use Rattle.phase_actors.proofs.clients.is_left.Goals as goal

pub returns-in-Some : goal.returns-in-Some
returns-in-Some g c = λ more. record {
  seat = c.in-Some.seat.now;
  there = slice_get_read c.args.seats.now (length c.args.seats.now) c.args.place c.in-Some.seat.now refl (ltb-true _ _ (sym c.in-Some.ensures.lookup.0)) c.in-Some.ensures.lookup.1;
  left = c.has_more.ensures.0 more;
}
