use Rattle.std.proofs.Common.{rules, arith, ◌≡◌, ◌∷◌, ◌<◌, length, ap}
use Rattle.dc_host.specs.Hosts.{rows_of, IsClosed}
use Rattle.dc_host.proofs.Rows.{taken_off, may_close_first, may_close_rest, closed_more}
use Rattle.dc_host.proofs.hosts.+close_all.Goals as goal

pub close-one-requires-clause-all : goal.close-one-requires-clause-all
close-one-requires-clause-all t c κs =
    let some : 0 < length c.args.hosts.items = search rules in
    let is = taken_off c.args.hosts.items c.remove-host.new.self.items c.remove-host.result some c.remove-host.ensures.value c.remove-host.ensures.items in
    may_close_first c.args.hosts.items c.remove-host.result c.remove-host.new.self.items (rows_of c.args.rows.items) c.in_ok-first.field-0.first.items is c.in_ok-first.ensures.first c.requires

pub close_all-requires : goal.close_all-requires
close_all-requires t c =
    let some : 0 < length c.args.hosts.items = search rules in
    let is = taken_off c.args.hosts.items c.remove-host.new.self.items c.remove-host.result some c.remove-host.ensures.value c.remove-host.ensures.items in
    let long = ap length is in
    (omega (arith, long), may_close_rest c.args.hosts.items c.remove-host.result c.remove-host.new.self.items (rows_of c.args.rows.items) (rows_of c.in_ok-first.field-0.rest.items) is c.in_ok-first.ensures.rest c.requires)

pub returns : goal.returns
returns t c =
    let some : 0 < length c.args.hosts.items = search rules in
    let is = taken_off c.args.hosts.items c.remove-host.new.self.items c.remove-host.result some c.remove-host.ensures.value c.remove-host.ensures.items in
    let longer : c.insert.new.self.items ≡ c.close-one.result ∷ c.in_ok-kept.kept.items = search rules in
    let one : IsClosed c.remove-host.result c.in_ok-first.field-0.first.items c.close-one.result = record { whole = c.close-one.ensures.whole; kept_at = c.close-one.ensures.kept; settings = c.close-one.ensures.settings } in
    closed_more c.args.hosts.items c.remove-host.result c.remove-host.new.self.items (rows_of c.args.rows.items) (rows_of c.in_ok-first.field-0.rest.items) c.in_ok-first.field-0.first.items c.close-one.result c.in_ok-kept.kept.items c.insert.new.self.items is c.in_ok-first.ensures.first c.in_ok-first.ensures.rest longer one c.in_ok-kept.ensures
