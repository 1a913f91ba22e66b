use Rattle.std.proofs.Common.{◌≡◌}
use Rattle.read_tap.specs.Shows.{ShowsView}
use Rattle.lock_tests.proofs.Singles.{all_of_one}
use Rattle.lock_tests.proofs.read_tap_tests.closed.Goals as goal

pub close-requires : goal.close-requires
close-requires g c = all_of_one (λ (reader : ShowsView). reader.table ≡ c.args.feeder.table) c.new-all.result.items c.push.new.self.items c.args.reader c.new-all.ensures.items c.in-Ok.ensures.items c.requires
