use Rattle.read_tap.proofs.Fronts.{placed_more}
use Rattle.read_tap.proofs.shows.add.Goals as goal

pub returns-clause-placed : goal.returns-clause-placed
returns-clause-placed c = placed_more c.args.table.now c.args.tokens.now.items c.push.new.self.items c.args.token c.requires.placed c.requires.next.0 c.requires.next.1 c.in_ok-push.ensures.items
