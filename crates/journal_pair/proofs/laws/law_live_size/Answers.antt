use Rattle.journal_pair.specs.declared.pair.TheConstants.{FLOOR}
use Rattle.journal_pair.proofs.States.{live_long, most_long}
use Rattle.journal_pair.proofs.laws.law_live_size.Goals as goal

pub returns-clause-long : goal.returns-clause-long
returns-clause-long g c = λ mark end other_end size h k checkpoint behind at. live_long g.T.Item.spelled mark end other_end size h k checkpoint behind at

pub returns-clause-most : goal.returns-clause-most
returns-clause-most g c = λ mark end other_end size next h k l checkpoint behind items at later most. most_long g.T.Item.spelled mark end other_end size next h k l checkpoint behind items FLOOR at later most
