use Rattle.journal_pair.proofs.States.{pair_left, pair_seen}
use Rattle.journal_pair.proofs.laws.law_pair_between_calls.Goals as goal

pub returns-clause-crash : goal.returns-clause-crash
returns-clause-crash g c = λ mark end other_end size h k checkpoint behind x y at live other. pair_left g.T.Item.spelled mark end other_end size h k checkpoint behind at x y live other

pub returns-clause-parted : goal.returns-clause-parted
returns-clause-parted g c = λ mark end other_end size h k checkpoint behind at. (pair_seen g.T.Item.spelled mark end other_end size h k checkpoint behind at, at.live.settled.sound, at.other.settled.sound)
