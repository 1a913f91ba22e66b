use Rattle.dc_talk.specs.Trails.{applied}
use Rattle.dc_talk.proofs.Applied.{in_order}
use Rattle.dc_talk.proofs.Places.{no_gaps, dependencies, numbers_below, stamps_in_order}
use Rattle.dc_talk.proofs.laws.law_history.Goals as goal

pub returns-clause-order : goal.returns-clause-order
returns-clause-order c = in_order

pub returns-clause-origins : goal.returns-clause-origins
returns-clause-origins c s trail history = no_gaps s (applied s.n trail) (in_order s trail history)

pub returns-clause-dependencies : goal.returns-clause-dependencies
returns-clause-dependencies c s trail history = dependencies s (applied s.n trail) (in_order s trail history)

pub returns-clause-numbers : goal.returns-clause-numbers
returns-clause-numbers c s trail history = numbers_below s (applied s.n trail) (in_order s trail history)

pub returns-clause-stamps : goal.returns-clause-stamps
returns-clause-stamps c s trail history = stamps_in_order s (applied s.n trail) (in_order s trail history)
