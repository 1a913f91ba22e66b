use Rattle.journal_pair.specs.Entries.{generation}
use Rattle.journal_pair.proofs.Pairs.{put_there}
use Rattle.journal_pair.proofs.pair.Pair.put.Goals as goal

pub returns-clause-moments : goal.returns-clause-moments
returns-clause-moments g c = λ h k checkpoint behind items put_is one two has. (
  put_there g.T.Item.spelled c.args.self.now.mark c.args.self.now.live.end c.args.self.now.other.end c.args.self.now.size h k checkpoint behind has items c.args.entries.now put_is (g.D.Disk.stands c.put.new.self.disk) c.put.new.self.end c.put.result
      (c.put.ensures.moments h (generation c.args.self.now.mark checkpoint behind) one has.live),
  two,
)
