use Rattle.object_lists.proofs.Ops.{put_back}
use Rattle.object_lists.proofs.turns.put_tx.Goals as goal

pub returns-then-count-updates-clause-err : goal.returns-then-count-updates-clause-err
returns-then-count-updates-clause-err g c o = put_back (g.T.Entry.entry_of c.args.number) o c.args.tx.now.rank c.args.tx.now.dot _ _ _ _ (c.put_all-count.ensures.listed o) (c.take_last_of.ensures o)
