use Rattle.run_book.proofs.Replays.{other_heard}
use Rattle.run_book.proofs.replay.Replay.hear.Goals as goal

pub returns-in-Welcome : goal.returns-in-Welcome
returns-in-Welcome c = λ s h. rw (c.in-Hello.is, c.in-Welcome.is) (c.hear_welcome.ensures s c.in-Hello.need c.in-Welcome.through h)

pub returns-in-Snap : goal.returns-in-Snap
returns-in-Snap c = λ s h. rw (c.in-Refresh.is, c.in-Snap.is) (c.hear_snap.ensures s c.in-Refresh.at h)

pub returns-in_default : goal.returns-in_default
returns-in_default c = λ s h. other_heard c.args.self.now s c.args.centre c.args.ask.now c.args.say.now c.in_default.not-Refresh c.in_default.not-Hello h
