use Rattle.journal_pair.proofs.States.{pair_left, pair_seen}
use Rattle.pair_centre.specs.Items.{item_bytes}
use Rattle.pair_centre.proofs.laws.law_between_calls.Goals as goal

pub returns-clause-crash : goal.returns-clause-crash
returns-clause-crash g c = λ h k trail x y is live other.
    let p = c.args._p.now.pair in
    (is.checkpoint, (is.behind, (is.state, pair_left item_bytes p.mark p.live.end p.other.end p.size h k is.checkpoint is.behind is.files x y live other)))

pub returns-clause-parted : goal.returns-clause-parted
returns-clause-parted g c = λ h k trail is.
    let p = c.args._p.now.pair in
    ((is.checkpoint, (is.behind, (is.state, pair_seen item_bytes p.mark p.live.end p.other.end p.size h k is.checkpoint is.behind is.files))), is.files.live.settled.sound, is.files.other.settled.sound)
