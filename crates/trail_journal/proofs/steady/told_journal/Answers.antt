use Rattle.std.proofs.Common.{[], true, ◌++◌, refl, sym}
use Rattle.trail_journal.proofs.steady.told_journal.Goals as goal

pub told_again-requires-clause-stood : goal.told_again-requires-clause-stood
told_again-requires-clause-stood c =
    let r = c.in-Ok.ensures.ok [] (sym c.new.ensures) (refl {a = true}) c.requires.history in
    (r.later ++ [], (r.stands_for, r.ends))
