use Rattle.std.proofs.Common.{subst, arith}
use Rattle.std.specs.Prelude.{All}
use Rattle.std.proofs.lemmas.List.{take_all}
use Rattle.std.proofs.lemmas.List.Elements.{All-more}
use Rattle.wire_codec.specs.Spelling.{IsSpelledUpdate}
use Rattle.link_frames.proofs.frames.see_updates.Goals as goal

pub loop-update-preserved : goal.loop-update-preserved
loop-update-preserved c =
    All-more IsSpelledUpdate c.args.updates.now c.loop-update.update-index c.update-item.result c.loop-update-test.true c.loop-update.invariant
    (subst IsSpelledUpdate c.update-item.is c.see_update.ensures)

pub returns : goal.returns
returns c = subst (All IsSpelledUpdate) (take_all c.loop-update.update-index c.args.updates.now (omega (arith, c.loop-update-test.false))) c.loop-update.invariant
