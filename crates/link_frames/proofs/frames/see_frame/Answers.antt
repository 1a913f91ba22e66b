use Rattle.std.proofs.Common.{length, sym, ap, ◌∙◌, subst, arith}
use Rattle.std.specs.Prelude.{All}
use Rattle.tx_core.specs.declared.tx.Record.{Record}
use Rattle.tx_core.specs.Checks.{IsFitUpdate}
use Rattle.wire_codec.specs.Spelling.{IsSpelledUpdate}
use Rattle.link_frames.proofs.Fitting.{fit_updates, frame_from}
use Rattle.link_frames.proofs.frames.see_frame.Goals as goal

pub see_updates-requires : goal.see_updates-requires
see_updates-requires c =
    subst (All IsFitUpdate) (sym (c.as_slice.ensures ∙ ap (λ (item : Record). item.tx.updates) c.as_record-item.ensures)) (fit_updates c.args.sent.now c.requires)

pub returns : goal.returns
returns c =
    let width = ap (λ (item : Record). length item.deps) c.as_record-item.ensures in
    frame_from c.args.sent.now c.requires (omega (arith, c.width-width.ensures, width))
    (subst (All IsSpelledUpdate) (c.as_slice.ensures ∙ ap (λ (item : Record). item.tx.updates) c.as_record-item.ensures) c.see_updates.ensures)
