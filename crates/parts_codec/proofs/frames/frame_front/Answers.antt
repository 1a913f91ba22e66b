use Rattle.std.proofs.Common.{sym, ◌∙◌, arith}
use Rattle.parts_codec.proofs.Framed.{whole_front, no_front}
use Rattle.parts_codec.proofs.frames.frame_front.Goals as goal

pub returns-in-Whole : goal.returns-in-Whole
returns-in-Whole c =
    whole_front c.args.bytes.now c.in_ok-item.field-0 c.in-Whole.item c.in-Whole.used c.in-Whole.is (omega (arith, c.if-bytes-ne-VERSION.false)) c.in_ok-item.ensures.answer
    c.in_ok-item.ensures.only

pub returns-in-Short : goal.returns-in-Short
returns-in-Short c =
    no_front c.args.bytes.now c.in_ok-item.field-0
    (λ frame used is.
    let both = sym c.in-Short.is ∙ is in
    cc)
    c.in_ok-item.ensures.only

pub returns-in-Bad : goal.returns-in-Bad
returns-in-Bad c =
    no_front c.args.bytes.now c.in_ok-item.field-0
    (λ frame used is.
    let both = sym c.in-Bad.is ∙ is in
    cc)
    c.in_ok-item.ensures.only
