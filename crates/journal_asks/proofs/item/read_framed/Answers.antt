use Rattle.std.proofs.Common.{◌≡◌, ℕ, ◌++◌, length, drop, Some, IfSome, sym, ◌∙◌, ap, subst}
use Rattle.std.specs.Prelude.{is_some}
use Rattle.wire_codec.specs.declared.item.Item.{Item}
use Rattle.wire_codec.specs.declared.item.TheConstants.{VERSION}
use Rattle.wire_codec.specs.Spelling.{spelled}
use Rattle.journal_asks.specs.declared.kept_ask.KeptAsk.{KeptAsk}
use Rattle.journal_asks.specs.Spellings.{kind_of, frame_of}
use Rattle.journal_asks.proofs.Fronts.{none_front, unframed_front, framed_front}
use Rattle.journal_asks.proofs.item.read_framed.Goals as goal

pub returns-in-None : goal.returns-in-None
returns-in-None c =
    none_front c.args.kind c.args.bytes.now c.requires (λ frame rest fits begins. sym c.in-None.is ∙ c.in_ok-frame.ensures.found frame rest fits begins)

pub returns-in-None-2 : goal.returns-in-None-2
returns-in-None-2 c =
    unframed_front c.args.kind c.args.bytes.now c.requires c.in-Some.frame c.in-Some.count
    (λ frame rest fits begins. sym c.in-Some.is ∙ c.in_ok-frame.ensures.found frame rest fits begins)
    (c.in_ok-kept-in-Some.ensures.none (ap is_some c.in-None-2.is))

pub returns-in-Some-2 : goal.returns-in-Some-2
returns-in-Some-2 c =
    let bytes = c.args.bytes.now in
    let both = subst (λ o. IfSome o (λ (x : KeptAsk). (kind_of x.ask ≡ c.args.kind) × (frame_of x.by x.ask ≡ Some c.in-Some.frame))) c.in-Some-2.is c.in_ok-kept-in-Some.ensures.some in
    framed_front c.args.kind bytes c.requires c.in-Some.frame c.in-Some.count
    (λ frame rest fits begins. sym c.in-Some.is ∙ c.in_ok-frame.ensures.found frame rest fits begins)
    c.in-Some-2.kept both.0 both.1
    (subst (λ o. IfSome o (λ (p : Item × ℕ). bytes ≡ spelled VERSION p.0 ++ drop p.1 bytes)) c.in-Some.is c.in_ok-frame.ensures.is)
    (subst (λ o. IfSome o (λ (p : Item × ℕ). p.1 ≡ length (spelled VERSION p.0))) c.in-Some.is c.in_ok-frame.ensures.count)
