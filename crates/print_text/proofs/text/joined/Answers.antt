use Rattle.std.proofs.Common.{◌++◌, List, ap, sym, ◌∙◌, append-nil, take_all}
use Rattle.std.proofs.lemmas.Grind.{flat_map-append}
use Rattle.std.specs.Global.{Vec}
use Rattle.std.specs.Prelude.{ℕ, [], ◌∷◌, take}
use Rattle.print_text.specs.Parts.{texts_in}
use Rattle.print_text.proofs.Parts.{take_more}
use Rattle.print_text.proofs.text.joined.Goals as goal

pub loop-part-init : goal.loop-part-init
loop-part-init c = c.new-text.ensures.items

pub loop-part-preserved : goal.loop-part-preserved
loop-part-preserved c =
    let before : List (Vec ℕ) = take c.loop-part.part-index c.args.parts.now in
    c.in_ok-extend_from_slice.ensures.items
    ∙ (ap (λ lines. lines ++ c.as_slice.result.now) c.loop-part.invariant
    ∙ (ap (λ lines. texts_in before ++ lines) (c.as_slice.ensures.value ∙ sym (append-nil c.part-item.result.items))
    ∙ (sym (flat_map-append (λ (text : Vec ℕ). text.items) before (c.part-item.result ∷ []))
    ∙ ap texts_in (sym (take_more c.args.parts.now c.loop-part.part-index c.part-item.result c.loop-part-test.true c.part-item.is)))))

pub returns : goal.returns
returns c = c.loop-part.invariant ∙ ap texts_in (take_all c.loop-part.part-index c.args.parts.now c.loop-part-test.false)
