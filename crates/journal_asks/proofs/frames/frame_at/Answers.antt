use Rattle.std.proofs.Common.{◌≡◌, ℕ, List, ◌++◌, length, Some, refl, sym, ◌∙◌}
use Rattle.wire_codec.specs.declared.item.Item.{Item}
use Rattle.wire_codec.specs.declared.item.TheConstants.{VERSION}
use Rattle.wire_codec.specs.declared.item.Decoded.TheVariants.{Whole}
use Rattle.wire_codec.specs.Spelling.{spelled, IsSpelled}
use Rattle.wire_codec.specs.Answers.{IsAnswer}
use Rattle.journal_asks.proofs.frames.frame_at.Goals as goal

is_whole : (bytes : List ℕ) (frame : Item) (rest : List ℕ) → IsSpelled VERSION frame → bytes ≡ spelled VERSION frame ++ rest → IsAnswer bytes (Whole frame (length (spelled VERSION frame)))
is_whole bytes frame rest fits are = record { version = VERSION; rest = rest; spelled = fits; are = are; size = refl }

pub returns-in-Whole-clause-found : goal.returns-in-Whole-clause-found
returns-in-Whole-clause-found c = λ x rest fits are.
    let both : Whole c.in-Whole.item c.in-Whole.used ≡ Whole x (length (spelled VERSION x)) = sym c.in-Whole.is ∙ c.in_ok-item.ensures.only (Whole x (length (spelled VERSION x))) (is_whole c.args.bytes.now x rest fits are) in
    let frame : c.in-Whole.item ≡ x = cc both in
    let used : c.in-Whole.used ≡ length (spelled VERSION x) = cc both in
    (λ i. Some (frame i, used i))

pub returns-in-Short-clause-found : goal.returns-in-Short-clause-found
returns-in-Short-clause-found c = λ x rest fits are.
    let both = sym c.in-Short.is ∙ c.in_ok-item.ensures.only (Whole x (length (spelled VERSION x))) (is_whole c.args.bytes.now x rest fits are) in
    absurd (cc both)

pub returns-in-Bad-clause-found : goal.returns-in-Bad-clause-found
returns-in-Bad-clause-found c = λ x rest fits are.
    let both = sym c.in-Bad.is ∙ c.in_ok-item.ensures.only (Whole x (length (spelled VERSION x))) (is_whole c.args.bytes.now x rest fits are) in
    absurd (cc both)
