use Rattle.std.proofs.Common.{◌≡◌, sym, ◌∙◌, ap, subst}
use Rattle.centre_parts.specs.Conditions.{MeetsAll}
use Rattle.dc_centre.specs.Parts.{ArePartsOf, IsCauseFor}
use Rattle.pair_centre.proofs.replaying.centre_of.Goals as goal

pub returns-in-Ok-of_parts-clause-start : goal.returns-in-Ok-of_parts-clause-start
returns-in-Ok-of_parts-clause-start c =
    let parts = c.in-Ok.parts in
    let made = c.in-Ok.ensures.made in (
      parts,
      record {
        settings = ap (λ p. p.settings) made ∙ c.is_same.ensures.0 c.if-not-is_same.false;
        meets = c.in-Ok-of_parts.ensures.are;
        kinds = c.in-Ok.ensures.kinds;
        plain = sym made;
        states = c.in-Ok.ensures.fit;
      },
    )

pub returns-in-Ok-of_parts-clause-stands : goal.returns-in-Ok-of_parts-clause-stands
returns-in-Ok-of_parts-clause-stands c = λ front is.
    let parts = c.in-Ok.parts in
    let same : parts ≡ is.parts = c.law_plain_parts.ensures parts is.parts c.in-Ok.ensures.kinds is.has.kinds (c.in-Ok.ensures.made ∙ is.has.plain) in
    c.in-Ok-of_parts.ensures.stands is.centre front (subst (λ p. ArePartsOf is.centre p) (sym same) is.told) is.stands

pub returns-in-Err-Broken-clause-fault : goal.returns-in-Err-Broken-clause-fault
returns-in-Err-Broken-clause-fault c = λ behind start.
    let parts = c.in-Ok.parts in
    let same : parts ≡ start.0 = c.law_plain_parts.ensures parts start.0 c.in-Ok.ensures.kinds start.1.kinds (c.in-Ok.ensures.made ∙ start.1.plain) in
    let meets : MeetsAll parts = subst MeetsAll (sym same) start.1.meets in
    let first = subst (λ r. IsCauseFor parts r) c.in-Err-Broken.field-0-is c.in-Err-Broken.ensures.err in
    first.broken (meets.meets _)
