-- What the parts of a centre are taken apart into determines them.
use Rattle.std.proofs.Common.{◌≡◌, List, [], ◌∷◌, refl, sym, ap, ◌∙◌}
use Rattle.std.specs.Prelude.{All, map}
use Rattle.std.proofs.lemmas.List.Elements.{All-head, All-tail}
use Rattle.tx_core.specs.declared.part.StatePart.{StatePart}
use Rattle.tx_core.specs.States.{sort_of}
use Rattle.centre_parts.specs.declared.part.CentreParts.{CentreParts}
use Rattle.state_codec.specs.declared.state.PlainPart.{PlainPart}
use Rattle.state_codec.proofs.Plains.{same_plain}
use Rattle.parts_codec.specs.declared.plain.PlainCentre.{PlainCentre}
use Rattle.parts_codec.specs.Plain.{plain_part, plain_centre, IsOfKind, AreOfKind}

-- an object with a state of its kind
same_part : (part other : StatePart) → IsOfKind part → IsOfKind other → plain_part part ≡ plain_part other → part ≡ other
same_part part other is of e =
    let state : part.state ≡ other.state = same_plain part.state other.state (ap (λ (p : PlainPart). p.state) e) in
    let name : part.object.name ≡ other.object.name = ap (λ (p : PlainPart). p.name) e in
    let sort : part.object.sort ≡ other.object.sort = is ∙ ap sort_of state ∙ sym of in
    (λ i. record { object = record { sort = sort i; name = name i }; state = state i })

-- all of them
same_parts : (parts others : List StatePart) → All IsOfKind parts → All IsOfKind others → map plain_part parts ≡ map plain_part others → parts ≡ others
same_parts [] [] are of e = refl
same_parts [] (o ∷ os) are of e = cc
same_parts (p ∷ ps) [] are of e = cc
same_parts (p ∷ ps) (o ∷ os) are of e =
    let first : plain_part p ≡ plain_part o = cc in
    let rest : map plain_part ps ≡ map plain_part os = cc in
    let one = same_part p o (All-head IsOfKind p ps are) (All-head IsOfKind o os of) first in
    let others = same_parts ps os (All-tail IsOfKind p ps are) (All-tail IsOfKind o os of) rest in
    (λ i. one i ∷ others i)

-- the parts of a centre
pub same_centre : (parts other : CentreParts) → AreOfKind parts → AreOfKind other → plain_centre parts ≡ plain_centre other → parts ≡ other
same_centre parts other are of e =
    let states = same_parts parts.applied.point.states other.applied.point.states are of (ap (λ (p : PlainCentre). p.applied.point.states) e) in
    (λ i. record {
      settings = (e i).settings;
      applied = record {
        vector = (e i).applied.vector;
        notes = (e i).applied.notes;
        top = (e i).applied.top;
        point = record { vector = (e i).applied.point.vector; folded = (e i).applied.point.folded; numbers = (e i).applied.point.numbers; states = states i };
        rest = (e i).applied.rest;
      };
      rows = (e i).rows;
      mark = (e i).mark;
      trimmed = (e i).trimmed;
      outbox = (e i).outbox;
      stopped = (e i).stopped;
    })
