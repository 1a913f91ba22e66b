-- Tells.
use Rattle.std.proofs.Common.{◌≡◌, ℕ, List, [], ◌∷◌, Option, refl, sym, subst}
use Rattle.dc_talk.specs.declared.ask.Ask.TheVariants.{Report, Learn}
use Rattle.dc_talk.specs.declared.say.Say.{Say}
use Rattle.dc_talk.specs.declared.say.Say.TheVariants.{Vector}
use Rattle.dc_talk.specs.declared.log.Fate.TheVariants.{Unheard}
use Rattle.dc_talk.specs.declared.log.Deed.{Deed}
use Rattle.dc_talk.specs.declared.log.Deed.TheVariants.{Asked}
use Rattle.dc_talk.specs.declared.line.Line.{Line}
use Rattle.dc_talk.specs.Acting.{Acting}
use Rattle.script_core.specs.Carrying.{Route, tell_line, AfterTold, Tells}
use Rattle.dc_worker.specs.Work.{Adds, CarriesSuch}
use Rattle.dc_worker.proofs.Work.{adds_then}
use Rattle.script_core.proofs.Provenance.{tells_carry}

-- a report of a vector that is told to the other centre
pub tells_vector : (a b c : Acting) (r : Route) (vector : List ℕ) (first say : Say) (line : Option Line) → Adds a b (Asked r.from Report (Unheard first) ∷ []) → first ≡ Vector vector → Adds b c (Asked r.to (Learn r.from vector) (Unheard say) ∷ []) → line ≡ tell_line r r.to say → CarriesSuch (λ deeds. Tells r deeds line) a c
tells_vector a b c r vector first say line report is learn told =
    let deeds : List Deed = Asked r.from Report (Unheard first) ∷ Asked r.to (Learn r.from vector) (Unheard say) ∷ [] in
    let such : Tells r deeds line = record {
      say = first;
      later = Asked r.to (Learn r.from vector) (Unheard say) ∷ [];
      whole = refl;
      follows = subst (λ said. AfterTold r said (Asked r.to (Learn r.from vector) (Unheard say) ∷ []) line) (sym is) (say, refl, told);
    } in
    record { deeds = deeds; such = such; adds = adds_then a b c (Asked r.from Report (Unheard first) ∷ []) (Asked r.to (Learn r.from vector) (Unheard say) ∷ []) report learn; carries = tells_carry r deeds line such }

-- with an answer that is no vector a tell ends
told_none : (r : Route) (first : Say) (line : Option Line) → ((vector : List ℕ) → first ≡ Vector vector → ⊥) → line ≡ tell_line r r.from first → AfterTold r first [] line
told_none r (Vector vector) line not is = absurd (not vector refl)
told_none r first line not is = (refl, is)

pub tells_none : (a b : Acting) (r : Route) (first : Say) (line : Option Line) → Adds a b (Asked r.from Report (Unheard first) ∷ []) → ((vector : List ℕ) → first ≡ Vector vector → ⊥) → line ≡ tell_line r r.from first → CarriesSuch (λ deeds. Tells r deeds line) a b
tells_none a b r first line report not is =
    let deeds : List Deed = Asked r.from Report (Unheard first) ∷ [] in
    let such : Tells r deeds line = record { say = first; later = []; whole = refl; follows = told_none r first line not is } in
    record { deeds = deeds; such = such; adds = report; carries = tells_carry r deeds line such }
