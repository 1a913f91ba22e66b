use Rattle.std.proofs.Common.{◌≡◌, ◌≤◌, ◌<◌, ◌+◌, ◌-◌, ◌∙◌, drop, refl, sym, ap, arith}
use Rattle.vv_core.specs.Vectors.{at, lack_from}
use Rattle.vv_core.proofs.Covering.{covers-true, lack_of-none, lack_of-some, lack_from_covered, lack_from_lacking, lack_from_end}
use Rattle.vv_core.proofs.vector.Vector.first_lack.Goals as goal

pub returns-then-h-n-clause-lack : goal.returns-then-h-n-clause-lack
returns-then-h-n-clause-lack c =
    let have = c.args.have.now in
    let need = c.args.need.now in
    let lt : at have c.loop-centre.centre < at need c.loop-centre.centre = omega (arith, c.get-h.ensures, c.get-n.ensures) in
    rw (c.get-h.ensures, c.get-n.ensures) (sym (lack_from_lacking c.loop-centre.centre have need (omega arith) (omega arith) (omega arith) lt) ∙ c.loop-centre.invariant)

pub returns-then-h-n-clause-some : goal.returns-then-h-n-clause-some
returns-then-h-n-clause-some c = lack_of-some c.args.have.now c.args.need.now _ (sym (returns-then-h-n-clause-lack c))

pub loop-centre-preserved : goal.loop-centre-preserved
loop-centre-preserved c =
    let have = c.args.have.now in
    let need = c.args.need.now in
    let centre = c.loop-centre.centre in
    let next : centre + 1 - 1 ≡ centre = omega arith in
    let le : at need centre ≤ at have centre = omega (arith, c.get-h.ensures, c.get-n.ensures) in
    ap (λ k. lack_from (centre + 1) (drop k have) (drop k need)) next ∙ (lack_from_covered centre have need (omega arith) (omega arith) (omega arith) le ∙ c.loop-centre.invariant)

pub returns-clause-none : goal.returns-clause-none
returns-clause-none c =
    let have = c.args.have.now in
    let need = c.args.need.now in
    (λ none. covers-true have need (lack_of-none have need (sym c.loop-centre.invariant ∙ lack_from_end c.loop-centre.centre have need (omega arith))), λ h. refl)
