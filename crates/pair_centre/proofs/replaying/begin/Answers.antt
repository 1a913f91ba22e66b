use Rattle.std.proofs.Common.{◌≡◌, ◌+◌, List, [], ◌∷◌, length, vec_len, MatchOption, IfOk, refl, sym, ◌∙◌, subst, arith}
use Rattle.dc_talk.specs.Entries.{Entry}
use Rattle.dc_centre.specs.Centre.{StandsFor}
use Rattle.pair_centre.specs.declared.item.PairItem.{PairItem}
use Rattle.pair_centre.specs.States.{IsCheckpointOf}
use Rattle.pair_centre.proofs.replaying.begin.Goals as goal

-- a list with no elements
none_in : {X : Type 0} (l : List X) → length l ≡ 0 → l ≡ []
none_in [] e = refl
none_in (x ∷ l) e = absurd (omega (arith, e))

pub returns-in-None-clause-stands : goal.returns-in-None-clause-stands
returns-in-None-clause-stands c =
    let old = c.args.checkpoint in
    let new = c.pop.new.self in
    let ends : (vec_len old ≡ 0) × (vec_len new ≡ 0) = subst (λ o. MatchOption o ((vec_len old ≡ 0) × (vec_len new ≡ 0)) (λ _. vec_len new + 1 ≡ vec_len old)) c.in-None.is c.pop.ensures.cases in
    let none : c.args.checkpoint.items ≡ [] = none_in c.args.checkpoint.items (sym c.args.checkpoint.ok.0 ∙ ends.0) in
    subst (λ (l : List PairItem). IfOk c.fresh.result (λ centre. (front : List Entry) → IsCheckpointOf c.args.settings front l → StandsFor centre front)) (sym none) c.fresh.ensures.stands
