-- Two answers of centres are the same or not.
use Rattle.std.proofs.Common.{◌≡◌, ◌≢◌, ◌⊎◌, inl, inr, ⊎_elim, refl, ap}
use Rattle.std.proofs.lemmas.Bool.{cases_eq}
use Rattle.std.specs.Coded.{Coded}
use base.Stored.{Gv, gnil, gnum, gcons}
use Rattle.tx_core.specs.States.{state_codes}
use Rattle.dc_talk.specs.declared.say.Say.{Say}

-- two stored values are the same or not
stored_same : (a b : Gv) → (a ≡ b) ⊎ (a ≢ b)
stored_same gnil gnil = inl refl
stored_same gnil (gnum n) = inr (λ same. cc)
stored_same gnil (gcons c d) = inr (λ same. cc)
stored_same (gnum m) gnil = inr (λ same. cc)
stored_same (gnum m) (gnum n) = ⊎_elim (λ same. inl (ap gnum same)) (λ other. inr (λ same. other cc)) (cases_eq m n)
stored_same (gnum m) (gcons c d) = inr (λ same. cc)
stored_same (gcons a b) gnil = inr (λ same. cc)
stored_same (gcons a b) (gnum n) = inr (λ same. cc)
stored_same (gcons a b) (gcons c d) = ⊎_elim
    (λ left. ⊎_elim (λ right. inl (λ i. gcons (left i) (right i))) (λ other. inr (λ same. other cc)) (stored_same b d))
    (λ other. inr (λ same. other cc))
    (stored_same a c)

-- the code of an answer
coded_say : Coded Say
coded_say = hlevel state_codes

-- two answers are the same or not
pub say_same : (s t : Say) → (s ≡ t) ⊎ (s ≢ t)
say_same s t = ⊎_elim (λ same. inl (coded_say.inj s t same)) (λ other. inr (λ same. other (ap coded_say.code same))) (stored_same (coded_say.code s) (coded_say.code t))
