-- A history without its entries of the other replies is one.
use Rattle.std.proofs.Common.{◌≡◌, Bool, true, false, cond, List, [], ◌∷◌, ◌++◌, take, refl, sym, ◌∙◌, ap, subst}
use Rattle.std.proofs.lemmas.List.{append-nil}
use Rattle.list_core.proofs.Moments.{each_none, by_steps}
use Rattle.machine_trail.proofs.Histories.{history_more}
use Rattle.dc_talk.specs.declared.settings.Settings.{Settings}
use Rattle.dc_talk.specs.Entries.{Entry}
use Rattle.dc_talk.specs.Answers.{History, IsAnswer}
use Rattle.trail_kept.specs.Kept.{is_kept, kept}
use Rattle.trail_kept.proofs.Left.{left_out, same_answer}

-- a last entry is left out, or kept as the last
kept_more : (trail : List Entry) (e : Entry) → kept (trail ++ e ∷ []) ≡ kept trail ++ cond (is_kept e.say) (e ∷ []) []
kept_more [] e = refl
kept_more (x ∷ trail) e = go (is_kept x.say) (kept_more trail e)
  where
    go : (b : Bool) → kept (trail ++ e ∷ []) ≡ kept trail ++ cond (is_kept e.say) (e ∷ []) [] → cond b (x ∷ kept (trail ++ e ∷ [])) (kept (trail ++ e ∷ [])) ≡ cond b (x ∷ kept trail) (kept trail) ++ cond (is_kept e.say) (e ∷ []) []
    go true same = ap (λ (l : List Entry). x ∷ l) same
    go false same = same

pub kept_last : (trail : List Entry) (e : Entry) → is_kept e.say ≡ true → kept (trail ++ e ∷ []) ≡ kept trail ++ e ∷ []
kept_last trail e is = kept_more trail e ∙ ap (λ (b : Bool). kept trail ++ cond b (e ∷ []) []) is

pub left_last : (trail : List Entry) (e : Entry) → is_kept e.say ≡ false → kept (trail ++ e ∷ []) ≡ kept trail
left_last trail e is = kept_more trail e ∙ ap (λ (b : Bool). kept trail ++ cond b (e ∷ []) []) is ∙ append-nil (kept trail)

module _ (s : Settings) where
  history_last : (trail : List Entry) (e : Entry) → History s (kept trail) → IsAnswer s trail e.ask e.say → History s (kept (trail ++ e ∷ []))
  history_last trail e so_far is = go (is_kept e.say) refl
    where
      go : (b : Bool) → is_kept e.say ≡ b → History s (kept (trail ++ e ∷ []))
      go true kept_it = subst (λ l. History s l) (sym (kept_last trail e kept_it)) (history_more (IsAnswer s) (kept trail) e so_far (is ∙ sym (same_answer s (kept trail) trail (left_out s trail) e.ask)))
      go false is_not = subst (λ l. History s l) (sym (left_last trail e is_not)) so_far

  pub history_kept : (trail : List Entry) → History s trail → History s (kept trail)
  history_kept trail history = by_steps (λ l. History s (kept l)) trail (each_none (λ before e. IsAnswer s before e.ask e.say)) (λ p e there so_far. history_last (take p trail) e so_far (history.holds p e there))
