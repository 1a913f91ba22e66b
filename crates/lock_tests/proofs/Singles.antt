-- Lists of one element.
use Rattle.std.proofs.Common.{◌≡◌, List, [], ◌∷◌, ◌++◌, sym, ap, ◌∙◌, subst}
use Rattle.std.specs.Prelude.{All}
use Rattle.std.proofs.lemmas.List.Elements.{All-nil, All-push}

-- what holds of an element that is put behind none holds of all
pub all_of_one : {X : Type 0} (P : X → Type 0) (none all : List X) (x : X) → none ≡ [] → all ≡ none ++ x ∷ [] → P x → All P all
all_of_one P none all x is more so = subst (All P) (sym (more ∙ ap (λ l. l ++ x ∷ []) is)) (All-push P [] x (All-nil P) so)
