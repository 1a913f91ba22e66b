-- The test for one dot.
use Rattle.std.proofs.Common.{◌≡◌, Bool, true, false, refl, sym, ◌∙◌}
use Rattle.std.proofs.lemmas.Bool.{false≢true}
use Rattle.ids_core.specs.declared.ids.Dot.{Dot}
use Rattle.ids_core.specs.Ids.{same_dot}
use Rattle.ids_core.specs.Same.{same_dot-true, same_dot-same}

-- two dots are the same whichever comes first
pub same_dot-turned : (a b : Dot) (t : Bool) → same_dot a b ≡ t → same_dot b a ≡ t
same_dot-turned a b true is = same_dot-same b a (sym (same_dot-true a b is))
same_dot-turned a b false is = at (same_dot b a) refl
  where
    at : (t : Bool) → same_dot b a ≡ t → same_dot b a ≡ false
    at true same = absurd (false≢true (sym is ∙ same_dot-same a b (sym (same_dot-true b a same))))
    at false other = other
