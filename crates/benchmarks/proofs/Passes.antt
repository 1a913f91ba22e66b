-- The new passes of a host are its own.
use Rattle.std.proofs.Common.{◌≡◌, ℕ, zero, suc, List, refl, sym, subst}
use Rattle.std.specs.Prelude.{All}
use Rattle.std.proofs.lemmas.List.Elements.{All-nil, All-push}
use Rattle.host_lock.specs.Hosts.{HostView, PassView, IsOf, fresh, fresh_passes}

fresh_are_of : {A Y G : Type 0} (h : HostView A Y G) (n : ℕ) → All (IsOf h) (fresh_passes h n)
fresh_are_of h zero = All-nil (IsOf h)
fresh_are_of h (suc n) = All-push (IsOf h) (fresh_passes h n) (fresh h (suc n)) (fresh_are_of h n) (refl, refl, refl)

-- so are passes that are these
pub new_are_of : {A Y G : Type 0} (h : HostView A Y G) (n : ℕ) (passes : List (PassView A Y G)) → passes ≡ fresh_passes h n → All (IsOf h) passes
new_are_of h n passes are = subst (All (IsOf h)) (sym are) (fresh_are_of h n)
