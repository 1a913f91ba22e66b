-- Places that say of each client that nothing is noted.
use Rattle.std.proofs.Common.{◌≡◌, ℕ, zero, suc, List, None, refl, ap, ◌∙◌}
use Rattle.std.specs.Prelude.{replicate}
use Rattle.dup_guard.specs.declared.guard.Last.{Last}
use Rattle.dup_guard.specs.Notes.{number_of, stamp_of}

-- a place where nothing is noted
abbrev pub nothing : Last
nothing = record { number = 0; stamp = record { centre = 0; seq = 0 } }

number_of-replicate : (n client : ℕ) → number_of (replicate n nothing) client ≡ 0
number_of-replicate n zero = refl
number_of-replicate zero (suc i) = refl
number_of-replicate (suc n) (suc zero) = refl
number_of-replicate (suc n) (suc (suc i)) = number_of-replicate n (suc i)

stamp_of-replicate : (n client : ℕ) → stamp_of (replicate n nothing) client ≡ None
stamp_of-replicate n zero = refl
stamp_of-replicate zero (suc i) = refl
stamp_of-replicate (suc n) (suc zero) = refl
stamp_of-replicate (suc n) (suc (suc i)) = stamp_of-replicate n (suc i)

pub number_of_nothing : (lasts : List Last) (n : ℕ) → lasts ≡ replicate n nothing → (client : ℕ) → number_of lasts client ≡ 0
number_of_nothing lasts n alike client = ap (λ l. number_of l client) alike ∙ number_of-replicate n client

pub stamp_of_nothing : (lasts : List Last) (n : ℕ) → lasts ≡ replicate n nothing → (client : ℕ) → stamp_of lasts client ≡ None
stamp_of_nothing lasts n alike client = ap (λ l. stamp_of l client) alike ∙ stamp_of-replicate n client
