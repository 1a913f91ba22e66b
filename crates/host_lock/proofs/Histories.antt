-- The calls of one caller, and what was seen, where a history goes on with one entry.
use Rattle.std.proofs.Common.{◌≡◌, ◌≢◌, ℕ, ◌==◌, List, [], ◌∷◌, ◌++◌, sym, ap, ◌∙◌, eq-eqb, ne_eqb, append_assoc}
use Rattle.std.specs.Prelude.{cond}
use Rattle.std.proofs.lemmas.List.{append-nil}
use Rattle.std.proofs.lemmas.List.Elements.{filter-append}
use mathlib.Core.List.{IsPrefix}
use Rattle.machine_trail.specs.declared.machine.Entry.{Entry}
use Rattle.host_lock.specs.Law.{calls_of}

module _ {A Y : Type 0} where
  -- with one call of this caller more
  pub calls_more : (n : ℕ) (l : List (Entry A Y)) (e : Entry A Y) → e.caller ≡ n → calls_of n (l ++ e ∷ []) ≡ calls_of n l ++ e ∷ []
  calls_more n l e is = filter-append (λ (x : Entry A Y). x.caller == n) l (e ∷ []) ∙ ap (λ b. calls_of n l ++ cond b (e ∷ []) []) (eq-eqb e.caller n is)

  -- a call of another one changes nothing
  pub calls_same : (n : ℕ) (l : List (Entry A Y)) (e : Entry A Y) → e.caller ≢ n → calls_of n (l ++ e ∷ []) ≡ calls_of n l
  calls_same n l e ne = filter-append (λ (x : Entry A Y). x.caller == n) l (e ∷ []) ∙ (ap (λ b. calls_of n l ++ cond b (e ∷ []) []) (ne_eqb e.caller n ne) ∙ append-nil (calls_of n l))

  -- what begins a list begins it with one element more
  pub prefix_more : (xs ys : List (Entry A Y)) (e : Entry A Y) → IsPrefix xs ys → IsPrefix xs (ys ++ e ∷ [])
  prefix_more xs ys e p = (p.0 ++ e ∷ [], sym (append_assoc xs p.0 (e ∷ [])) ∙ ap (λ (l : List (Entry A Y)). l ++ e ∷ []) p.1)
