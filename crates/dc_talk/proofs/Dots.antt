-- Which dots are in a list, and the greatest number of a client there.
use Rattle.std.proofs.Common.{◌≡◌, ℕ, ◌≤◌, max, Bool, true, false, cond, inl, inr, ⊎_elim, List, [], ◌∷◌, refl, sym, ap, ◌∙◌, arith}
use Rattle.std.specs.Prelude.{◌==◌}
use Rattle.std.proofs.lemmas.Bool.{or_cases, or_left, or_right, eqb-true, eq-eqb, false≢true, false_from_ne_true}
use Rattle.list_core.specs.Members.{In}
use Rattle.ids_core.specs.declared.ids.Dot.{Dot}
use Rattle.ids_core.specs.Ids.{same_dot}
use Rattle.ids_core.specs.Same.{same_dot-true, same_dot-same}
use Rattle.dc_talk.specs.Records.{has, mine}

-- ---- members

-- where the test holds, the dot is a member
pub has_In : (d : Dot) (D : List Dot) → has d D ≡ true → In d D
has_In d [] is = absurd (false≢true is)
has_In d (x ∷ D) is = ⊎_elim (λ here. inl (same_dot-true d x here)) (λ later. inr (has_In d D later)) (or_cases (same_dot d x) (has d D) is)

-- of a member the test holds
pub In_has : (d : Dot) (D : List Dot) → In d D → has d D ≡ true
In_has d [] i = absurd i
In_has d (x ∷ D) (inl same) = or_left (same_dot d x) (has d D) (same_dot-same d x same)
In_has d (x ∷ D) (inr i) = or_right (same_dot d x) (has d D) (In_has d D i)

-- a dot is in the list exactly where the test holds
pub has_is : (d : Dot) (D : List Dot) (test : Bool) → (In d D → test ≡ true) → (test ≡ true → In d D) → has d D ≡ test
has_is d D true there back = In_has d D (back refl)
has_is d D false there back = false_from_ne_true (has d D) (λ is. false≢true (there (has_In d D is)))

-- ---- the greatest number of a client

-- a number of the client's is at most the greatest
pub in_mine : (client : ℕ) (D : List Dot) (d : Dot) → In d D → d.client ≡ client → d.number ≤ mine client D
in_mine client [] d i own = absurd i
in_mine client (x ∷ D) d (inl same) own =
    let test : (x.client == client) ≡ true = eq-eqb x.client client (ap (λ (d : Dot). d.client) (sym same) ∙ own) in
    let is : cond (x.client == client) x.number 0 ≡ x.number = ap (λ b. cond b x.number 0) test in
    let number : d.number ≡ x.number = ap (λ (d : Dot). d.number) same in
    omega (arith, is, number)
in_mine client (x ∷ D) d (inr i) own = let le = in_mine client D d i own in omega (arith, le)

-- a bound of all of them is one of the greatest
pub mine_bound : (client : ℕ) (D : List Dot) (bound : ℕ) → ((d : Dot) → In d D → d.client ≡ client → d.number ≤ bound) → mine client D ≤ bound
mine_bound client [] bound each = omega arith
mine_bound client (x ∷ D) bound each = go (x.client == client) refl (mine_bound client D bound (λ d i. each d (inr i)))
  where
    go : (test : Bool) → (x.client == client) ≡ test → mine client D ≤ bound → max (cond test x.number 0) (mine client D) ≤ bound
    go true is rest = let here = each x (inl refl) (eqb-true x.client client is) in omega (arith, here, rest)
    go false is rest = omega (arith, rest)

-- of fewer dots it is no greater
pub mine_grows : (client : ℕ) (D E : List Dot) → ((d : Dot) → In d D → In d E) → mine client D ≤ mine client E
mine_grows client D E within = mine_bound client D (mine client E) (λ d i own. in_mine client E d (within d i) own)
