-- The first dots of a client, and the dot of its greatest number.
use Rattle.std.proofs.Common.{◌≡◌, ℕ, suc, ◌≤◌, true, false, cond, ◌⊎◌, inl, inr, ⊎_elim, List, [], ◌∷◌, sym, ap, ◌∙◌, subst, arith}
use Rattle.std.specs.Prelude.{◌==◌}
use Rattle.std.specs.List.{range_with_len}
use Rattle.std.proofs.lemmas.Bool.{cases_Bool, cases_lt, eqb-true}
use Rattle.list_core.specs.Members.{In}
use Rattle.list_core.proofs.Members.{In_map, In_from_map}
use Rattle.list_core.proofs.Ranges.{In_range, In_from_range}
use Rattle.list_core.specs.Apart.{Apart}
use Rattle.ids_core.specs.declared.ids.Dot.{Dot}
use Rattle.dc_talk.specs.Records.{mine}
use Rattle.run_book.specs.Graphs.{own_dots}
use Rattle.run_book.proofs.Numbered.{Numbered, numbered_In}
use Rattle.run_book.proofs.Held.{dot_at}

-- ---- the dots of a client's first transactions

-- a dot of client c, with a number in a range
pub record IsOwn (client most : ℕ) (d : Dot) : Type 0 where
  pub number : ℕ
  pub low : 1 ≤ number
  pub high : number ≤ most
  pub is : d ≡ dot_at client number

-- the first dots of a client are its own
pub own_dots_are : (client count : ℕ) (d : Dot) → In d (own_dots client count) → IsOwn client count d
own_dots_are client count d i =
    let m = In_from_map (dot_at client) (range_with_len 1 count) d i in
    let r = In_from_range 1 count m.0 m.1 in
    record { number = m.0; low = r.0; high = omega (arith, r.1); is = m.2 }

-- a dot of its own is among them
pub are_own_dots : (client count : ℕ) (d : Dot) → IsOwn client count d → In d (own_dots client count)
are_own_dots client count d own = subst (λ d. In d (own_dots client count)) (sym own.is) (In_map (dot_at client) (range_with_len 1 count) own.number (In_range 1 count own.number own.low (omega (arith, own.high))))

-- fewer are among more
pub own_grows : (client few more : ℕ) (d : Dot) → few ≤ more → IsOwn client few d → IsOwn client more d
own_grows client few more d le own = record { number = own.number; low = own.low; high = omega (arith, le, own.high); is = own.is }

-- ---- the greatest number of a client

-- the greatest is that of a dot, where it is not 0
pub mine_in : (c : ℕ) (D : List Dot) → 1 ≤ mine c D → In (dot_at c (mine c D)) D
mine_in c [] one = absurd (omega (arith, one))
mine_in c (x ∷ D) one = go (mine_in c D) (cases_Bool (x.client == c))
  where
    go : (1 ≤ mine c D → In (dot_at c (mine c D)) D) → ((x.client == c) ≡ true) ⊎ ((x.client == c) ≡ false) → In (dot_at c (mine c (x ∷ D))) (x ∷ D)
    go rest (inl y) =
        let v : cond (x.client == c) x.number 0 ≡ x.number = ap (λ b. cond b x.number 0) y in
        let who : x.client ≡ c = eqb-true x.client c y in
        ⊎_elim
        (λ lt. let m : mine c (x ∷ D) ≡ mine c D = omega (arith, v, lt) in inr (subst (λ n. In (dot_at c n) D) (sym m) (rest (omega (arith, lt)))))
        (λ le. let m : mine c (x ∷ D) ≡ x.number = omega (arith, v, le) in inl (λ i. record { client = sym who i; number = m i }))
        (cases_lt x.number (mine c D))
    go rest (inr z) =
        let v : cond (x.client == c) x.number 0 ≡ 0 = ap (λ b. cond b x.number 0) z in
        let m : mine c (x ∷ D) ≡ mine c D = omega (arith, v) in
        inr (subst (λ n. In (dot_at c n) D) (sym m) (rest (omega (arith, v, one))))

-- ---- dots with successive numbers

-- elements whose dots are a client's successive ones have different dots
pub apart_numbered : {X : Type 0} (key : X → Dot) (client first : ℕ) (xs : List X) → Numbered key (dot_at client) first xs → Apart key xs
apart_numbered key client first [] all = tt
apart_numbered key client first (x ∷ xs) all = (
  λ y i same.
      let n = numbered_In key (dot_at client) (suc first) xs y all.1 i in
      absurd (omega (arith, n.low, ap (λ (d : Dot). d.number) (sym all.0 ∙ (same ∙ n.is)))),
  apart_numbered key client (suc first) xs all.1,
)
