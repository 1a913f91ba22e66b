-- The rows of a bundle are what the centre knows each centre to have.
use Rattle.std.proofs.Common.{◌≡◌, ◌≢◌, ◌<◌, ◌≤◌, ℕ, zero, suc, ◌+◌, true, false, cond, ◌⊎◌, inl, inr, List, [], ◌∷◌, map, get_or, refl, ap, ◌∙◌, sym, arith}
use Rattle.std.specs.Prelude.{◌==◌}
use Rattle.std.specs.List.{range_with_len}
use Rattle.std.proofs.lemmas.Bool.{cases_Bool, false≢true, eq-eqb}
use Rattle.k_stable.specs.Tables.{Table, told_by, rows_of}
use Rattle.dc_talk.specs.declared.settings.Settings.{Settings}
use Rattle.dc_talk.specs.Entries.{Entry}
use Rattle.dc_talk.specs.Trails.{told}

-- values that agree at some numbers in a row
agree : {X : Type 0} (f g : ℕ → X) (low n : ℕ) → ((j : ℕ) → low ≤ j → j < low + n → f j ≡ g j) → map f (range_with_len low n) ≡ map g (range_with_len low n)
agree f g low zero same = refl
agree f g low (suc n) same = ap (λ x. x ∷ map f (range_with_len (low + 1) n)) (same low (omega arith) (omega arith)) ∙ ap (λ l. g low ∷ l) (agree f g (low + 1) n (λ j least most. same j (omega (arith, least)) (omega (arith, most))))

-- the table of a centre with these rows
abbrev pub table_with : Settings → List (List ℕ) → Table
table_with s rows = record { me = s.me; n = s.n; k = s.k; rows = rows }

-- what was told stands in the rows
told_in : (s : Settings) (t : Table) (rows : List (List ℕ)) → rows ≡ t.rows → (j : ℕ) → told_by (table_with s rows) j ≡ told_by t j
told_in s t rows is zero = refl
told_in s t rows is (suc i) = ap (λ (rows : List (List ℕ)). get_or rows i []) is

-- so the rows are those that the trail says
pub rows_told : (s : Settings) (t : Table) (rows : List (List ℕ)) (trail : List Entry) (own : List ℕ) → rows ≡ t.rows → ((j : ℕ) → j ≢ s.me → 1 ≤ j → j ≤ s.n → told_by t j ≡ told s.n j trail) → rows_of (table_with s rows) own ≡ map (λ j. cond (j == s.me) own (told s.n j trail)) (range_with_len 1 s.n)
rows_told s t rows trail own is says = agree (λ j. cond (j == s.me) own (told_by (table_with s rows) j)) (λ j. cond (j == s.me) own (told s.n j trail)) 1 s.n (λ j low high. one j low (omega (arith, high)) (cases_Bool (j == s.me)))
  where
    one : (j : ℕ) → 1 ≤ j → j ≤ s.n → ((j == s.me) ≡ true) ⊎ ((j == s.me) ≡ false) → cond (j == s.me) own (told_by (table_with s rows) j) ≡ cond (j == s.me) own (told s.n j trail)
    one j low high (inl t) = rw t refl
    one j low high (inr f) = rw f (told_in s t rows is j ∙ says j (λ same. false≢true (sym f ∙ eq-eqb j s.me same)) low high)
