-- The dots of records: which are there, and with which stamp they came first.
use Rattle.std.proofs.Common.{◌≡◌, ◌<◌, max, Bool, true, false, cond, ◌||◌, ◌⊎◌, inl, inr, ⊎_elim, List, [], ◌∷◌, ◌++◌, Some, refl, sym, ap, ◌∙◌, subst, arith}
use Rattle.std.specs.Prelude.{◌==◌}
use Rattle.std.proofs.lemmas.Bool.{cases_Bool, false≢true}
use Rattle.std.proofs.lemmas.Bool.Decides.{Decides-eqb}
use Rattle.std.proofs.lemmas.Option.{none-some, same_Some}
use Rattle.list_core.specs.Members.{In}
use Rattle.ids_core.specs.declared.ids.Dot.{Dot}
use Rattle.ids_core.specs.Ids.{same_dot}
use Rattle.ids_core.specs.Same.{same_dot-true}
use Rattle.ids_core.proofs.Dots.{same_dot-turned}
use Rattle.vv_core.specs.declared.stamp.Stamp.{Stamp}
use Rattle.tx_core.specs.declared.tx.Record.{Record}
use Rattle.dc_talk.specs.Records.{has, guard, first_stamp}
use Rattle.dc_talk.specs.Dots.{dots_of}

-- ---- booleans

or_false : (a b : Bool) → (a || b) ≡ false → (a ≡ false) × (b ≡ false)
or_false true b h = absurd (false≢true (sym h))
or_false false b h = (refl, h)

false_or : (a b : Bool) → a ≡ false → b ≡ false → (a || b) ≡ false
false_or a b p q = rw (p, q) refl

or_left : (a b : Bool) → a ≡ true → (a || b) ≡ true
or_left a b h = rw h refl

or_right : (a b : Bool) → b ≡ true → (a || b) ≡ true
or_right true b h = refl
or_right false b h = h

-- ---- dots

-- a number above all of its client's is a new one
pub new_dot : (d : Dot) (A : List Record) → guard d.client A < d.number → has d (dots_of A) ≡ false
new_dot d [] lt = refl
new_dot d (r ∷ A) lt =
    let rest = new_dot d A (let g = guard d.client A in let h = cond (r.tx.dot.client == d.client) r.tx.dot.number 0 in omega arith) in
    ⊎_elim
    (λ t. absurd (
    let same : d ≡ r.tx.dot = same_dot-true d r.tx.dot t in
    let client : (r.tx.dot.client == d.client) ≡ true = (Decides-eqb r.tx.dot.client d.client).1 (ap (λ d. d.client) (sym same)) in
    let number : d.number ≡ r.tx.dot.number = ap (λ d. d.number) same in
    let P : Bool → Type 0 = λ b. max (cond b r.tx.dot.number 0) (guard d.client A) < d.number in
    let above : max r.tx.dot.number (guard d.client A) < d.number = subst P client lt in
    omega arith))
    (λ f. false_or (same_dot d r.tx.dot) (has d (dots_of A)) f rest)
    (cases_Bool (same_dot d r.tx.dot))

-- with one record more, what was there is there
pub has_before : (d : Dot) (A : List Record) (r : Record) → has d (dots_of A) ≡ true → has d (dots_of (A ++ r ∷ [])) ≡ true
has_before d [] r h = absurd (false≢true h)
has_before d (q ∷ A) r h =
    ⊎_elim
    (λ t. or_left (same_dot d q.tx.dot) (has d (dots_of (A ++ r ∷ []))) t)
    (λ f. or_right (same_dot d q.tx.dot) (has d (dots_of (A ++ r ∷ []))) (has_before d A r (sym (ap (λ b. b || has d (dots_of A)) f) ∙ h)))
    (cases_Bool (same_dot d q.tx.dot))

-- and the record's own dot
pub has_last : (d : Dot) (A : List Record) (r : Record) → same_dot d r.tx.dot ≡ true → has d (dots_of (A ++ r ∷ [])) ≡ true
has_last d [] r h = or_left (same_dot d r.tx.dot) false h
has_last d (q ∷ A) r h = or_right (same_dot d q.tx.dot) (has d (dots_of (A ++ r ∷ []))) (has_last d A r h)

-- ---- the first stamp

-- a dot that is there keeps its first stamp
pub first_had : (d : Dot) (A : List Record) (r : Record) → has d (dots_of A) ≡ true → first_stamp d (A ++ r ∷ []) ≡ first_stamp d A
first_had d [] r h = absurd (false≢true h)
first_had d (q ∷ A) r h =
    ⊎_elim
    (λ t. rw t refl)
    (λ f. rw f (first_had d A r (sym (ap (λ b. b || has d (dots_of A)) (same_dot-turned q.tx.dot d false f)) ∙ h)))
    (cases_Bool (same_dot q.tx.dot d))

-- a new one has the stamp of its record
pub first_new : (d : Dot) (A : List Record) (r : Record) → has d (dots_of A) ≡ false → same_dot r.tx.dot d ≡ true → first_stamp d (A ++ r ∷ []) ≡ Some r.stamp
first_new d [] r h s = rw s refl
first_new d (q ∷ A) r h s =
    let parts = or_false (same_dot d q.tx.dot) (has d (dots_of A)) h in
    rw (same_dot-turned d q.tx.dot false parts.0) (first_new d A r parts.1 s)

-- the first stamp of a dot is that of a record
first_stamp_there : (d : Dot) (A : List Record) (s : Stamp) → first_stamp d A ≡ Some s → (r : Record) × In r A × (r.stamp ≡ s)
first_stamp_there d [] s is = absurd (none-some s is)
first_stamp_there d (r ∷ A) s is = go (λ later. first_stamp_there d A s later) (cases_Bool (same_dot r.tx.dot d))
  where
    go : (first_stamp d A ≡ Some s → (q : Record) × In q A × (q.stamp ≡ s)) → (same_dot r.tx.dot d ≡ true) ⊎ (same_dot r.tx.dot d ≡ false) → (q : Record) × In q (r ∷ A) × (q.stamp ≡ s)
    go rest (inl t) = (r, inl refl, same_Some r.stamp s (rw t at is))
    go rest (inr f) = let later = rest (rw f at is) in (later.0, inr later.1, later.2)
