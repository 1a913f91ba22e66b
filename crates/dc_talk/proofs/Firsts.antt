-- The first stamp of a dot, and the first record of each dot.
use Rattle.std.proofs.Common.{◌≡◌, ℕ, ◌≤◌, Bool, true, false, cond, ◌||◌, ◌⊎◌, inl, inr, List, [], ◌∷◌, ◌++◌, Some, refl, sym, ap, ◌∙◌}
use Rattle.std.proofs.Math.Bool.{or-false}
use Rattle.std.proofs.lemmas.Bool.{cases_Bool, or_from, or_parts, false≢true}
use Rattle.std.proofs.lemmas.Option.{none-some, same_Some}
use Rattle.list_core.specs.Members.{In}
use Rattle.list_core.specs.Apart.{Apart}
use Rattle.ids_core.specs.declared.ids.Dot.{Dot}
use Rattle.ids_core.specs.Ids.{same_dot}
use Rattle.ids_core.specs.Same.{same_dot-true, same_dot-same}
use Rattle.vv_core.specs.declared.stamp.Stamp.{Stamp}
use Rattle.tx_core.specs.declared.tx.Record.{Record}
use Rattle.dc_talk.specs.Records.{guard, first_stamp, has, firsts_past, firsts}
use Rattle.dc_talk.specs.Dots.{dots_of}
use Rattle.dc_talk.proofs.Counts.{guard_in}

-- ---- the first stamp of a dot

-- it is that of a record with the dot
pub first_stamp_is : (d : Dot) (A : List Record) (s : Stamp) → first_stamp d A ≡ Some s → (r : Record) × In r A × (r.stamp ≡ s) × (r.tx.dot ≡ d)
first_stamp_is d [] s is = absurd (none-some s is)
first_stamp_is d (q ∷ A) s is = go (first_stamp_is d A s) (same_dot q.tx.dot d) refl is
  where
    go : (first_stamp d A ≡ Some s → (r : Record) × In r A × (r.stamp ≡ s) × (r.tx.dot ≡ d)) → (b : Bool) → same_dot q.tx.dot d ≡ b → cond b (Some q.stamp) (first_stamp d A) ≡ Some s → (r : Record) × In r (q ∷ A) × (r.stamp ≡ s) × (r.tx.dot ≡ d)
    go rest true same is = (q, inl refl, same_Some q.stamp s is, same_dot-true q.tx.dot d same)
    go rest false other is = let r = rest is in (r.0, inr r.1, r.2, r.3)

-- a dot that is there has one
first_in : (d : Dot) (A : List Record) (r : Record) → In r A → r.tx.dot ≡ d → (s : Stamp) × (first_stamp d A ≡ Some s)
first_in d [] r i same = absurd i
first_in d (q ∷ A) r i same = go (λ j. first_in d A r j same) i (same_dot q.tx.dot d) refl
  where
    go : (In r A → (s : Stamp) × (first_stamp d A ≡ Some s)) → In r (q ∷ A) → (b : Bool) → same_dot q.tx.dot d ≡ b → (s : Stamp) × (cond b (Some q.stamp) (first_stamp d A) ≡ Some s)
    go rest j true is = (q.stamp, refl)
    go rest (inl here) false is = absurd (false≢true (sym is ∙ same_dot-same q.tx.dot d (sym (ap (λ r. r.tx.dot) here) ∙ same)))
    go rest (inr j) false is = rest j

-- so the dot of a client's greatest number has one
pub first_there : (client number : ℕ) (A : List Record) → 1 ≤ number → number ≡ guard client A → (s : Stamp) × (first_stamp (record { client = client; number = number }) A ≡ Some s)
first_there client number A low is =
    let h = guard_in client A number is low in
    first_in (record { client = client; number = number }) A h.item h.there (λ i. record { client = h.client_is i; number = h.number_is i })

-- ---- the first record of each dot that was not seen before

-- it is one of the records
pub firsts_in : (seen : List Dot) (A : List Record) (r : Record) → In r (firsts_past seen A) → In r A
firsts_in seen [] r i = i
firsts_in seen (x ∷ A) r i = go (has x.tx.dot seen) (λ seen j. firsts_in seen A r j) i
  where
    go : (t : Bool) → ((seen : List Dot) → In r (firsts_past seen A) → In r A) → In r (cond t (firsts_past seen A) (x ∷ firsts_past (x.tx.dot ∷ seen) A)) → In r (x ∷ A)
    go true rest i = inr (rest seen i)
    go false rest (inl same) = inl same
    go false rest (inr i) = inr (rest (x.tx.dot ∷ seen) i)

-- its dot was not seen
firsts_unseen : (seen : List Dot) (A : List Record) (r : Record) → In r (firsts_past seen A) → has r.tx.dot seen ≡ false
firsts_unseen seen [] r i = absurd i
firsts_unseen seen (x ∷ A) r i = go (has x.tx.dot seen) refl (λ seen j. firsts_unseen seen A r j) i
  where
    go : (t : Bool) → has x.tx.dot seen ≡ t → ((seen : List Dot) → In r (firsts_past seen A) → has r.tx.dot seen ≡ false) → In r (cond t (firsts_past seen A) (x ∷ firsts_past (x.tx.dot ∷ seen) A)) → has r.tx.dot seen ≡ false
    go true is rest i = rest seen i
    go false is rest (inl same) = ap (λ (r : Record). has r.tx.dot seen) same ∙ is
    go false is rest (inr i) = (or_parts (same_dot r.tx.dot x.tx.dot) (has r.tx.dot seen) (rest (x.tx.dot ∷ seen) i)).1

-- no two of them have one dot
pub firsts_apart : (seen : List Dot) (A : List Record) → Apart (λ (r : Record). r.tx.dot) (firsts_past seen A)
firsts_apart seen [] = tt
firsts_apart seen (x ∷ A) = go (has x.tx.dot seen) (λ seen. firsts_apart seen A)
  where
    go : (t : Bool) → ((seen : List Dot) → Apart (λ (r : Record). r.tx.dot) (firsts_past seen A)) → Apart (λ (r : Record). r.tx.dot) (cond t (firsts_past seen A) (x ∷ firsts_past (x.tx.dot ∷ seen) A))
    go true rest = rest seen
    go false rest = (
      λ r i same.
          let other = (or_parts (same_dot r.tx.dot x.tx.dot) (has r.tx.dot seen) (firsts_unseen (x.tx.dot ∷ seen) A r i)).0 in
          false≢true (sym other ∙ same_dot-same r.tx.dot x.tx.dot (sym same)),
      rest (x.tx.dot ∷ seen),
    )

-- each dot that is there, and was not seen, is that of one of them
pub firsts_has : (seen : List Dot) (A : List Record) (r : Record) → In r A → has r.tx.dot seen ≡ false → (q : Record) × In q (firsts_past seen A) × (q.tx.dot ≡ r.tx.dot)
firsts_has seen [] r i new = absurd i
firsts_has seen (x ∷ A) r i new = go (has x.tx.dot seen) refl (λ seen j new. firsts_has seen A r j new) i
  where
    go : (t : Bool) → has x.tx.dot seen ≡ t → ((seen : List Dot) → In r A → has r.tx.dot seen ≡ false → (q : Record) × In q (firsts_past seen A) × (q.tx.dot ≡ r.tx.dot)) → In r (x ∷ A) → (q : Record) × In q (cond t (firsts_past seen A) (x ∷ firsts_past (x.tx.dot ∷ seen) A)) × (q.tx.dot ≡ r.tx.dot)
    go true is rest (inl same) = absurd (false≢true (sym new ∙ (ap (λ (r : Record). has r.tx.dot seen) same ∙ is)))
    go true is rest (inr i) = rest seen i new
    go false is rest (inl same) = (x, inl refl, sym (ap (λ (r : Record). r.tx.dot) same))
    go false is rest (inr i) = pick (same_dot r.tx.dot x.tx.dot) refl
      where
        pick : (t : Bool) → same_dot r.tx.dot x.tx.dot ≡ t → (q : Record) × In q (x ∷ firsts_past (x.tx.dot ∷ seen) A) × (q.tx.dot ≡ r.tx.dot)
        pick true same = (x, inl refl, sym (same_dot-true r.tx.dot x.tx.dot same))
        pick false other = let h = rest (x.tx.dot ∷ seen) i (or_from (same_dot r.tx.dot x.tx.dot) (has r.tx.dot seen) other new) in (h.0, inr h.1, h.2)

-- ---- one record more

-- one that was seen adds nothing to those that were
seen_again : (a b c : Bool) → (b ≡ true → a ≡ true) → (a || c) ≡ (a || (b || c))
seen_again true b c h = refl
seen_again false true c h = absurd (false≢true (h refl))
seen_again false false c h = refl

-- of three, the first two change places
or_turned : (a b c : Bool) → ((b || a) || c) ≡ (a || (b || c))
or_turned true true c = refl
or_turned true false c = refl
or_turned false true c = refl
or_turned false false c = refl

firsts_past_more : (seen : List Dot) (A : List Record) (r : Record) → firsts_past seen (A ++ r ∷ []) ≡ firsts_past seen A ++ cond (has r.tx.dot seen || has r.tx.dot (dots_of A)) [] (r ∷ [])
firsts_past_more seen [] r = ap (λ b. cond b [] (r ∷ [])) (sym (or-false (has r.tx.dot seen)))
firsts_past_more seen (q ∷ A) r = go (firsts_past_more seen A r) (firsts_past_more (q.tx.dot ∷ seen) A r) (cases_Bool (has q.tx.dot seen))
  where
    Grows : List Dot → List Record → Bool → Type 0
    Grows seen A known = firsts_past seen (A ++ r ∷ []) ≡ firsts_past seen A ++ cond known [] (r ∷ [])

    go : Grows seen A (has r.tx.dot seen || has r.tx.dot (dots_of A)) → Grows (q.tx.dot ∷ seen) A (has r.tx.dot (q.tx.dot ∷ seen) || has r.tx.dot (dots_of A)) → (has q.tx.dot seen ≡ true) ⊎ (has q.tx.dot seen ≡ false) → Grows seen (q ∷ A) (has r.tx.dot seen || (same_dot r.tx.dot q.tx.dot || has r.tx.dot (dots_of A)))
    go here past (inl t) = rw t (here ∙ ap (λ b. firsts_past seen A ++ cond b [] (r ∷ [])) (seen_again (has r.tx.dot seen) (same_dot r.tx.dot q.tx.dot) (has r.tx.dot (dots_of A)) (λ same. ap (λ d. has d seen) (same_dot-true r.tx.dot q.tx.dot same) ∙ t)))
    go here past (inr f) = rw f (ap (λ l. q ∷ l) (past ∙ ap (λ b. firsts_past (q.tx.dot ∷ seen) A ++ cond b [] (r ∷ [])) (or_turned (has r.tx.dot seen) (same_dot r.tx.dot q.tx.dot) (has r.tx.dot (dots_of A)))))

-- the record of a new dot is the first of it
pub firsts_more : (A : List Record) (r : Record) → firsts (A ++ r ∷ []) ≡ firsts A ++ cond (has r.tx.dot (dots_of A)) [] (r ∷ [])
firsts_more A r = firsts_past_more [] A r
