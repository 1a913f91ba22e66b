-- The greatest of several puts is one that no other exceeds.
use Rattle.std.proofs.Common.{◌≡◌, ℕ, Bool, true, false, cond, ◌⊎◌, inl, inr, ⊎_elim, List, [], ◌∷◌, fold, Some, refl, sym, ap, ◌∙◌, subst}
use Rattle.std.specs.Prelude.{option_map}
use Rattle.std.proofs.lemmas.Bool.{cases_Bool, false≢true}
use Rattle.std.proofs.lemmas.Option.{none-some, same_Some}
use Rattle.std.specs.Ordering.{is_lt}
use Rattle.list_core.specs.Members.{In}
use Rattle.ids_core.specs.declared.ids.OpId.{OpId}
use Rattle.ids_core.specs.declared.ids.Mark.{Mark}
use Rattle.ids_core.specs.Orders.{mark_cmp, mark_cmp_total}
use Rattle.ids_core.proofs.Orders.{not_below_itself, below_through, at_most_through, at_most_from_not_below, not_below_from_at_most, one_mark}
use Rattle.obj_map.specs.declared.put.Put.{Put}
use Rattle.obj_map.specs.Puts.{mark_of, later, greatest, IsWordOf}

-- whether a mark is below another
abbrev lt : Mark → Mark → Bool
lt x y = is_lt (mark_cmp x y)

-- what is not below a mark that is not below another is not below that
not_below_through : (r b a : Mark) → lt b a ≡ false → lt r b ≡ false → lt r a ≡ false
not_below_through r b a f g =
    let order = mark_cmp_total in
    not_below_from_at_most order r a (at_most_through order a b r (at_most_from_not_below order b a f) (at_most_from_not_below order r b g))

-- a put as it is kept in view
abbrev told : (OpId × Put) → Mark × List ℕ
told p = (mark_of p, p.1.word)

-- the greatest of a marked word and of the puts behind it: one of them, and none of them is above it
record Best (puts : List (OpId × Put)) (b r : Mark × List ℕ) : Type 0 where
  state : fold later (Some b) puts ≡ Some r
  source : (r ≡ b) ⊎ ((p : OpId × Put) × In p puts × (r ≡ told p))
  first : lt r.0 b.0 ≡ false
  each : (p : OpId × Put) → In p puts → lt r.0 (mark_of p) ≡ false

-- there is a greatest of a marked word and the puts behind it
best : (puts : List (OpId × Put)) (b : Mark × List ℕ) → (r : Mark × List ℕ) × Best puts b r
best [] b = (b, record { state = refl; source = inl refl; first = not_below_itself mark_cmp_total b.0; each = λ p i. absurd i })
best (a ∷ puts) b = go (lt b.0 (mark_of a)) refl (λ c. best puts c)
  where
    go : (t : Bool) → lt b.0 (mark_of a) ≡ t → ((c : Mark × List ℕ) → (r : Mark × List ℕ) × Best puts c r) → (r : Mark × List ℕ) × Best (a ∷ puts) b r
    go true e rest =
        let h = rest (told a) in (
          h.0,
          record {
            state = ap (λ t. fold later (Some (cond t (told a) b)) puts) e ∙ h.1.state;
            source = ⊎_elim (λ p. inr (a, inl refl, p)) (λ p. inr (p.0, inr p.1, p.2)) h.1.source;
            first = ⊎_elim (λ t. absurd (false≢true (sym h.1.first ∙ below_through mark_cmp_total h.0.0 b.0 (mark_of a) t e))) (λ f. f) (cases_Bool (lt h.0.0 b.0));
            each = λ p i. ⊎_elim (λ s. ap (λ p. lt h.0.0 (mark_of p)) s ∙ h.1.first) (h.1.each p) i;
          },
        )
    go false e rest =
        let h = rest b in (
          h.0,
          record {
            state = ap (λ t. fold later (Some (cond t (told a) b)) puts) e ∙ h.1.state;
            source = ⊎_elim inl (λ p. inr (p.0, inr p.1, p.2)) h.1.source;
            first = h.1.first;
            each = λ p i. ⊎_elim (λ s. ap (λ p. lt h.0.0 (mark_of p)) s ∙ not_below_through h.0.0 b.0 (mark_of a) e h.1.first) (h.1.each p) i;
          },
        )

-- the greatest of a list with a put
some_greatest : (a : OpId × Put) (puts : List (OpId × Put)) → (word : List ℕ) × (greatest (a ∷ puts) ≡ Some word) × IsWordOf (a ∷ puts) word
some_greatest a puts =
    let h = best puts (told a) in
    let is : greatest (a ∷ puts) ≡ Some h.0.1 = ap (option_map (λ b. b.1)) h.1.state in
    let from : (p : OpId × Put) × In p (a ∷ puts) × (h.0 ≡ told p) = ⊎_elim (λ s. (a, inl refl, s)) (λ s. (s.0, inr s.1, s.2)) h.1.source in (
      h.0.1,
      is,
      record {
        put = from.0;
        there = from.1;
        is = ap (λ b. b.1) (sym from.2);
        above = λ p i. ap (λ m. lt m (mark_of p)) (ap (λ b. b.0) (sym from.2)) ∙ ⊎_elim (λ s. ap (λ p. lt h.0.0 (mark_of p)) s ∙ h.1.first) (h.1.each p) i;
      },
    )

-- what the fold finds is the word of a greatest put
pub greatest_is : (puts : List (OpId × Put)) (word : List ℕ) → greatest puts ≡ Some word → IsWordOf puts word
greatest_is [] word e = absurd (none-some word e)
greatest_is (a ∷ puts) word e = let g = some_greatest a puts in subst (IsWordOf (a ∷ puts)) (same_Some _ _ (sym g.1 ∙ e)) g.2

-- where an identifier has one put at most, it is the only one
pub is_greatest : (puts : List (OpId × Put)) (word : List ℕ) → ((id : OpId) (p q : Put) → In (id, p) puts → In (id, q) puts → p ≡ q) → IsWordOf puts word → greatest puts ≡ Some word
is_greatest [] word one w = absurd w.there
is_greatest (a ∷ puts) word one w =
    let g = some_greatest a puts in
    let same = one_mark (mark_of g.2.put) (mark_of w.put) (at_most_from_not_below mark_cmp_total (mark_of w.put) (mark_of g.2.put) (w.above g.2.put g.2.there)) (at_most_from_not_below mark_cmp_total (mark_of g.2.put) (mark_of w.put) (g.2.above w.put w.there)) in
    let id : g.2.put.0 ≡ w.put.0 = ap (λ m. m.id) same in
    let put : g.2.put.1 ≡ w.put.1 = one w.put.0 g.2.put.1 w.put.1 (subst (λ id. In (id, g.2.put.1) (a ∷ puts)) id g.2.there) w.there in
    g.1 ∙ ap Some (sym g.2.is ∙ (ap (λ p. p.word) put ∙ w.is))
