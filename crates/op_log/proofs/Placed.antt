-- The places of all stamps, as transactions and stamps join and go.
use Rattle.std.proofs.Common.{◌≡◌, ◌≢◌, ◌<◌, ◌^◌, ℕ, Bool, true, false, cond, ◌⊎◌, inl, inr, ⊎_elim, List, [], ◌∷◌, ◌++◌, refl, sym, ap, ◌∙◌, subst, arith}
use Rattle.std.specs.Prelude.{◌&&◌, ◌||◌}
use Rattle.std.specs.BTreeMap.{is_at}
use Rattle.std.proofs.lemmas.Bool.{cases_Bool, false≢true, and_parts, and_from, or_cases, or_left, or_right}
use Rattle.list_core.specs.Members.{In}
use Rattle.list_core.proofs.Members.{In_left, In_right, In_more, In_map, In_from_map}
use Rattle.ids_core.specs.declared.ids.Dot.{Dot}
use Rattle.ids_core.specs.Ids.{same_dot}
use Rattle.vv_core.specs.declared.stamp.Stamp.{Stamp}
use Rattle.op_log.specs.declared.logged.Logged.{Logged}
use Rattle.stamp_index.specs.declared.places.Place.{Place}
use Rattle.op_log.specs.Logs.{has_dot, with_one, stamped, with_stamp}
use Rattle.stamp_index.specs.Places.{place_cmp, place_of, has_place, HasFitNumbers}
use Rattle.op_log.specs.Places.{IsPlaced}
use Rattle.stamp_index.proofs.Finds.{found_some}
use Rattle.op_log.proofs.Items.{stamped_number}
use Rattle.stamp_index.proofs.PlaceOrders.{place_same, place_itself}

-- of a choice that is true where a test holds, one of both holds
cond_true : (b c : Bool) → cond b true c ≡ true → (b ≡ true) ⊎ (c ≡ true)
cond_true true c is = inl refl
cond_true false c is = inr is

-- a place that is gone
lifted_gone : (b c : Bool) → c ≡ false → cond b false c ≡ false
lifted_gone true c is = refl
lifted_gone false c is = is

lifted_was : (b c : Bool) → cond b false c ≡ true → c ≡ true
lifted_was true c is = absurd (false≢true is)
lifted_was false c is = is

-- a stamp of the transaction of a number that is forgotten
module _ (n : ℕ) (s : Stamp) (ps qs : List Place) (is : (p : Place) → has_place qs p ≡ cond (is_at (place_cmp (place_of n s)) p) false (has_place ps p)) where
  pub lifted_apart : (p : Place) → p.number ≢ n → has_place qs p ≡ has_place ps p
  lifted_apart p other = is p ∙ ap (λ b. cond b false (has_place ps p)) (⊎_elim (λ at. absurd (other (ap (λ (p : Place). p.number) (sym (place_same (place_of n s) p at))))) (λ apart. apart) (cases_Bool (is_at (place_cmp (place_of n s)) p)))

  pub lifted_fewer : (p : Place) → has_place qs p ≡ true → has_place ps p ≡ true
  lifted_fewer p there = lifted_was (is_at (place_cmp (place_of n s)) p) (has_place ps p) (sym (is p) ∙ there)

  pub lifted_more : (stamps : List Stamp) → ((t : Stamp) → In t stamps → has_place ps (place_of n t) ≡ false) → (t : Stamp) → In t (stamps ++ s ∷ []) → has_place qs (place_of n t) ≡ false
  lifted_more stamps gone t i = is (place_of n t) ∙ ⊎_elim
      (λ j. lifted_gone (is_at (place_cmp (place_of n s)) (place_of n t)) (has_place ps (place_of n t)) (gone t j))
      (λ same. ap (λ b. cond b false (has_place ps (place_of n t))) (place_itself (place_of n s) (place_of n t) (ap (place_of n) (sym same))))
      (In_more stamps s t i)

-- a stamp of the transaction of a number that is noted
module _ (n : ℕ) (s : Stamp) (ps qs : List Place) (is : (p : Place) → has_place qs p ≡ cond (is_at (place_cmp (place_of n s)) p) true (has_place ps p)) where
  pub noted_kept : (p : Place) → has_place ps p ≡ true → has_place qs p ≡ true
  noted_kept p there = is p ∙ go (is_at (place_cmp (place_of n s)) p)
    where
      go : (b : Bool) → cond b true (has_place ps p) ≡ true
      go true = refl
      go false = there

  noted_here : has_place qs (place_of n s) ≡ true
  noted_here = is (place_of n s) ∙ ap (λ b. cond b true (has_place ps (place_of n s))) (place_itself (place_of n s) (place_of n s) refl)

  pub noted_there : (stamps : List Stamp) → ((t : Stamp) → In t stamps → has_place ps (place_of n t) ≡ true) → (t : Stamp) → In t (stamps ++ s ∷ []) → has_place qs (place_of n t) ≡ true
  noted_there stamps there t i = ⊎_elim (λ j. noted_kept (place_of n t) (there t j)) (λ same. subst (λ (t : Stamp). has_place qs (place_of n t) ≡ true) (sym same) noted_here) (In_more stamps s t i)

  pub noted_from : (p : Place) → has_place qs p ≡ true → (has_place ps p ≡ true) ⊎ (p ≡ place_of n s)
  noted_from p there = ⊎_elim (λ at. inr (sym (place_same (place_of n s) p at))) (λ old. inl old) (cond_true (is_at (place_cmp (place_of n s)) p) (has_place ps p) (sym (is p) ∙ there))

-- the stamps of the transaction of a number were noted, and nothing else
pub record AreNoted (n : ℕ) (stamps : List Stamp) (ps qs : List Place) : Type 0 where
  pub there : (s : Stamp) → In s stamps → has_place qs (place_of n s) ≡ true
  pub kept : (p : Place) → has_place ps p ≡ true → has_place qs p ≡ true
  pub from : (p : Place) → has_place qs p ≡ true → (has_place ps p ≡ true) ⊎ ((s : Stamp) × In s stamps × (p ≡ place_of n s))

-- no transaction has no place
pub placed_none : IsPlaced [] []
placed_none = record { there = λ x i. absurd i; from = λ p is. absurd (false≢true is) }

module _ (ps qs : List Place) where
  -- the same places
  pub placed_same : (items : List Logged) → ((p : Place) → has_place qs p ≡ has_place ps p) → IsPlaced ps items → IsPlaced qs items
  placed_same items same placed = record {
    there = λ x i s j. same (place_of x.number s) ∙ placed.there x i s j;
    from = λ p is. placed.from p (sym (same p) ∙ is);
  }

  -- fewer places have fit numbers
  pub fit_fewer : ((p : Place) → has_place qs p ≡ true → has_place ps p ≡ true) → HasFitNumbers ps → HasFitNumbers qs
  fit_fewer fewer fit p is = fit p (fewer p is)

  -- one more transaction, with one stamp
  pub placed_more : (items : List Logged) (x : Logged) (s : Stamp) → x.stamps ≡ s ∷ [] → IsPlaced ps items → ((p : Place) → has_place qs p ≡ cond (is_at (place_cmp (place_of x.number s)) p) true (has_place ps p)) → IsPlaced qs (items ++ x ∷ [])
  placed_more items x s one placed is = record {
    there = λ y i t j. ⊎_elim
        (λ k. is (place_of y.number t) ∙ kept (is_at (place_cmp (place_of x.number s)) (place_of y.number t)) (placed.there y k t j))
        (λ same. own y t same (subst (λ (l : List Stamp). In t l) (ap (λ (y : Logged). y.stamps) same ∙ one) j))
        (In_more items x y i);
    from = λ p there. ⊎_elim
        (λ at. record { item = x; there = In_right items (x ∷ []) x (inl refl); stamp = s; has = subst (λ (l : List Stamp). In s l) (sym one) (inl refl); is = sym (place_same (place_of x.number s) p at) })
        (λ old. let o = placed.from p old in record { item = o.item; there = In_left items (x ∷ []) o.item o.there; stamp = o.stamp; has = o.has; is = o.is })
        (cond_true (is_at (place_cmp (place_of x.number s)) p) (has_place ps p) (sym (is p) ∙ there));
  }
    where
      kept : (b : Bool) {c : Bool} → c ≡ true → cond b true c ≡ true
      kept true is = refl
      kept false is = is

      own : (y : Logged) (t : Stamp) → y ≡ x → In t (s ∷ []) → has_place qs (place_of y.number t) ≡ true
      own y t same (inl stamp) =
          let place : place_of x.number s ≡ place_of y.number t = λ i. place_of (sym same i).number (sym stamp i) in
          is (place_of y.number t) ∙ ap (λ b. cond b true (has_place ps (place_of y.number t))) (place_itself (place_of x.number s) (place_of y.number t) place)
      own y t same (inr none) = absurd none

  -- one more transaction, with all of its stamps
  pub placed_part : (items : List Logged) (x : Logged) → AreNoted x.number x.stamps ps qs → IsPlaced ps items → IsPlaced qs (items ++ x ∷ [])
  placed_part items x noted placed = record {
    there = λ y i t j. ⊎_elim
        (λ k. noted.kept (place_of y.number t) (placed.there y k t j))
        (λ same. subst (λ (y : Logged). has_place qs (place_of y.number t) ≡ true) (sym same) (noted.there t (subst (λ (y : Logged). In t y.stamps) same j)))
        (In_more items x y i);
    from = λ p there. ⊎_elim
        (λ old. let o = placed.from p old in record { item = o.item; there = In_left items (x ∷ []) o.item o.there; stamp = o.stamp; has = o.has; is = o.is })
        (λ new. record { item = x; there = In_right items (x ∷ []) x (inl refl); stamp = new.0; has = new.1; is = new.2 })
        (noted.from p there);
  }

  pub fit_part : (number : ℕ) (stamps : List Stamp) → AreNoted number stamps ps qs → number < 2 ^ 64 → HasFitNumbers ps → HasFitNumbers qs
  fit_part number stamps noted small fit p there = ⊎_elim
      (λ old. fit p old)
      (λ new. let own : p.number ≡ number = ap (λ (p : Place). p.number) new.2 in omega (arith, small, own))
      (noted.from p there)

  -- one more place has a fit number
  pub fit_more : (number : ℕ) (s : Stamp) → number < 2 ^ 64 → HasFitNumbers ps → ((p : Place) → has_place qs p ≡ cond (is_at (place_cmp (place_of number s)) p) true (has_place ps p)) → HasFitNumbers qs
  fit_more number s small fit is p there = ⊎_elim
      (λ at. subst (λ (p : Place). p.number < 2 ^ 64) (place_same (place_of number s) p at) small)
      (λ old. fit p old)
      (cond_true (is_at (place_cmp (place_of number s)) p) (has_place ps p) (sym (is p) ∙ there))

  module _ (items : List Logged) (d : Dot) (s : Stamp) (number : ℕ) (only : (x : Logged) → In x items → same_dot x.tx.dot d ≡ true → x.number ≡ number) (is : (p : Place) → has_place qs p ≡ ((has_dot d items && is_at (place_cmp (place_of number s)) p) || has_place ps p)) where
    -- whose place is added: that of the transaction with the dot
    added : (p : Place) → has_place qs p ≡ true → (has_place ps p ≡ true) ⊎ ((x : Logged) × In x items × (same_dot x.tx.dot d ≡ true) × (p ≡ place_of x.number s))
    added p there = ⊎_elim
        (λ new.
        let parts = and_parts (has_dot d items) (is_at (place_cmp (place_of number s)) p) new in
        let f = found_some (λ x. same_dot x.tx.dot d) items parts.0 in
        inr (f.0, f.1, f.2, sym (place_same (place_of number s) p parts.1) ∙ ap (λ n. place_of n s) (sym (only f.0 f.1 f.2))))
        (λ old. inl old)
        (or_cases (has_dot d items && is_at (place_cmp (place_of number s)) p) (has_place ps p) (sym (is p) ∙ there))

    -- one more stamp
    pub placed_stamped : IsPlaced ps items → ((x : Logged) → In x items → same_dot x.tx.dot d ≡ true → has_dot d items ≡ true) → IsPlaced qs (with_stamp d s items)
    placed_stamped placed named = record {
      there = λ y i t j. let m = In_from_map (stamped d s) items y i in subst (λ (y : Logged). has_place qs (place_of y.number t) ≡ true) (sym m.2) (of m.0 m.1 t (same_dot m.0.tx.dot d) refl (subst (λ (y : Logged). In t y.stamps) m.2 j));
      from = λ p there. ⊎_elim
          (λ old. let o = placed.from p old in record { item = stamped d s o.item; there = In_map (stamped d s) items o.item o.there; stamp = o.stamp; has = more o.item o.stamp (same_dot o.item.tx.dot d) o.has; is = o.is ∙ ap (λ n. place_of n o.stamp) (sym (stamped_number d s o.item)) })
          (λ new. record { item = stamped d s new.0; there = In_map (stamped d s) items new.0 new.1; stamp = s; has = subst (λ b. In s (cond b (with_one s new.0) new.0).stamps) (sym new.2) (In_right new.0.stamps (s ∷ []) s (inl refl)); is = new.3 ∙ ap (λ n. place_of n s) (sym (stamped_number d s new.0)) })
          (added p there);
    }
      where
        more : (x : Logged) (t : Stamp) (b : Bool) → In t x.stamps → In t (cond b (with_one s x) x).stamps
        more x t true i = In_left x.stamps (s ∷ []) t i
        more x t false i = i

        old_place : (x : Logged) → In x items → (t : Stamp) → In t x.stamps → has_place qs (place_of x.number t) ≡ true
        old_place x i t j = is (place_of x.number t) ∙ or_right (has_dot d items && is_at (place_cmp (place_of number s)) (place_of x.number t)) (has_place ps (place_of x.number t)) (placed.there x i t j)

        of : (x : Logged) → In x items → (t : Stamp) (b : Bool) → same_dot x.tx.dot d ≡ b → In t (cond b (with_one s x) x).stamps → has_place qs (place_of (cond b (with_one s x) x).number t) ≡ true
        of x i t false other j = old_place x i t j
        of x i t true same j = ⊎_elim
            (λ k. old_place x i t k)
            (λ new.
            let place : place_of number s ≡ place_of x.number t = λ k. place_of (sym (only x i same) k) (sym new k) in
            is (place_of x.number t) ∙ or_left (has_dot d items && is_at (place_cmp (place_of number s)) (place_of x.number t)) (has_place ps (place_of x.number t)) (and_from (has_dot d items) (is_at (place_cmp (place_of number s)) (place_of x.number t)) (named x i same) (place_itself (place_of number s) (place_of x.number t) place)))
            (In_more x.stamps s t j)

    pub fit_stamped : ((x : Logged) → In x items → x.number < 2 ^ 64) → HasFitNumbers ps → HasFitNumbers qs
    fit_stamped small fit p there = ⊎_elim (λ old. fit p old) (λ new. let own : p.number ≡ new.0.number = ap (λ (p : Place). p.number) new.3 in let fits = small new.0 new.1 in omega (arith, fits, own)) (added p there)

  -- a transaction's places are gone with it
  pub placed_less : (items rest : List Logged) (x : Logged) → ((y : Logged) → In y rest → In y items × (y.number ≢ x.number)) → ((y : Logged) → In y items → (y ≡ x) ⊎ In y rest) → ((p : Place) → p.number ≢ x.number → has_place qs p ≡ has_place ps p) → ((s : Stamp) → In s x.stamps → has_place qs (place_of x.number s) ≡ false) → ((p : Place) → has_place qs p ≡ true → has_place ps p ≡ true) → IsPlaced ps items → IsPlaced qs rest
  placed_less items rest x from_rest to_rest apart gone fewer placed = record {
    there = λ y i s j. let r = from_rest y i in apart (place_of y.number s) r.1 ∙ placed.there y r.0 s j;
    from = λ p there. let o = placed.from p (fewer p there) in ⊎_elim
        (λ same. absurd (false≢true (sym (gone o.stamp (subst (λ (y : Logged). In o.stamp y.stamps) same o.has)) ∙ ap (has_place qs) (ap (λ (y : Logged). place_of y.number o.stamp) (sym same) ∙ sym o.is) ∙ there)))
        (λ i. record { item = o.item; there = i; stamp = o.stamp; has = o.has; is = o.is })
        (to_rest o.item o.there);
  }
