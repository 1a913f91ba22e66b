-- Live adds and the adds that no killer sees.
use Rattle.std.proofs.Common.{◌≡◌, Bool, true, false, ◌&&◌, ◌⊎◌, inl, inr, ⊎_elim, List, refl, sym, ap, ◌∙◌}
use Rattle.std.specs.Prelude.{filter}
use Rattle.std.proofs.lemmas.Bool.{cases_Bool, and_parts, and_from, not-true, not_from_false, false≢true}
use Rattle.list_core.specs.Members.{In}
use Rattle.list_core.proofs.Choices.{not_true}
use Rattle.list_core.proofs.Members.{In_filter, In_from_filter}
use Rattle.tally_core.specs.Sees.{any, Tagged, live, unseen, IsGreatest, TagsEqualSees}
use Rattle.tally_core.proofs.Finds.{any_true, any_false, any_from, greatest}

both_ways : (a b : Bool) → (a ≡ true → b ≡ true) → (b ≡ true → a ≡ true) → a ≡ b
both_ways true b f g = sym (f refl)
both_ways false b f g = sym (not_true b (λ e. false≢true (g e)))

module _ {X : Type 0} (acts : List X) (adds kills : X → Bool) (over sees less : X → X → Bool) (t : Tagged acts (record { adds = adds; kills = kills; over = over; sees = sees; less = less })) where
  abbrev lives : X → Bool
  lives = live adds over acts

  abbrev stays : X → Bool
  stays = unseen adds kills sees acts

  no_killer : (p q : X) → stays p ≡ true → In q acts → kills q ≡ true → sees q p ≡ true → ⊥
  no_killer p q u i k s =
      let n = not-true _ (and_parts (adds p) _ u).1 in
      let f = any_false (λ q. kills q && sees q p) acts q n i in
      false≢true (sym f ∙ and_from (kills q) (sees q p) k s)

  live_unseen : (p : X) → In p acts → lives p ≡ true → stays p ≡ true
  live_unseen p i l = and_from (adds p) _ a (not_from_false _ (not_true _ none))
    where
      a : adds p ≡ true
      a = (and_parts (adds p) _ l).0

      none : any (λ q. kills q && sees q p) acts ≡ true → ⊥
      none h =
          let r = any_true (λ q. kills q && sees q p) acts h in
          let ks = and_parts (kills r.0) (sees r.0 p) r.2 in
          let o = t.kept r.0 p r.1 i ks.0 a ks.1 in
          false≢true (sym (any_false (λ q. over q p) acts o.0 (not-true _ (and_parts (adds p) _ l).1) o.1) ∙ o.2)

  -- an add that is over an unseen add is unseen
  over_unseen : (q p : X) → In q acts → In p acts → stays p ≡ true → over q p ≡ true → adds q ≡ true → stays q ≡ true
  over_unseen q p j i u o a = and_from (adds q) _ a (not_from_false _ (not_true _ none))
    where
      none : any (λ r. kills r && sees r q) acts ≡ true → ⊥
      none h =
          let r = any_true (λ r. kills r && sees r q) acts h in
          let ks = and_parts (kills r.0) (sees r.0 q) r.2 in
          no_killer p r.0 u r.1 ks.0 (t.through r.0 q p r.1 j i ks.1 (t.seen q p j i o))

  greatest_live : (g : X) → IsGreatest less stays acts g → lives g ≡ true
  greatest_live g is = and_from (adds g) _ (and_parts (adds g) _ is.passes).0 (not_from_false _ (not_true _ none))
    where
      held : (q : X) → In q acts → over q g ≡ true → ⊥
      held q j o = ⊎_elim
          (λ a. false≢true (sym (is.above q j (over_unseen q g j is.there is.passes o a)) ∙ t.grows q g j is.there (t.seen q g j is.there o)))
          (λ k. no_killer g q is.passes j k (t.seen q g j is.there o))
          (t.kinds q g j is.there o)

      none : any (λ q. over q g) acts ≡ true → ⊥
      none h = let r = any_true (λ q. over q g) acts h in held r.0 r.1 r.2

  -- an act that passes is, or is below, a greatest one that passes
  record Above (test : X → Bool) (p : X) : Type 0 where
    top : X
    greatest : IsGreatest less test acts top
    from : (p ≡ top) ⊎ (less p top ≡ true)

  above : (test : X → Bool) (p : X) → In p acts → test p ≡ true → Above test p
  above test p i h = at (cases_Bool (any (less p) (filter test acts)))
    where
      passing : (x : X) → In x (filter test acts) → In x acts × (test x ≡ true)
      passing x j = In_from_filter test acts x j

      at : (any (less p) (filter test acts) ≡ true) ⊎ (any (less p) (filter test acts) ≡ false) → Above test p
      at (inr none) = record {
        top = p;
        greatest = record { there = i; passes = h; above = λ q j k. any_false (less p) (filter test acts) q none (In_filter test acts q j k) };
        from = inl refl;
      }
      at (inl some) =
          let r = any_true (less p) (filter test acts) some in
          let g = greatest less t.irreflexive t.transitive (filter (less p) (filter test acts)) r.0 (In_filter (less p) (filter test acts) r.0 r.1 r.2) in
          let gi = In_from_filter (less p) (filter test acts) g.0 g.1 in
          let there = passing g.0 gi.0 in
          record {
            top = g.0;
            greatest = record {
              there = there.0;
              passes = there.1;
              above = λ q j k. not_true _ (λ e. false≢true (sym (g.2 q (In_filter (less p) (filter test acts) q (In_filter test acts q j k) (t.transitive p g.0 q gi.1 e))) ∙ e));
            };
            from = inr gi.1;
          }

  live_to_unseen : (g : X) → IsGreatest less lives acts g → IsGreatest less stays acts g
  live_to_unseen g is = record {
    there = is.there;
    passes = live_unseen g is.there is.passes;
    above = λ p i u. not_true _ (λ e.
        let a = above stays p i u in
        let up : less g a.top ≡ true = ⊎_elim (λ s. ap (less g) (sym s) ∙ e) (λ b. t.transitive g p a.top e b) a.from in
        false≢true (sym (is.above a.top a.greatest.there (greatest_live a.top a.greatest)) ∙ up));
  }

  unseen_to_live : (g : X) → IsGreatest less stays acts g → IsGreatest less lives acts g
  unseen_to_live g is = record {
    there = is.there;
    passes = greatest_live g is;
    above = λ p i l. is.above p i (live_unseen p i l);
  }

  some_unseen : any lives acts ≡ true → any stays acts ≡ true
  some_unseen h = let r = any_true lives acts h in any_from stays acts r.0 r.1 (live_unseen r.0 r.1 r.2)

  some_live : any stays acts ≡ true → any lives acts ≡ true
  some_live h =
      let r = any_true stays acts h in
      let a = above stays r.0 r.1 r.2 in
      any_from lives acts a.top a.greatest.there (greatest_live a.top a.greatest)

  pub tags_equal_sees : TagsEqualSees acts (record { adds = adds; kills = kills; over = over; sees = sees; less = less })
  tags_equal_sees = record {
    live_is_unseen = live_unseen;
    greatest_is_live = greatest_live;
    same_words = both_ways _ _ some_unseen some_live;
    same_greatest = λ g. (live_to_unseen g, unseen_to_live g);
  }
