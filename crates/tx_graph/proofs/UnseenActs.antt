-- What acts give that nothing takes out which sees them makes the values of sets and maps.
use Rattle.std.proofs.Common.{◌≡◌, ℕ, Bool, true, false, not, ◌&&◌, ◌↔◌, List, Option, Some, None, refl, sym, ap, ◌∙◌, subst}
use Rattle.std.specs.Option.{option_map, option_and_then}
use Rattle.std.specs.List.{filter_map}
use Rattle.std.specs.List.Sorted.{IsStrictlySortedBy}
use Rattle.std.specs.Cmp.Lexicographic.{bytes_decides}
use Rattle.std.proofs.lemmas.Bool.{and_parts, and_from, false≢true, false_from_ne_true}
use Rattle.std.proofs.lemmas.Option.{none-some, same_Some}
use Rattle.list_core.specs.Members.{In}
use Rattle.list_core.specs.Choices.{when}
use Rattle.ids_core.specs.Orders.{name_cmp}
use Rattle.tally_core.proofs.Finds.{any_true, any_false}
use Rattle.dc_talk.specs.declared.calls.Change.{Change}
use Rattle.dc_talk.specs.declared.calls.Change.TheVariants.{Add, Remove, Put, Erase}
use Rattle.tx_graph.specs.declared.unseen.UnseenPut.{UnseenPut}
use Rattle.tx_graph.specs.Values.{Act, change_of, sees, IsUnseenAdd, IsSetOver, IsUnseenPut}
use Rattle.tx_graph.specs.Unseen.{added, removed, put, erased, is_name, is_taken, unseen, unseen_add, unseen_put}
use Rattle.list_core.proofs.Passing.{In_filter_map, In_from_filter_map}

-- ---- names

-- where the test holds, the name is there
is_name-true : (o : Option (List ℕ)) (name : List ℕ) → is_name o name ≡ true → o ≡ Some name
is_name-true None name is = absurd (false≢true is)
is_name-true (Some other) name is = ap Some ((bytes_decides other name).0 is)

-- of a name that is there the test holds
is_name-from : (o : Option (List ℕ)) (name : List ℕ) → o ≡ Some name → is_name o name ≡ true
is_name-from o name is = ap (λ o. is_name o name) is ∙ (bytes_decides name name).1 refl

-- ---- what changes give and take out

-- what adds a word is its add
added_is : (change : Change) (word : List ℕ) → added change ≡ Some word → change ≡ Add word
added_is (Add other) word is = ap Add (same_Some other word is)
added_is _ word is = absurd (none-some word is)

-- what removes one is its remove
removed_is : (change : Change) (word : List ℕ) → removed change ≡ Some word → change ≡ Remove word
removed_is (Remove other) word is = ap Remove (same_Some other word is)
removed_is _ word is = absurd (none-some word is)

-- what puts a word under a key is that put
put_is : (change : Change) (key word : List ℕ) → put change ≡ Some (key, word) → change ≡ Put key word
put_is (Put k w) key word is = ap (λ (pair : List ℕ × List ℕ). Put pair.0 pair.1) (same_Some (k, w) (key, word) is)
put_is _ key word is = absurd (none-some (key, word) is)

-- what erases a key is its erase
erased_is : (change : Change) (key : List ℕ) → erased change ≡ Some key → change ≡ Erase key
erased_is (Erase other) key is = ap Erase (same_Some other key is)
erased_is _ key is = absurd (none-some key is)

-- ---- what nothing takes out

module _ (takes : Change → Option (List ℕ)) (acts : List Act) where
  -- no act that takes out the name sees the act
  abbrev pub IsUntaken : List ℕ → Act → Type 0
  IsUntaken name act = (other : Act) → In other acts → takes (change_of other.op) ≡ Some name → sees other act ≡ false

  -- the other act takes out the name and sees the act
  abbrev does : List ℕ → Act → Act → Bool
  does name act other = is_name (takes (change_of other.op)) name && sees other act

  -- where the test fails, nothing takes out the name
  not_taken : (name : List ℕ) (act : Act) → is_taken takes acts name act ≡ false → IsUntaken name act
  not_taken name act none other i named = false_from_ne_true (sees other act) (λ s. false≢true (sym (any_false (does name act) acts other none i) ∙ and_from (is_name (takes (change_of other.op)) name) (sees other act) (is_name-from (takes (change_of other.op)) name named) s))

  -- where nothing takes it out, the test fails
  untaken : (name : List ℕ) (act : Act) → IsUntaken name act → is_taken takes acts name act ≡ false
  untaken name act clear = false_from_ne_true (is_taken takes acts name act) seen
    where
      seen : is_taken takes acts name act ≡ true → ⊥
      seen is =
          let r = any_true (does name act) acts is in
          let parts = and_parts (is_name (takes (change_of r.0.op)) name) (sees r.0 act) r.2 in
          false≢true (sym (clear r.0 r.1 (is_name-true (takes (change_of r.0.op)) name parts.0)) ∙ parts.1)

  module _ {Y : Type 0} (gives : Change → Option Y) (name : Y → List ℕ) where
    -- what is there of an act is what it gives, and nothing takes it out
    pub from_unseen : (act : Act) (y : Y) → unseen gives name takes acts act ≡ Some y → (gives (change_of act.op) ≡ Some y) × IsUntaken (name y) act
    from_unseen act y is = go (gives (change_of act.op)) refl is
      where
        tested : (z : Y) (b : Bool) → is_taken takes acts (name z) act ≡ b → when (not b) z ≡ Some y → (z ≡ y) × IsUntaken (name y) act
        tested z true test there = absurd (none-some y there)
        tested z false test there =
            let same = same_Some z y there in
            (same, subst (λ z. IsUntaken (name z) act) same (not_taken (name z) act test))

        go : (o : Option Y) → gives (change_of act.op) ≡ o → option_and_then (λ y. when (not (is_taken takes acts (name y) act)) y) o ≡ Some y → (gives (change_of act.op) ≡ Some y) × IsUntaken (name y) act
        go None e there = absurd (none-some y there)
        go (Some z) e there = let r = tested z (is_taken takes acts (name z) act) refl there in (e ∙ ap Some r.0, r.1)

    -- what an act gives and nothing takes out is there
    pub to_unseen : (act : Act) (y : Y) → gives (change_of act.op) ≡ Some y → IsUntaken (name y) act → unseen gives name takes acts act ≡ Some y
    to_unseen act y is clear =
        ap (λ o. option_and_then (λ y. when (not (is_taken takes acts (name y) act)) y) o) is
        ∙ ap (λ b. when (not b) y) (untaken (name y) act clear)

-- ---- sets

-- the words of the adds that no remove sees, ascending, are the value of the set
pub set_over : (acts : List Act) (found words : List (List ℕ)) → found ≡ filter_map (unseen_add acts) acts → IsStrictlySortedBy name_cmp words → ((word : List ℕ) → In word words ↔ In word found) → IsSetOver acts words
set_over acts found words all ascending same = record {
  ascending = ascending;
  exact = λ word. (
    λ i. from word (subst (λ l. In word l) all ((same word).0 i)),
    λ add. (same word).1 (subst (λ l. In word l) (sym all) (to word add.0 add.1)),
  );
}
  where
    from : (word : List ℕ) → In word (filter_map (unseen_add acts) acts) → (act : Act) × IsUnseenAdd acts word act
    from word i =
        let r = In_from_filter_map (unseen_add acts) acts word i in
        let u = from_unseen removed acts added (λ word. word) r.0 word r.2 in
        (r.0, record { there = r.1; adds = added_is (change_of r.0.op) word u.0; unseen = λ other j removes. u.1 other j (ap removed removes) })

    to : (word : List ℕ) (act : Act) → IsUnseenAdd acts word act → In word (filter_map (unseen_add acts) acts)
    to word act add = In_filter_map (unseen_add acts) acts act word add.there (to_unseen removed acts added (λ word. word) act word (ap added add.adds) (λ other j removes. add.unseen other j (removed_is (change_of other.op) word removes)))

-- ---- puts

-- an unseen put is one of an act
pub record IsOfAct (acts : List Act) (kept : UnseenPut) : Type 0 where
  pub act : Act
  pub unseen : IsUnseenPut acts kept.key kept.word act
  pub mark : act.mark ≡ kept.mark

module _ (acts : List Act) where
  -- a put with the mark of its act
  abbrev pub kept_of : Act → (List ℕ × List ℕ) → UnseenPut
  kept_of act put = record { mark = act.mark; key = put.0; word = put.1 }

  -- what becomes of a put has its key, its word and the mark
  mapped : (act : Act) (o : Option (List ℕ × List ℕ)) (kept : UnseenPut) → option_map (kept_of act) o ≡ Some kept → (o ≡ Some (kept.key, kept.word)) × (act.mark ≡ kept.mark)
  mapped act None kept is = absurd (none-some kept is)
  mapped act (Some put) kept is =
      let same = same_Some (kept_of act put) kept is in
      (ap (λ kept. Some (kept.key, kept.word)) same, ap (λ kept. kept.mark) same)

  -- each of the unseen puts is one of an act
  pub put_of : (kept : UnseenPut) → In kept (filter_map (unseen_put acts) acts) → IsOfAct acts kept
  put_of kept i =
      let r = In_from_filter_map (unseen_put acts) acts kept i in
      let m = mapped r.0 (unseen put (λ put. put.0) erased acts r.0) kept r.2 in
      let u = from_unseen erased acts put (λ put. put.0) r.0 (kept.key, kept.word) m.0 in
      record { act = r.0; unseen = record { there = r.1; puts = put_is (change_of r.0.op) kept.key kept.word u.0; unseen = λ other j erases. u.1 other j (ap erased erases) }; mark = m.1 }

  -- each put that no erase sees is among them
  pub of_put : (key word : List ℕ) (act : Act) → IsUnseenPut acts key word act → In (kept_of act (key, word)) (filter_map (unseen_put acts) acts)
  of_put key word act is = In_filter_map (unseen_put acts) acts act (kept_of act (key, word)) is.there (ap (option_map (kept_of act)) (to_unseen erased acts put (λ put. put.0) act (key, word) (ap put is.puts) (λ other j erases. is.unseen other j (erased_is (change_of other.op) key erases))))
