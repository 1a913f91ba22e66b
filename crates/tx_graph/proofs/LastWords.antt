-- The last of marked words.
use Rattle.std.proofs.Common.{◌≡◌, ℕ, ◌+◌, ◌<◌, true, false, inl, inr, ⊎_elim, List, [], ◌∷◌, ◌++◌, length, take, get_or, Option, Some, None, refl, sym, ap, ◌∙◌, subst}
use Rattle.std.specs.Option.{option_map}
use Rattle.std.specs.List.{filter_map}
use Rattle.std.specs.Ordering.{is_le, is_lt}
use Rattle.std.proofs.lemmas.Bool.{false≢true}
use Rattle.std.proofs.lemmas.List.{take_more}
use Rattle.std.proofs.lemmas.Option.{none-some, same_Some}
use Rattle.list_core.specs.Members.{In}
use Rattle.list_core.proofs.Members.{In_left, In_right, In_either}
use Rattle.ids_core.specs.declared.ids.Mark.{Mark}
use Rattle.ids_core.specs.Orders.{mark_cmp, mark_cmp_total}
use Rattle.ids_core.proofs.Orders.{not_below_itself, at_most_through, at_most_from_below, at_most_from_not_below}
use Rattle.dc_talk.specs.declared.calls.Change.{Change}
use Rattle.dc_talk.specs.declared.calls.Change.TheVariants.{Write}
use Rattle.tx_graph.specs.Values.{Act, change_of, Writes, IsLastWord}
use Rattle.tx_graph.specs.Unseen.{written, marked_write, IsLast, IsLastOf, is_later}
use Rattle.list_core.proofs.Passing.{In_filter_map, In_from_filter_map}

-- a mark is at most itself
upto_itself : (x : Mark) → is_le (mark_cmp x x) ≡ true
upto_itself x = at_most_from_not_below mark_cmp_total x x (not_below_itself mark_cmp_total x)

-- a later word is the last of both
later_takes : (words : List (Mark × List ℕ)) (last next : Mark × List ℕ) → IsLast words last → is_lt (mark_cmp last.0 next.0) ≡ true → IsLast (words ++ next ∷ []) next
later_takes words last next is later = record {
  there = In_right words (next ∷ []) next (inl refl);
  above = λ other i. ⊎_elim
      (λ j. at_most_through mark_cmp_total other.0 last.0 next.0 (is.above other j) (at_most_from_below mark_cmp_total last.0 next.0 later))
      (λ j. at other j)
      (In_either words (next ∷ []) other i);
}
  where
    at : (other : Mark × List ℕ) → In other (next ∷ []) → is_le (mark_cmp other.0 next.0) ≡ true
    at other (inl same) = ap (λ (w : Mark × List ℕ). is_le (mark_cmp w.0 next.0)) same ∙ upto_itself next.0
    at other (inr j) = absurd j

-- one that is not later leaves the last as it is
later_keeps : (words : List (Mark × List ℕ)) (last next : Mark × List ℕ) → IsLast words last → is_lt (mark_cmp last.0 next.0) ≡ false → IsLast (words ++ next ∷ []) last
later_keeps words last next is not_later = record {
  there = In_left words (next ∷ []) last is.there;
  above = λ other i. ⊎_elim (is.above other) (λ j. at other j) (In_either words (next ∷ []) other i);
}
  where
    at : (other : Mark × List ℕ) → In other (next ∷ []) → is_le (mark_cmp other.0 last.0) ≡ true
    at other (inl same) = ap (λ (w : Mark × List ℕ). is_le (mark_cmp w.0 last.0)) same ∙ at_most_from_not_below mark_cmp_total last.0 next.0 not_later
    at other (inr j) = absurd j

-- one more word that is later is the last
pub last_takes : (words : List (Mark × List ℕ)) (last : Option (Mark × List ℕ)) (next : Mark × List ℕ) → IsLastOf words last → is_later next.0 last ≡ true → IsLast (words ++ next ∷ []) next
last_takes words None next is later = subst (λ l. IsLast (l ++ next ∷ []) next) (sym is) (record { there = inl refl; above = λ other i. alone other i })
  where
    alone : (other : Mark × List ℕ) → In other (next ∷ []) → is_le (mark_cmp other.0 next.0) ≡ true
    alone other (inl same) = ap (λ (w : Mark × List ℕ). is_le (mark_cmp w.0 next.0)) same ∙ upto_itself next.0
    alone other (inr j) = absurd j
last_takes words (Some last) next is later = later_takes words last next is later

-- one more word that is not later changes nothing
pub last_keeps : (words : List (Mark × List ℕ)) (last : Option (Mark × List ℕ)) (next : Mark × List ℕ) → IsLastOf words last → is_later next.0 last ≡ false → IsLastOf (words ++ next ∷ []) last
last_keeps words None next is later = absurd (false≢true (sym later))
last_keeps words (Some last) next is later = later_keeps words last next is later

-- the last of the words up to a place is that of one more
pub last_more : (words : List (Mark × List ℕ)) (i : ℕ) (last new : Option (Mark × List ℕ)) (next : Mark × List ℕ) → i < length words → next ≡ get_or words i next → IsLastOf (take i words) last → ((before : List (Mark × List ℕ)) → IsLastOf before last → IsLastOf (before ++ next ∷ []) new) → IsLastOf (take (i + 1) words) new
last_more words i last new next within at is step =
    let same : take i words ++ next ∷ [] ≡ take (i + 1) words = ap (λ w. take i words ++ w ∷ []) at ∙ sym (take_more words i next within) in
    subst (λ l. IsLastOf l new) same (step (take i words) is)

-- ---- registers

-- a marked write is one of an act
record IsWriteOf (acts : List Act) (write : Mark × List ℕ) : Type 0 where
  act : Act
  there : In act acts
  writes : change_of act.op ≡ Write write.1
  mark : act.mark ≡ write.0

-- a member of the marked writes is one of an act
act_of_write : (acts : List Act) (write : Mark × List ℕ) → In write (filter_map marked_write acts) → IsWriteOf acts write
act_of_write acts write i =
    let r = In_from_filter_map marked_write acts write i in
    go r.0 r.1 (change_of r.0.op) refl r.2
  where
    made : (act : Act) → In act acts → (word : List ℕ) → change_of act.op ≡ Write word → (act.mark, word) ≡ write → IsWriteOf acts write
    made act i word writes is = record { act = act; there = i; writes = writes ∙ ap Write (ap (λ w. w.1) is); mark = ap (λ w. w.0) is }

    go : (act : Act) → In act acts → (change : Change) → change_of act.op ≡ change → option_map (λ word. (act.mark, word)) (written change) ≡ Some write → IsWriteOf acts write
    go act i (Write word) writes is = made act i word writes (same_Some (act.mark, word) write is)
    go act i _ writes is = absurd (none-some write is)

-- the write of an act is among them
of_write : (acts : List Act) (act : Act) (word : List ℕ) → In act acts → change_of act.op ≡ Write word → In (act.mark, word) (filter_map marked_write acts)
of_write acts act word i is = In_filter_map marked_write acts act (act.mark, word) i (ap (λ change. option_map (λ word. (act.mark, word)) (written change)) is)

-- the last of the writes is the value of the register
pub last_word : (acts : List Act) (writes : List (Mark × List ℕ)) (last : Mark × List ℕ) → writes ≡ filter_map marked_write acts → IsLast writes last → IsLastWord acts last.1
last_word acts writes last all is =
    let w = act_of_write acts last (subst (λ l. In last l) all is.there) in
    record {
      act = w.act;
      there = w.there;
      writes = w.writes;
      above = λ other word i writes. ap (λ m. is_le (mark_cmp other.mark m)) w.mark ∙ is.above (other.mark, word) (subst (λ l. In (other.mark, word) l) (sym all) (of_write acts other word i writes));
    }

-- where nothing is written it has none
pub no_word : (acts : List Act) (writes : List (Mark × List ℕ)) → writes ≡ filter_map marked_write acts → writes ≡ [] → (act : Act) (word : List ℕ) → In act acts → Writes act word → ⊥
no_word acts writes all none act word i is = subst (λ l. In (act.mark, word) l) (sym all ∙ none) (of_write acts act word i is)
