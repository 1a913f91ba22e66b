-- The keys of puts that no erase sees, each with the last word under it, are the value of the map.
use Rattle.std.proofs.Common.{◌≡◌, ℕ, ◌+◌, ◌<◌, Bool, true, false, ◌↔◌, inl, inr, ⊎_elim, List, [], ◌∷◌, ◌++◌, length, take, get_or, map, Some, refl, sym, ap, ◌∙◌, subst}
use Rattle.std.specs.List.{filter_map}
use Rattle.std.specs.List.Sorted.{IsStrictlySortedBy}
use Rattle.std.specs.Ordering.{is_le}
use Rattle.std.specs.Str.{bytes_eq}
use Rattle.std.specs.Cmp.Lexicographic.{bytes_decides}
use Rattle.std.proofs.lemmas.List.{take_more, map_push}
use Rattle.std.proofs.lemmas.Option.{none-some, same_Some, slice_get-get_or}
use Rattle.list_core.specs.Members.{In}
use Rattle.list_core.specs.Choices.{when}
use Rattle.list_core.proofs.Gets.{get_In}
use Rattle.list_core.proofs.Members.{In_either, In_map, In_from_map}
use Rattle.ids_core.specs.declared.ids.Mark.{Mark}
use Rattle.ids_core.specs.Orders.{mark_cmp, name_cmp}
use Rattle.tx_graph.specs.declared.unseen.UnseenPut.{UnseenPut}
use Rattle.dc_talk.specs.declared.calls.Change.TheVariants.{Put}
use Rattle.tx_graph.specs.Values.{Act, change_of, IsUnseenPut, IsWordAt, IsMapOver}
use Rattle.tx_graph.specs.Acts.{HasUniqueMarks}
use Rattle.tx_graph.specs.Unseen.{unseen_put, word_under, IsLast, ArePairsOf}
use Rattle.list_core.proofs.Passing.{In_filter_map, In_from_filter_map}
use Rattle.tx_graph.proofs.UnseenActs.{put_of, of_put, kept_of}
use Rattle.ids_core.proofs.Orders.{one_mark}

-- ---- the words under a key

-- a marked word under a key is that of a put
record IsUnder (puts : List UnseenPut) (key : List ℕ) (word : Mark × List ℕ) : Type 0 where
  kept : UnseenPut
  there : In kept puts
  key_is : kept.key ≡ key
  is : (kept.mark, kept.word) ≡ word

-- what is among the words under a key is the word of a put of the key
under : (puts : List UnseenPut) (key : List ℕ) (word : Mark × List ℕ) → In word (filter_map (word_under key) puts) → IsUnder puts key word
under puts key word i =
    let r = In_from_filter_map (word_under key) puts word i in
    go r.0 r.1 (bytes_eq r.0.key key) refl r.2
  where
    go : (kept : UnseenPut) → In kept puts → (b : Bool) → bytes_eq kept.key key ≡ b → when b (kept.mark, kept.word) ≡ Some word → IsUnder puts key word
    go kept i true test is = record { kept = kept; there = i; key_is = (bytes_decides kept.key key).0 test; is = same_Some (kept.mark, kept.word) word is }
    go kept i false test is = absurd (none-some word is)

-- the word of a put is among the words under its key
is_under : (puts : List UnseenPut) (kept : UnseenPut) → In kept puts → In (kept.mark, kept.word) (filter_map (word_under kept.key) puts)
is_under puts kept i = In_filter_map (word_under kept.key) puts kept (kept.mark, kept.word) i (ap (λ b. when b (kept.mark, kept.word)) ((bytes_decides kept.key kept.key).1 refl))

-- ---- the loop over the keys

-- there is a word under the key of a put
some_under : (puts : List UnseenPut) (key : List ℕ) → In key (map (λ (kept : UnseenPut). kept.key) puts) → filter_map (word_under key) puts ≡ [] → ⊥
some_under puts key i none =
    let m = In_from_map (λ (kept : UnseenPut). kept.key) puts key i in
    subst (λ l. In (m.0.mark, m.0.word) l) (ap (λ key. filter_map (word_under key) puts) (sym m.2) ∙ none) (is_under puts m.0 m.1)

-- one more key, with the last word under it
pub pairs_more : (puts : List UnseenPut) (keys : List (List ℕ)) (i : ℕ) (key : List ℕ) (words : List (Mark × List ℕ)) (last : Mark × List ℕ) (pairs new : List (List ℕ × List ℕ)) → i < length keys → key ≡ get_or keys i key → words ≡ filter_map (word_under key) puts → IsLast words last → new ≡ pairs ++ (key, last.1) ∷ [] → ArePairsOf puts (take i keys) pairs → ArePairsOf puts (take (i + 1) keys) new
pairs_more puts keys i key words last pairs new within at all is pushed are = subst (λ l. ArePairsOf puts (take (i + 1) keys) l) (sym pushed) (record {
  keys_are = map_push (λ pair. pair.0) pairs (key, last.1) ∙ (ap (λ l. l ++ key ∷ []) are.keys_are ∙ (ap (λ k. take i keys ++ k ∷ []) at ∙ sym (take_more keys i key within)));
  words = λ k w j. ⊎_elim (are.words k w) (λ here. one (k, w) here) (In_either pairs ((key, last.1) ∷ []) (k, w) j);
})
  where
    one : (pair : List ℕ × List ℕ) → In pair ((key, last.1) ∷ []) → (mark : Mark) × IsLast (filter_map (word_under pair.0) puts) (mark, pair.1)
    one pair (inl same) = (last.0, subst (λ (pair : List ℕ × List ℕ). IsLast (filter_map (word_under pair.0) puts) (last.0, pair.1)) (sym same) (subst (λ l. IsLast l last) all is))
    one pair (inr j) = absurd j

-- there is one under each of the keys, where these are keys of puts
pub some_last : (puts : List UnseenPut) (keys : List (List ℕ)) (i : ℕ) (key : List ℕ) → i < length keys → key ≡ get_or keys i key → ((key : List ℕ) → In key keys → In key (map (λ (kept : UnseenPut). kept.key) puts)) → filter_map (word_under key) puts ≡ [] → ⊥
some_last puts keys i key within at of none = some_under puts key (of key (member keys i key within at)) none
  where
    member : (xs : List (List ℕ)) (i : ℕ) (x : List ℕ) → i < length xs → x ≡ get_or xs i x → In x xs
    member xs i x within at = get_In xs i x (slice_get-get_or xs i x within ∙ ap Some (sym at))

-- ---- the value

module _ (acts : List Act) (unique : HasUniqueMarks acts) where
  -- the puts that no erase sees
  abbrev puts : List UnseenPut
  puts = filter_map (unseen_put acts) acts

  -- the last word under a key is that of its greatest put that no erase sees
  word_at : (key word : List ℕ) (mark : Mark) → IsLast (filter_map (word_under key) puts) (mark, word) → IsWordAt acts key word
  word_at key word mark last =
      let u = under puts key (mark, word) last.there in
      let a = put_of acts u.kept u.there in
      let mark_is : a.act.mark ≡ mark = a.mark ∙ ap (λ w. w.0) u.is in
      record {
        act = a.act;
        unseen = subst (λ key. IsUnseenPut acts key word a.act) u.key_is (subst (λ word. IsUnseenPut acts u.kept.key word a.act) (ap (λ w. w.1) u.is) a.unseen);
        above = λ other other_word v. ap (λ m. is_le (mark_cmp other.mark m)) mark_is ∙ last.above (other.mark, other_word) (is_under puts (kept_of acts other (key, other_word)) (of_put acts key other_word other v));
      }

  -- equal puts are of one word
  one_put : (key v w : List ℕ) → Put key v ≡ Put key w → v ≡ w
  one_put key v w same = cc

  -- a key has one greatest put
  one_word : (key v w : List ℕ) → IsWordAt acts key v → IsWordAt acts key w → v ≡ w
  one_word key v w a b =
      let marks = one_mark a.act.mark b.act.mark (b.above a.act v a.unseen) (a.above b.act w b.unseen) in
      let same = unique.one_act a.act b.act a.unseen.there b.unseen.there marks in
      one_put key v w (sym a.unseen.puts ∙ (ap (λ (act : Act). change_of act.op) same ∙ b.unseen.puts))

  -- pairs of those keys, with the last words under them, are the value
  pub map_over : (keys : List (List ℕ)) (pairs : List (List ℕ × List ℕ)) → IsStrictlySortedBy name_cmp keys → ((key : List ℕ) → In key keys ↔ In key (map (λ (kept : UnseenPut). kept.key) puts)) → ArePairsOf puts keys pairs → IsMapOver acts pairs
  map_over keys pairs ascending same are = record {
    ascending = subst (λ l. IsStrictlySortedBy name_cmp l) (sym are.keys_are) ascending;
    exact = λ key word. (λ i. let l = are.words key word i in word_at key word l.0 l.1, λ w. to key word w);
  }
    where
      to : (key word : List ℕ) → IsWordAt acts key word → In (key, word) pairs
      to key word w =
          let there = (same key).1 (In_map (λ (kept : UnseenPut). kept.key) puts (kept_of acts w.act (key, word)) (of_put acts key word w.act w.unseen)) in
          let p = In_from_map (λ (pair : List ℕ × List ℕ). pair.0) pairs key (subst (λ l. In key l) (sym are.keys_are) there) in
          let i : In (key, p.0.1) pairs = subst (λ key. In (key, p.0.1) pairs) (sym p.2) p.1 in
          let l = are.words key p.0.1 i in
          let is = one_word key p.0.1 word (word_at key p.0.1 l.0 l.1) w in
          subst (λ word. In (key, word) pairs) is i

-- ---- the keys

-- keys that were sorted are those of the puts, in lists that are equal
pub same_keys : (puts first second : List UnseenPut) (found sorted keys : List (List ℕ)) → first ≡ puts → second ≡ puts → found ≡ map (λ (kept : UnseenPut). kept.key) first → ((key : List ℕ) → In key sorted ↔ In key found) → keys ≡ sorted → (key : List ℕ) → In key keys ↔ In key (map (λ (kept : UnseenPut). kept.key) second)
same_keys puts first second found sorted keys one two all same is key = (
  λ i. subst (λ l. In key l) to ((same key).0 (subst (λ l. In key l) is i)),
  λ i. subst (λ l. In key l) (sym is) ((same key).1 (subst (λ l. In key l) (sym to) i)),
)
  where
    to : found ≡ map (λ (kept : UnseenPut). kept.key) second
    to = all ∙ ap (λ (l : List UnseenPut). map (λ (kept : UnseenPut). kept.key) l) (one ∙ sym two)

-- the same, of lists that are equal to the puts and to the sorted keys
pub map_of : (acts : List Act) (second : List UnseenPut) (keys sorted : List (List ℕ)) (pairs : List (List ℕ × List ℕ)) → HasUniqueMarks acts → second ≡ filter_map (unseen_put acts) acts → keys ≡ sorted → IsStrictlySortedBy name_cmp sorted → ((key : List ℕ) → In key keys ↔ In key (map (λ (kept : UnseenPut). kept.key) second)) → ArePairsOf second keys pairs → IsMapOver acts pairs
map_of acts second keys sorted pairs unique all is ascending same are = map_over acts unique keys pairs
    (subst (λ l. IsStrictlySortedBy name_cmp l) (sym is) ascending)
    (subst (λ (l : List UnseenPut). (key : List ℕ) → In key keys ↔ In key (map (λ (kept : UnseenPut). kept.key) l)) all same)
    (subst (λ l. ArePairsOf l keys pairs) all are)
