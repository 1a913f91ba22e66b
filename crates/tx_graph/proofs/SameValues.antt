-- Acts that differ in what their operations are over alone have the same values.
use Rattle.std.proofs.Common.{◌≡◌, ◌<◌, ◌^◌, ℕ, ℤ, Bool, false, List, [], ◌∷◌, map, Option, Some, None, refl, sym, ap, ◌∙◌, subst}
use Rattle.std.specs.Int.{w128, int_wrap}
use Rattle.std.specs.List.{cons_option, filter_map}
use Rattle.std.specs.Ordering.{is_le}
use Rattle.list_core.specs.Members.{In}
use Rattle.list_core.proofs.Members.{In_map, In_from_map}
use Rattle.ids_core.specs.declared.object.Sort.{Sort}
use Rattle.ids_core.specs.declared.object.Sort.TheVariants as sort
use Rattle.ids_core.specs.Orders.{mark_cmp}
use Rattle.obj_counter.specs.Counter.{total, sizes}
use Rattle.obj_counter.specs.Laws.{fold-added}
use Rattle.obj_counter.proofs.Totals.{fold-added_exact}
use Rattle.tx_core.specs.declared.state.Value.{Value}
use Rattle.tx_core.specs.declared.state.Value.TheVariants.{Number, Word, Words, Pairs}
use Rattle.dc_talk.specs.declared.calls.Change.{Change}
use Rattle.dc_talk.specs.declared.calls.Change.TheVariants as change
use Rattle.dc_talk.specs.declared.calls.Change.TheVariants.{Write, Add, Remove, Put, Erase}
use Rattle.dc_talk.specs.Calls.{op_of}
use Rattle.tx_graph.specs.declared.acts.BareAct.{BareAct}
use Rattle.tx_graph.specs.Values.{Act, change_of, delta_of, deltas_in, sees, IsRegisterOver, IsUnseenAdd, IsSetOver, IsUnseenPut, IsWordAt, IsMapOver, IsValueBy}
use Rattle.tx_graph.specs.Acts.{bare_of, act_of, sum_of, HasUniqueMarks}

-- ---- what does not look at the identifiers that an operation is over

-- acts that are the same without identifiers are one change
same_change : (p q : Act) → bare_of p ≡ bare_of q → change_of p.op ≡ change_of q.op
same_change p q same = ap (λ (bare : BareAct). bare.change) same

-- and they have one mark
same_mark : (p q : Act) → bare_of p ≡ bare_of q → p.mark ≡ q.mark
same_mark p q same = ap (λ (bare : BareAct). bare.mark) same

-- which of two acts sees the other is told without the identifiers
same_sees : (p q r s : Act) → bare_of p ≡ bare_of q → bare_of r ≡ bare_of s → sees p r ≡ sees q s
same_sees p q r s first second = ap (λ bare. bare_sees bare (bare_of r)) first ∙ ap (λ bare. bare_sees (bare_of q) bare) second
  where
    bare_sees : BareAct → BareAct → Bool
    bare_sees later earlier = sees (act_of later) (act_of earlier)

-- ---- two lists of acts that are the same without identifiers

-- the lists are the same without the identifiers that the operations are over
pub record AreAlike (acts others : List Act) : Type 0 where
  pub are : map bare_of acts ≡ map bare_of others

-- alike both ways
turned : (acts others : List Act) → AreAlike acts others → AreAlike others acts
turned acts others alike = record { are = sym alike.are }

-- an act has its like in the other list
record HasLike (others : List Act) (act : Act) : Type 0 where
  act' : Act
  there : In act' others
  same : bare_of act ≡ bare_of act'

-- each act has its like
like : (acts others : List Act) → AreAlike acts others → (act : Act) → In act acts → HasLike others act
like acts others alike act i =
    let m = In_from_map bare_of others (bare_of act) (subst (λ l. In (bare_of act) l) alike.are (In_map bare_of acts act i)) in
    record { act' = m.0; there = m.1; same = m.2 }

module _ (acts others : List Act) (alike : AreAlike acts others) where
  -- each act of the other list has its like here
  here : (act : Act) → In act others → HasLike acts act
  here = like others acts (turned acts others alike)

  -- where no act of a change sees an act, none sees its like in the other list
  clear : (taking : Change) (p q : Act) → bare_of p ≡ bare_of q → ((other : Act) → In other acts → change_of other.op ≡ taking → sees other p ≡ false) → (other : Act) → In other others → change_of other.op ≡ taking → sees other q ≡ false
  clear taking p q same none other i takes =
      let l = here other i in
      same_sees other l.act' q p l.same (sym same) ∙ none l.act' l.there (sym (same_change other l.act' l.same) ∙ takes)

  -- the like of a change is that change
  change_like : (p q : Act) (change : Change) → bare_of p ≡ bare_of q → change_of p.op ≡ change → change_of q.op ≡ change
  change_like p q change same is = sym (same_change p q same) ∙ is

  -- ---- by kind

  -- the value of a register is one of the other list
  register_like : (word : Option (List ℕ)) → IsRegisterOver acts word → IsRegisterOver others word
  register_like None none = λ act word i writes. let l = here act i in none l.act' word l.there (change_like act l.act' (Write word) l.same writes)
  register_like (Some word) last =
      let l = like acts others alike last.act last.there in
      record {
        act = l.act';
        there = l.there;
        writes = change_like last.act l.act' (Write word) l.same last.writes;
        above = λ other other_word i writes.
            let m = here other i in
            let is = last.above m.act' other_word m.there (change_like other m.act' (Write other_word) m.same writes) in
            ap (λ mark. is_le (mark_cmp mark l.act'.mark)) (same_mark other m.act' m.same) ∙ (ap (λ mark. is_le (mark_cmp m.act'.mark mark)) (sym (same_mark last.act l.act' l.same)) ∙ is);
      }

  -- an add that no remove sees has its like
  add_like : (word : List ℕ) (act : Act) → IsUnseenAdd acts word act → (act' : Act) × IsUnseenAdd others word act'
  add_like word act add =
      let l = like acts others alike act add.there in (
        l.act',
        record {
          there = l.there;
          adds = change_like act l.act' (Add word) l.same add.adds;
          unseen = clear (Remove word) act l.act' l.same add.unseen;
        },
      )

  -- a put that no erase sees has its like
  put_like : (key word : List ℕ) (act act' : Act) → bare_of act ≡ bare_of act' → In act' others → IsUnseenPut acts key word act → IsUnseenPut others key word act'
  put_like key word act act' same there is = record {
    there = there;
    puts = change_like act act' (Put key word) same is.puts;
    unseen = clear (Erase key) act act' same is.unseen;
  }

module _ (acts others : List Act) (alike : AreAlike acts others) where
  -- the lists are alike the other way round
  back : AreAlike others acts
  back = turned acts others alike

  -- the value of a set is one of the other list
  set_like : (words : List (List ℕ)) → IsSetOver acts words → IsSetOver others words
  set_like words is = record {
    ascending = is.ascending;
    exact = λ word. (
      λ i. let a = (is.exact word).0 i in add_like acts others alike word a.0 a.1,
      λ a. (is.exact word).1 (add_like others acts back word a.0 a.1),
    );
  }

  -- the word of the greatest put of a key is that of the other list
  word_like : (key word : List ℕ) → IsWordAt acts key word → IsWordAt others key word
  word_like key word w =
      let l = like acts others alike w.act w.unseen.there in
      record {
        act = l.act';
        unseen = put_like acts others alike key word w.act l.act' l.same l.there w.unseen;
        above = λ other other_word u.
            let m = like others acts back other u.there in
            let is = w.above m.act' other_word (put_like others acts back key other_word other m.act' m.same m.there u) in
            ap (λ mark. is_le (mark_cmp mark l.act'.mark)) (same_mark other m.act' m.same) ∙ (ap (λ mark. is_le (mark_cmp m.act'.mark mark)) (sym (same_mark w.act l.act' l.same)) ∙ is);
      }

module _ (acts others : List Act) (alike : AreAlike acts others) where
  -- the value of a map is one of the other list
  map_like : (pairs : List (List ℕ × List ℕ)) → IsMapOver acts pairs → IsMapOver others pairs
  map_like pairs is = record {
    ascending = is.ascending;
    exact = λ key word. (
      λ i. word_like acts others alike key word ((is.exact key word).0 i),
      λ w. (is.exact key word).1 (word_like others acts (turned acts others alike) key word w),
    );
  }

-- alike lists have the same deltas
deltas_like : (acts others : List Act) → map bare_of acts ≡ map bare_of others → deltas_in acts ≡ deltas_in others
deltas_like acts others same = by_bare acts ∙ (ap bare_deltas same ∙ sym (by_bare others))
  where
    bare_deltas : List BareAct → List ℤ
    bare_deltas bares = filter_map (λ bare. delta_of bare.change) bares

    by_bare : (acts : List Act) → deltas_in acts ≡ bare_deltas (map bare_of acts)
    by_bare [] = refl
    by_bare (act ∷ acts) = ap (λ l. cons_option (delta_of (change_of act.op)) l) (by_bare acts)

-- the value that is computed: as it is defined, but that the sum of a counter is wrapped
abbrev pub IsComputed : Sort → List Act → Value → Type 0
IsComputed sort.Counter acts value = value ≡ Number (int_wrap w128 (sum_of acts))
IsComputed sort.Register acts value = IsValueBy sort.Register acts value
IsComputed sort.Set acts value = IsValueBy sort.Set acts value
IsComputed sort.Map acts value = IsValueBy sort.Map acts value

-- ---- bare acts, and any acts that they are

-- a bare act is that of the act that it is over nothing
again : (bare : BareAct) → bare_of (act_of bare) ≡ bare
again bare = ap (λ (c : Change). record { mark = bare.mark; deps = bare.deps; change = c }) (go bare.change)
  where
    go : (c : Change) → change_of (op_of c []) ≡ c
    go (change.Inc delta) = refl
    go (change.Write word) = refl
    go (change.Add word) = refl
    go (change.Remove word) = refl
    go (change.Put key word) = refl
    go (change.Erase key) = refl

-- bare acts are those of the acts over nothing
all_again : (bares : List BareAct) → map bare_of (map act_of bares) ≡ bares
all_again [] = refl
all_again (bare ∷ bares) = ap (λ b. b ∷ map bare_of (map act_of bares)) (again bare) ∙ ap (λ l. bare ∷ l) (all_again bares)

module _ (bares : List BareAct) (whole : List Act) (same : bares ≡ map bare_of whole) where
  -- the acts over nothing are alike any acts that the bare ones are of
  alike : AreAlike (map act_of bares) whole
  alike = record { are = all_again bares ∙ same }

  -- and have the same sum
  sums_like : sum_of (map act_of bares) ≡ sum_of whole
  sums_like = ap total (deltas_like (map act_of bares) whole alike.are)

  -- marks are unique without identifiers too
  unique_like : HasUniqueMarks whole → HasUniqueMarks (map act_of bares)
  unique_like unique = record { one_act = go }
    where
      go : (p q : Act) → In p (map act_of bares) → In q (map act_of bares) → p.mark ≡ q.mark → p ≡ q
      go p q i j marks =
          let m = In_from_map act_of bares p i in
          let n = In_from_map act_of bares q j in
          let l = like (map act_of bares) whole alike (act_of m.0) (In_map act_of bares m.0 m.1) in
          let k = like (map act_of bares) whole alike (act_of n.0) (In_map act_of bares n.0 n.1) in
          let one = unique.one_act l.act' k.act' l.there k.there (sym (same_mark (act_of m.0) l.act' l.same) ∙ (ap (λ (a : Act). a.mark) (sym m.2) ∙ (marks ∙ (ap (λ (a : Act). a.mark) n.2 ∙ same_mark (act_of n.0) k.act' k.same)))) in
          m.2 ∙ (ap act_of (sym (again m.0) ∙ (l.same ∙ (ap bare_of one ∙ (sym k.same ∙ again n.0)))) ∙ sym n.2)

  -- what is computed of acts that are over nothing is the value of any acts that they are, where the sum of
  -- a counter is not wrapped
  pub exact_like : (s : Sort) (value : Value) → ((s ≡ sort.Map → HasUniqueMarks (map act_of bares)) → IsComputed s (map act_of bares) value) → (s ≡ sort.Map → HasUniqueMarks whole) → (s ≡ sort.Counter → sizes (deltas_in whole) < 2 ^ 127) → IsValueBy s whole value
  exact_like sort.Counter value is unique small =
      subst (λ value. IsValueBy sort.Counter whole value) (sym (is (λ e. unique_like (unique e))))
      (ap (int_wrap w128) sums_like ∙ (sym (fold-added (deltas_in whole)) ∙ fold-added_exact (deltas_in whole) (small refl)))
  exact_like sort.Register (Word word) is unique small = register_like (map act_of bares) whole alike word (is (λ e. unique_like (unique e)))
  exact_like sort.Set (Words words) is unique small = set_like (map act_of bares) whole alike words (is (λ e. unique_like (unique e)))
  exact_like sort.Map (Pairs pairs) is unique small = map_like (map act_of bares) whole alike pairs (is (λ e. unique_like (unique e)))
  exact_like _ value is unique small = absurd (is (λ e. unique_like (unique e)))

-- both together
pub values_like : (bares : List BareAct) (s : Sort) (value : Value) → ((s ≡ sort.Map → HasUniqueMarks (map act_of bares)) → IsComputed s (map act_of bares) value) → record {
  wraps : (whole : List Act) → bares ≡ map bare_of whole → s ≡ sort.Counter → value ≡ Number (int_wrap w128 (sum_of whole));
  exact : (whole : List Act) → bares ≡ map bare_of whole → (s ≡ sort.Map → HasUniqueMarks whole) → (s ≡ sort.Counter → sizes (deltas_in whole) < 2 ^ 127) → IsValueBy s whole value;
}
values_like bares s value is = record {
  wraps = λ whole same counter.
      let counted : (s ≡ sort.Map → HasUniqueMarks (map act_of bares)) → value ≡ Number (int_wrap w128 (sum_of (map act_of bares))) = subst (λ k. (s ≡ sort.Map → HasUniqueMarks (map act_of bares)) → IsComputed k (map act_of bares) value) counter is in
      counted (λ e. absurd (no_map s counter e)) ∙ ap (λ sum. Number (int_wrap w128 sum)) (sums_like bares whole same);
  exact = λ whole same. exact_like bares whole same s value is;
}
  where
    no_map : (s : Sort) → s ≡ sort.Counter → s ≡ sort.Map → ⊥
    no_map s counter is_map = cc
