-- A value that operations have by their tags is the one that their acts have by what sees what.
use Rattle.std.proofs.Common.{◌≡◌, ℕ, ℤ, Bool, true, false, ◌&&◌, List, map, Option, Some, None, refl, sym, ap, ◌∙◌, subst}
use Rattle.std.specs.Ordering.{is_le}
use Rattle.std.proofs.lemmas.Bool.{and_parts, and_from, not_from_false, not-true, false≢true, false_from_ne_true}
use Rattle.list_core.specs.Members.{In}
use Rattle.list_core.proofs.Members.{In_map}
use Rattle.ids_core.specs.declared.ids.OpId.{OpId}
use Rattle.ids_core.specs.declared.ids.Mark.{Mark}
use Rattle.ids_core.specs.declared.object.Sort.{Sort}
use Rattle.ids_core.specs.declared.object.Sort.TheVariants as sort
use Rattle.ids_core.specs.Orders.{mark_cmp, mark_cmp_total}
use Rattle.ids_core.proofs.Orders.{at_most_from_not_below, not_below_from_at_most}
use Rattle.tally_core.specs.Sees.{any, Tagged, live, unseen, IsGreatest, TagsEqualSees}
use Rattle.tally_core.proofs.Finds.{any_true, any_false, any_from}
use Rattle.tally_core.proofs.Unseen.{tags_equal_sees}
use Rattle.tx_core.specs.declared.op.Op.{Op}
use Rattle.tx_core.specs.declared.op.Op.TheVariants.{Write, Put}
use Rattle.tx_core.specs.declared.state.Value.{Value}
use Rattle.tx_core.specs.declared.state.Value.TheVariants.{Number, Word, Words, Pairs}
use Rattle.tx_core.specs.Ops.{sort_of_op, name_of, is_add}
use Rattle.tx_core.specs.Objects as by_tags
use Rattle.tx_core.specs.Objects.{AreOf, IsLive, IsLiveId, AreWords, ArePairs, IsValueOf}
use Rattle.dc_talk.specs.declared.calls.Change.TheVariants as change
use Rattle.tx_graph.specs.Values.{Act, sees, IsRegisterOver, IsUnseenAdd, IsSetOver, IsUnseenPut, IsWordAt, IsMapOver, IsValueBy, change_of, deltas_in}
use Rattle.run_book.proofs.Causal.Acts.{op_of_act, act_behind}
use Rattle.run_book.proofs.Causal.ActTests.{adds, adds-true, adds-from, kills, kills-true, kills-from, over, over-true, none_over, less}
use Rattle.run_book.proofs.Causal.AddsAndRemoves.{add_of, remove_of, of_add, of_remove, put_of, erase_of, of_put, of_erase}
use Rattle.obj_counter.specs.Counter.{total}

module _ (acts : List Act) (tagged : (w : List ℕ) → Tagged acts (record { adds = adds w; kills = kills w; over = over w; sees = sees; less = less })) where
  -- the operations of the acts
  abbrev ops : List (Mark × Op)
  ops = map op_of_act acts

  -- tags tell the same of a word or key as what sees what
  tells : (w : List ℕ) → TagsEqualSees acts (record { adds = adds w; kills = kills w; over = over w; sees = sees; less = less })
  tells w = tags_equal_sees acts (adds w) (kills w) (over w) sees less (tagged w)

  -- the act adds the word or key, and no act is over it
  abbrev lives : List ℕ → Act → Bool
  lives w = live (adds w) (over w) acts

  -- the act adds the word or key, and no act that takes it out sees it
  abbrev stays : List ℕ → Act → Bool
  stays w = unseen (adds w) (kills w) sees acts

  -- an act whose operation is live passes the first test
  lives-from : (w : List ℕ) (a : Act) → IsLive ops w (op_of_act a) → lives w a ≡ true
  lives-from w a l = and_from (adds w a) _ (adds-from w a l.under l.adds) (not_from_false _ (false_from_ne_true _ none))
    where
      none : any (λ q. over w q a) acts ≡ true → ⊥
      none h =
          let r = any_true (λ q. over w q a) acts h in
          let parts = over-true w r.0 a r.2 in
          l.free (op_of_act r.0) (In_map op_of_act acts r.0 r.1) parts.0 parts.1

  -- the operation of an act that passes it is live
  lives-true : (w : List ℕ) (a : Act) → In a acts → lives w a ≡ true → IsLive ops w (op_of_act a)
  lives-true w a i is =
      let parts = and_parts (adds w a) _ is in
      let add = adds-true w a parts.0 in
      record {
        there = In_map op_of_act acts a i;
        adds = add.1;
        under = add.0;
        free = λ other j name held. none_over acts w a (not-true _ parts.1) other (act_behind acts other j) name held;
      }

  -- an add that no act takes out which sees it passes the second test
  stays-from : (w : List ℕ) (a : Act) → name_of a.op ≡ Some w → is_add a.op ≡ true → ((q : Act) → In q acts → name_of q.op ≡ Some w → is_add q.op ≡ false → sees q a ≡ false) → stays w a ≡ true
  stays-from w a name add clear = and_from (adds w a) _ (adds-from w a name add) (not_from_false _ (false_from_ne_true _ none))
    where
      none : any (λ q. kills w q && sees q a) acts ≡ true → ⊥
      none h =
          let r = any_true (λ q. kills w q && sees q a) acts h in
          let both = and_parts (kills w r.0) (sees r.0 a) r.2 in
          let kill = kills-true w r.0 both.0 in
          false≢true (sym (clear r.0 r.1 kill.0 kill.1) ∙ both.1)

  -- an act that passes it is an add of the word or key
  stays-adds : (w : List ℕ) (a : Act) → stays w a ≡ true → (name_of a.op ≡ Some w) × (is_add a.op ≡ true)
  stays-adds w a is = adds-true w a (and_parts (adds w a) _ is).0

  -- and no act that takes the word or key out sees it
  stays-unseen : (w : List ℕ) (a q : Act) → stays w a ≡ true → In q acts → name_of q.op ≡ Some w → is_add q.op ≡ false → sees q a ≡ false
  stays-unseen w a q is i name add = false_from_ne_true _ (λ s.
      let none = any_false (λ q. kills w q && sees q a) acts q (not-true _ (and_parts (adds w a) _ is).1) i in
      false≢true (sym none ∙ and_from (kills w q) (sees q a) (kills-from w q name add) s))

  -- the operation of an act is of the kind that all operations are of
  kind_of_act : (s : Sort) → AreOf s ops → (a : Act) → In a acts → sort_of_op a.op ≡ s
  kind_of_act s are a i = are.each (op_of_act a) (In_map op_of_act acts a i)

  -- ---- registers

  -- the word that a register has by its operations is the one by its acts
  register_over : (word : Option (List ℕ)) → IsValueOf sort.Register ops (Word word) → IsRegisterOver acts word
  register_over None none = λ act word i writes. subst (λ l. In (op_of_act act) l) none (In_map op_of_act acts act i)
  register_over (Some word) is =
      let a = act_behind acts (is.mark, Write word) is.there in
      record {
        act = a.act;
        there = a.there;
        writes = ap (λ (op : Mark × Op). change_of op.1) (sym a.is);
        above = λ other other_word i writes. subst (λ m. is_le (mark_cmp other.mark m) ≡ true) (ap (λ op. op.0) a.is) (is.above (op_of_act other) (In_map op_of_act acts other i));
      }

  -- ---- sets

  -- the words that a set has by tags are those by what sees what
  set_over : (words : List (List ℕ)) → AreOf sort.Set ops → AreWords ops words → IsSetOver acts words
  set_over words are is = record { ascending = is.ascending; exact = λ word. (λ i. to word ((is.exact word).0 i), λ u. (is.exact word).1 (back word u.0 u.1)) }
    where
      to : (word : List ℕ) → (id : OpId) × IsLiveId ops word id → (act : Act) × IsUnseenAdd acts word act
      to word l =
          let a = act_behind acts l.1.op l.1.live.there in
          let stay = (tells word).live_is_unseen a.act a.there (lives-from word a.act (subst (λ op. IsLive ops word op) a.is l.1.live)) in
          let parts = stays-adds word a.act stay in (
            a.act,
            record {
              there = a.there;
              adds = add_of a.act.op word (kind_of_act sort.Set are a.act a.there) parts.0 parts.1;
              unseen = λ other i removes. let r = of_remove other.op word removes in stays-unseen word a.act other stay i r.0 r.1;
            },
          )

      back : (word : List ℕ) (act : Act) → IsUnseenAdd acts word act → (id : OpId) × IsLiveId ops word id
      back word act u =
          let add = of_add act.op word u.adds in
          let stay = stays-from word act add.0 add.1 (λ q i name kill. u.unseen q i (remove_of q.op word (kind_of_act sort.Set are q i) name kill)) in
          let some : any (lives word) acts ≡ true = (tells word).same_words ∙ any_from (stays word) acts act u.there stay in
          let r = any_true (lives word) acts some in
          (r.0.mark.id, record { op = op_of_act r.0; live = lives-true word r.0 r.1 r.2; is = refl })

  -- ---- maps

  -- the pairs that a map has by tags are those by what sees what
  map_over : (pairs : List (List ℕ × List ℕ)) → AreOf sort.Map ops → ArePairs ops pairs → IsMapOver acts pairs
  map_over pairs are is = record { ascending = is.ascending; exact = λ key word. (λ i. to key word ((is.exact key word).0 i), λ u. (is.exact key word).1 (back key word u)) }
    where
      put_unseen : (key word : List ℕ) (a : Act) → In a acts → stays key a ≡ true → change_of a.op ≡ change.Put key word → IsUnseenPut acts key word a
      put_unseen key word a i stay puts = record { there = i; puts = puts; unseen = λ other j erases. let r = of_erase other.op key erases in stays-unseen key a other stay j r.0 r.1 }

      unseen_put : (key word : List ℕ) (a : Act) → IsUnseenPut acts key word a → stays key a ≡ true
      unseen_put key word a u =
          let p = of_put a.op key word u.puts in
          stays-from key a (ap name_of p.is) (ap is_add p.is) (λ q i name kill. u.unseen q i (erase_of q.op key (kind_of_act sort.Map are q i) name kill))

      to : (key word : List ℕ) → by_tags.IsWordAt ops key word → IsWordAt acts key word
      to key word w =
          let a = act_behind acts (w.mark, Put key word w.over) w.live.there in
          let mark : w.mark ≡ a.act.mark = ap (λ op. op.0) a.is in
          let greatest : IsGreatest less (lives key) acts a.act = record {
            there = a.there;
            passes = lives-from key a.act (subst (λ op. IsLive ops key op) a.is w.live);
            above = λ p i l. not_below_from_at_most mark_cmp_total a.act.mark p.mark (subst (λ m. is_le (mark_cmp p.mark m) ≡ true) mark (w.above (op_of_act p) (lives-true key p i l)));
          } in
          let top = ((tells key).same_greatest a.act).0 greatest in
          record {
            act = a.act;
            unseen = put_unseen key word a.act a.there top.passes (ap (λ (op : Mark × Op). change_of op.1) (sym a.is));
            above = λ other other_word u. at_most_from_not_below mark_cmp_total a.act.mark other.mark (top.above other u.there (unseen_put key other_word other u));
          }

      back : (key word : List ℕ) → IsWordAt acts key word → by_tags.IsWordAt ops key word
      back key word w =
          let p = of_put w.act.op key word w.unseen.puts in
          let greatest : IsGreatest less (stays key) acts w.act = record {
            there = w.unseen.there;
            passes = unseen_put key word w.act w.unseen;
            above = λ q i u.
                let parts = stays-adds key q u in
                let other = put_of q.op key (kind_of_act sort.Map are q i) parts.0 parts.1 in
                not_below_from_at_most mark_cmp_total w.act.mark q.mark (w.above q other.0 (put_unseen key other.0 q i u other.1));
          } in
          let top = ((tells key).same_greatest w.act).1 greatest in
          let is_op : op_of_act w.act ≡ (w.act.mark, Put key word p.ids) = ap (λ op. (w.act.mark, op)) p.is in
          record {
            mark = w.act.mark;
            over = p.ids;
            live = subst (λ op. IsLive ops key op) is_op (lives-true key w.act w.unseen.there top.passes);
            above = λ op l.
                let q = act_behind acts op l.there in
                subst (λ op. is_le (mark_cmp op.0 w.act.mark) ≡ true) (sym q.is) (at_most_from_not_below mark_cmp_total w.act.mark q.act.mark (top.above q.act q.there (lives-from key q.act (subst (λ op. IsLive ops key op) q.is l))));
          }

  -- ---- every kind

  -- equal numbers are of equal sums
  one_number : (m n : ℤ) → Number m ≡ Number n → m ≡ n
  one_number m n same = cc

  -- the value that an object has by its operations is the one by its acts, where that of a counter is their sum
  pub value_by_sees : (s : Sort) (value : Value) → AreOf s ops → IsValueOf s ops value → (s ≡ sort.Counter → value ≡ Number (total (deltas_in acts))) → IsValueBy s acts value
  value_by_sees sort.Counter (Number n) are is counts = one_number n (total (deltas_in acts)) (counts refl)
  value_by_sees sort.Register (Word w) are is counts = register_over w is
  value_by_sees sort.Set (Words w) are is counts = set_over w are is
  value_by_sees sort.Map (Pairs w) are is counts = map_over w are is
  value_by_sees _ _ are is counts = is
