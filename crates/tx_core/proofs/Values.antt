-- Tags and values of a fold are those of the operations.
use Rattle.std.proofs.Common.{◌≡◌, ◌<◌, ◌^◌, ◌⊎◌, ◌↔◌, ℕ, pos, List, [], ◌∷◌, Option, Some, None, fold, refl, sym, ap, ◌∙◌, subst, inl, inr}
use Rattle.std.proofs.lemmas.Option.{none-some, same_Some}
use Rattle.list_core.specs.Members.{In}
use Rattle.ids_core.specs.declared.ids.OpId.{OpId}
use Rattle.ids_core.specs.declared.ids.Mark.{Mark}
use Rattle.ids_core.specs.declared.object.Sort.{Sort}
use Rattle.ids_core.specs.declared.object.Sort.TheVariants as sort
use Rattle.ids_core.specs.Kinds.{Distinct}
use Rattle.obj_counter.specs.Counter as counter
use Rattle.obj_counter.specs.Laws.{fold-step, fold-step_defined as counter_defined}
use Rattle.obj_counter.proofs.Totals.{fold-added_exact}
use Rattle.obj_register.specs.declared.register.RegisterOp.{RegisterOp}
use Rattle.obj_register.specs.Registers as register
use Rattle.obj_register.specs.Laws.{fold-step_defined as register_defined}
use Rattle.obj_set.specs.Sets as set
use Rattle.obj_map.specs.Maps as map
use Rattle.tx_core.specs.declared.op.Op.{Op}
use Rattle.tx_core.specs.declared.op.Op.TheVariants.{Inc, Write, Add, Remove, Put, Erase}
use Rattle.tx_core.specs.declared.state.Value.TheVariants.{Number, Word}
use Rattle.tx_core.specs.Ops.{sort_of_op, name_of, counter_op, register_op, marked}
use Rattle.tx_core.specs.States.{empty_of, fold_of, tags_of, value_of}
use Rattle.tx_core.specs.Objects.{AreOf, IsLiveId, sum_of, IsValueOf}
use Rattle.tx_core.proofs.Folds.{marked_in, in_marked, distinct_marked, fold_of-counter, fold_of-register, fold_of-set, fold_of-map}
use Rattle.tx_core.proofs.Sets.{set_tags, set_words}
use Rattle.tx_core.proofs.Maps.{map_tags, map_pairs}

-- ---- the counter

pub counter_exact : (ops : List (Mark × Op)) → counter.sizes (counter.deltas (marked counter_op ops)) < 2 ^ 127 → value_of (fold_of (empty_of sort.Counter) ops) ≡ Number (sum_of ops)
counter_exact ops small = ap value_of (fold_of-counter ops (pos 0)) ∙ ap Number (fold-step (marked counter_op ops) (pos 0) ∙ fold-added_exact (counter.deltas (marked counter_op ops)) small)

-- ---- the register

write_of : (op : Op) → sort_of_op op ≡ sort.Register → (o : RegisterOp) × (register_op op ≡ Some o) × (op ≡ Write o.word)
write_of (Write word) is = (record { word = word }, refl, refl)
write_of (Inc delta) is = cc
write_of (Add word over) is = cc
write_of (Remove word over) is = cc
write_of (Put key word over) is = cc
write_of (Erase key over) is = cc

register_value : (ops : List (Mark × Op)) → AreOf sort.Register ops → (s : Option (Mark × RegisterOp)) → register.IsStateOf (marked register_op ops) s → IsValueOf sort.Register ops (Word (register.word_of s))
register_value [] are None is = refl
register_value (op ∷ ops) are None is =
    let o = write_of op.1 (are.each op (inl refl)) in
    absurd (subst (λ xs. In (op.0, o.0) xs) is (marked_in register_op (op ∷ ops) op o.0 (inl refl) o.1))
register_value ops are (Some last) is =
    let f = in_marked register_op ops last is.member in
    let o = write_of f.op (are.each (last.0, f.op) f.there) in
    let same : o.0 ≡ last.1 = same_Some o.0 last.1 (sym o.1 ∙ f.is) in
    record {
      mark = last.0;
      there = subst (λ op. In (last.0, op) ops) (o.2 ∙ ap (λ r. Write r.word) same) f.there;
      above = λ op i. let p = write_of op.1 (are.each op i) in is.above (op.0, p.0) (marked_in register_op ops op p.0 i p.1);
    }

-- ---- all kinds

-- no operation on a counter or a register is live
none_live : (ops : List (Mark × Op)) (name : List ℕ) (id : OpId) → ((op : Mark × Op) → In op ops → name_of op.1 ≡ None) → IsLiveId ops name id → ⊥
none_live ops name id none l = none-some name (sym (none l.op l.live.there) ∙ l.live.under)

nameless : (s : Sort) (op : Op) → (s ≡ sort.Counter) ⊎ (s ≡ sort.Register) → sort_of_op op ≡ s → name_of op ≡ None
nameless s (Inc delta) which is = refl
nameless s (Write word) which is = refl
nameless s (Add word over) (inl c) is = cc
nameless s (Add word over) (inr c) is = cc
nameless s (Remove word over) (inl c) is = cc
nameless s (Remove word over) (inr c) is = cc
nameless s (Put key word over) (inl c) is = cc
nameless s (Put key word over) (inr c) is = cc
nameless s (Erase key over) (inl c) is = cc
nameless s (Erase key over) (inr c) is = cc

pub tags_live : (sort : Sort) (ops : List (Mark × Op)) (name : List ℕ) (id : OpId) → Distinct ops → AreOf sort ops → In id (tags_of (fold_of (empty_of sort) ops) name) ↔ IsLiveId ops name id
tags_live sort.Counter ops name id distinct are = (λ i. absurd (subst (λ s. In id (tags_of s name)) (fold_of-counter ops (pos 0)) i), λ l. absurd (none_live ops name id (λ op i. nameless sort.Counter op.1 (inl refl) (are.each op i)) l))
tags_live sort.Register ops name id distinct are = (λ i. absurd (subst (λ s. In id (tags_of s name)) (fold_of-register ops None) i), λ l. absurd (none_live ops name id (λ op i. nameless sort.Register op.1 (inr refl) (are.each op i)) l))
tags_live sort.Set ops name id distinct are = subst (λ s. In id (tags_of s name) ↔ IsLiveId ops name id) (sym (fold_of-set ops set.start)) (set_tags ops distinct are name id)
tags_live sort.Map ops name id distinct are = subst (λ s. In id (tags_of s name) ↔ IsLiveId ops name id) (sym (fold_of-map ops map.start)) (map_tags ops distinct are name id)

pub value_is : (sort : Sort) (ops : List (Mark × Op)) → Distinct ops → AreOf sort ops → IsValueOf sort ops (value_of (fold_of (empty_of sort) ops))
value_is sort.Counter ops distinct are = subst (λ s. IsValueOf sort.Counter ops (value_of s)) (sym (fold_of-counter ops (pos 0))) (counter_defined (marked counter_op ops) (distinct_marked counter_op ops distinct))
value_is sort.Register ops distinct are = subst (λ s. IsValueOf sort.Register ops (value_of s)) (sym (fold_of-register ops None)) (register_value ops are (fold register.step None (marked register_op ops)) (register_defined (marked register_op ops) (distinct_marked register_op ops distinct)))
value_is sort.Set ops distinct are = subst (λ s. IsValueOf sort.Set ops (value_of s)) (sym (fold_of-set ops set.start)) (set_words ops distinct are)
value_is sort.Map ops distinct are = subst (λ s. IsValueOf sort.Map ops (value_of s)) (sym (fold_of-map ops map.start)) (map_pairs ops distinct are)
