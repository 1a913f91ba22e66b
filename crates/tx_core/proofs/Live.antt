-- What is live by the operations of a kind with tallies is live by those of the state.
use Rattle.std.proofs.Common.{◌≡◌, ℕ, ◌+◌, true, false, cond, ◌&&◌, ◌⊎◌, inl, inr, ◌↔◌, Option, Some, is_some, List, [], ◌∷◌, arith, refl, sym, ap, ◌∙◌, subst}
use Rattle.std.specs.Cmp.{IsEquivalence}
use Rattle.std.proofs.lemmas.Cmp.{eq_by_cmp_equiv}
use Rattle.std.proofs.lemmas.Bool.{cases_Bool, and_parts, and_from}
use Rattle.std.proofs.lemmas.Option.{same_Some}
use Rattle.list_core.specs.Members.{In}
use Rattle.ids_core.specs.Orders.{id_cmp_total, id_cmp_same, name_cmp_total, name_cmp_same}
use Rattle.ids_core.specs.declared.ids.OpId.{OpId}
use Rattle.ids_core.specs.declared.ids.Mark.{Mark}
use Rattle.ids_core.specs.declared.object.Sort.{Sort}
use Rattle.tally_core.specs.Places.{same_name, same_id}
use Rattle.tally_core.specs.Changes.{Change, times, adds, holds, IsLiveIn}
use Rattle.tally_core.proofs.Sparse.{is_same}
use Rattle.tx_core.specs.declared.op.Op.{Op}
use Rattle.tx_core.specs.Ops.{sort_of_op, over_of, name_of, is_add, marked}
use Rattle.tx_core.specs.Objects.{AreOf, IsLive, IsLiveId}
use Rattle.tx_core.proofs.Folds.{From, marked_in, in_marked}

pub both : {A B C : Type 0} → A ↔ B → B ↔ C → A ↔ C
both f g = (λ a. g.0 (f.0 a), λ c. f.1 (g.1 c))

one_name : (a b : List ℕ) → a ≡ b → same_name a b ≡ true
one_name a b same = subst (λ c. same_name a c ≡ true) same (IsEquivalence.refl (eq_by_cmp_equiv name_cmp_total) a)

one_id : (a b : OpId) → a ≡ b → same_id a b ≡ true
one_id a b same = subst (λ c. same_id a c ≡ true) same (IsEquivalence.refl (eq_by_cmp_equiv id_cmp_total) a)

-- an identifier stands nowhere in a list exactly where it is no member
not_there : (id : OpId) (ids : List OpId) → times id ids ≡ 0 → In id ids → ⊥
not_there id [] none i = absurd i
not_there id (other ∷ ids) none (inl same) =
    let n = times id ids in
    let one : 1 + n ≡ 0 = subst (λ b. cond b 1 0 + n ≡ 0) (one_id id other same) none in
    omega (arith, one)
not_there id (other ∷ ids) none (inr i) =
    let n = times id ids in
    let c : ℕ = cond (same_id id other) 1 0 in
    not_there id ids (omega (arith, none)) i

nowhere : (id : OpId) (ids : List OpId) → (In id ids → ⊥) → times id ids ≡ 0
nowhere id [] out = refl
nowhere id (other ∷ ids) out = at (cases_Bool (same_id id other)) (nowhere id ids (λ i. out (inr i)))
  where
    at : (same_id id other ≡ true) ⊎ (same_id id other ≡ false) → times id ids ≡ 0 → cond (same_id id other) 1 0 + times id ids ≡ 0
    at (inl t) rest = absurd (out (inl (is_same id_cmp_same id other t)))
    at (inr f) rest = let n = times id ids in rw f (omega (arith, rest))

-- what an operation does to tallies is what it says
pub record Tells {P : Type 0} (op : Op) (change : Change P) : Type 0 where
  pub name : name_of op ≡ Some change.name
  pub adds : is_some change.add ≡ is_add op
  pub over : change.over ≡ over_of op

-- a kind with tallies takes each operation on its objects as it is
pub record Takes {O P : Type 0} (sort : Sort) (of : Op → Option O) (does : (Mark × O) → Change P) : Type 0 where
  pub holds : (mark : Mark) (op : Op) → sort_of_op op ≡ sort → (o : O) × (of op ≡ Some o) × Tells op (does (mark, o))

module _ {O P : Type 0} (sort : Sort) (of : Op → Option O) (does : (Mark × O) → Change P) (takes : Takes sort of does) (ops : List (Mark × Op)) (are : AreOf sort ops) where
  tells : (mark : Mark) (op : Op) (o : O) → In (mark, op) ops → of op ≡ Some o → Tells op (does (mark, o))
  tells mark op o i is =
      let t = takes.holds mark op (are.each (mark, op) i) in
      subst (λ o. Tells op (does (mark, o))) (same_Some t.0 o (sym t.1 ∙ is)) t.2

  -- the parts of an add
  own : (name : List ℕ) (id : OpId) (op : Mark × O) → adds does name id op ≡ true → (name ≡ (does op).name) × (is_some (does op).add ≡ true) × (id ≡ op.0.id)
  own name id op h =
      let parts = and_parts (same_name name (does op).name) (is_some (does op).add && same_id id op.0.id) h in
      let rest = and_parts (is_some (does op).add) (same_id id op.0.id) parts.1 in
      (is_same name_cmp_same name (does op).name parts.0, rest.0, is_same id_cmp_same id op.0.id rest.1)

  -- an operation that is live for the kind is live for the state
  pub record LiveFrom (name : List ℕ) (mark : Mark) (o : O) : Type 0 where
    pub op : Op
    pub is : of op ≡ Some o
    pub live : IsLive ops name (mark, op)

  pub live_from : (name : List ℕ) (id : OpId) (l : IsLiveIn does (marked of ops) name id) → LiveFrom name l.op.0 l.op.1
  live_from name id l =
      let f = in_marked of ops l.op l.there in
      let parts = own name id l.op l.is in
      let t = tells l.op.0 f.op l.op.1 f.there f.is in
      record {
        op = f.op;
        is = f.is;
        live = record { there = f.there; adds = sym t.adds ∙ parts.1; under = t.name ∙ ap Some (sym parts.0); free = λ other i same held. none other i same (subst (λ j. In j (over_of other.1)) (sym parts.2) held) };
      }
    where
      none : (other : Mark × Op) → In other ops → name_of other.1 ≡ Some name → In id (over_of other.1) → ⊥
      none other i same held =
          let t = takes.holds other.0 other.1 (are.each other i) in
          let d = does (other.0, t.0) in
          let under : name ≡ d.name = same_Some name d.name (sym same ∙ t.2.name) in
          let times_none : times id d.over ≡ 0 = subst (λ b. cond b (times id d.over) 0 ≡ 0) (one_name name d.name under) (l.free (other.0, t.0) (marked_in of ops other t.0 i t.1)) in
          not_there id d.over times_none (subst (λ ids. In id ids) (sym t.2.over) held)

  -- an operation that is live for the state is live for the kind
  pub record LiveTo (name : List ℕ) (op : Mark × Op) : Type 0 where
    pub live : IsLiveIn does (marked of ops) name op.0.id
    pub mark : live.op.0 ≡ op.0
    pub is : of op.1 ≡ Some live.op.1

  pub live_to : (name : List ℕ) (op : Mark × Op) → IsLive ops name op → LiveTo name op
  live_to name op l =
      let t = takes.holds op.0 op.1 (are.each op l.there) in
      let d = does (op.0, t.0) in
      let under : name ≡ d.name = same_Some name d.name (sym l.under ∙ t.2.name) in
      record {
        live = record {
          op = (op.0, t.0);
          there = marked_in of ops op t.0 l.there t.1;
          is = and_from (same_name name d.name) (is_some d.add && same_id op.0.id op.0.id) (one_name name d.name under) (and_from (is_some d.add) (same_id op.0.id op.0.id) (t.2.adds ∙ l.adds) (one_id op.0.id op.0.id refl));
          free = λ other i. none other (in_marked of ops other i) (cases_Bool (same_name name (does other).name));
        };
        mark = refl;
        is = t.1;
      }
    where
      none : (other : Mark × O) → From of ops other → (same_name name (does other).name ≡ true) ⊎ (same_name name (does other).name ≡ false) → holds does name op.0.id other ≡ 0
      none other f (inl same) =
          let under : name ≡ (does other).name = is_same name_cmp_same name (does other).name same in
          let t = tells other.0 f.op other.1 f.there f.is in
          let out : In op.0.id (does other).over → ⊥ = λ i. l.free (other.0, f.op) f.there (t.name ∙ ap Some (sym under)) (subst (λ ids. In op.0.id ids) t.over i) in
          rw same (nowhere op.0.id (does other).over out)
      none other f (inr apart) = rw apart refl

  pub live_by_kind : (name : List ℕ) (id : OpId) → IsLiveIn does (marked of ops) name id ↔ IsLiveId ops name id
  live_by_kind name id = (
    λ l. let f = live_from name id l in record { op = (l.op.0, f.op); live = f.live; is = sym (own name id l.op l.is).2 },
    λ l. subst (λ id. IsLiveIn does (marked of ops) name id) l.is (live_to name l.op l.live).live,
  )
