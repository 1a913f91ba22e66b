-- The fold of a state is that of its kind over the operations of that kind.
use Rattle.std.proofs.Common.{◌≡◌, ℤ, List, [], ◌∷◌, Option, Some, None, fold, refl, sym, ap, ◌∙◌, inl, inr}
use Rattle.std.specs.List.{cons_option}
use Rattle.std.specs.Option.{option_map}
use Rattle.std.proofs.lemmas.Option.{same_Some}
use Rattle.list_core.specs.Members.{In}
use Rattle.list_core.specs.Permutations.{Perm}
use Rattle.ids_core.specs.declared.ids.Mark.{Mark}
use Rattle.ids_core.specs.Kinds.{Commutes, Distinct}
use Rattle.ids_core.proofs.Folds.{fold_perm}
use Rattle.obj_counter.specs.Laws as counter_laws
use Rattle.obj_counter.specs.Counter as counter
use Rattle.obj_register.specs.declared.register.RegisterOp.{RegisterOp}
use Rattle.obj_register.specs.Laws as register_laws
use Rattle.obj_register.specs.Registers as register
use Rattle.obj_set.specs.Laws as set_laws
use Rattle.obj_set.specs.Sets as set
use Rattle.obj_map.specs.Laws as map_laws
use Rattle.obj_map.specs.Maps as map
use Rattle.tx_core.specs.declared.op.Op.{Op}
use Rattle.tx_core.specs.declared.state.State.{State}
use Rattle.tx_core.specs.declared.state.State.TheVariants.{Counter, Register, Set, Map}
use Rattle.tx_core.specs.Ops.{counter_op, register_op, set_op, map_op, marked}
use Rattle.tx_core.specs.States.{after, step, fold_of, sort_of}

-- an operation that a kind takes is among those of the kind, with its mark
module _ {O : Type 0} (of : Op → Option O) where
  pub marked_in : (ops : List (Mark × Op)) (op : Mark × Op) (o : O) → In op ops → of op.1 ≡ Some o → In (op.0, o) (marked of ops)
  marked_in [] op o i is = absurd i
  marked_in (next ∷ ops) op o (inl same) is = here (of next.1) (ap (λ q. of q.1) (sym same) ∙ is)
    where
      here : (p : Option O) → p ≡ Some o → In (op.0, o) (cons_option (option_map (λ q. (next.0, q)) p) (marked of ops))
      here None e = cc
      here (Some q) e = let other = sym (same_Some q o e) in inl (λ i. ((same i).0, other i))
  marked_in (next ∷ ops) op o (inr i) is = later (of next.1) (marked_in ops op o i is)
    where
      later : (p : Option O) → In (op.0, o) (marked of ops) → In (op.0, o) (cons_option (option_map (λ q. (next.0, q)) p) (marked of ops))
      later None j = j
      later (Some q) j = inr j

  -- what a kind takes came from an operation
  pub record From (ops : List (Mark × Op)) (x : Mark × O) : Type 0 where
    pub op : Op
    pub there : In (x.0, op) ops
    pub is : of op ≡ Some x.1

  later_from : (ops : List (Mark × Op)) (next : Mark × Op) (x : Mark × O) → From ops x → From (next ∷ ops) x
  later_from ops next x f = record { op = f.op; there = inr f.there; is = f.is }

  pub in_marked : (ops : List (Mark × Op)) (x : Mark × O) → In x (marked of ops) → From ops x
  in_marked [] x i = absurd i
  in_marked (next ∷ ops) x i = by (of next.1) refl i (in_marked ops x)
    where
      by : (p : Option O) → of next.1 ≡ p → In x (cons_option (option_map (λ q. (next.0, q)) p) (marked of ops)) → (In x (marked of ops) → From ops x) → From (next ∷ ops) x
      by None e j rest = later_from ops next x (rest j)
      by (Some q) e (inl same) rest = record { op = next.1; there = inl (λ i. ((same i).0, next.1)); is = e ∙ ap (λ y. Some y.1) (sym same) }
      by (Some q) e (inr j) rest = later_from ops next x (rest j)

  pub distinct_marked : (ops : List (Mark × Op)) → Distinct ops → Distinct (marked of ops)
  distinct_marked [] d = tt
  distinct_marked (next ∷ ops) d = by (of next.1) (distinct_marked ops d.1)
    where
      by : (p : Option O) → Distinct (marked of ops) → Distinct (cons_option (option_map (λ q. (next.0, q)) p) (marked of ops))
      by None rest = rest
      by (Some q) rest = (λ other i same. let f = in_marked ops other i in d.0 (other.0, f.op) f.there same, rest)

module _ {S O : Type 0} (f : S → (Mark × O) → S) (of : Op → Option O) (state : S → State) (steps : (s : S) (op : Mark × Op) → step (state s) op ≡ state (after f s op.0 (of op.1))) where
  fold_kind : (ops : List (Mark × Op)) (s : S) → fold_of (state s) ops ≡ state (fold f s (marked of ops))
  fold_kind [] s = refl
  fold_kind (op ∷ ops) s = ap (λ t. fold_of t ops) (steps s op) ∙ (fold_kind ops (after f s op.0 (of op.1)) ∙ ap state (next (of op.1)))
    where
      next : (p : Option O) → fold f (after f s op.0 p) (marked of ops) ≡ fold f s (cons_option (option_map (λ q. (op.0, q)) p) (marked of ops))
      next None = refl
      next (Some q) = refl

  commute_kind : Commutes f → (s : S) (a b : Mark × Op) → (a.0.id ≡ b.0.id → ⊥) → step (step (state s) a) b ≡ step (step (state s) b) a
  commute_kind c s a b apart = both s a b ∙ (ap state (by (of a.1) (of b.1)) ∙ sym (both s b a))
    where
      both : (s : S) (a b : Mark × Op) → step (step (state s) a) b ≡ state (after f (after f s a.0 (of a.1)) b.0 (of b.1))
      both s a b = ap (λ t. step t b) (steps s a) ∙ steps (after f s a.0 (of a.1)) b

      by : (p q : Option O) → after f (after f s a.0 p) b.0 q ≡ after f (after f s b.0 q) a.0 p
      by None q = refl
      by (Some p) None = refl
      by (Some p) (Some q) = c s (a.0, p) (b.0, q) apart

pub fold_of-counter : (ops : List (Mark × Op)) (s : ℤ) → fold_of (Counter s) ops ≡ Counter (fold counter.step s (marked counter_op ops))
fold_of-counter = fold_kind counter.step counter_op Counter (λ s op. refl)

pub fold_of-register : (ops : List (Mark × Op)) (s : Option (Mark × RegisterOp)) → fold_of (Register s) ops ≡ Register (fold register.step s (marked register_op ops))
fold_of-register = fold_kind register.step register_op Register (λ s op. refl)

pub fold_of-set : (ops : List (Mark × Op)) (s : set.Set) → fold_of (Set s) ops ≡ Set (fold set.step s (marked set_op ops))
fold_of-set = fold_kind set.step set_op Set (λ s op. refl)

pub fold_of-map : (ops : List (Mark × Op)) (s : map.Map) → fold_of (Map s) ops ≡ Map (fold map.step s (marked map_op ops))
fold_of-map = fold_kind map.step map_op Map (λ s op. refl)

-- two operations change places, of whatever kinds
pub step_commutes : Commutes step
step_commutes (Counter s) = commute_kind counter.step counter_op Counter (λ s op. refl) counter_laws.step_commutes s
step_commutes (Register s) = commute_kind register.step register_op Register (λ s op. refl) register_laws.step_commutes s
step_commutes (Set s) = commute_kind set.step set_op Set (λ s op. refl) set_laws.step_commutes s
step_commutes (Map s) = commute_kind map.step map_op Map (λ s op. refl) map_laws.step_commutes s

-- operations with different identifiers end in one state, in every order and from every state
pub fold_of-order : (s : State) (ops others : List (Mark × Op)) → Perm ops others → Distinct ops → fold_of s ops ≡ fold_of s others
fold_of-order s ops others perm distinct = fold_perm step step_commutes ops others perm distinct s

-- operations keep the kind of a state
step-sort : (s : State) (op : Mark × Op) → sort_of (step s op) ≡ sort_of s
step-sort (Counter s) op = refl
step-sort (Register s) op = refl
step-sort (Set s) op = refl
step-sort (Map s) op = refl

pub fold_of-sort : (s : State) (ops : List (Mark × Op)) → sort_of (fold_of s ops) ≡ sort_of s
fold_of-sort s [] = refl
fold_of-sort s (op ∷ ops) = fold_of-sort (step s op) ops ∙ step-sort s op
