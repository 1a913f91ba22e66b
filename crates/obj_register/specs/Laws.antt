-- The laws of the register as a kind of replicated objects.
use Rattle.std.specs.Prelude.{◌≡◌, Bool, true, false, not, cond, List, [], ◌∷◌, Some, None, fold, refl}
use Rattle.std.specs.Ordering.{is_lt, is_le, ordering_reverse}
use Rattle.std.specs.declared.cmp.Ordering.{Ordering}
use Rattle.std.specs.declared.cmp.Ordering.TheVariants.{Less, Equal, Greater}
use Rattle.std.proofs.Common.{sym, ap, ◌∙◌, subst, inl, inr, ⊎_elim}
use Rattle.std.proofs.lemmas.Bool.{false≢true}
use Rattle.std.proofs.lemmas.Cmp.{tied_itself}
use Rattle.ids_core.specs.Kinds.{Commutes, Distinct}
use Rattle.ids_core.specs.Orders.{mark_cmp, mark_cmp_total, mark_cmp_same}
use Rattle.ids_core.specs.declared.ids.Mark.{Mark}
use Rattle.ids_core.proofs.Orders.{below_through, at_most_through, at_most_from_below, at_most_from_not_below}
use Rattle.obj_register.specs.declared.register.RegisterOp.{RegisterOp}
use Rattle.obj_register.specs.Registers.{greater_of, step, IsGreatest, IsStateOf}

-- ---- the order of marks

-- whether a mark is below another
abbrev lt : Mark → Mark → Bool
lt x y = is_lt (mark_cmp x y)

-- whether a mark is at most as great as another
abbrev le : Mark → Mark → Bool
le x y = is_le (mark_cmp x y)

-- of two marks with different identifiers one is greater
lt-turned : (a b : Mark) → (a.id ≡ b.id → ⊥) → lt b a ≡ not (lt a b)
lt-turned a b apart = ap is_lt (mark_cmp_total.antisymm b a) ∙ go (mark_cmp a b) (λ e. apart (ap (λ m. m.id) (mark_cmp_same a b e)))
  where
    go : (o : Ordering) → (o ≡ Equal → ⊥) → is_lt (ordering_reverse o) ≡ not (is_lt o)
    go Less n = refl
    go Equal n = absurd (n refl)
    go Greater n = refl

-- ---- two writes change places

-- the greater of three writes, in either order of the last two
greater_of-turned : (w a b : Mark × RegisterOp) → (a.0.id ≡ b.0.id → ⊥) → greater_of (greater_of w a) b ≡ greater_of (greater_of w b) a
greater_of-turned w a b apart = go (lt w.0 a.0) (lt w.0 b.0) (lt a.0 b.0) refl refl refl
  where
    other : lt b.0 a.0 ≡ not (lt a.0 b.0)
    other = lt-turned a.0 b.0 apart

    go : (x y z : Bool) → lt w.0 a.0 ≡ x → lt w.0 b.0 ≡ y → lt a.0 b.0 ≡ z → greater_of (greater_of w a) b ≡ greater_of (greater_of w b) a
    go true true true p q r = rw (p, q, other, r) refl
    go true true false p q r = rw (p, q, other, r) refl
    go true false true p q r = absurd (false≢true (sym q ∙ below_through mark_cmp_total w.0 a.0 b.0 p r))
    go true false false p q r = rw (p, q, r, p) refl
    go false true true p q r = rw (p, q, other, r) refl
    go false true false p q r = absurd (false≢true (sym p ∙ below_through mark_cmp_total w.0 b.0 a.0 q (other ∙ ap not r)))
    go false false z p q r = rw (p, q, p) refl

-- writes with different identifiers change places
pub step_commutes : Commutes step
step_commutes None a b apart = ap Some (go (lt a.0 b.0) (lt b.0 a.0) (lt-turned a.0 b.0 apart))
  where
    go : (x y : Bool) → y ≡ not x → cond x b a ≡ cond y a b
    go true y e = rw e refl
    go false y e = rw e refl
step_commutes (Some w) a b apart = ap Some (greater_of-turned w a b apart)

-- ---- the fold is the greatest write

-- the greatest of a write and those that follow it
record Ends (w : Mark × RegisterOp) (ops : List (Mark × RegisterOp)) : Type 0 where
  last : Mark × RegisterOp
  state : fold step (Some w) ops ≡ Some last
  greatest : IsGreatest (w ∷ ops) last

-- a fold ends in the greatest of the write that it begins with and of those that follow
ends : (ops : List (Mark × RegisterOp)) (w : Mark × RegisterOp) → Ends w ops
ends [] w = record { last = w; state = refl; greatest = record { member = inl refl; above = λ x i. ⊎_elim (λ same. ap (λ y. le y.0 w.0) same ∙ ap is_le (tied_itself mark_cmp_total w.0)) (λ j. absurd j) i } }
ends (op ∷ ops) w = go (lt w.0 op.0) refl (ends ops)
  where
    go : (b : Bool) → lt w.0 op.0 ≡ b → ((v : Mark × RegisterOp) → Ends v ops) → Ends w (op ∷ ops)
    go true less rest =
        let r = rest op in
        let first : le w.0 r.last.0 ≡ true = at_most_through mark_cmp_total w.0 op.0 r.last.0 (at_most_from_below mark_cmp_total w.0 op.0 less) (r.greatest.above op (inl refl)) in
        record {
          last = r.last;
          state = ap (λ b. fold step (Some (cond b op w)) ops) less ∙ r.state;
          greatest = record {
            member = inr r.greatest.member;
            above = λ x i. ⊎_elim (λ same. ap (λ y. le y.0 r.last.0) same ∙ first) (λ j. r.greatest.above x j) i;
          };
        }
    go false not_less rest =
        let r = rest w in
        let second : le op.0 r.last.0 ≡ true = at_most_through mark_cmp_total op.0 w.0 r.last.0 (at_most_from_not_below mark_cmp_total w.0 op.0 not_less) (r.greatest.above w (inl refl)) in
        record {
          last = r.last;
          state = ap (λ b. fold step (Some (cond b op w)) ops) not_less ∙ r.state;
          greatest = record {
            member = ⊎_elim (λ same. inl same) (λ j. inr (inr j)) r.greatest.member;
            above = λ x i. ⊎_elim (λ same. r.greatest.above x (inl same)) (λ j. ⊎_elim (λ same. ap (λ y. le y.0 r.last.0) same ∙ second) (λ k. r.greatest.above x (inr k)) j) i;
          };
        }

-- a fold of writes with different identifiers has the state of the definition
pub fold-step_defined : (ops : List (Mark × RegisterOp)) → Distinct ops → IsStateOf ops (fold step None ops)
fold-step_defined [] apart = refl
fold-step_defined (op ∷ ops) apart =
    let r = ends ops op in
    subst (IsStateOf (op ∷ ops)) (sym r.state) r.greatest
