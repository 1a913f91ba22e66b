-- States and numbers where some entries stand before others.
use Rattle.std.proofs.Common.{◌≡◌, ◌⊎◌, inl, inr, Bool, true, false, cond, ◌||◌, Option, Some, None, refl, sym, ap, ◌∙◌}
use Rattle.std.specs.Prelude.{is_some}
use Rattle.std.specs.Map.{lookup}
use Rattle.std.specs.Option.{option_or, unwrap_or}
use Rattle.std.proofs.lemmas.Bool.{cases_Bool}
use Rattle.ids_core.specs.declared.ids.Mark.{Mark}
use Rattle.ids_core.specs.declared.object.ObjectId.{ObjectId}
use Rattle.ids_core.specs.Ids.{same_object}
use Rattle.ids_core.specs.Same.{same_object-true}
use Rattle.tx_core.specs.declared.op.Op.{Op}
use Rattle.tx_core.specs.declared.state.State.{State}
use Rattle.tx_core.specs.States.{empty_of, step}
use Rattle.check_point.specs.Points.{StateEntries, has_state, state_in, state_over}

-- where an object has no changed entry, its state is the one that is kept
pub unchanged : (changed kept : StateEntries) (o : ObjectId) → None ≡ lookup (same_object o) changed → state_in kept o ≡ state_over changed kept o
unchanged changed kept o none = ap (λ s. unwrap_or (option_or s (lookup (same_object o) kept)) (empty_of o.sort)) none

-- where it has one, it is that
pub changed_there : (changed kept : StateEntries) (o : ObjectId) (s : State) → Some s ≡ lookup (same_object o) changed → s ≡ state_over changed kept o
changed_there changed kept o s there = ap (λ s. unwrap_or (option_or s (lookup (same_object o) kept)) (empty_of o.sort)) there

-- the state of one object is that after the operation, and the others stay, where the entries that it was put
-- into are those before
pub changed_one : (before into after kept : StateEntries) (k : ObjectId) (op : Mark × Op) (s : State) → into ≡ before → ((q : ObjectId) → lookup (same_object q) after ≡ cond (same_object k q) (Some s) (lookup (same_object q) into)) → s ≡ step (state_over before kept k) op → (o : ObjectId) → state_over after kept o ≡ cond (same_object k o) (step (state_over before kept o) op) (state_over before kept o)
changed_one before into after kept k op s same turns is o = at (cases_Bool (same_object k o))
  where
    over : Option State → State
    over entry = unwrap_or (option_or entry (lookup (same_object o) kept)) (empty_of o.sort)

    turned : (b : Bool) → same_object k o ≡ b → state_over after kept o ≡ over (cond b (Some s) (lookup (same_object o) before))
    turned b e = ap over (turns o ∙ (ap (λ b. cond b (Some s) (lookup (same_object o) into)) e ∙ ap (λ es. cond b (Some s) (lookup (same_object o) es)) same))

    at : (same_object k o ≡ true) ⊎ (same_object k o ≡ false) → state_over after kept o ≡ cond (same_object k o) (step (state_over before kept o) op) (state_over before kept o)
    at (inl e) = turned true e ∙ ((is ∙ ap (λ p. step (state_over before kept p) op) (same_object-true k o e)) ∙ ap (λ b. cond b (step (state_over before kept o) op) (state_over before kept o)) (sym e))
    at (inr e) = turned false e ∙ ap (λ b. cond b (step (state_over before kept o) op) (state_over before kept o)) (sym e)

-- one object more has a state
pub known_one : (before into after : StateEntries) (k : ObjectId) (s : State) → into ≡ before → ((q : ObjectId) → lookup (same_object q) after ≡ cond (same_object k q) (Some s) (lookup (same_object q) into)) → (o : ObjectId) → has_state after o ≡ (same_object k o || has_state before o)
known_one before into after k s same turns o = ap is_some (turns o ∙ ap (λ es. cond (same_object k o) (Some s) (lookup (same_object o) es)) same) ∙ there (same_object k o) (lookup (same_object o) before)
  where
    there : (b : Bool) (r : Option State) → is_some (cond b (Some s) r) ≡ (b || is_some r)
    there true r = refl
    there false r = refl

-- tests in another order
pub or_turn : (a b c : Bool) → ((a || b) || c) ≡ (b || (a || c))
or_turn true true c = refl
or_turn true false c = refl
or_turn false b c = refl

pub or_next : (a b c : Bool) → ((a || b) || c) ≡ (a || (b || c))
or_next true b c = refl
or_next false b c = refl
