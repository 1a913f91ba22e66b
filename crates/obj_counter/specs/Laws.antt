-- The laws of the counter as a kind of replicated objects.
use Rattle.std.specs.Prelude.{◌≡◌, ℤ, ◌+ℤ◌, pos, List, [], ◌∷◌, fold, refl}
use Rattle.std.specs.Int.{w128, int_wrap}
use Rattle.std.proofs.Common.{ap, sym, ◌∙◌, arith}
use Rattle.std.proofs.lemmas.Int.{ints, int_wrap-add_left}
use Rattle.ids_core.specs.Kinds.{Commutes, Distinct}
use Rattle.ids_core.specs.declared.ids.Mark.{Mark}
use Rattle.obj_counter.specs.declared.counter.CounterOp.{CounterOp}
use Rattle.obj_counter.specs.Counter.{added, step, deltas, total, IsStateOf}

-- two deltas may change places
pub step_commutes : Commutes step
step_commutes s a b apart =
    let turn : (s +ℤ a.1.delta) +ℤ b.1.delta ≡ (s +ℤ b.1.delta) +ℤ a.1.delta = omega (arith, ints) in
    int_wrap-add_left w128 (s +ℤ a.1.delta) b.1.delta ∙ (ap (int_wrap w128) turn ∙ sym (int_wrap-add_left w128 (s +ℤ b.1.delta) a.1.delta))

-- deltas added to a sum that is wrapped already
fold-wrapped : (ds : List ℤ) (sum : ℤ) → fold added (int_wrap w128 sum) ds ≡ int_wrap w128 (sum +ℤ total ds)
fold-wrapped [] sum = ap (int_wrap w128) (omega (arith, ints))
fold-wrapped (delta ∷ ds) sum =
    let rest = total ds in
    ap (λ s. fold added s ds) (int_wrap-add_left w128 sum delta) ∙ (fold-wrapped ds (sum +ℤ delta) ∙ ap (int_wrap w128) (omega (arith, ints)))

int_wrap-zero : int_wrap w128 (pos 0) ≡ pos 0
unfolding int_wrap
int_wrap-zero = refl

-- the deltas of a list, added one by one, make their sum, wrapped
pub fold-added : (ds : List ℤ) → fold added (pos 0) ds ≡ int_wrap w128 (total ds)
fold-added ds =
    let sum = total ds in
    ap (λ s. fold added s ds) (sym int_wrap-zero) ∙ (fold-wrapped ds (pos 0) ∙ ap (int_wrap w128) (omega (arith, ints)))

-- operations add their deltas
pub fold-step : (ops : List (Mark × CounterOp)) (state : ℤ) → fold step state ops ≡ fold added state (deltas ops)
fold-step [] state = refl
fold-step (op ∷ ops) state = fold-step ops (step state op)

pub fold-step_defined : (ops : List (Mark × CounterOp)) → Distinct ops → IsStateOf ops (fold step (pos 0) ops)
fold-step_defined ops apart = fold-step ops (pos 0) ∙ fold-added (deltas ops)
