-- The greatest write is one.
use Rattle.std.proofs.Common.{◌≡◌, List, Option, Some, None, refl, ap, subst}
use Rattle.list_core.specs.Members.{In}
use Rattle.ids_core.specs.Kinds.{Distinct}
use Rattle.ids_core.specs.declared.ids.Mark.{Mark}
use Rattle.ids_core.proofs.Orders.{one_mark}
use Rattle.ids_core.proofs.Distinct.{one_operation}
use Rattle.obj_register.specs.declared.register.RegisterOp.{RegisterOp}
use Rattle.obj_register.specs.Registers.{IsStateOf}

-- operations with different identifiers have one state
pub one_state : (ops : List (Mark × RegisterOp)) (a b : Option (Mark × RegisterOp)) → Distinct ops → IsStateOf ops a → IsStateOf ops b → a ≡ b
one_state ops None None distinct p q = refl
one_state ops None (Some b) distinct p q = absurd (subst (In b) p q.member)
one_state ops (Some a) None distinct p q = absurd (subst (In a) q p.member)
one_state ops (Some a) (Some b) distinct p q =
    let mark : a.0 ≡ b.0 = one_mark a.0 b.0 (q.above a p.member) (p.above b q.member) in
    ap Some (one_operation ops a b distinct p.member q.member (ap (λ m. m.id) mark))
