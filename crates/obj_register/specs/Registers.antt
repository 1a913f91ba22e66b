-- The write with the greatest mark.
use Rattle.std.specs.Prelude.{◌≡◌, ℕ, cond, List, [], Option, Some, None, option_map, IsTrue}
use Rattle.std.specs.Ordering.{is_lt, is_le}
use Rattle.list_core.specs.Members.{In}
use Rattle.ids_core.specs.declared.ids.Mark.{Mark}
use Rattle.ids_core.specs.Orders.{mark_cmp}
use Rattle.obj_register.specs.declared.register.RegisterOp.{RegisterOp}

-- of two writes that with the greater mark, and the first where no mark is greater
abbrev pub greater_of : (Mark × RegisterOp) → (Mark × RegisterOp) → Mark × RegisterOp
greater_of last op = cond (is_lt (mark_cmp last.0 op.0)) op last

-- the state after one more write
abbrev pub step : Option (Mark × RegisterOp) → (Mark × RegisterOp) → Option (Mark × RegisterOp)
step None op = Some op
step (Some last) op = Some (greater_of last op)

-- a write of the list whose mark no other exceeds
pub record IsGreatest (ops : List (Mark × RegisterOp)) (last : Mark × RegisterOp) : Type 0 where
  pub member : In last ops
  pub above : (op : Mark × RegisterOp) → In op ops → IsTrue (is_le (mark_cmp op.0 last.0))

-- the state of a register: unset exactly where there is no write, and else the greatest write
abbrev pub IsStateOf : List (Mark × RegisterOp) → Option (Mark × RegisterOp) → Type 0
IsStateOf ops None = ops ≡ []
IsStateOf ops (Some last) = IsGreatest ops last

-- what a read gives
abbrev pub word_of : Option (Mark × RegisterOp) → Option (List ℕ)
word_of = option_map (λ last. last.1.word)
