-- What objects are by their operations alone, in whatever order these were taken in.
use Rattle.std.specs.Prelude.{◌≡◌, ◌↔◌, ℕ, ℤ, true, List, [], map, Some, None, IsTrue}
use Rattle.std.specs.Int.{w128, int_wrap}
use Rattle.std.specs.Ordering.{is_le}
use Rattle.std.specs.List.Sorted.{IsStrictlySortedBy}
use Rattle.list_core.specs.Members.{In}
use Rattle.ids_core.specs.declared.ids.OpId.{OpId}
use Rattle.ids_core.specs.declared.ids.Mark.{Mark}
use Rattle.ids_core.specs.declared.object.Sort.{Sort}
use Rattle.ids_core.specs.declared.object.Sort.TheVariants.{Counter, Register, Set, Map}
use Rattle.ids_core.specs.Orders.{mark_cmp, name_cmp}
use Rattle.obj_counter.specs.Counter.{deltas, total}
use Rattle.tx_core.specs.declared.op.Op.{Op}
use Rattle.tx_core.specs.declared.op.Op.TheVariants.{Write, Put}
use Rattle.tx_core.specs.declared.state.Value.{Value}
use Rattle.tx_core.specs.declared.state.Value.TheVariants.{Number, Word, Words, Pairs}
use Rattle.tx_core.specs.Ops.{sort_of_op, over_of, name_of, is_add, counter_op, marked}

-- each operation is on that kind of objects
pub record AreOf (sort : Sort) (ops : List (Mark × Op)) : Type 0 where
  pub each : (op : Mark × Op) → In op ops → sort_of_op op.1 ≡ sort

-- the operation is an add of the word or a put of the key, and no operation on it is over it
pub record IsLive (ops : List (Mark × Op)) (name : List ℕ) (op : Mark × Op) : Type 0 where
  pub there : In op ops
  pub adds : is_add op.1 ≡ true
  pub under : name_of op.1 ≡ Some name
  pub free : (other : Mark × Op) → In other ops → name_of other.1 ≡ Some name → In op.0.id (over_of other.1) → ⊥

-- the identifier is that of a live operation on the word or key
pub record IsLiveId (ops : List (Mark × Op)) (name : List ℕ) (id : OpId) : Type 0 where
  pub op : Mark × Op
  pub live : IsLive ops name op
  pub is : op.0.id ≡ id

-- the sum of the deltas
abbrev pub sum_of : List (Mark × Op) → ℤ
sum_of ops = total (deltas (marked counter_op ops))

-- the word of the write with the greatest mark
pub record IsLastWord (ops : List (Mark × Op)) (word : List ℕ) : Type 0 where
  pub mark : Mark
  pub there : In (mark, Write word) ops
  pub above : (op : Mark × Op) → In op ops → IsTrue (is_le (mark_cmp op.0 mark))

-- the words that have a live add, ascending
pub record AreWords (ops : List (Mark × Op)) (words : List (List ℕ)) : Type 0 where
  pub ascending : IsStrictlySortedBy name_cmp words
  pub exact : (word : List ℕ) → In word words ↔ ((id : OpId) × IsLiveId ops word id)

-- the word of the live put of the key with the greatest mark
pub record IsWordAt (ops : List (Mark × Op)) (key word : List ℕ) : Type 0 where
  pub mark : Mark
  pub over : List OpId
  pub live : IsLive ops key (mark, Put key word over)
  pub above : (op : Mark × Op) → IsLive ops key op → IsTrue (is_le (mark_cmp op.0 mark))

-- the keys that have a live put, ascending, each with the word of the greatest
pub record ArePairs (ops : List (Mark × Op)) (pairs : List (List ℕ × List ℕ)) : Type 0 where
  pub ascending : IsStrictlySortedBy name_cmp (map (λ pair. pair.0) pairs)
  pub exact : (key word : List ℕ) → In (key, word) pairs ↔ IsWordAt ops key word

-- The value of an object of that kind with these operations. A counter is the sum of the deltas, wrapped at
-- the ends of an `i128`; a register the word of the greatest write, and unset where there is none; a set the
-- words with a live add; a map the keys with a live put, each with the word of the greatest.
abbrev pub IsValueOf : Sort → List (Mark × Op) → Value → Type 0
IsValueOf Counter ops (Number sum) = sum ≡ int_wrap w128 (sum_of ops)
IsValueOf Register ops (Word None) = ops ≡ []
IsValueOf Register ops (Word (Some word)) = IsLastWord ops word
IsValueOf Set ops (Words words) = AreWords ops words
IsValueOf Map ops (Pairs pairs) = ArePairs ops pairs
IsValueOf _ _ _ = ⊥
