-- The values of objects over a set of transactions of a graph, by which update sees which (Shapiro and others, INRIA RR-7506). Sessions and centres do not compute them so.
use Rattle.std.specs.Prelude.{◌≡◌, ◌↔◌, ℕ, ◌+◌, ℤ, Bool, false, ◌&&◌, ◌||◌, cond, nat_lt, map, filter, flat_map, List, [], ◌∷◌, Option, Some, None, IsTrue}
use Rattle.std.specs.List.{filter_map}
use Rattle.std.specs.List.Sorted.{IsStrictlySortedBy}
use Rattle.std.specs.Ordering.{is_le}
use Rattle.list_core.specs.Members.{In}
use Rattle.ids_core.specs.declared.ids.Dot.{Dot}
use Rattle.ids_core.specs.declared.ids.Mark.{Mark}
use Rattle.ids_core.specs.declared.object.ObjectId.{ObjectId}
use Rattle.ids_core.specs.declared.object.Sort.{Sort}
use Rattle.ids_core.specs.declared.object.Sort.TheVariants as sort
use Rattle.ids_core.specs.Ids.{same_dot, same_object}
use Rattle.ids_core.specs.Orders.{mark_cmp, name_cmp}
use Rattle.obj_counter.specs.Counter.{total}
use Rattle.tx_core.specs.declared.op.Op.{Op}
use Rattle.tx_core.specs.declared.op.Op.TheVariants as op
use Rattle.tx_core.specs.declared.tx.Update.{Update}
use Rattle.tx_core.specs.declared.state.Value.{Value}
use Rattle.tx_core.specs.declared.state.Value.TheVariants.{Number, Word, Words, Pairs}
use Rattle.tx_core.specs.Operations.{mark}
use Rattle.dc_talk.specs.declared.calls.Change.{Change}
use Rattle.dc_talk.specs.declared.calls.Change.TheVariants.{Inc, Write, Add, Remove, Put, Erase}
use Rattle.dc_talk.specs.Records.{has}
use Rattle.tx_graph.specs.Nodes.{Node}

-- the nodes of a set of dots
abbrev pub nodes_in : List Node → List Dot → List Node
nodes_in nodes set = filter (λ t. has t.dot set) nodes

-- ---- acts

-- an update of an object, with its mark (the rank and the dot of its transaction, and its place
-- there) and the dependency set of its transaction
pub record Act : Type 0 where
  pub mark : Mark
  pub deps : List Dot
  pub op : Op

-- the acts on the object among updates of a node that begin at a place
abbrev pub acts_from : ObjectId → Node → ℕ → List Update → List Act
acts_from o t place [] = []
acts_from o t place (u ∷ us) = cond (same_object u.object o) (record { mark = mark t.rank t.dot place; deps = t.deps; op = u.op } ∷ acts_from o t (place + 1) us) (acts_from o t (place + 1) us)

-- the acts on the object in a node
abbrev pub acts_of : ObjectId → Node → List Act
acts_of o t = acts_from o t 0 t.updates

-- the acts on the object in the nodes of a set of dots, each node once
abbrev pub acts_over : List Node → List Dot → ObjectId → List Act
acts_over nodes set o = flat_map (acts_of o) (nodes_in nodes set)

-- the change that an operation is, whatever it is over
abbrev pub change_of : Op → Change
change_of (op.Inc delta) = Inc delta
change_of (op.Write word) = Write word
change_of (op.Add word over) = Add word
change_of (op.Remove word over) = Remove word
change_of (op.Put key word over) = Put key word
change_of (op.Erase key over) = Erase key

-- act q sees act p: the dot of p is in the dependency set of q, or both stand in one transaction and
-- p stands earlier
abbrev pub sees : Act → Act → Bool
sees q p = has p.mark.id.dot q.deps || (same_dot p.mark.id.dot q.mark.id.dot && nat_lt p.mark.id.place q.mark.id.place)

-- the mark of p is not above that of q
abbrev pub IsBelow : Act → Act → Type 0
IsBelow p q = IsTrue (is_le (mark_cmp p.mark q.mark))

-- ---- counters

-- the delta of a change, where it has one
abbrev pub delta_of : Change → Option ℤ
delta_of (Inc delta) = Some delta
delta_of _ = None

-- the deltas of acts
abbrev pub deltas_in : List Act → List ℤ
deltas_in acts = filter_map (λ act. delta_of (change_of act.op)) acts

-- ---- registers

-- the act writes the word
abbrev pub Writes : Act → List ℕ → Type 0
Writes act word = change_of act.op ≡ Write word

-- the word of the write with the greatest mark
pub record IsLastWord (acts : List Act) (word : List ℕ) : Type 0 where
  pub act : Act
  pub there : In act acts
  pub writes : Writes act word
  pub above : (other : Act) (other_word : List ℕ) → In other acts → Writes other other_word → IsBelow other act

-- the value of a register: the word of the greatest write, or unset where there is no write
abbrev pub IsRegisterOver : List Act → Option (List ℕ) → Type 0
IsRegisterOver acts None = (act : Act) (word : List ℕ) → In act acts → Writes act word → ⊥
IsRegisterOver acts (Some word) = IsLastWord acts word

-- ---- sets

-- an add of the word that no remove of the word sees
pub record IsUnseenAdd (acts : List Act) (word : List ℕ) (act : Act) : Type 0 where
  pub there : In act acts
  pub adds : change_of act.op ≡ Add word
  pub unseen : (other : Act) → In other acts → change_of other.op ≡ Remove word → sees other act ≡ false

-- the value of a set: the words with an add that no remove of the word sees, ascending
pub record IsSetOver (acts : List Act) (words : List (List ℕ)) : Type 0 where
  pub ascending : IsStrictlySortedBy name_cmp words
  pub exact : (word : List ℕ) → In word words ↔ ((act : Act) × IsUnseenAdd acts word act)

-- ---- maps

-- a put of the word under the key that no erase of the key sees
pub record IsUnseenPut (acts : List Act) (key word : List ℕ) (act : Act) : Type 0 where
  pub there : In act acts
  pub puts : change_of act.op ≡ Put key word
  pub unseen : (other : Act) → In other acts → change_of other.op ≡ Erase key → sees other act ≡ false

-- the word of the greatest such put of the key
pub record IsWordAt (acts : List Act) (key word : List ℕ) : Type 0 where
  pub act : Act
  pub unseen : IsUnseenPut acts key word act
  pub above : (other : Act) (other_word : List ℕ) → IsUnseenPut acts key other_word other → IsBelow other act

-- the value of a map: the keys with a put that no erase of the key sees, ascending, each with the
-- word of the greatest such put
pub record IsMapOver (acts : List Act) (pairs : List (List ℕ × List ℕ)) : Type 0 where
  pub ascending : IsStrictlySortedBy name_cmp (map (λ pair. pair.0) pairs)
  pub exact : (key word : List ℕ) → In (key, word) pairs ↔ IsWordAt acts key word

-- ---- objects of every kind

-- a value of that kind, where the object has these acts; that of a counter is the sum of their deltas
abbrev pub IsValueBy : Sort → List Act → Value → Type 0
IsValueBy sort.Counter acts (Number number) = number ≡ total (deltas_in acts)
IsValueBy sort.Register acts (Word word) = IsRegisterOver acts word
IsValueBy sort.Set acts (Words words) = IsSetOver acts words
IsValueBy sort.Map acts (Pairs pairs) = IsMapOver acts pairs
IsValueBy _ _ _ = ⊥

-- the value of an object over a set of dots
abbrev pub IsValueOver : List Node → List Dot → ObjectId → Value → Type 0
IsValueOver nodes set o value = IsValueBy o.sort (acts_over nodes set o) value
