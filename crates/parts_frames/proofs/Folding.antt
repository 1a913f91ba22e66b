-- States that fit transactions leave have their numbers in range.
use Rattle.std.proofs.Common.{◌≡◌, ◌≤◌, ℕ, ◌+◌, Bool, true, false, cond, inl, inr, ⊎_elim, Option, Some, None, List, [], ◌∷◌, ◌++◌, fold, length, refl, sym, ◌∙◌, subst, arith}
use Rattle.std.specs.Prelude.{All, flat_map}
use Rattle.std.specs.Option.{unwrap_or}
use Rattle.std.specs.Ordering.{eq_by_cmp}
use Rattle.std.specs.FinMap.{get, get-empty, empty, entries}
use Rattle.std.proofs.lemmas.Option.{none-some, same_Some}
use Rattle.std.proofs.lemmas.List.Elements.{All-head, All-tail}
use Rattle.list_core.specs.Members.{In}
use Rattle.list_core.proofs.Members.{All-In, In-All, In_either, In_from_map, In_from_flat_map}
use Rattle.ids_core.specs.declared.ids.Dot.{Dot}
use Rattle.ids_core.specs.declared.ids.OpId.{OpId}
use Rattle.ids_core.specs.declared.ids.Mark.{Mark}
use Rattle.ids_core.specs.declared.limits.TheConstants.{MOST_CLIENTS, MOST_NUMBER, MOST_UPDATES}
use Rattle.ids_core.specs.declared.object.ObjectId.{ObjectId}
use Rattle.ids_core.specs.declared.object.Sort.{Sort}
use Rattle.ids_core.specs.declared.object.Sort.TheVariants as sort
use Rattle.ids_core.specs.Ids.{same_object}
use Rattle.obj_register.specs.declared.register.RegisterOp.{RegisterOp}
use Rattle.obj_register.specs.Registers as register
use Rattle.obj_map.specs.declared.put.Put.{Put}
use Rattle.tally_core.specs.declared.place.Place.{Place}
use Rattle.tally_core.specs.declared.place.Cell.{Cell}
use Rattle.tally_core.specs.Places.{place, place_cmp}
use Rattle.tally_core.specs.Cells.{Tallied, cell_at, nothing, is_nothing, turned, turn, lowers, raises, changed}
use Rattle.tally_core.proofs.Entries.{in_get}
use Rattle.tally_core.proofs.Places.{place_cmp_total, place_cmp_same}
use Rattle.tally_core.proofs.Sparse.{get-change, stored, is_same}
use Rattle.tx_core.specs.declared.op.Op.{Op}
use Rattle.tx_core.specs.declared.op.Op.TheVariants.{Inc, Write, Add, Remove, Put as PutOp, Erase}
use Rattle.tx_core.specs.declared.state.State.{State}
use Rattle.tx_core.specs.declared.state.State.TheVariants.{Counter, Register, Set, Map}
use Rattle.tx_core.specs.declared.tx.Update.{Update}
use Rattle.tx_core.specs.declared.tx.Tx.{Tx}
use Rattle.tx_core.specs.Checks.{IsTag, IsFit, IsFitUpdate}
use Rattle.tx_core.specs.Operations.{mark, ops_from, ops_of}
use Rattle.tx_core.specs.Ops.{over_of}
use Rattle.tx_core.specs.States.{empty_of, step, fold_of}
use Rattle.check_point.specs.Operations.{state_after}
use Rattle.state_codec.specs.Plain.{plain_of}
use Rattle.state_codec.specs.Spelling.{IsRank}
use Rattle.parts_frames.specs.Ranges.{IsRangedLast, IsRangedKept, IsRangedMember, IsRangedEntry, IsRangedState}

-- ---- tallies

module _ {P : Type 0} (Q : P → Type 0) where
  -- what is kept is in range
  abbrev Keeps : Option P → Type 0
  Keeps kept = (p : P) → kept ≡ Some p → Q p

  -- each place where something is stored has an identifier in range, and what it keeps is
  record IsRanged (m : Tallied P) : Type 0 where
    holds : (q : Place) (c : Cell P) → get m q ≡ Some c → IsTag q.id × Keeps c.kept

  -- a change of a cell is at an identifier in range, and adds what is
  abbrev IsRangedTurn : (Place × Option P) → Type 0
  IsRangedTurn c = IsTag c.0.id × Keeps c.1

  -- nothing is kept
  keeps_none : Keeps None
  keeps_none p is = absurd (none-some p is)

  -- what is kept may be let go
  keeps_cond : (b : Bool) (kept : Option P) → Keeps kept → Keeps (cond b kept None)
  keeps_cond true kept h = h
  keeps_cond false kept h = keeps_none

  -- the cell at a place keeps what is in range
  keeps_at : (m : Tallied P) (q : Place) → IsRanged m → Keeps (cell_at m q).kept
  keeps_at m q is = go (get m q) refl
    where
      go : (o : Option (Cell P)) → get m q ≡ o → Keeps (unwrap_or o nothing).kept
      go None found = keeps_none
      go (Some c) found = (is.holds q c found).1

  -- so does the cell after a change
  keeps_turned : (add : Option P) (c : Cell P) → Keeps add → Keeps c.kept → Keeps (turned add c).kept
  keeps_turned None c added kept = keeps_cond _ c.kept kept
  keeps_turned (Some p) c added kept = keeps_cond _ (Some p) added

  -- tallies stay in range by one change
  turn_ranged : (m : Tallied P) (c : Place × Option P) → IsRanged m → IsRangedTurn c → IsRanged (turn m c)
  turn_ranged m c is of = record { holds = λ q d found. go q d (eq_by_cmp place_cmp q c.0) refl (sym (get-change nothing is_nothing place_cmp_total place_cmp_same m c.0 (turned c.1) q) ∙ found) }
    where
      x : Cell P
      x = turned c.1 (cell_at m c.0)

      here : (d : Cell P) (b : Bool) → cond b None (Some x) ≡ Some d → Keeps d.kept
      here d true found = absurd (none-some d found)
      here d false found = subst (λ (d : Cell P). Keeps d.kept) (same_Some x d found) (keeps_turned c.1 (cell_at m c.0) of.1 (keeps_at m c.0 is))

      go : (q : Place) (d : Cell P) (b : Bool) → eq_by_cmp place_cmp q c.0 ≡ b → cond b (stored is_nothing x) (get m q) ≡ Some d → IsTag q.id × Keeps d.kept
      go q d true same found = (subst (λ (q : Place). IsTag q.id) (sym (is_same place_cmp_same q c.0 same)) of.0, here d (is_nothing x) found)
      go q d false other found = is.holds q d found

  -- and by several
  turns_ranged : (cs : List (Place × Option P)) (m : Tallied P) → IsRanged m → ((c : Place × Option P) → In c cs → IsRangedTurn c) → IsRanged (fold turn m cs)
  turns_ranged [] m is all = is
  turns_ranged (c ∷ cs) m is all = turns_ranged cs (turn m c) (turn_ranged m c is (all c (inl refl))) (λ d i. all d (inr i))

  -- so they do by an operation whose identifiers are in range
  changed_ranged : (m : Tallied P) (name : List ℕ) (id : OpId) (add : Option P) (over : List OpId) → IsRanged m → IsTag id → Keeps add → All IsTag over → IsRanged (changed m name id add over)
  changed_ranged m name id add over is own kept all = turns_ranged (raises name id add ++ lowers name over) m is (λ c i. ⊎_elim (raised add kept c) (lowered c) (In_either (raises name id add) (lowers name over) c i))
    where
      raised : (add : Option P) → Keeps add → (c : Place × Option P) → In c (raises name id add) → IsRangedTurn c
      raised None kept c i = absurd i
      raised (Some p) kept c i = subst IsRangedTurn (sym (⊎_elim (λ same. same) (λ none. absurd none) i)) (own, kept)

      lowered : (c : Place × Option P) → In c (lowers name over) → IsRangedTurn c
      lowered c i =
          let from = In_from_map (λ id. (place name id, None)) over c i in
          subst IsRangedTurn (sym from.2) (All-In IsTag over from.0 all from.1, keeps_none)

  -- no tallies are in range
  empty_ranged : IsRanged empty
  empty_ranged = record { holds = λ q c found. absurd (none-some c (sym (get-empty place_cmp q) ∙ found)) }

  -- each entry is in range
  entry_ranged : (m : Tallied P) (e : Place × Cell P) → IsRanged m → In e (entries m) → IsTag e.0.id × Keeps e.1.kept
  entry_ranged m e is i = is.holds e.0 e.1 (in_get place_cmp place_cmp_total place_cmp_same m e i)

-- ---- states

-- a set keeps nothing, and a map the ranks of puts
abbrev NoneKept : Unit {0} → Type 0
NoneKept _ = Unit {0}

abbrev RankKept : Put → Type 0
RankKept put = IsRank put.rank

-- the numbers of a state are in range
abbrev IsRangedAt : State → Type 0
IsRangedAt (Counter s) = Unit {0}
IsRangedAt (Register s) = IsRangedLast s
IsRangedAt (Set s) = IsRanged NoneKept s
IsRangedAt (Map s) = IsRanged RankKept s

-- so are those of an operation
record IsRangedOp (op : Mark × Op) : Type 0 where
  rank : IsRank op.0.rank
  id : IsTag op.0.id
  over : All IsTag (over_of op.1)

-- the first state
empty_at : (k : Sort) → IsRangedAt (empty_of k)
empty_at sort.Counter = tt
empty_at sort.Register = tt
empty_at sort.Set = empty_ranged NoneKept
empty_at sort.Map = empty_ranged RankKept

-- of two writes the greater is in range
last_after : (last : Option (Mark × RegisterOp)) (op : Mark × RegisterOp) → IsRangedLast last → IsRank op.0.rank × IsTag op.0.id → IsRangedLast (register.step last op)
last_after None op is of = of
last_after (Some last) op is of = go _
  where
    go : (b : Bool) → IsRangedLast (Some (cond b op last))
    go true = of
    go false = is

-- a state stays in range by one operation
step_ranged : (s : State) (m : Mark) (op : Op) → IsRangedAt s → IsRangedOp (m, op) → IsRangedAt (step s (m, op))
step_ranged (Counter s) m op is of = tt
step_ranged (Register s) m (Write word) is of = last_after s (m, record { word = word }) is (of.rank, of.id)
step_ranged (Register s) m (Inc delta) is of = is
step_ranged (Register s) m (Add word over) is of = is
step_ranged (Register s) m (Remove word over) is of = is
step_ranged (Register s) m (PutOp key word over) is of = is
step_ranged (Register s) m (Erase key over) is of = is
step_ranged (Set s) m (Add word over) is of = changed_ranged NoneKept s word m.id (Some tt) over is of.id (λ p same. tt) of.over
step_ranged (Set s) m (Remove word over) is of = changed_ranged NoneKept s word m.id None over is of.id (λ p same. tt) of.over
step_ranged (Set s) m (Inc delta) is of = is
step_ranged (Set s) m (Write word) is of = is
step_ranged (Set s) m (PutOp key word over) is of = is
step_ranged (Set s) m (Erase key over) is of = is
step_ranged (Map s) m (PutOp key word over) is of = changed_ranged RankKept s key m.id (Some (record { rank = m.rank; word = word })) over is of.id (λ p same. subst RankKept (same_Some _ p same) of.rank) of.over
step_ranged (Map s) m (Erase key over) is of = changed_ranged RankKept s key m.id None over is of.id (keeps_none RankKept) of.over
step_ranged (Map s) m (Inc delta) is of = is
step_ranged (Map s) m (Write word) is of = is
step_ranged (Map s) m (Add word over) is of = is
step_ranged (Map s) m (Remove word over) is of = is

-- and by several
fold_ranged : (ops : List (Mark × Op)) (s : State) → IsRangedAt s → ((op : Mark × Op) → In op ops → IsRangedOp op) → IsRangedAt (fold_of s ops)
fold_ranged [] s is all = is
fold_ranged (op ∷ ops) s is all = fold_ranged ops (step s op) (step_ranged s op.0 op.1 is (all op (inl refl))) (λ other i. all other (inr i))

-- ---- transactions

-- the operations of updates that are fit
from_ranged : (o : ObjectId) (rank : ℕ) (dot : Dot) (place : ℕ) (us : List Update) → IsRank rank → (1 ≤ dot.client) × (dot.client ≤ MOST_CLIENTS) → (1 ≤ dot.number) × (dot.number ≤ MOST_NUMBER)
    → place + length us ≤ MOST_UPDATES → All IsFitUpdate us → (op : Mark × Op) → In op (ops_from o rank dot place us) → IsRangedOp op
from_ranged o rank dot place [] ranked client number few fit op i = absurd i
from_ranged o rank dot place (u ∷ us) ranked client number few fit op i = go (from_ranged o rank dot (place + 1) us ranked client number (omega (arith, few)) (All-tail IsFitUpdate u us fit) op) (same_object u.object o) i
  where
    first : IsRangedOp (mark rank dot place, u.op)
    first = record { rank = ranked; id = record { client = client; number = number; place = omega (arith, few) }; over = (All-head IsFitUpdate u us fit).over }

    go : (In op (ops_from o rank dot (place + 1) us) → IsRangedOp op) → (b : Bool) → In op (cond b ((mark rank dot place, u.op) ∷ ops_from o rank dot (place + 1) us) (ops_from o rank dot (place + 1) us)) → IsRangedOp op
    go rest true i = ⊎_elim (λ same. subst IsRangedOp (sym same) first) rest i
    go rest false i = rest i

-- the transaction is fit for as many centres as it has entries in its snapshot
abbrev pub IsFitAlone : Tx → Type 0
IsFitAlone tx = IsFit (length tx.snap) tx

-- the state of an object after fit transactions is in range
state_ranged : (o : ObjectId) (txs : List Tx) → ((tx : Tx) → In tx txs → IsFitAlone tx) → IsRangedAt (state_after o txs)
state_ranged o txs fit = fold_ranged (flat_map (ops_of o) txs) (empty_of o.sort) (empty_at o.sort) each
  where
    each : (op : Mark × Op) → In op (flat_map (ops_of o) txs) → IsRangedOp op
    each op i =
        let from = In_from_flat_map (ops_of o) txs op i in
        let tx = from.0 in
        let is = fit tx from.1 in
        from_ranged o tx.rank tx.dot 0 tx.updates is.rank is.client is.number (omega (arith, is.few)) is.updates op from.2

-- taken apart it has its numbers in range
plain_ranged : (s : State) → IsRangedAt s → IsRangedState (plain_of s)
plain_ranged (Counter s) is = tt
plain_ranged (Register s) is = is
plain_ranged (Set s) is = In-All IsRangedMember (entries s) (λ e i. (entry_ranged NoneKept s e is i).0)
plain_ranged (Map s) is = In-All IsRangedEntry (entries s) (λ e i. let h = entry_ranged RankKept s e is i in (h.0, kept e.1.kept h.1))
  where
    kept : (k : Option Put) → Keeps RankKept k → IsRangedKept k
    kept None h = tt
    kept (Some put) h = h put refl

-- so the plain state of an object after fit transactions has
pub plain_after : (o : ObjectId) (txs : List Tx) → ((tx : Tx) → In tx txs → IsFitAlone tx) → IsRangedState (plain_of (state_after o txs))
plain_after o txs fit = plain_ranged (state_after o txs) (state_ranged o txs fit)
