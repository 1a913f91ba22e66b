-- The cut of applied records: what a bundle tells of them. And the bundle that a donor gives.
use Rattle.std.specs.Prelude.{◌≡◌, ◌≤◌, ℕ, not, map, filter, flat_map, List, [], Some}
use Rattle.std.specs.List.Sorted.{IsStrictlySortedBy}
use Rattle.std.specs.Ordering.{nat_cmp}
use Rattle.list_core.specs.Members.{In}
use Rattle.ids_core.specs.declared.ids.Mark.{Mark}
use Rattle.ids_core.specs.declared.object.ObjectId.{ObjectId}
use Rattle.ids_core.specs.Orders.{object_cmp}
use Rattle.tx_core.specs.declared.op.Op.{Op}
use Rattle.tx_core.specs.declared.tx.Record.{Record}
use Rattle.tx_core.specs.declared.part.RestPart.{RestPart}
use Rattle.tx_core.specs.declared.part.StatePart.{StatePart}
use Rattle.tx_core.specs.Operations.{ops_of}
use Rattle.join_bundle.specs.declared.part.ClientPart.{ClientPart}
use Rattle.join_bundle.specs.declared.part.BundleParts.{BundleParts}
use Rattle.dc_talk.specs.declared.settings.Settings.{Settings}
use Rattle.dc_talk.specs.Entries.{Entry}
use Rattle.dc_talk.specs.Records.{vector, guard, first_stamp, top, has, inside, mine, firsts}
use Rattle.dc_talk.specs.Dots.{stamps_of}
use Rattle.dc_talk.specs.Objects.{state_at}
use Rattle.dc_talk.specs.Answers.{count_inside}
use Rattle.cut_law.specs.Parts.{Parts, list, rows_over, parts_of}

-- the transaction of a record, with all stamps that it has among the records A
abbrev pub rest_part : List Record → Record → RestPart
rest_part A r = record { tx = r.tx; stamps = stamps_of r.tx.dot A }

-- the rest of the records A beside a base: the transactions that are not within it, in the order of their first records
abbrev pub rest_of : List Record → List ℕ → List RestPart
rest_of A base = map (rest_part A) (filter (λ r. not (has r.tx.dot (inside A base))) (firsts A))

-- the operations of the object within a base, after the records A
abbrev pub ops_inside : ObjectId → List Record → List ℕ → List (Mark × Op)
ops_inside o A base = flat_map (λ r. ops_of o r.tx) (filter (λ r. has r.tx.dot (inside A base)) (firsts A))

-- the part is that of a client after the records A: its greatest number, with the first stamp of that, and its greatest
-- number within the base
pub record IsClientOf (A : List Record) (base : List ℕ) (p : ClientPart) : Type 0 where
  pub number : p.number ≡ guard p.client A
  pub some : 1 ≤ p.number
  pub stamp : first_stamp (record { client = p.client; number = p.number }) A ≡ Some p.stamp
  pub folded : p.folded ≡ mine p.client (inside A base)

-- the parts are those of all clients of the records A, ascending
pub record AreClientsOf (A : List Record) (base : List ℕ) (parts : List ClientPart) : Type 0 where
  pub order : IsStrictlySortedBy nat_cmp (map (λ c. c.client) parts)
  pub each : (p : ClientPart) → In p parts → IsClientOf A base p
  pub all : (client : ℕ) → 1 ≤ guard client A → (p : ClientPart) × In p parts × (p.client ≡ client)

-- the part is that of an object with an operation within the base: its state there
pub record IsStateOf (A : List Record) (base : List ℕ) (p : StatePart) : Type 0 where
  pub some : ops_inside p.object A base ≡ [] → ⊥
  pub state : p.state ≡ state_at p.object A base

-- the parts are those of all such objects, ascending
pub record AreStatesOf (A : List Record) (base : List ℕ) (parts : List StatePart) : Type 0 where
  pub order : IsStrictlySortedBy object_cmp (map (λ s. s.object) parts)
  pub each : (p : StatePart) → In p parts → IsStateOf A base p
  pub all : (o : ObjectId) → (ops_inside o A base ≡ [] → ⊥) → (p : StatePart) × In p parts × (p.object ≡ o)

-- the bundle is the cut of the records A, of n centres, at its base
pub record IsCut (n : ℕ) (A : List Record) (b : BundleParts) : Type 0 where
  pub vector : b.vector ≡ vector n A
  pub folded : b.folded ≡ count_inside A b.base
  pub top : b.top ≡ top A
  pub clients : AreClientsOf A b.base b.clients
  pub states : AreStatesOf A b.base b.states
  pub rest : b.rest ≡ rest_of A b.base

-- the bundle is the one that a centre with these parts gives
pub record IsCutOver (s : Settings) (P : Parts) (b : BundleParts) : Type 0 where
  pub donor : b.donor ≡ s.me
  pub base : b.base ≡ P.horizon.base
  pub mark : b.mark ≡ P.horizon.mark
  pub rows : b.rows ≡ rows_over s P
  pub cut : IsCut s.n (list P) b

-- the bundle is the one that a centre gives after its trail; the centre adopted none
pub record IsCutOf (s : Settings) (trail : List Entry) (b : BundleParts) : Type 0 where
  pub depth : b.depth ≡ 0
  pub given : IsCutOver s (parts_of s trail) b
