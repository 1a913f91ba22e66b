-- After each history there is a bundle for the centre to give.
use Rattle.std.proofs.Common.{◌≡◌, ◌≤◌, ℕ, ◌+◌, Bool, true, false, cond, inl, inr, ⊎_elim, List, [], ◌∷◌, map, refl, sym, ap, ◌∙◌, subst, arith}
use Rattle.std.specs.Prelude.{filter, flat_map}
use Rattle.std.specs.FinMap.{nat_cmp-IsAntisymmetric}
use Rattle.std.specs.Cmp.{nat_cmp_total}
use Rattle.std.specs.List.Sorted.{IsStrictlySortedBy}
use Rattle.std.specs.Ordering.{nat_cmp}
use Rattle.std.proofs.lemmas.Bool.{false≢true}
use Rattle.std.proofs.lemmas.List.{map-id}
use Rattle.std.proofs.lemmas.Simd.{map-map}
use Rattle.list_core.specs.Members.{In}
use Rattle.list_core.proofs.Gets.{In_get}
use Rattle.list_core.proofs.Members.{In_map, In_from_map, In_filter, In_from_filter, In_flat_map, In_from_flat_map}
use Rattle.ids_core.specs.declared.ids.Dot.{Dot}
use Rattle.ids_core.specs.declared.ids.Mark.{Mark}
use Rattle.ids_core.specs.declared.object.ObjectId.{ObjectId}
use Rattle.ids_core.specs.Ids.{same_object}
use Rattle.ids_core.specs.Orders.{object_cmp, object_cmp_total, object_cmp_same}
use Rattle.ids_core.specs.Same.{same_object-true}
use Rattle.tx_core.specs.declared.op.Op.{Op}
use Rattle.tx_core.specs.declared.tx.Update.{Update}
use Rattle.tx_core.specs.declared.tx.Record.{Record}
use Rattle.tx_core.specs.declared.part.StatePart.{StatePart}
use Rattle.tx_core.specs.Operations.{mark, ops_from, ops_of}
use Rattle.join_bundle.specs.declared.part.ClientPart.{ClientPart}
use Rattle.join_bundle.specs.declared.part.BundleParts.{BundleParts}
use Rattle.dc_talk.specs.declared.settings.Settings.{Settings}
use Rattle.dc_talk.specs.Entries.{Entry}
use Rattle.dc_talk.specs.Records.{vector, guard, top, has, inside, mine, firsts}
use Rattle.dc_talk.specs.Objects.{state_at}
use Rattle.dc_talk.specs.Answers.{count_inside}
use Rattle.dc_talk.specs.Laws.{IsCentreHistory}
use Rattle.dc_talk.proofs.Applied.{in_order}
use Rattle.dc_talk.proofs.Counts.{in_guard, guard_in}
use Rattle.dc_talk.proofs.Firsts.{first_there}
use Rattle.cut_law.specs.Parts.{Parts, list, rows_over, parts_of}
use Rattle.cut_law.specs.Cuts.{rest_of, ops_inside, IsClientOf, AreClientsOf, IsStateOf, AreStatesOf, IsCutOver, IsCutOf}
use Rattle.cut_law.proofs.Ascending.{AreKeys, keys_of}

-- ---- clients

module _ (A : List Record) (base : List ℕ) (low : (r : Record) → In r A → 1 ≤ r.tx.dot.number) where
  -- the part of a client of a record
  client_part : (client : ℕ) → In client (map (λ (r : Record). r.tx.dot.client) A) → (p : ClientPart) × (p.client ≡ client) × IsClientOf A base p
  client_part client i =
      let m = In_from_map (λ (r : Record). r.tx.dot.client) A client i in
      let number = low m.0 m.1 in
      let high = in_guard A m.0 m.1 in
      let same : guard client A ≡ guard m.0.tx.dot.client A = ap (λ c. guard c A) m.2 in
      let first = first_there client (guard client A) A (omega (arith, number, high, same)) refl in
      (record { client = client; number = guard client A; stamp = first.0; folded = mine client (inside A base) }, refl, record { number = refl; some = omega (arith, number, high, same); stamp = first.1; folded = refl })

  -- the parts of clients that are those of records
  client_parts : (keys : List ℕ) → ((client : ℕ) → In client keys → In client (map (λ (r : Record). r.tx.dot.client) A)) → (parts : List ClientPart) × (map (λ (p : ClientPart). p.client) parts ≡ keys) × ((p : ClientPart) → In p parts → IsClientOf A base p)
  client_parts [] from = ([], refl, λ p i. absurd i)
  client_parts (client ∷ keys) from = go (client_part client (from client (inl refl))) (client_parts keys (λ c i. from c (inr i)))
    where
      go : (p : ClientPart) × (p.client ≡ client) × IsClientOf A base p → (parts : List ClientPart) × (map (λ (p : ClientPart). p.client) parts ≡ keys) × ((p : ClientPart) → In p parts → IsClientOf A base p) → (parts : List ClientPart) × (map (λ (p : ClientPart). p.client) parts ≡ client ∷ keys) × ((p : ClientPart) → In p parts → IsClientOf A base p)
      go one rest = (one.0 ∷ rest.0, λ i. one.1 i ∷ rest.1 i, λ p i. ⊎_elim (λ e. subst (IsClientOf A base) (sym e) one.2) (λ j. rest.2 p j) i)

  clients_there : (parts : List ClientPart) × AreClientsOf A base parts
  clients_there =
      let keys = keys_of nat_cmp_total nat_cmp-IsAntisymmetric (map (λ (r : Record). r.tx.dot.client) A) in
      let parts = client_parts keys.0 keys.1.only in (
        parts.0,
        record {
          order = subst (IsStrictlySortedBy nat_cmp) (sym parts.1) keys.1.ascend;
          each = parts.2;
          all = λ client some.
              let h = guard_in client A (guard client A) refl some in
              let known = keys.1.all client (subst (λ c. In c (map (λ (r : Record). r.tx.dot.client) A)) h.client_is (In_map (λ (r : Record). r.tx.dot.client) A h.item h.there)) in
              let p = In_from_map (λ (p : ClientPart). p.client) parts.0 client (subst (λ l. In client l) (sym parts.1) known) in
              (p.0, p.1, sym p.2);
        },
      )

-- ---- objects

-- whether a list has an element
abbrev some_of : {X : Type 0} → List X → Bool
some_of [] = false
some_of (x ∷ xs) = true

-- an operation on an object is of an update of it
op_object : (o : ObjectId) (rank : ℕ) (dot : Dot) (place : ℕ) (us : List Update) (op : Mark × Op) → In op (ops_from o rank dot place us) → In o (map (λ (u : Update). u.object) us)
op_object o rank dot place [] op i = absurd i
op_object o rank dot place (u ∷ us) op i = go (same_object u.object o) refl (λ j. op_object o rank dot (place + 1) us op j) i
  where
    go : (b : Bool) → same_object u.object o ≡ b → (In op (ops_from o rank dot (place + 1) us) → In o (map (λ (u : Update). u.object) us)) → In op (cond b ((mark rank dot place, u.op) ∷ ops_from o rank dot (place + 1) us) (ops_from o rank dot (place + 1) us)) → In o (u.object ∷ map (λ (u : Update). u.object) us)
    go true is rest j = inl (sym (same_object-true u.object o is))
    go false is rest j = inr (rest j)

module _ (A : List Record) (base : List ℕ) where
  -- the objects of all updates within the base
  abbrev candidates : List ObjectId
  candidates = flat_map (λ (r : Record). map (λ (u : Update). u.object) r.tx.updates) (filter (λ r. has r.tx.dot (inside A base)) (firsts A))

  -- each object with an operation there is among them
  candidate : (o : ObjectId) (op : Mark × Op) → In op (ops_inside o A base) → In o candidates
  candidate o op i =
      let m = In_from_flat_map (λ (r : Record). ops_of o r.tx) (filter (λ r. has r.tx.dot (inside A base)) (firsts A)) op i in
      In_flat_map (λ (r : Record). map (λ (u : Update). u.object) r.tx.updates) (filter (λ r. has r.tx.dot (inside A base)) (firsts A)) m.0 o m.1 (op_object o m.0.tx.rank m.0.tx.dot 0 m.0.tx.updates op m.2)

  -- the part of an object
  abbrev state_part : ObjectId → StatePart
  state_part o = record { object = o; state = state_at o A base }

  -- such an object has an operation
  some_ops : (ops : List (Mark × Op)) → some_of ops ≡ true → ops ≡ [] → ⊥
  some_ops ops is none = false≢true (ap some_of (sym none) ∙ is)

  states_there : (parts : List StatePart) × AreStatesOf A base parts
  states_there = (
    map state_part keys.0,
    record {
      order = subst (IsStrictlySortedBy object_cmp) (sym objects) keys.1.ascend;
      each = λ p i. let m = In_from_map state_part keys.0 p i in subst (IsStateOf A base) (sym m.2) (record { some = some_ops (ops_inside m.0 A base) (In_from_filter (λ o. some_of (ops_inside o A base)) candidates m.0 (keys.1.only m.0 m.1)).1; state = refl });
      all = λ o some. let i = key o (ops_inside o A base) refl some in (state_part o, In_map state_part keys.0 o i, refl);
    },
  )
    where
      keys : (keys : List ObjectId) × AreKeys object_cmp_total object_cmp_same (filter (λ o. some_of (ops_inside o A base)) candidates) keys
      keys = keys_of object_cmp_total object_cmp_same (filter (λ o. some_of (ops_inside o A base)) candidates)

      objects : map (λ (p : StatePart). p.object) (map state_part keys.0) ≡ keys.0
      objects = map-map (λ (p : StatePart). p.object) state_part keys.0 ∙ map-id keys.0

      key : (o : ObjectId) (ops : List (Mark × Op)) → ops_inside o A base ≡ ops → (ops_inside o A base ≡ [] → ⊥) → In o keys.0
      key o [] is some = absurd (some is)
      key o (op ∷ ops) is some = keys.1.all o (In_filter (λ o. some_of (ops_inside o A base)) candidates o (candidate o op (subst (λ l. In op l) (sym is) (inl refl))) (ap some_of is))

-- ---- the cut

-- there is a bundle for a centre with these parts to give, where each transaction has a number
cut_there : (s : Settings) (P : Parts) (depth : ℕ) → ((r : Record) → In r (list P) → 1 ≤ r.tx.dot.number) → (b : BundleParts) × (b.depth ≡ depth) × IsCutOver s P b
cut_there s P depth low =
    let clients = clients_there (list P) P.horizon.base low in
    let states = states_there (list P) P.horizon.base in (
      record {
        donor = s.me;
        depth = depth;
        vector = vector s.n (list P);
        rows = rows_over s P;
        base = P.horizon.base;
        mark = P.horizon.mark;
        folded = count_inside (list P) P.horizon.base;
        top = top (list P);
        clients = clients.0;
        states = states.0;
        rest = rest_of (list P) P.horizon.base;
      },
      refl,
      record { donor = refl; base = refl; mark = refl; rows = refl; cut = record { vector = refl; folded = refl; top = refl; clients = clients.1; states = states.1; rest = refl } },
    )

-- so there is one after each history
pub cut_of : (s : Settings) (trail : List Entry) → IsCentreHistory s trail → (b : BundleParts) × IsCutOf s trail b
cut_of s trail history =
    let b = cut_there s (parts_of s trail) 0 (λ r i. let order = in_order s trail history in let place = In_get (list (parts_of s trail)) r i in (order.holds place.0 r place.1).fit.number.0) in
    (b.0, record { depth = b.1; given = b.2 })
