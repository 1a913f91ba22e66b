-- What lies within a vector, of the first records of all dots.
use Rattle.std.proofs.Common.{◌≡◌, ℕ, true, cond, max, List, [], ◌∷◌, map, refl, sym, ap, subst, ◌∙◌, arith}
use Rattle.std.specs.Prelude.{◌==◌, filter, flat_map}
use Rattle.std.proofs.lemmas.Bool.{leb-true, le-leb}
use Rattle.std.proofs.lemmas.List.Folds.{flat_map-map}
use Rattle.list_core.specs.Members.{In}
use Rattle.list_core.proofs.Members.{In_map, In_from_map, In_filter, In_from_filter}
use Rattle.list_core.proofs.Images.{filter-map}
use Rattle.ids_core.specs.declared.ids.Dot.{Dot}
use Rattle.ids_core.specs.declared.object.ObjectId.{ObjectId}
use Rattle.vv_core.specs.declared.stamp.Stamp.{Stamp}
use Rattle.vv_core.specs.Vectors.{at, within, Covers}
use Rattle.tx_core.specs.declared.tx.Tx.{Tx}
use Rattle.tx_core.specs.declared.tx.Record.{Record}
use Rattle.tx_core.specs.States.{empty_of, fold_of}
use Rattle.tx_core.specs.Operations.{ops_of}
use Rattle.dc_talk.specs.Records.{has, inside, firsts, mine}
use Rattle.dc_talk.specs.Objects.{state_at}
use Rattle.dc_talk.proofs.Dots.{has_In, In_has, mine_grows}
use Rattle.dc_talk.proofs.Firsts.{firsts_has}
use Rattle.check_point.specs.Operations.{state_after, greatest}
use Rattle.point_log.specs.Splits.{first_txs, is_inside}

-- ---- a greater vector

-- a stamp within a vector is within each that covers it
pub within_grows : (w base : List ℕ) (s : Stamp) → Covers w base → within s base ≡ true → within s w ≡ true
within_grows w base s covers is =
    let low = leb-true s.seq (at base s.centre) is in
    let le = covers.holds s.centre in
    le-leb s.seq (at w s.centre) (omega (arith, low, le))

-- what lies within a vector lies within each that covers it
pub inside_grows : (A : List Record) (w base : List ℕ) (d : Dot) → Covers w base → has d (inside A base) ≡ true → has d (inside A w) ≡ true
inside_grows A w base d covers is =
    let m = In_from_map (λ (r : Record). r.tx.dot) (filter (λ r. within r.stamp base) A) d (has_In d (inside A base) is) in
    let r = m.0 in
    let f = In_from_filter (λ (r : Record). within r.stamp base) A r m.1 in
    In_has d (inside A w) (subst (λ d. In d (inside A w)) (sym m.2) (In_map (λ (r : Record). r.tx.dot) (filter (λ r. within r.stamp w) A) r (In_filter (λ (r : Record). within r.stamp w) A r f.0 (within_grows w base r.stamp covers f.1))))

-- ---- states

-- the state after the first transactions within a vector is the state at it
pub state_inside : (A : List Record) (w : List ℕ) (o : ObjectId) → state_after o (filter (is_inside A w) (first_txs A)) ≡ state_at o A w
state_inside A w o = ap (fold_of (empty_of o.sort)) (ap (flat_map (ops_of o)) (filter-map (is_inside A w) (λ (r : Record). r.tx) (firsts A)) ∙ flat_map-map (ops_of o) (λ (r : Record). r.tx) (filter (λ r. has r.tx.dot (inside A w)) (firsts A)))

-- ---- numbers

-- the greatest number of a client is that of its dots
greatest_mine : (client : ℕ) (txs : List Tx) → greatest client txs ≡ mine client (map (λ (tx : Tx). tx.dot) txs)
greatest_mine client [] = refl
greatest_mine client (tx ∷ txs) = ap (λ n. max (cond (tx.dot.client == client) tx.dot.number 0) n) (greatest_mine client txs)

-- among the first transactions within a vector it is that of all dots within it
pub greatest_inside : (A : List Record) (w : List ℕ) (client : ℕ) → greatest client (filter (is_inside A w) (first_txs A)) ≡ mine client (inside A w)
greatest_inside A w client = greatest_mine client firsts_there ∙ omega (arith, mine_grows client dots (inside A w) within_it, mine_grows client (inside A w) dots from_it)
  where
    firsts_there : List Tx
    firsts_there = filter (is_inside A w) (first_txs A)

    dots : List Dot
    dots = map (λ (tx : Tx). tx.dot) firsts_there

    within_it : (d : Dot) → In d dots → In d (inside A w)
    within_it d i =
        let m = In_from_map (λ (tx : Tx). tx.dot) firsts_there d i in
        subst (λ d. In d (inside A w)) (sym m.2) (has_In m.0.dot (inside A w) (In_from_filter (is_inside A w) (first_txs A) m.0 m.1).1)

    from_it : (d : Dot) → In d (inside A w) → In d dots
    from_it d i =
        let m = In_from_map (λ (r : Record). r.tx.dot) (filter (λ r. within r.stamp w) A) d i in
        let f = In_from_filter (λ (r : Record). within r.stamp w) A m.0 m.1 in
        let q = firsts_has [] A m.0 f.0 refl in
        let same : q.0.tx.dot ≡ d = q.2 ∙ sym m.2 in
        let there = In_filter (is_inside A w) (first_txs A) q.0.tx (In_map (λ (r : Record). r.tx) (firsts A) q.0 q.1) (ap (λ d. has d (inside A w)) same ∙ In_has d (inside A w) i) in
        subst (λ d. In d dots) same (In_map (λ (tx : Tx). tx.dot) firsts_there q.0.tx there)
