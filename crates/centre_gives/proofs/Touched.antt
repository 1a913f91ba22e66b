-- The point has a state of just the objects with an operation within its vector.
use Rattle.std.proofs.Common.{◌≡◌, ℕ, ◌+◌, Bool, true, false, cond, ◌||◌, inl, inr, ⊎_elim, List, [], ◌∷◌, ◌++◌, map, refl, sym, ap, ◌∙◌, subst}
use Rattle.std.specs.Prelude.{◌↔◌, IsSome, filter, flat_map}
use Rattle.std.specs.List.{list_any}
use Rattle.std.specs.Map.{lookup}
use Rattle.std.proofs.lemmas.Bool.{cases_Bool, false≢true, or_parts}
use Rattle.list_core.specs.Members.{In}
use Rattle.list_core.specs.Permutations.{Perm}
use Rattle.list_core.proofs.Members.{In_left, In_either, In_map, In_from_map, In_filter, In_from_filter, In_flat_map}
use Rattle.list_core.proofs.Permutations.{perm_in}
use Rattle.ids_core.specs.declared.ids.Dot.{Dot}
use Rattle.ids_core.specs.declared.ids.Mark.{Mark}
use Rattle.ids_core.specs.declared.object.ObjectId.{ObjectId}
use Rattle.ids_core.specs.Ids.{same_object}
use Rattle.tx_core.specs.declared.op.Op.{Op}
use Rattle.tx_core.specs.declared.tx.Update.{Update}
use Rattle.tx_core.specs.declared.tx.Tx.{Tx}
use Rattle.tx_core.specs.declared.tx.Record.{Record}
use Rattle.tx_core.specs.Operations.{mark, ops_from, ops_of}
use Rattle.dc_talk.specs.Records.{has, inside, firsts}
use Rattle.op_log.specs.Logs.{LogView}
use Rattle.check_point.specs.Operations.{touches, is_touched}
use Rattle.check_point.specs.Points.{PointView, has_state}
use Rattle.point_log.specs.Splits.{first_txs, is_inside}
use Rattle.point_log.specs.LogSplits.{txs_of}
use Rattle.point_log.specs.StandFor.{StandFor}
use Rattle.cut_law.specs.Cuts.{ops_inside}

-- ---- operations

-- an update of an object gives an operation
op_there : (o : ObjectId) (rank : ℕ) (dot : Dot) (place : ℕ) (us : List Update) → list_any (λ u. same_object u.object o) us ≡ true → (op : Mark × Op) × In op (ops_from o rank dot place us)
op_there o rank dot place [] some = absurd (false≢true some)
op_there o rank dot place (u ∷ us) some = go (same_object u.object o) some (op_there o rank dot (place + 1) us)
  where
    go : (b : Bool) → (b || list_any (λ u. same_object u.object o) us) ≡ true → (list_any (λ u. same_object u.object o) us ≡ true → (op : Mark × Op) × In op (ops_from o rank dot (place + 1) us)) → (op : Mark × Op) × In op (cond b ((mark rank dot place, u.op) ∷ ops_from o rank dot (place + 1) us) (ops_from o rank dot (place + 1) us))
    go true is rest = ((mark rank dot place, u.op), inl refl)
    go false is rest = rest is

-- without one there is none
no_ops : (o : ObjectId) (rank : ℕ) (dot : Dot) (place : ℕ) (us : List Update) → list_any (λ u. same_object u.object o) us ≡ false → ops_from o rank dot place us ≡ []
no_ops o rank dot place [] none = refl
no_ops o rank dot place (u ∷ us) none =
    let both = or_parts (same_object u.object o) (list_any (λ u. same_object u.object o) us) none in
    ap (λ b. cond b ((mark rank dot place, u.op) ∷ ops_from o rank dot (place + 1) us) (ops_from o rank dot (place + 1) us)) both.0 ∙ no_ops o rank dot (place + 1) us both.1

-- transactions of which one is on the object
touched_there : (o : ObjectId) (txs : List Tx) → is_touched o txs ≡ true → (tx : Tx) × In tx txs × (touches o tx ≡ true)
touched_there o [] some = absurd (false≢true some)
touched_there o (tx ∷ txs) some = go (touches o tx) refl some (touched_there o txs)
  where
    go : (b : Bool) → touches o tx ≡ b → (b || is_touched o txs) ≡ true → (is_touched o txs ≡ true → (t : Tx) × In t txs × (touches o t ≡ true)) → (t : Tx) × In t (tx ∷ txs) × (touches o t ≡ true)
    go true here is rest = (tx, inl refl, here)
    go false other is rest = let t = rest is in (t.0, inr t.1, t.2)

-- and of which none is
untouched : (o : ObjectId) (txs : List Tx) (tx : Tx) → is_touched o txs ≡ false → In tx txs → touches o tx ≡ false
untouched o [] tx none i = absurd i
untouched o (t ∷ txs) tx none (inl same) = ap (touches o) same ∙ (or_parts (touches o t) (is_touched o txs) none).0
untouched o (t ∷ txs) tx none (inr i) = untouched o txs tx (or_parts (touches o t) (is_touched o txs) none).1 i

-- nothing of each is nothing of all
flat_none : {X Y : Type 0} (f : X → List Y) (xs : List X) → ((x : X) → In x xs → f x ≡ []) → flat_map f xs ≡ []
flat_none f [] none = refl
flat_none f (x ∷ xs) none = ap (λ l. l ++ flat_map f xs) (none x (inl refl)) ∙ flat_none f xs (λ y i. none y (inr i))

-- ---- the point

module _ (A : List Record) (point : PointView) (kept : LogView) (s : StandFor A point kept) (o : ObjectId) where
  -- the first records within the base
  abbrev within : List Record
  within = filter (λ (r : Record). has r.tx.dot (inside A point.vector)) (firsts A)

  -- where one that was folded is on the object, it has an operation
  some_inside : is_touched o s.folded ≡ true → ops_inside o A point.vector ≡ [] → ⊥
  some_inside some none =
      let t = touched_there o s.folded some in
      let first = (perm_in (s.folded ++ txs_of kept.items) (first_txs A) t.0 s.in_log.split.whole).0 (In_left s.folded (txs_of kept.items) t.0 t.1) in
      let m = In_from_map (λ (r : Record). r.tx) (firsts A) t.0 first in
      let there = In_filter (λ (r : Record). has r.tx.dot (inside A point.vector)) (firsts A) m.0 m.1 (ap (is_inside A point.vector) (sym m.2) ∙ s.in_log.split.within t.0 t.1) in
      let op = op_there o m.0.tx.rank m.0.tx.dot 0 m.0.tx.updates (ap (touches o) (sym m.2) ∙ t.2) in
      subst (λ (l : List (Mark × Op)). In op.0 l) none (In_flat_map (λ (r : Record). ops_of o r.tx) within m.0 op.0 there op.1)

  -- where none is, it has none
  none_inside : is_touched o s.folded ≡ false → ops_inside o A point.vector ≡ []
  none_inside none = flat_none (λ (r : Record). ops_of o r.tx) within each
    where
      each : (r : Record) → In r within → ops_of o r.tx ≡ []
      each r i =
          let f = In_from_filter (λ (r : Record). has r.tx.dot (inside A point.vector)) (firsts A) r i in
          let first = In_map (λ (r : Record). r.tx) (firsts A) r f.0 in
          let split = In_either s.folded (txs_of kept.items) r.tx ((perm_in (s.folded ++ txs_of kept.items) (first_txs A) r.tx s.in_log.split.whole).1 first) in
          ⊎_elim
          (λ j. no_ops o r.tx.rank r.tx.dot 0 r.tx.updates (untouched o s.folded r.tx none j))
          (λ j. absurd (false≢true (sym (s.in_log.split.rest r.tx j) ∙ f.1)))
          split

  pub object_known : IsSome (lookup (same_object o) point.states) ↔ (ops_inside o A point.vector ≡ [] → ⊥)
  object_known = (
    λ some. some_inside (sym (s.at_point.known o) ∙ some),
    λ some. ⊎_elim (λ t. s.at_point.known o ∙ t) (λ f. absurd (some (none_inside f))) (cases_Bool (is_touched o s.folded)),
  )
