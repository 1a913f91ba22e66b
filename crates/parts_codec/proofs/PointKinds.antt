-- A centre that stands for a trail has, at its point, states of the kinds of their objects.
use Rattle.std.proofs.Common.{◌≡◌, ℕ, Bool, List, [], ◌∷◌, get_or, Some, map, refl, sym, ap, ◌∙◌, subst}
use Rattle.std.specs.Prelude.{All, unwrap_or, flat_map}
use Rattle.std.specs.List.{slice_get, IsDistinct}
use Rattle.std.specs.List.Sorted.{IsStrictlySortedBy}
use Rattle.std.specs.Map.{lookup, keys_of}
use Rattle.std.specs.Option.{option_map}
use Rattle.std.proofs.lemmas.Map.Entries.{lookup_from_place}
use Rattle.std.proofs.lemmas.Map.Keys.{IsDistinct-from_sorted}
use Rattle.std.proofs.lemmas.Option.{slice_get-map, slice_get-get_or}
use Rattle.ids_core.specs.declared.object.ObjectId.{ObjectId}
use Rattle.ids_core.specs.declared.object.Sort.{Sort}
use Rattle.ids_core.specs.declared.object.Sort.TheVariants as sort
use Rattle.ids_core.specs.Ids.{same_object}
use Rattle.ids_core.specs.Orders.{object_cmp, same_object-by_cmp}
use Rattle.ids_core.specs.Same.{same_object_equivalence}
use Rattle.tx_core.specs.declared.tx.Tx.{Tx}
use Rattle.tx_core.specs.declared.part.StatePart.{StatePart}
use Rattle.tx_core.specs.States.{empty_of, sort_of}
use Rattle.tx_core.specs.Operations.{ops_of}
use Rattle.tx_core.proofs.Folds.{fold_of-sort}
use Rattle.check_point.specs.Points.{PointView, IsPointOf}
use Rattle.check_point.specs.PointParts.{state_entries, AscendByObject, HasStates}
use Rattle.centre_parts.specs.declared.condition.Condition.TheVariants.{PointObjects}
use Rattle.centre_parts.specs.declared.part.CentreParts.{CentreParts}
use Rattle.centre_parts.specs.Conditions.{MeetsAll}
use Rattle.dc_talk.specs.Entries.{Entry}
use Rattle.dc_centre.specs.Centre.{CentreView, StandsFor}
use Rattle.dc_centre.specs.Parts.{ArePartsOf}
use Rattle.parts_codec.specs.Plain.{IsOfKind, AreOfKind}

-- the first state of a kind is of that kind
sort_of_empty : (k : Sort) → sort_of (empty_of k) ≡ k
sort_of_empty sort.Counter = refl
sort_of_empty sort.Register = refl
sort_of_empty sort.Set = refl
sort_of_empty sort.Map = refl

-- the keys of the entries are the objects
keys_are : (parts : List StatePart) → map (λ (p : StatePart). p.object) parts ≡ keys_of (state_entries parts)
keys_are [] = refl
keys_are (p ∷ parts) = ap (λ l. p.object ∷ l) (keys_are parts)

-- where objects ascend they differ
apart : (parts : List StatePart) → AscendByObject parts → IsDistinct same_object (keys_of (state_entries parts))
apart parts up = subst (λ (e : ObjectId → ObjectId → Bool). IsDistinct e (keys_of (state_entries parts))) (λ i a b. sym (same_object-by_cmp a b) i) (IsDistinct-from_sorted object_cmp (keys_of (state_entries parts)) (subst (IsStrictlySortedBy object_cmp) (keys_are parts) up))

module _ (point : PointView) (txs : List Tx) (at_point : IsPointOf point txs) (parts : List StatePart) (up : AscendByObject parts) (told : HasStates point.states parts) where
  -- what stands at a place is the state after the transactions
  kind_at : (k : ℕ) (p : StatePart) → slice_get parts k ≡ Some p → IsOfKind p
  kind_at k p there =
      let o = p.object in
      let entry : slice_get (state_entries parts) k ≡ Some (o, p.state) = slice_get-map (λ (p : StatePart). (p.object, p.state)) parts k ∙ ap (option_map (λ (p : StatePart). (p.object, p.state))) there in
      let found : lookup (same_object o) point.states ≡ Some p.state = sym (told o) ∙ lookup_from_place same_object_equivalence (state_entries parts) k o p.state (apart parts up) entry in
      let state = sym (ap (λ found. unwrap_or found (empty_of o.sort)) found) ∙ at_point.states o in
      sym (ap sort_of state ∙ fold_of-sort (empty_of o.sort) (flat_map (ops_of o) txs) ∙ sort_of_empty o.sort)

  of_kind : All IsOfKind parts
  of_kind k d within = kind_at k (get_or parts k d) (slice_get-get_or parts k d within)

pub are_of_kind : (c : CentreView) (trail : List Entry) (parts : CentreParts) → StandsFor c trail → MeetsAll parts → ArePartsOf c parts → AreOfKind parts
are_of_kind c trail parts stands all are =
    let stored = stands.holds.applied.stored in
    of_kind c.applied.point stored.folded stored.at_point parts.applied.point.states (all.meets PointObjects) are.applied.point.states
