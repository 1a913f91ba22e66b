-- Transactions with a stamp within a vector, and the places that are reached there.
use Rattle.std.proofs.Common.{◌≡◌, ℕ, true, inl, inr, ⊎_elim, List, [], ◌∷◌, refl, sym, ap, ◌∙◌, subst}
use Rattle.std.specs.Prelude.{◌==◌, nat_le}
use Rattle.std.proofs.lemmas.Bool.{false≢true, and_parts, and_from, or_cases, or_left, or_right, eqb-true, eq-eqb}
use Rattle.list_core.specs.Members.{In}
use Rattle.list_core.proofs.Members.{In_filter, In_from_filter}
use Rattle.vv_core.specs.declared.stamp.Stamp.{Stamp}
use Rattle.vv_core.specs.Vectors.{at, within}
use Rattle.vv_core.specs.Stamps.{is_any_within}
use Rattle.op_log.specs.declared.logged.Logged.{Logged}
use Rattle.stamp_index.specs.declared.places.Place.{Place}
use Rattle.op_log.specs.Logs.{is_inside}
use Rattle.stamp_index.specs.Places.{place_of, is_reached, reached_of}
use Rattle.op_log.specs.Places.{HasReached, IsPlaced}
use Rattle.stamp_index.proofs.PlaceOrders.{place_In, In_place, place_reached, reached_within}

-- a stamp within the vector, where one is
stamp_within : (w : List ℕ) (stamps : List Stamp) → is_any_within w stamps ≡ true → (s : Stamp) × In s stamps × (within s w ≡ true)
stamp_within w [] some = absurd (false≢true some)
stamp_within w (s ∷ stamps) some = ⊎_elim (λ here. (s, inl refl, here)) (λ later. let r = stamp_within w stamps later in (r.0, inr r.1, r.2)) (or_cases (within s w) (is_any_within w stamps) some)

-- its place is reached
pub reached_inside : (w : List ℕ) (items : List Logged) (places : List Place) (x : Logged) → IsPlaced places items → In x items → is_inside w x ≡ true → HasReached w places x.number
reached_inside w items places x placed i pass =
    let s = stamp_within w x.stamps pass in
    let r = place_reached w x.number s.0 s.2 in
    let p = place_of x.number s.0 in
    record {
      centre = p.centre;
      small = r.0;
      place = p;
      there = In_filter (is_reached p.centre (at w p.centre)) places p (place_In places p (placed.there x i s.0 s.1)) (and_from (p.centre == p.centre) (nat_le p.seq (at w p.centre)) (eq-eqb p.centre p.centre refl) r.1);
      is = refl;
    }

-- and what is reached is of a transaction with a stamp within the vector
pub inside_reached : (w : List ℕ) (items : List Logged) (places : List Place) (centre : ℕ) (p : Place) → IsPlaced places items → In p (reached_of w centre places) → (x : Logged) × In x items × (x.number ≡ p.number) × (is_inside w x ≡ true)
inside_reached w items places centre p placed i =
    let f = In_from_filter (is_reached centre (at w centre)) places p i in
    let o = placed.from p (In_place places p f.0) in
    let parts = and_parts (p.centre == centre) (nat_le p.seq (at w centre)) f.1 in
    let up : nat_le p.seq (at w p.centre) ≡ true = ap (λ e. nat_le p.seq (at w e)) (eqb-true p.centre centre parts.0) ∙ parts.1 in
    (o.item, o.there, sym (ap (λ (p : Place). p.number) o.is), within_any w o.item.stamps o.stamp o.has (reached_within w o.item.number o.stamp (subst (λ (p : Place). nat_le p.seq (at w p.centre) ≡ true) o.is up)))
  where
    within_any : (w : List ℕ) (stamps : List Stamp) (s : Stamp) → In s stamps → within s w ≡ true → is_any_within w stamps ≡ true
    within_any w [] s i is = absurd i
    within_any w (t ∷ stamps) s (inl same) is = or_left (within t w) (is_any_within w stamps) (ap (λ t. within t w) (sym same) ∙ is)
    within_any w (t ∷ stamps) s (inr i) is = or_right (within t w) (is_any_within w stamps) (within_any w stamps s i is)
