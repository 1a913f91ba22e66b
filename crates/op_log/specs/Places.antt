-- The places of stamps: each stamp of each transaction in the log, in their order.
use Rattle.std.specs.Prelude.{◌≡◌, ◌≤◌, ℕ, Bool, true, length, List}
use Rattle.std.specs.List.{list_any}
use Rattle.std.specs.Ordering.{nat_cmp}
use Rattle.std.specs.BTreeMap.{is_at}
use Rattle.list_core.specs.Members.{In}
use Rattle.vv_core.specs.declared.stamp.Stamp.{Stamp}
use Rattle.stamp_index.specs.declared.places.Place.{Place}
use Rattle.stamp_index.specs.Places.{place_of, has_place, reached_of}
use Rattle.op_log.specs.declared.logged.Logged.{Logged}

-- whether the number is there
abbrev pub is_among : List ℕ → ℕ → Bool
is_among numbers number = list_any (is_at (nat_cmp number)) numbers

-- the place is that of a stamp of a transaction
pub record IsOfStamp (items : List Logged) (p : Place) : Type 0 where
  pub item : Logged
  pub there : In item items
  pub stamp : Stamp
  pub has : In stamp item.stamps
  pub is : p ≡ place_of item.number stamp

-- the places are those of all stamps of the transactions
pub record IsPlaced (places : List Place) (items : List Logged) : Type 0 where
  pub there : (x : Logged) → In x items → (s : Stamp) → In s x.stamps → has_place places (place_of x.number s) ≡ true
  pub from : (p : Place) → has_place places p ≡ true → IsOfStamp items p

-- a place within the vector is of the transaction of the number
pub record HasReached (w : List ℕ) (places : List Place) (number : ℕ) : Type 0 where
  pub centre : ℕ
  pub small : centre ≤ length w
  pub place : Place
  pub there : In place (reached_of w centre places)
  pub is : place.number ≡ number
