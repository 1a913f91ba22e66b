-- What a centre serves lies within what it has applied, and what a cache has was kept.
use Rattle.std.proofs.Common.{◌≡◌, ℕ, Bool, true, false, cond, ◌⊎◌, inl, inr, List, ◌∷◌, Option, Some, None, refl, ap, arith}
use Rattle.std.specs.Prelude.{is_some}
use Rattle.std.specs.Option.{option_map}
use Rattle.std.proofs.lemmas.Bool.{and_parts}
use Rattle.std.proofs.lemmas.Option.{none-some, same_Some}
use Rattle.list_core.specs.Members.{In}
use Rattle.list_core.specs.Firsts.{first_that, without_first}
use Rattle.list_core.proofs.Members.{In_take}
use Rattle.list_core.proofs.Firsts.{first_that_some, In_without_first, In_brought_forward}
use Rattle.ids_core.specs.declared.object.ObjectId.{ObjectId}
use Rattle.ids_core.specs.Ids.{same_object}
use Rattle.ids_core.specs.Same.{same_object-true}
use Rattle.vv_core.specs.Vectors.{at, Covers, kth_largest}
use Rattle.vv_core.proofs.Covering.{Covers_join, Covers-meet_right}
use Rattle.tx_core.specs.declared.state.State.{State}
use Rattle.tx_core.specs.declared.state.Value.{Value}
use Rattle.tx_core.specs.States.{value_of}
use Rattle.dc_talk.specs.declared.calls.Outcome.TheVariants.{Got}
use Rattle.dc_talk.specs.Calls.{read_outcome}
use Rattle.dc_talk.specs.declared.calls.Cached.{Cached}
use Rattle.dc_talk.specs.declared.calls.Change.{Change}
use Rattle.dc_talk.specs.Entries.{Entry}
use Rattle.dc_talk.specs.Records.{vector}
use Rattle.dc_talk.specs.Trails.{applied, rows, stable}
use Rattle.dc_talk.specs.Clients.{Client, same_vector, is_entry, cached, kept, promoted, view}
use Rattle.dc_talk.specs.Calls.{named, looked_up}
use Rattle.dc_talk.proofs.ClientAnswers.{SnapBy}
use Rattle.dc_talk.proofs.Vectors.{same_vector-true}
use Rattle.dc_talk.specs.declared.settings.Settings.{Settings}

-- ---- a snapshot

-- a centre's stable vector lies within its own
pub stable_within : (settings : Settings) (trail : List Entry) → Covers (vector settings.n (applied settings.n trail)) (stable settings trail)
stable_within settings trail = Covers-meet_right (kth_largest settings.k (rows settings trail)) (vector settings.n (applied settings.n trail))

-- and so does the vector of a snapshot
pub snap_within : (settings : Settings) (trail : List Entry) (client : ℕ) (here w : List ℕ) (own_number top_rank : ℕ) → SnapBy settings trail client here w own_number top_rank → Covers (vector settings.n (applied settings.n trail)) w
snap_within settings trail client here w own_number top_rank snap =
    let joined = Covers_join (vector settings.n (applied settings.n trail)) here (stable settings trail) snap.covered (stable_within settings trail) in
    record { holds = λ e. omega (arith, joined.holds e, ap (λ v. at v e) snap.vector_is) }

-- ---- the cache

-- what a look-up leaves was there
pub In_promoted : (o : ObjectId) (w : List ℕ) (cache : List Cached) (c : Cached) → In c (promoted o w cache) → In c cache
In_promoted o w cache c i = In_brought_forward (is_entry o w) cache c i

-- so was what a change leaves, whether it looked its object up or not
pub In_looked_up : (s : Client) (o : ObjectId) (change : Change) (c : Cached) → In c (looked_up s o change) → In c s.cache
In_looked_up s o change c i = go (is_some (named change)) i
  where
    go : (b : Bool) → In c (cond b (promoted o s.vector s.cache) s.cache) → In c s.cache
    go true i = In_promoted o s.vector s.cache c i
    go false i = i

-- what a new entry leaves is that entry, or was there
pub In_kept : (capacity : ℕ) (new : Cached) (cache : List Cached) (c : Cached) → In c (kept capacity new cache) → (c ≡ new) ⊎ In c cache
In_kept capacity new cache c i = go (In_take capacity (new ∷ without_first (λ c. same_object c.object new.object) cache) c i)
  where
    go : In c (new ∷ without_first (λ c. same_object c.object new.object) cache) → (c ≡ new) ⊎ In c cache
    go (inl same) = inl same
    go (inr j) = inr (In_without_first (λ c. same_object c.object new.object) cache c j)

-- what a look-up finds is of the object, at the vector
pub record IsCached (o : ObjectId) (w : List ℕ) (cache : List Cached) (state : State) : Type 0 where
  pub item : Cached
  pub there : In item cache
  pub object : item.object ≡ o
  pub vector : item.vector ≡ w
  pub gives : item.state ≡ state

-- what a look-up finds was there
pub cached_some : (o : ObjectId) (w : List ℕ) (cache : List Cached) (state : State) → cached o w cache ≡ Some state → IsCached o w cache state
cached_some o w cache state is = go (first_that (is_entry o w) cache) refl is
  where
    go : (found : Option Cached) → first_that (is_entry o w) cache ≡ found → option_map (λ (c : Cached). c.state) found ≡ Some state → IsCached o w cache state
    go None first is = absurd (none-some state is)
    go (Some c) first is =
        let f = first_that_some (is_entry o w) cache c first in
        let parts = and_parts (same_object c.object o) (same_vector c.vector w) f.1 in
        record { item = c; there = f.0; object = same_object-true c.object o parts.0; vector = same_vector-true c.vector w parts.1; gives = same_Some c.state state is }

-- a read that gives a value found a state in the cache
pub record IsRead (s : Client) (o : ObjectId) (value : Value) : Type 0 where
  pub state : State
  pub found : cached o s.vector s.cache ≡ Some state
  pub is : value ≡ value_of (view s o state)

-- equal outcomes have equal values
same_value : (v w : Value) → Got v ≡ Got w → v ≡ w
same_value v w same = cc

-- a value that is read comes from the cache
pub read_got : (s : Client) (o : ObjectId) (value : Value) → Got value ≡ read_outcome s o (cached o s.vector s.cache) → IsRead s o value
read_got s o value is = go (cached o s.vector s.cache) refl is
  where
    go : (c : Option State) → cached o s.vector s.cache ≡ c → Got value ≡ read_outcome s o c → IsRead s o value
    go None found is = absurd (cc)
    go (Some state) found is = record { state = state; found = found; is = same_value value (value_of (view s o state)) is }
