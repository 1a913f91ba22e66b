-- What a client has of an object at a vector, by its entry, and what it asks for the object.
use Rattle.std.proofs.Common.{◌≡◌, ◌&&◌, ℕ, Bool, true, false, cond, not, length, List, Option, Some, None, IsSome, refl, sym, ap, ◌∙◌, subst}
use Rattle.std.specs.Prelude.{is_some}
use Rattle.std.specs.Option.{unwrap_or}
use Rattle.std.proofs.lemmas.Bool.{false≢true}
use Rattle.list_core.proofs.Firsts.{first_that_some}
use Rattle.ids_core.specs.declared.object.ObjectId.{ObjectId}
use Rattle.vv_core.specs.Vectors.{covers}
use Rattle.tx_core.specs.declared.state.State.{State}
use Rattle.tx_core.specs.States.{empty_of}
use Rattle.dc_talk.specs.declared.ask.Ask.TheVariants.{Fetch, Delta}
use Rattle.dc_talk.specs.declared.calls.Cached.{Cached}
use Rattle.dc_talk.specs.Clients.{Client, is_of, same_vector, cached, entry_of}
use Rattle.dc_talk.specs.Rule.{ask_over, fetch_of, Gives, IsLinked}
use Rattle.client_cache.specs.Peeks.{HasOnly, HasNone}
use Rattle.client_session.specs.Sessions.{IsClient}

module _ (o : ObjectId) (cache : List Cached) where
  -- with an entry the client has the object at the vector of that
  pub has_at : (v from : List ℕ) → HasOnly o v cache → is_some (cached o from cache) ≡ same_vector v from
  has_at v from has = ap is_some (has.only from) ∙ by (same_vector v from)
    where
      by : (b : Bool) → is_some (cond b (Some has.state) None) ≡ b
      by true = refl
      by false = refl

  -- without one it has it at none
  pub has_none : (from : List ℕ) → HasNone o cache → is_some (cached o from cache) ≡ false
  has_none from has = ap is_some (has.none from)

  -- with an entry at a vector there is one
  pub has_entry : (v : List ℕ) → HasOnly o v cache → IsSome (entry_of o cache)
  has_entry v has = subst IsSome (sym has.entry) refl

  -- what it has at a vector where it has something
  pub has_state : (from : List ℕ) → is_some (cached o from cache) ≡ true → cached o from cache ≡ Some (unwrap_or (cached o from cache) (empty_of o.sort))
  has_state from there = by (cached o from cache) there
    where
      by : (f : Option State) → is_some f ≡ true → f ≡ Some (unwrap_or f (empty_of o.sort))
      by None is = absurd (false≢true is)
      by (Some x) is = refl

  -- the ask for an object that has an entry
  pub asks_only : (w v : List ℕ) → HasOnly o v cache → ask_over o w (entry_of o cache) ≡ cond (covers w v && not (same_vector v w)) (Delta o v w) (Fetch o w)
  asks_only w v has = ap (ask_over o w) has.entry

  -- the ask for one that has none
  pub asks_none : (w : List ℕ) → HasNone o cache → ask_over o w (entry_of o cache) ≡ Fetch o w
  asks_none w has = ap (ask_over o w) has.entry

-- the entry of an object is at a vector as wide as the snapshot
pub wide_only : (s : Client) (o : ObjectId) (v : List ℕ) → IsClient s → HasOnly o v s.cache → length s.vector ≡ length v
wide_only s o v is has = sym (is.wide (record { object = o; vector = v; state = has.state }) (first_that_some (is_of o) s.cache (record { object = o; vector = v; state = has.state }) has.entry).0)

-- the ask for an object is one that the client makes of the centre that it is connected to
pub gives_fetch : (s : Client) (o : ObjectId) (i : ℕ) → IsLinked s i → Gives s i (fetch_of s o)
gives_fetch s o i linked = by (entry_of o s.cache) refl
  where
    by_test : (entry : Cached) → entry_of o s.cache ≡ Some entry → (b : Bool) → covers s.vector entry.vector && not (same_vector entry.vector s.vector) ≡ b → Gives s i (cond b (Delta o entry.vector s.vector) (Fetch o s.vector))
    by_test entry is true test = (sym (ap (ask_over o s.vector) is ∙ ap (λ b. cond b (Delta o entry.vector s.vector) (Fetch o s.vector)) test), linked)
    by_test entry is false test = (sym (ap (ask_over o s.vector) is ∙ ap (λ b. cond b (Delta o entry.vector s.vector) (Fetch o s.vector)) test), linked)

    by : (found : Option Cached) → entry_of o s.cache ≡ found → Gives s i (ask_over o s.vector found)
    by None is = (sym (ap (ask_over o s.vector) is), linked)
    by (Some entry) is = by_test entry is (covers s.vector entry.vector && not (same_vector entry.vector s.vector)) refl
