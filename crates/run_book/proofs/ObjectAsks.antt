-- Which ask a session makes for an object, and what it holds of the object then.
use Rattle.std.proofs.Common.{◌≡◌, ℕ, Bool, true, false, cond, not, ◌&&◌, inl, inr, List, [], ◌∷◌, Option, Some, None, refl, sym, ap, ◌∙◌, subst}
use Rattle.std.specs.Prelude.{is_some}
use Rattle.std.specs.Cmp.Lexicographic.{pointwise_decides}
use Rattle.std.specs.Option.{option_map}
use Rattle.std.proofs.lemmas.Bool.{and_parts, and_from, false≢true}
use Rattle.std.proofs.lemmas.Bool.Decides.{Decides-eqb}
use Rattle.list_core.specs.Members.{In}
use Rattle.list_core.specs.Firsts.{first_that}
use Rattle.list_core.proofs.Firsts.{first_that_some}
use Rattle.ids_core.specs.declared.object.ObjectId.{ObjectId}
use Rattle.ids_core.specs.Ids.{same_object}
use Rattle.ids_core.specs.Same.{same_object-true, same_object-same}
use Rattle.vv_core.specs.Vectors.{covers, Covers}
use Rattle.vv_core.proofs.Covering.{covers-true}
use Rattle.dc_talk.specs.declared.ask.Ask.{Ask}
use Rattle.dc_talk.specs.declared.ask.Ask.TheVariants.{Fetch, Delta}
use Rattle.dc_talk.specs.declared.calls.Cached.{Cached}
use Rattle.dc_talk.specs.Clients.{Client, same_vector, is_entry, is_of, entry_of}
use Rattle.dc_talk.specs.Rule.{holds, ask_over, fetch_of}

-- ---- equal asks

-- equal fetches are at one vector
same_fetch : (o p : ObjectId) (v w : List ℕ) → Fetch o v ≡ Fetch p w → v ≡ w
same_fetch o p v w is = cc

-- equal deltas go between the same vectors
same_delta : (o p : ObjectId) (from here v w : List ℕ) → Delta o from here ≡ Delta p v w → (from ≡ v) × (here ≡ w)
same_delta o p from here v w is = (cc, cc)

-- no fetch is a delta
apart_asks : (o p : ObjectId) (here v w : List ℕ) → Fetch o here ≡ Delta p v w → ⊥
apart_asks o p here v w is = cc

-- equal vectors test equal
pub same_vector-itself : (v w : List ℕ) → v ≡ w → same_vector v w ≡ true
same_vector-itself v w is = (pointwise_decides Decides-eqb v w).1 is

-- ---- the ask for an object

-- what holds of each fetch of an object and of each delta of it, holds of the ask that a session makes for it
pub object_ask : (P : Ask → Type 0) (s : Client) (o : ObjectId) → ((here : List ℕ) → P (Fetch o here)) → ((from here : List ℕ) → P (Delta o from here)) → P (fetch_of s o)
object_ask P s o fetches deltas = go (entry_of o s.cache)
  where
    over : (entry : Cached) (b : Bool) → P (cond b (Delta o entry.vector s.vector) (Fetch o s.vector))
    over entry true = deltas entry.vector s.vector
    over entry false = fetches s.vector

    go : (found : Option Cached) → P (ask_over o s.vector found)
    go None = fetches s.vector
    go (Some entry) = over entry (covers s.vector entry.vector && not (same_vector entry.vector s.vector))

-- a fetch that a session makes is at its vector
pub fetch_asked : (s : Client) (o : ObjectId) (here : List ℕ) → Fetch o here ≡ fetch_of s o → here ≡ s.vector
fetch_asked s o here is = go (entry_of o s.cache) is
  where
    over : (entry : Cached) (b : Bool) → Fetch o here ≡ cond b (Delta o entry.vector s.vector) (Fetch o s.vector) → here ≡ s.vector
    over entry true asked = absurd (apart_asks o o here entry.vector s.vector asked)
    over entry false asked = same_fetch o o here s.vector asked

    go : (found : Option Cached) → Fetch o here ≡ ask_over o s.vector found → here ≡ s.vector
    go None asked = same_fetch o o here s.vector asked
    go (Some entry) asked = over entry (covers s.vector entry.vector && not (same_vector entry.vector s.vector)) asked

-- a delta that a session makes goes from the vector of an entry of the object, which the session's covers, to the session's
pub record IsDeltaAsked (s : Client) (o : ObjectId) (from here : List ℕ) : Type 0 where
  pub entry : Cached
  pub there : In entry s.cache
  pub object : entry.object ≡ o
  pub vector : entry.vector ≡ from
  pub here_is : here ≡ s.vector
  pub later : Covers here from

pub delta_asked : (s : Client) (o : ObjectId) (from here : List ℕ) → Delta o from here ≡ fetch_of s o → IsDeltaAsked s o from here
delta_asked s o from here is = go (entry_of o s.cache) refl is
  where
    over : (entry : Cached) → entry_of o s.cache ≡ Some entry → (b : Bool) → (covers s.vector entry.vector && not (same_vector entry.vector s.vector)) ≡ b → Delta o from here ≡ cond b (Delta o entry.vector s.vector) (Fetch o s.vector) → IsDeltaAsked s o from here
    over entry found true passes asked =
        let same = same_delta o o from here entry.vector s.vector asked in
        let first = first_that_some (is_of o) s.cache entry found in
        let covered = covers-true s.vector entry.vector (and_parts (covers s.vector entry.vector) (not (same_vector entry.vector s.vector)) passes).0 in
        record {
          entry = entry;
          there = first.0;
          object = same_object-true entry.object o first.1;
          vector = sym same.0;
          here_is = same.1;
          later = subst (λ v. Covers v from) (sym same.1) (subst (λ v. Covers s.vector v) (sym same.0) covered);
        }
    over entry found false passes asked = absurd (apart_asks o o s.vector from here (sym asked))

    go : (found : Option Cached) → entry_of o s.cache ≡ found → Delta o from here ≡ ask_over o s.vector found → IsDeltaAsked s o from here
    go None found asked = absurd (apart_asks o o s.vector from here (sym asked))
    go (Some entry) found asked = over entry found (covers s.vector entry.vector && not (same_vector entry.vector s.vector)) refl asked

-- ---- what the session holds

-- where a member passes, there is a first that does
first_there : {X : Type 0} (p : X → Bool) (xs : List X) (x : X) → In x xs → p x ≡ true → is_some (first_that p xs) ≡ true
first_there p [] x i is = absurd i
first_there {X} p (y ∷ xs) x i is = go (p y) refl i (λ j. first_there p xs x j is)
  where
    go : (b : Bool) → p y ≡ b → In x (y ∷ xs) → (In x xs → is_some (first_that p xs) ≡ true) → is_some (cond b (Some y) (first_that p xs)) ≡ true
    go true passes j rest = refl
    go false fails (inl same) rest = absurd (false≢true (sym fails ∙ ap p (sym same) ∙ is))
    go false fails (inr j) rest = rest j

-- the image of what is there is there
mapped_there : {X Y : Type 0} (f : X → Y) (found : Option X) → is_some found ≡ true → is_some (option_map f found) ≡ true
mapped_there f None some = some
mapped_there f (Some x) some = refl

-- the session holds the object at the vector from which its delta goes
pub delta_held : (s : Client) (o : ObjectId) (from here : List ℕ) → IsDeltaAsked s o from here → holds s o from ≡ true
delta_held s o from here asked = mapped_there (λ (c : Cached). c.state) (first_that (is_entry o from) s.cache)
    (first_there (is_entry o from) s.cache asked.entry asked.there
    (and_from (same_object asked.entry.object o) (same_vector asked.entry.vector from) (same_object-same asked.entry.object o asked.object) (same_vector-itself asked.entry.vector from asked.vector)))
