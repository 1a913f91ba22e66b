-- The states that are kept folded are still what the client has of objects, after each step of a session.
use Rattle.std.proofs.Common.{◌≡◌, ◌≤◌, ◌<◌, ◌⊎◌, inl, inr, ℕ, zero, suc, ◌+◌, ◌-◌, max, drop, Bool, true, false, cond, List, [], ◌∷◌, ◌++◌, take, length, All, Option, Some, None, IsSome, refl, sym, ap, ◌∙◌, subst, arith, append-nil, append_assoc, length-append}
use Rattle.std.specs.Prelude.{flat_map, ◌&&◌, IfSome, IfErr, Result, Ok, Err, is_err, IsTrue, ◌≢◌}
use Rattle.std.proofs.lemmas.List.Elements.{All-push}
use Rattle.std.specs.Option.{unwrap_or, option_map}
use Rattle.std.specs.Cmp.Lexicographic.{pointwise_decides}
use Rattle.std.proofs.lemmas.Bool.Decides.{Decides-eqb}
use Rattle.std.specs.Map.{lookup}
use Rattle.std.proofs.lemmas.Bool.{cases_Bool, false≢true}
use Rattle.std.proofs.lemmas.Option.{none-some, same_Some}
use Rattle.std.proofs.lemmas.Grind.{flat_map-append}
use Rattle.std.proofs.lemmas.List.{take-append-drop}
use Rattle.std.proofs.lemmas.List.Sums.{fold-append}
use Rattle.list_core.proofs.Choices.{is_none_true}
use Rattle.list_core.proofs.Firsts.{first_that_some, In_without_first, In_brought_forward}
use Rattle.list_core.proofs.Members.{In_take}
use Rattle.list_core.specs.Firsts.{first_that, without_first, in_front, brought_forward}
use Rattle.list_core.specs.Members.{In}
use Rattle.ids_core.specs.declared.limits.TheConstants.{MOST_NUMBER, MOST_PENDING, MOST_UPDATES}
use Rattle.ids_core.specs.declared.ids.Dot.{Dot}
use Rattle.ids_core.specs.declared.ids.Mark.{Mark}
use Rattle.ids_core.specs.declared.object.ObjectId.{ObjectId}
use Rattle.ids_core.specs.Ids.{same_object}
use Rattle.ids_core.specs.Same.{same_object-true, same_object-itself}
use Rattle.tx_core.specs.declared.op.Op.{Op}
use Rattle.tx_core.specs.declared.tx.Update.{Update}
use Rattle.tx_core.specs.declared.tx.Tx.{Tx}
use Rattle.tx_core.specs.declared.state.State.{State}
use Rattle.tx_core.specs.States.{step, fold_of}
use Rattle.tx_core.specs.Checks.{IsModestUpdate}
use Rattle.dc_talk.specs.declared.calls.Cached.{Cached}
use Rattle.dc_talk.specs.declared.calls.Connection.{Connection}
use Rattle.dc_talk.specs.declared.calls.Refusal.{Refusal}
use Rattle.dc_talk.specs.declared.calls.Refusal.TheVariants.{NoMemory}
use Rattle.tx_core.specs.Operations.{mark, ops_from, ops_of}
use Rattle.dc_talk.specs.Clients.{Client, next_dot, next_tx, draft_updates, is_entry, is_of, same_vector, cached, promoted, kept, forgotten, view}
use Rattle.dc_talk.specs.Rule.{can_follow}
use Rattle.object_lists.proofs.Ops.{one_more, ops_from-last}
use Rattle.client_session.specs.Sessions.{IsClient, IsDraft}
use Rattle.dc_talk.proofs.Vectors.{same_vector-true}
use Rattle.client_session.specs.declared.past.Past.{Past}
use Rattle.client_session.specs.Folded.{StateEntries, HadApart, IsWithout, FollowsFrom, Follows, FollowsPast, with_commits, ops_behind}
use Rattle.client_session.proofs.Found.{no_ops_from}
use Rattle.client_session.proofs.Following.{followed, follows_closed}
use Rattle.client_session.proofs.Changing.{grown}

-- ---- what a cache has of an object, after a look-up and after a new entry

module _ {X : Type 0} (p q : X → Bool) where
  -- an element that does not pass is not missed
  without-other : ((x : X) → q x ≡ true → p x ≡ false) → (xs : List X) → first_that p (without_first q xs) ≡ first_that p xs
  without-other apart [] = refl
  without-other apart (x ∷ xs) = by (q x) refl (without-other apart xs)
    where
      by : (b : Bool) → q x ≡ b → first_that p (without_first q xs) ≡ first_that p xs → first_that p (cond b xs (x ∷ without_first q xs)) ≡ first_that p (x ∷ xs)
      by true is rest = ap (λ c. cond c (Some x) (first_that p xs)) (sym (apart x is))
      by false is rest = ap (λ o. cond (p x) (Some x) o) rest

  -- nor does it come before others
  forward-other : ((x : X) → q x ≡ true → p x ≡ false) → (xs : List X) → first_that p (brought_forward q xs) ≡ first_that p xs
  forward-other apart xs = by (first_that q xs) refl ∙ without-other apart xs
    where
      by : (f : Option X) → first_that q xs ≡ f → first_that p (in_front f (without_first q xs)) ≡ first_that p (without_first q xs)
      by None is = refl
      by (Some y) is = ap (λ c. cond c (Some y) (first_that p (without_first q xs))) (apart y (first_that_some q xs y is).1)

-- what passes first is still the first once it is in front
forward-same : {X : Type 0} (p : X → Bool) (xs : List X) → first_that p (brought_forward p xs) ≡ first_that p xs
forward-same {X} p xs = by (first_that p xs) refl
  where
    absent : (ys : List X) → first_that p ys ≡ None → first_that p (without_first p ys) ≡ None
    absent [] is = refl
    absent (z ∷ ys) is = at (p z) refl is (absent ys)
      where
        at : (b : Bool) → p z ≡ b → cond b (Some z) (first_that p ys) ≡ None → (first_that p ys ≡ None → first_that p (without_first p ys) ≡ None) → first_that p (cond b ys (z ∷ without_first p ys)) ≡ None
        at true test is rest = absurd (none-some z (sym is))
        at false test is rest = rw test (rest is)

    by : (f : Option X) → first_that p xs ≡ f → first_that p (in_front f (without_first p xs)) ≡ f
    by None is = absent xs is
    by (Some y) is = rw (first_that_some p xs y is).1 refl

-- what is first among the first few is so among all
among : {X : Type 0} (p : X → Bool) (n : ℕ) (xs : List X) (x : X) → first_that p (take n xs) ≡ Some x → first_that p xs ≡ Some x
among p zero xs x is = absurd (none-some x is)
among p (suc n) [] x is = is
among {X} p (suc n) (y ∷ xs) x is = by (p y) is (among p n xs x)
  where
    by : (b : Bool) → cond b (Some y) (first_that p (take n xs)) ≡ Some x → (first_that p (take n xs) ≡ Some x → first_that p xs ≡ Some x) → cond b (Some y) (first_that p xs) ≡ Some x
    by true is rest = is
    by false is rest = rest is

-- an entry of one object is none of another
entry_apart : (k o : ObjectId) (v w : List ℕ) → same_object k o ≡ false → (c : Cached) → is_entry k v c ≡ true → is_entry o w c ≡ false
entry_apart k o v w apart c is = by (same_object c.object k) refl is
  where
    by : (b : Bool) → same_object c.object k ≡ b → b && same_vector c.vector v ≡ true → is_entry o w c ≡ false
    by true same is = ap (λ b. b && same_vector c.vector w) (ap (λ q. same_object q o) (same_object-true c.object k same) ∙ apart)
    by false same is = absurd (false≢true is)

-- a vector is the same as itself
same_vector-itself : (v : List ℕ) → same_vector v v ≡ true
same_vector-itself v = (pointwise_decides Decides-eqb v v).1 refl

-- nor is one at a vector one at another
entry_elsewhere : (k : ObjectId) (v w : List ℕ) → same_vector v w ≡ false → (c : Cached) → is_entry k v c ≡ true → is_entry k w c ≡ false
entry_elsewhere k v w other c is = by (same_object c.object k) is
  where
    by : (b : Bool) → b && same_vector c.vector v ≡ true → b && same_vector c.vector w ≡ false
    by true at = ap (λ u. same_vector u w) (same_vector-true c.vector v at) ∙ other
    by false at = refl

-- a look-up leaves what the cache has at every vector
pub cached-promoted : (k o : ObjectId) (v w : List ℕ) (cache : List Cached) → cached o w (promoted k v cache) ≡ cached o w cache
cached-promoted k o v w cache = ap (option_map (λ c. c.state)) (at (cases_Bool (same_object k o)))
  where
    own : (same_vector v w ≡ true) ⊎ (same_vector v w ≡ false) → first_that (is_entry k w) (promoted k v cache) ≡ first_that (is_entry k w) cache
    own (inl e) = subst (λ u. first_that (is_entry k u) (promoted k v cache) ≡ first_that (is_entry k u) cache) (same_vector-true v w e) (forward-same (is_entry k v) cache)
    own (inr e) = forward-other (is_entry k w) (is_entry k v) (entry_elsewhere k v w e) cache

    at : (same_object k o ≡ true) ⊎ (same_object k o ≡ false) → first_that (is_entry o w) (promoted k v cache) ≡ first_that (is_entry o w) cache
    at (inl e) = subst (λ q. first_that (is_entry q w) (promoted k v cache) ≡ first_that (is_entry q w) cache) (same_object-true k o e) (own (cases_Bool (same_vector v w)))
    at (inr e) = forward-other (is_entry o w) (is_entry k v) (entry_apart k o v w e) cache

-- an image that is there is that of something
imaged : {X Y : Type 0} (f : X → Y) (o : Option X) (y : Y) → option_map f o ≡ Some y → (x : X) × (o ≡ Some x) × (f x ≡ y)
imaged f None y is = absurd (none-some y is)
imaged f (Some x) y is = (x, refl, same_Some (f x) y is)

-- what the cache has of another object once an entry was put in, it had before
pub cached-kept : (n : ℕ) (new : Cached) (o : ObjectId) (w : List ℕ) (cache : List Cached) (state : State) → same_object new.object o ≡ false → cached o w (kept n new cache) ≡ Some state → cached o w cache ≡ Some state
cached-kept n new o w cache state apart is =
    let found = imaged (λ (c : Cached). c.state) (first_that (is_entry o w) (kept n new cache)) state is in
    let rest = without_first (λ c. same_object c.object new.object) cache in
    let whole = among (is_entry o w) n (new ∷ rest) found.0 found.1 in
    let behind = sym (ap (λ b. cond (b && same_vector new.vector w) (Some new) (first_that (is_entry o w) rest)) apart) ∙ whole in
    ap (option_map (λ c. c.state)) (sym (without-other (is_entry o w) (λ c. same_object c.object new.object) (λ c same. ap (λ b. b && same_vector c.vector w) (ap (λ q. same_object q o) (same_object-true c.object new.object same) ∙ apart)) cache) ∙ behind) ∙ ap Some found.2

-- what the cache has of the object of the new entry at its vector is the state of that
pub cached-kept-own : (n : ℕ) (new : Cached) (cache : List Cached) (state : State) → cached new.object new.vector (kept n new cache) ≡ Some state → state ≡ new.state
cached-kept-own zero new cache state is = absurd (none-some state is)
cached-kept-own (suc n) new cache state is =
    let rest = first_that (is_entry new.object new.vector) (take n (without_first (λ c. same_object c.object new.object) cache)) in
    let own : is_entry new.object new.vector new ≡ true = ap (λ b. b && same_vector new.vector new.vector) (same_object-itself new.object) ∙ same_vector-itself new.vector in
    let found : Some new.state ≡ Some state = sym (ap (λ b. option_map (λ (c : Cached). c.state) (cond b (Some new) rest)) own) ∙ is in
    sym (same_Some new.state state found)

-- ---- what is behind the cache, for each object

-- the operations on an object that are pending or open
abbrev behind : Client → ObjectId → List (Mark × Op)
behind s o = ops_behind o s.pending (s.clock + 1) (next_dot s) (draft_updates s)

-- what holds of a session: of the client, of the states that are kept, and of those of the snapshot before
abbrev pub Stands : StateEntries → Past → Client → Type 0
Stands es past s = IsClient s × Follows es s × FollowsPast past s

-- what is done to states of objects
abbrev Done : Type 0
Done = ObjectId → State → State

module _ (v w : List ℕ) (done : Done) where
  -- states that follow a client follow each other one that has the same behind a cache that has no more
  kept_on : (s t : Client) (es : StateEntries) → FollowsFrom w done es s → ((o : ObjectId) → behind t o ≡ behind s o) → ((o : ObjectId) (state : State) → cached o v t.cache ≡ Some state → cached o w s.cache ≡ Some state) → FollowsFrom v done es t
  kept_on s t es follows same had o seen state there is = follows o seen state there (had o state is) ∙ ap (fold_of (done o state)) (sym (same o))

-- ---- the cache

-- the client with another cache, whose entries are as wide
cached_so : (s : Client) (cache : List Cached) → ((c : Cached) → In c cache → length c.vector ≡ length s.vector) → IsClient s → IsClient (record s { cache = cache })
cached_so s cache wide is = record { client = is.client; mine = is.mine; own = is.own; clock = is.clock; count = is.count; room = is.room; pending = is.pending; modest = is.modest; sent = is.sent; draft = is.draft; wide = wide }

-- the client once the cache has looked up an object
looked_up : (s : Client) (k : ObjectId) → IsClient s → IsClient (record s { cache = promoted k s.vector s.cache })
looked_up s k is = cached_so s (promoted k s.vector s.cache) (λ c i. is.wide c (In_brought_forward (is_entry k s.vector) s.cache c i)) is

-- states follow on past a look-up
on_promoted : (w : List ℕ) (done : Done) (s : Client) (k : ObjectId) (es : StateEntries) → FollowsFrom w done es s → FollowsFrom w done es (record s { cache = promoted k s.vector s.cache })
on_promoted w done s k es follows = kept_on w w done s (record s { cache = promoted k s.vector s.cache }) es follows (λ o. refl) (λ o state is. sym (cached-promoted k o s.vector w s.cache) ∙ is)

-- a look-up of an object of which nothing new is kept
pub missed : (s : Client) (k : ObjectId) (es : StateEntries) (past : Past) → Stands es past s → Stands es past (record s { cache = promoted k s.vector s.cache })
missed s k es past stands = (looked_up s k stands.0, on_promoted s.vector (λ o state. state) s k es stands.1, on_promoted past.vector (with_commits past.passed) s k past.folded.entries stands.2)

-- a look-up of an object, of which is kept then what the client has of it
pub looked : (s : Client) (k : ObjectId) (old new : StateEntries) (past : Past) (base : State) (dot : Dot) (updates : List Update) → Stands old past s → Some base ≡ cached k s.vector s.cache → dot ≡ next_dot s → updates ≡ draft_updates s → HadApart k old new → ((seen : State) → lookup (same_object k) new ≡ Some seen → seen ≡ fold_of base (ops_behind k s.pending (s.clock + 1) dot updates)) → Stands new past (record s { cache = promoted k s.vector s.cache })
looked s k old new past base dot updates stands found dot_is updates_are apart own = (looked_up s k stands.0, follows, on_promoted past.vector (with_commits past.passed) s k past.folded.entries stands.2)
  where
    follows : Follows new (record s { cache = promoted k s.vector s.cache })
    follows o seen state there is = at (cases_Bool (same_object k o))
      where
        was : cached o s.vector s.cache ≡ Some state
        was = sym (cached-promoted k o s.vector s.vector s.cache) ∙ is

        at : (same_object k o ≡ true) ⊎ (same_object k o ≡ false) → seen ≡ view s o state
        at (inl e) =
            let key : k ≡ o = same_object-true k o e in
            let base_is : base ≡ state = same_Some base state (found ∙ (ap (λ q. cached q s.vector s.cache) key ∙ was)) in
            let kept = own seen (ap (λ q. lookup (same_object q) new) key ∙ there) in
            kept ∙ ((λ i. fold_of base (ops_behind k s.pending (s.clock + 1) (dot_is i) (updates_are i))) ∙ (λ i. view s (key i) (base_is i)))
        at (inr e) = stands.1 o seen state (apart o seen e there) was

-- the client with a new entry in the cache
kept_so : (s : Client) (new : Cached) → length new.vector ≡ length s.vector → IsClient s → IsClient (record s { cache = kept s.capacity new s.cache })
kept_so s new same is = cached_so s (kept s.capacity new s.cache) (λ c i. by c (In_take s.capacity (new ∷ without_first (λ c. same_object c.object new.object) s.cache) c i)) is
  where
    by : (c : Cached) → In c (new ∷ without_first (λ c. same_object c.object new.object) s.cache) → length c.vector ≡ length s.vector
    by c (inl is_new) = ap (λ (c : Cached). length c.vector) is_new ∙ same
    by c (inr i) = is.wide c (In_without_first (λ c. same_object c.object new.object) s.cache c i)

-- the states of all objects but one, of which none is kept any more
abbrev LetGo : ObjectId → StateEntries → StateEntries → Type 0
LetGo k old es = (lookup (same_object k) es ≡ None) × ((o : ObjectId) → same_object k o ≡ false → lookup (same_object o) es ≡ lookup (same_object o) old)

module _ (w : List ℕ) (done : Done) where
  -- states follow on where that of an object is let go, and a client has of all others what it had
  on_let_go : (s t : Client) (k : ObjectId) (old es : StateEntries) → FollowsFrom w done old s → LetGo k old es → ((o : ObjectId) → same_object k o ≡ false → behind t o ≡ behind s o) → ((o : ObjectId) (state : State) → same_object k o ≡ false → cached o w t.cache ≡ Some state → cached o w s.cache ≡ Some state) → FollowsFrom w done es t
  on_let_go s t k old es follows gone same had o seen state there is = at (cases_Bool (same_object k o))
    where
      at : (same_object k o ≡ true) ⊎ (same_object k o ≡ false) → seen ≡ view t o (done o state)
      at (inl e) = absurd (none-some seen (sym gone.0 ∙ (ap (λ q. lookup (same_object q) es) (same_object-true k o e) ∙ there)))
      at (inr e) = follows o seen state (sym (gone.1 o e) ∙ there) (had o state e is) ∙ ap (fold_of (done o state)) (sym (same o e))

  -- where a new state of the object comes into the cache
  on_kept : (s : Client) (new : Cached) (old es : StateEntries) → FollowsFrom w done old s → LetGo new.object old es → FollowsFrom w done es (record s { cache = kept s.capacity new s.cache })
  on_kept s new old es follows gone = on_let_go s (record s { cache = kept s.capacity new s.cache }) new.object old es follows gone (λ o e. refl) (λ o state e is. cached-kept s.capacity new o w s.cache state e is)

  -- where its entry is taken out of the cache
  on_forgotten : (s : Client) (k : ObjectId) (old es : StateEntries) → FollowsFrom w done old s → LetGo k old es → FollowsFrom w done es (record s { cache = forgotten k s.cache })
  on_forgotten s k old es follows gone = on_let_go s (record s { cache = forgotten k s.cache }) k old es follows gone (λ o e. refl) had
    where
      had : (o : ObjectId) (state : State) → same_object k o ≡ false → cached o w (forgotten k s.cache) ≡ Some state → cached o w s.cache ≡ Some state
      had o state e is =
          let other : (c : Cached) → is_of k c ≡ true → is_entry o w c ≡ false = λ (c : Cached) (same : is_of k c ≡ true). ap (λ b. b && same_vector c.vector w) (ap (λ q. same_object q o) (same_object-true c.object k same) ∙ e) in
          ap (option_map (λ (c : Cached). c.state)) (sym (without-other (is_entry o w) (is_of k) other s.cache)) ∙ is

-- what is left of the snapshot before follows where what its states follow does
past_is : (k : ObjectId) (old new : Past) (s : Client) → IsWithout k old new → FollowsFrom old.vector (with_commits old.passed) new.folded.entries s → FollowsPast new s
past_is k old new s without follows = subst (λ (p : Past). FollowsFrom p.vector (with_commits p.passed) new.folded.entries s) same follows
  where
    same : record old { folded = new.folded } ≡ new
    same = λ i. record { vector = sym without.vector i; passed = sym without.passed i; folded = new.folded }

-- a new state of an object in the cache, where what was kept of the object is let go
pub fetched : (s : Client) (new : Cached) (old es : StateEntries) (past left : Past) → length new.vector ≡ length s.vector → Stands old past s → lookup (same_object new.object) es ≡ None → ((o : ObjectId) → same_object new.object o ≡ false → lookup (same_object o) es ≡ lookup (same_object o) old) → IsWithout new.object past left → Stands es left (record s { cache = kept s.capacity new s.cache })
fetched s new old es past left wide stands gone apart without = (
  kept_so s new wide stands.0,
  on_kept s.vector (λ o state. state) s new old es stands.1 (gone, apart),
  past_is new.object past left (record s { cache = kept s.capacity new s.cache }) without (on_kept past.vector (with_commits past.passed) s new past.folded.entries left.folded.entries stands.2 (without.gone, without.apart)),
)

-- what came to an object is folded into its state, and the state that was kept of it at the snapshot before is kept
-- where just that came to it
pub brought : (s : Client) (o : ObjectId) (from at : List ℕ) (base : State) (tail : List (Mark × Op)) (old es : StateEntries) (past left : Past) → at ≡ s.vector → Stands old past s → cached o from s.cache ≡ Some base → IsWithout o past left → HadApart o old es → ((seen : State) → lookup (same_object o) es ≡ Some seen → (lookup (same_object o) past.folded.entries ≡ Some seen) × (from ≡ past.vector) × (flat_map (ops_of o) past.passed ≡ tail)) → Stands es left (record s { cache = kept s.capacity (record { object = o; vector = at; state = fold_of base tail }) s.cache })
brought s o from at base tail old es past left at_is stands had without apart own = (
  kept_so s new (ap length at_is) stands.0,
  follows,
  past_is o past left t without (on_kept past.vector (with_commits past.passed) s new past.folded.entries left.folded.entries stands.2 (without.gone, without.apart)),
)
  where
    new : Cached
    new = record { object = o; vector = at; state = fold_of base tail }

    t : Client
    t = record s { cache = kept s.capacity new s.cache }

    follows : Follows es t
    follows q seen state there is = by (cases_Bool (same_object o q))
      where
        by : (same_object o q ≡ true) ⊎ (same_object o q ≡ false) → seen ≡ view s q state
        by (inl e) =
            let key : o ≡ q = same_object-true o q e in
            let was = own seen (ap (λ k. lookup (same_object k) es) key ∙ there) in
            let at_past : cached o past.vector s.cache ≡ Some base = ap (λ u. cached o u s.cache) (sym was.1) ∙ had in
            let before : seen ≡ view s o (fold_of base (flat_map (ops_of o) past.passed)) = stands.2 o seen base was.0 at_past in
            let state_is : state ≡ fold_of base tail = cached-kept-own s.capacity new s.cache state ((λ i. cached (key i) (at_is i) (kept s.capacity new s.cache)) ∙ is) in
            before ∙ ((λ i. view s o (fold_of base (was.2 i))) ∙ ((λ i. view s o (sym state_is i)) ∙ (λ i. view s (key i) state)))
        by (inr e) = stands.1 q seen state (apart q seen e there) (cached-kept s.capacity new q s.vector s.cache state e is)

-- an object whose entry is taken out of the cache, where what was kept of the object is let go
pub forgot : (s : Client) (k : ObjectId) (old es : StateEntries) (past left : Past) → Stands old past s → lookup (same_object k) es ≡ None → ((o : ObjectId) → same_object k o ≡ false → lookup (same_object o) es ≡ lookup (same_object o) old) → IsWithout k past left → Stands es left (record s { cache = forgotten k s.cache })
forgot s k old es past left stands gone apart without = (
  cached_so s (forgotten k s.cache) (λ c i. stands.0.wide c (In_without_first (is_of k) s.cache c i)) stands.0,
  on_forgotten s.vector (λ o state. state) s k old es stands.1 (gone, apart),
  past_is k past left (record s { cache = forgotten k s.cache }) without (on_forgotten past.vector (with_commits past.passed) s k past.folded.entries left.folded.entries stands.2 (without.gone, without.apart)),
)

-- ---- the open transaction

-- the client without an open transaction
no_draft : (s : Client) → IsClient s → IsClient (record s { draft = None })
no_draft s is = record { client = is.client; mine = is.mine; own = is.own; clock = is.clock; count = is.count; room = is.room; pending = is.pending; modest = is.modest; sent = is.sent; draft = tt; wide = is.wide }

-- a transaction without updates is closed
pub closed : (s : Client) (es : StateEntries) (past : Past) → draft_updates s ≡ [] → Stands es past s → Stands es past (record s { draft = None })
closed s es past none stands = (no_draft s stands.0, on s.vector (λ o state. state) es stands.1, on past.vector (with_commits past.passed) past.folded.entries stands.2)
  where
    on : (w : List ℕ) (done : Done) (es : StateEntries) → FollowsFrom w done es s → FollowsFrom w done es (record s { draft = None })
    on w done es follows = kept_on w w done s (record s { draft = None }) es follows (λ o. ap (ops_behind o s.pending (s.clock + 1) (next_dot s)) (sym none)) (λ o state is. is)

-- the states of all objects that updates do not change
abbrev LeftOf : List Update → StateEntries → StateEntries → Type 0
LeftOf updates old new = (o : ObjectId) (seen : State) → lookup (same_object o) new ≡ Some seen → (lookup (same_object o) old ≡ Some seen) × All (λ u. same_object u.object o ≡ false) updates

-- a transaction is aborted, and the states of the objects that it changed are let go
pub aborted : (s : Client) (updates : List Update) (old new : StateEntries) (past left : Past) → s.draft ≡ Some updates → Stands old past s → LeftOf updates old new → left.vector ≡ past.vector → left.passed ≡ past.passed → LeftOf updates past.folded.entries left.folded.entries → Stands new left (record s { draft = None })
aborted s updates old new past left is stands rest vector passed rest_past = (no_draft s stands.0, on s.vector (λ o state. state) old new stands.1 rest, subst (λ (p : Past). FollowsFrom p.vector (with_commits p.passed) left.folded.entries (record s { draft = None })) same (on past.vector (with_commits past.passed) past.folded.entries left.folded.entries stands.2 rest_past))
  where
    same : record past { folded = left.folded } ≡ left
    same = λ i. record { vector = sym vector i; passed = sym passed i; folded = left.folded }

    on : (w : List ℕ) (done : Done) (old new : StateEntries) → FollowsFrom w done old s → LeftOf updates old new → FollowsFrom w done new (record s { draft = None })
    on w done old new follows rest o seen state there found =
        let had = rest o seen there in
        let none : ops_from o (s.clock + 1) (next_dot s) 0 (draft_updates s) ≡ [] = ap (λ d. ops_from o (s.clock + 1) (next_dot s) 0 (unwrap_or d [])) is ∙ no_ops_from o (s.clock + 1) (next_dot s) 0 updates had.1 in
        follows o seen state had.0 found ∙ ap (λ l. fold_of (done o state) (flat_map (ops_of o) s.pending ++ l)) none

-- a commit has behind it what was open
pub committed : (s : Client) (updates : List Update) (tx : Tx) (es : StateEntries) (past : Past) → s.draft ≡ Some updates → tx ≡ next_tx s updates → length s.pending < MOST_PENDING → Stands es past s → Stands es past (record s { own = s.own + 1; clock = s.clock + 1; pending = s.pending ++ tx ∷ []; draft = None })
committed s updates tx es past is tx_is place stands = subst (λ x. Stands es past (record s { own = s.own + 1; clock = s.clock + 1; pending = s.pending ++ x ∷ []; draft = None })) (sym tx_is) (client, kept_on s.vector s.vector (λ o state. state) s t es stands.1 same (λ o state is. is), kept_on past.vector past.vector (with_commits past.passed) s t past.folded.entries stands.2 same (λ o state is. is))
  where
    t : Client
    t = record s { own = s.own + 1; clock = s.clock + 1; pending = s.pending ++ next_tx s updates ∷ []; draft = None }

    was : IsClient s
    was = stands.0

    open_was : IsDraft s.clock updates
    open_was = subst (λ d. IfSome d (IsDraft s.clock)) is was.draft

    sent_more : (link : Option Connection) → IfSome link (λ l. l.sent ≤ s.own) → IfSome link (λ l. l.sent ≤ s.own + 1)
    sent_more None h = tt
    sent_more (Some l) h = omega arith

    more : length (s.pending ++ next_tx s updates ∷ []) ≡ length s.pending + 1
    more = length-append s.pending (next_tx s updates ∷ [])

    client : IsClient (record s { own = s.own + 1; clock = s.clock + 1; pending = s.pending ++ next_tx s updates ∷ []; draft = None })
    client =
        let mine : s.mine ≤ s.own = was.mine in
        let own : s.own ≤ s.clock = was.own in
        let count : length s.pending + s.mine ≡ s.own = was.count in
        let rank : s.clock < MOST_NUMBER = open_was.rank in
        record {
          client = was.client;
          mine = omega arith;
          own = omega arith;
          clock = omega arith;
          count = omega (arith, more);
          room = omega (arith, more, place);
          pending = All-push (λ tx. length tx.updates ≤ MOST_UPDATES) s.pending (next_tx s updates) was.pending open_was.few;
          modest = All-push (λ tx. All IsModestUpdate tx.updates) s.pending (next_tx s updates) was.modest open_was.modest;
          sent = sent_more s.link was.sent;
          draft = tt;
          wide = was.wide;
        }

    same : (o : ObjectId) → flat_map (ops_of o) (s.pending ++ next_tx s updates ∷ []) ++ [] ≡ behind s o
    same o =
        append-nil (flat_map (ops_of o) (s.pending ++ next_tx s updates ∷ [])) ∙ (flat_map-append (ops_of o) s.pending (next_tx s updates ∷ []) ∙ (ap (λ l. flat_map (ops_of o) s.pending ++ l) (append-nil (ops_of o (next_tx s updates))) ∙ ap (λ d. ops_behind o s.pending (s.clock + 1) (next_dot s) (unwrap_or d [])) (sym is)))

-- one more update, which is taken into the state that is kept of its object, but not into that of the snapshot before
pub pushed : (s : Client) (u : Update) (old new : StateEntries) (past left : Past) (dot : Dot) (place : ℕ) → IsSome s.draft → length (draft_updates s) < MOST_UPDATES → IsModestUpdate u → Stands old past s → dot ≡ next_dot s → place ≡ length (draft_updates s) → HadApart u.object old new → ((seen : State) → lookup (same_object u.object) new ≡ Some seen → (before : State) × (lookup (same_object u.object) old ≡ Some before) × (seen ≡ step before (mark (s.clock + 1) dot place, u.op))) → IsWithout u.object past left → Stands new left (record s { draft = Some (draft_updates s ++ u ∷ []) })
pushed s u old new past left dot place some room modest stands dot_is place_is apart own without = (client, follows, past_is u.object past left t without (on_let_go past.vector (with_commits past.passed) s t u.object past.folded.entries left.folded.entries stands.2 (without.gone, without.apart) elsewhere (λ o state e is. is)))
  where
    t : Client
    t = record s { draft = Some (draft_updates s ++ u ∷ []) }

    elsewhere : (o : ObjectId) → same_object u.object o ≡ false → behind t o ≡ behind s o
    elsewhere o e =
        let last : Mark = mark (s.clock + 1) (next_dot s) (0 + length (draft_updates s)) in
        let none : one_more o last u ≡ [] = ap (λ b. cond b ((last, u.op) ∷ []) []) e in
        let open_ops = ops_from o (s.clock + 1) (next_dot s) 0 (draft_updates s) in
        ap (λ l. flat_map (ops_of o) s.pending ++ l) (ops_from-last o (s.clock + 1) (next_dot s) 0 (draft_updates s) u ∙ (ap (λ l. open_ops ++ l) none ∙ append-nil open_ops))

    was : IsClient s
    was = stands.0

    client : IsClient (record s { draft = Some (draft_updates s ++ u ∷ []) })
    client = record { client = was.client; mine = was.mine; own = was.own; clock = was.clock; count = was.count; room = was.room; pending = was.pending; modest = was.modest; sent = was.sent; draft = grown s.clock s.draft u some room modest was.draft; wide = was.wide }

    m : Mark
    m = mark (s.clock + 1) (next_dot s) (length (draft_updates s))

    here : ObjectId → List Update → List (Mark × Op)
    here o us = ops_from o (s.clock + 1) (next_dot s) 0 us

    after : ObjectId → State → List (Mark × Op) → State
    after o state l = fold_of state (flat_map (ops_of o) s.pending ++ l)

    follows : Follows new (record s { draft = Some (draft_updates s ++ u ∷ []) })
    follows o seen state there found = at (cases_Bool (same_object u.object o))
      where
        plus : 0 + length (draft_updates s) ≡ length (draft_updates s)
        plus = omega arith

        more : here o (draft_updates s ++ u ∷ []) ≡ here o (draft_updates s) ++ one_more o m u
        more = ops_from-last o (s.clock + 1) (next_dot s) 0 (draft_updates s) u ∙ ap (λ n. here o (draft_updates s) ++ one_more o (mark (s.clock + 1) (next_dot s) n) u) plus

        at : (same_object u.object o ≡ true) ⊎ (same_object u.object o ≡ false) → seen ≡ after o state (here o (draft_updates s ++ u ∷ []))
        at (inl e) =
            let key : u.object ≡ o = same_object-true u.object o e in
            let b = own seen (ap (λ q. lookup (same_object q) new) key ∙ there) in
            let was = stands.1 o b.0 state (ap (λ q. lookup (same_object q) old) (sym key) ∙ b.1) found in
            let one : one_more o m u ≡ (m, u.op) ∷ [] = ap (λ b. cond b ((m, u.op) ∷ []) []) e in
            let marked : seen ≡ step b.0 (m, u.op) = b.2 ∙ (λ i. step b.0 (mark (s.clock + 1) (dot_is i) (place_is i), u.op)) in
            let folded : step (after o state (here o (draft_updates s))) (m, u.op) ≡ fold_of state ((flat_map (ops_of o) s.pending ++ here o (draft_updates s)) ++ (m, u.op) ∷ []) = sym (fold-append step state (flat_map (ops_of o) s.pending ++ here o (draft_updates s)) ((m, u.op) ∷ [])) in
            marked ∙ (ap (λ x. step x (m, u.op)) was ∙ (folded ∙ (ap (fold_of state) (append_assoc (flat_map (ops_of o) s.pending) (here o (draft_updates s)) ((m, u.op) ∷ [])) ∙ ap (after o state) (ap (λ l. here o (draft_updates s) ++ l) (sym one) ∙ sym more))))
        at (inr e) =
            let none : one_more o m u ≡ [] = ap (λ b. cond b ((m, u.op) ∷ []) []) e in
            stands.1 o seen state (apart o seen e there) found ∙ ap (after o state) (sym (more ∙ (ap (λ l. here o (draft_updates s) ++ l) none ∙ append-nil (here o (draft_updates s)))))

-- no update more, but what was kept of an object is let go
pub let_go : (s : Client) (k : ObjectId) (old mid new : StateEntries) (past left : Past) → Stands old past s → HadApart k old mid → lookup (same_object k) new ≡ None → ((o : ObjectId) → same_object k o ≡ false → lookup (same_object o) new ≡ lookup (same_object o) mid) → IsWithout k past left → Stands new left s
let_go s k old mid new past left stands apart gone rest without = (stands.0, follows, past_is k past left s without (on_let_go past.vector (with_commits past.passed) s s k past.folded.entries left.folded.entries stands.2 (without.gone, without.apart) (λ o e. refl) (λ o state e is. is)))
  where
    follows : Follows new s
    follows o seen state there found = at (cases_Bool (same_object k o))
      where
        at : (same_object k o ≡ true) ⊎ (same_object k o ≡ false) → seen ≡ view s o state
        at (inl e) = absurd (none-some seen (sym gone ∙ (ap (λ q. lookup (same_object q) new) (same_object-true k o e) ∙ there)))
        at (inr e) = stands.1 o seen state (apart o seen e (sym (rest o e) ∙ there)) found

-- ---- a snapshot

-- a client that hears a snapshot
abbrev snap : Client → List ℕ → ℕ → ℕ → Client
snap s vector mine top = record s { vector = vector; mine = mine; clock = max s.clock top; pending = drop (mine - s.mine) s.pending }

-- where no transaction is open no update is
none_drafted : (s : Client) (vector : List ℕ) (mine top : ℕ) → can_follow s vector mine top ≡ true → draft_updates s ≡ []
none_drafted s vector mine top follows = ap (λ d. unwrap_or d []) (is_none_true s.draft (follows_closed s vector mine top follows))

-- the same snapshot heard again
pub again : (s : Client) (vector : List ℕ) (mine top : ℕ) (es : StateEntries) (past : Past) → Stands es past s → can_follow s vector mine top ≡ true → vector ≡ s.vector → mine ≡ s.mine → Stands es past (record s { clock = max s.clock top })
again s vector mine top es past stands follows same no_more = (client, on s.vector (λ o state. state) es stands.1, on past.vector (with_commits past.passed) past.folded.entries stands.2)
  where
    none : draft_updates s ≡ []
    none = none_drafted s vector mine top follows

    zero_more : mine - s.mine ≡ 0
    zero_more = omega (arith, no_more)

    pending_is : drop (mine - s.mine) s.pending ≡ s.pending
    pending_is = ap (λ n. drop n s.pending) zero_more

    it : snap s vector mine top ≡ record s { clock = max s.clock top }
    it = λ i. record s { vector = same i; mine = no_more i; clock = max s.clock top; pending = pending_is i }

    client : IsClient (record s { clock = max s.clock top })
    client = subst IsClient it (followed s vector mine top stands.0 follows)

    on : (w : List ℕ) (done : Done) (es : StateEntries) → FollowsFrom w done es s → FollowsFrom w done es (record s { clock = max s.clock top })
    on w done es follows = kept_on w w done s (record s { clock = max s.clock top }) es follows (λ o. ap (λ us. flat_map (ops_of o) s.pending ++ ops_from o (max s.clock top + 1) (next_dot s) 0 us) none ∙ ap (λ us. flat_map (ops_of o) s.pending ++ ops_from o (s.clock + 1) (next_dot s) 0 us) (sym none)) (λ o state is. is)

-- nothing is kept of what the client has
emptied : (w : List ℕ) (done : Done) (s : Client) (es : StateEntries) → es ≡ [] → FollowsFrom w done es s
emptied w done s es none o seen state there is = absurd (none-some seen (ap (lookup (same_object o)) (sym none) ∙ there))

-- a snapshot that follows: what was kept is kept of the snapshot before, if at all
pub snapped : (s : Client) (vector : List ℕ) (mine top : ℕ) (old new : StateEntries) (past left : Past) → Stands old past s → can_follow s vector mine top ≡ true → new ≡ [] → ((o : ObjectId) (seen : State) → lookup (same_object o) left.folded.entries ≡ Some seen → (lookup (same_object o) old ≡ Some seen) × (left.vector ≡ s.vector) × (left.passed ≡ take (mine - s.mine) s.pending)) → Stands new left (snap s vector mine top)
snapped s vector mine top old new past left stands follows none was = (followed s vector mine top stands.0 follows, emptied vector (λ o state. state) (snap s vector mine top) new none, on)
  where
    on : FollowsPast left (snap s vector mine top)
    on o seen state there is =
        let had = was o seen there in
        let n = mine - s.mine in
        let no_draft_is : draft_updates s ≡ [] = none_drafted s vector mine top follows in
        let found : cached o s.vector s.cache ≡ Some state = ap (λ w. cached o w s.cache) (sym had.1) ∙ is in
        let first = flat_map (ops_of o) (take n s.pending) in
        let last = flat_map (ops_of o) (drop n s.pending) in
        let parts : flat_map (ops_of o) s.pending ≡ first ++ last = ap (flat_map (ops_of o)) (sym (take-append-drop n s.pending)) ∙ flat_map-append (ops_of o) (take n s.pending) (drop n s.pending) in
        let before : seen ≡ fold_of state ((first ++ last) ++ []) = stands.1 o seen state had.0 found ∙ (ap (λ us. fold_of state (flat_map (ops_of o) s.pending ++ ops_from o (s.clock + 1) (next_dot s) 0 us)) no_draft_is ∙ ap (λ l. fold_of state (l ++ [])) parts) in
        let moved : fold_of state ((first ++ last) ++ []) ≡ fold_of (fold_of state first) (last ++ []) = ap (fold_of state) (append_assoc first last []) ∙ fold-append step state first (last ++ []) in
        let now : fold_of (fold_of state first) (last ++ []) ≡ fold_of (fold_of state (flat_map (ops_of o) left.passed)) (last ++ []) = ap (λ txs. fold_of (fold_of state (flat_map (ops_of o) txs)) (last ++ [])) (sym had.2) in
        before ∙ (moved ∙ (now ∙ ap (λ us. fold_of (fold_of state (flat_map (ops_of o) left.passed)) (last ++ ops_from o (max s.clock top + 1) (next_dot s) 0 us)) (sym no_draft_is)))

-- ---- results

-- of updates of which a test says that there are none, there are none
pub none_open : (us : List Update) (b : Bool) → (us ≢ [] → IsTrue b) → b ≡ false → us ≡ []
none_open [] b some fails = refl
none_open (u ∷ us) b some fails = absurd (false≢true (sym fails ∙ some (λ e. cc)))

-- what want of memory leaves
pub failed : {T P : Type 0} (r : Result T Refusal) → is_err r ≡ true → IfErr r (λ refusal. (refusal ≡ NoMemory) × P) → P
failed (Ok x) is left = cc
failed (Err e) is left = left.1
