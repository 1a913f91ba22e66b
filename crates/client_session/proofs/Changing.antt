-- What a change leaves of a session.
use Rattle.std.proofs.Common.{◌≡◌, ◌≤◌, ◌<◌, ℕ, Bool, true, false, cond, List, [], ◌∷◌, ◌++◌, length, Option, Some, None, refl, ap, ◌∙◌, length-append, arith}
use Rattle.std.specs.Prelude.{IfSome, IsSome, nat_lt, is_some}
use Rattle.std.specs.Option.{unwrap_or}
use Rattle.std.proofs.lemmas.List.Elements.{All-push}
use Rattle.list_core.proofs.Choices.{option_map-none}
use Rattle.ids_core.specs.declared.ids.OpId.{OpId}
use Rattle.ids_core.specs.declared.limits.TheConstants.{MOST_TAGS, MOST_UPDATES}
use Rattle.ids_core.specs.declared.object.ObjectId.{ObjectId}
use Rattle.tx_core.specs.declared.tx.Update.{Update}
use Rattle.tx_core.specs.declared.state.State.{State}
use Rattle.tx_core.specs.States.{tags_of}
use Rattle.tx_core.specs.Checks.{IsModestUpdate}
use Rattle.dc_talk.specs.declared.calls.Change.{Change}
use Rattle.dc_talk.specs.declared.calls.Change.TheVariants.{Inc, Write, Add, Remove, Put, Erase}
use Rattle.dc_talk.specs.declared.calls.Call.TheVariants.{Change as ChangeCall}
use Rattle.dc_talk.specs.declared.calls.Outcome.TheVariants.{Fine, Refused}
use Rattle.dc_talk.specs.declared.calls.Refusal.{Refusal}
use Rattle.dc_talk.specs.declared.calls.Refusal.TheVariants.{NeedsFetch, TooManyTags}
use Rattle.dc_talk.specs.Clients.{Client, cached, promoted, view}
use Rattle.dc_talk.specs.Calls.{sort_of_change, is_modest, named, op_of, viewed, look_up_outcome, looked_up, did}
use Rattle.client_cache.proofs.Promoting.{promoted_absent}
use Rattle.client_session.specs.Sessions.{IsDraft}

-- the operation of a change that is taken is modest
pub is_modest_op : (o : ObjectId) (c : Change) (over : List OpId) → sort_of_change c ≡ o.sort → is_modest c ≡ true → length over ≤ MOST_TAGS → IsModestUpdate (record { object = o; op = op_of c over })
is_modest_op o (Inc delta) over kind small few = record { kind = kind; delta = small; tags = omega arith }
is_modest_op o (Write word) over kind small few = record { kind = kind; delta = small; tags = omega arith }
is_modest_op o (Add word) over kind small few = record { kind = kind; delta = small; tags = few }
is_modest_op o (Remove word) over kind small few = record { kind = kind; delta = small; tags = few }
is_modest_op o (Put key word) over kind small few = record { kind = kind; delta = small; tags = few }
is_modest_op o (Erase key) over kind small few = record { kind = kind; delta = small; tags = few }

-- one more update that is modest, where there is place for it
pub grown : (clock : ℕ) (draft : Option (List Update)) (update : Update) → IsSome draft → length (unwrap_or draft []) < MOST_UPDATES → IsModestUpdate update → IfSome draft (IsDraft clock) → IsDraft clock (unwrap_or draft [] ++ update ∷ [])
grown clock None update some place modest is = cc
grown clock (Some updates) update some place modest is =
    let more = length-append updates (update ∷ []) in
    record { rank = is.rank; few = omega (arith, more, place); modest = All-push IsModestUpdate updates update is.modest modest }

-- a change that is refused for its many identifiers
crowded : (s : Client) (o : ObjectId) (c : Change) (r : Refusal) (count : ℕ) (test : Bool) → cond test (Refused (TooManyTags count)) Fine ≡ Refused r → record s { cache = looked_up s o c } ≡ did s (ChangeCall o c) (Refused r)
crowded s o c r count true is =
    let which : TooManyTags count ≡ r = cc in
    rw (← which) refl
crowded s o c r count false is = cc

-- a change that its look-up refuses, by what it names and what is in view
refused_by : (s : Client) (o : ObjectId) (c : Change) (r : Refusal) (name : Option (List ℕ)) (state : Option State) → named c ≡ name → viewed s o ≡ state → look_up_outcome o name state ≡ Refused r → record s { cache = looked_up s o c } ≡ did s (ChangeCall o c) (Refused r)
refused_by s o c r None state names seen is = cc
refused_by s o c r (Some name) None names seen is =
    let which : NeedsFetch o ≡ r = cc in
    let looks = ap (λ name. cond (is_some name) (promoted o s.vector s.cache) s.cache) names in
    rw (← which) (ap (λ cache. record s { cache = cache }) (looks ∙ promoted_absent o s.vector s.cache (option_map-none (view s o) (cached o s.vector s.cache) seen)))
refused_by s o c r (Some name) (Some state) names seen is = crowded s o c r (length (tags_of state name)) (nat_lt MOST_TAGS (length (tags_of state name))) is

-- a change that its look-up refuses has looked its object up, and no more
pub refused : (s : Client) (o : ObjectId) (c : Change) (r : Refusal) → look_up_outcome o (named c) (viewed s o) ≡ Refused r → record s { cache = looked_up s o c } ≡ did s (ChangeCall o c) (Refused r)
refused s o c r is = refused_by s o c r (named c) (viewed s o) refl refl is
