-- How each call of a session ends, and what it changes.
use Rattle.std.specs.Prelude.{◌≡◌, ℕ, ◌+◌, Bool, true, not, cond, nat_le, nat_lt, length, List, [], ◌∷◌, ◌++◌, Option, Some, None, is_some, is_none}
use Rattle.std.specs.Option.{option_map}
use Rattle.list_core.specs.Choices.{when, first_of}
use Rattle.ids_core.specs.declared.ids.OpId.{OpId}
use Rattle.ids_core.specs.declared.limits.TheConstants.{MOST_UPDATES, MOST_TAGS, MOST_PENDING, MOST_NUMBER}
use Rattle.ids_core.specs.declared.object.ObjectId.{ObjectId}
use Rattle.ids_core.specs.declared.object.Sort.{Sort}
use Rattle.ids_core.specs.declared.object.Sort.TheVariants as sort
use Rattle.ids_core.specs.Ids.{same_sort}
use Rattle.tx_core.specs.declared.op.Op.{Op}
use Rattle.tx_core.specs.declared.op.Op.TheVariants.{Inc as IncOp, Write as WriteOp, Add as AddOp, Remove as RemoveOp, Put as PutOp, Erase as EraseOp}
use Rattle.tx_core.specs.declared.tx.Update.{Update}
use Rattle.tx_core.specs.declared.state.State.{State}
use Rattle.tx_core.specs.Checks.{is_small_delta}
use Rattle.tx_core.specs.States.{value_of, tags_of}
use Rattle.dc_talk.specs.declared.calls.Change.{Change}
use Rattle.dc_talk.specs.declared.calls.Change.TheVariants.{Inc, Write, Add, Remove, Put, Erase}
use Rattle.dc_talk.specs.declared.calls.Call.{Call}
use Rattle.dc_talk.specs.declared.calls.Call.TheVariants.{Begin, Change as ChangeCall, Read, Commit, Abort}
use Rattle.dc_talk.specs.declared.calls.Refusal.TheVariants.{AlreadyOpen, ClockFull, NotOpen, WrongKind, DeltaTooLarge, TooManyUpdates, NeedsFetch, TooManyTags, PendingFull}
use Rattle.dc_talk.specs.declared.calls.Cached.{Cached}
use Rattle.dc_talk.specs.declared.calls.Outcome.{Outcome}
use Rattle.dc_talk.specs.declared.calls.Outcome.TheVariants.{Fine, Got, Number, Nothing, Refused}
use Rattle.dc_talk.specs.Clients.{Client, next_tx, cached, promoted, draft_updates, view}

-- how a begin ends
abbrev pub begin_outcome : Client → Outcome
begin_outcome s = first_of (when (is_some s.draft) (Refused AlreadyOpen) ∷ when (nat_le MOST_NUMBER s.clock) (Refused ClockFull) ∷ []) Fine

-- the kind of objects that a change is of
abbrev pub sort_of_change : Change → Sort
sort_of_change (Inc delta) = sort.Counter
sort_of_change (Write word) = sort.Register
sort_of_change (Add word) = sort.Set
sort_of_change (Remove word) = sort.Set
sort_of_change (Put key word) = sort.Map
sort_of_change (Erase key) = sort.Map

-- the word or key whose live identifiers a change is over, where it has one
abbrev pub named : Change → Option (List ℕ)
named (Inc delta) = None
named (Write word) = None
named (Add word) = Some word
named (Remove word) = Some word
named (Put key word) = Some key
named (Erase key) = Some key

-- the operation of a change that is over these identifiers
abbrev pub op_of : Change → List OpId → Op
op_of (Inc delta) over = IncOp delta
op_of (Write word) over = WriteOp word
op_of (Add word) over = AddOp word over
op_of (Remove word) over = RemoveOp word over
op_of (Put key word) over = PutOp key word over
op_of (Erase key) over = EraseOp key over

-- the delta of a change is as far from 0 as one may be, or less
abbrev pub is_modest : Change → Bool
is_modest (Inc delta) = is_small_delta delta
is_modest _ = true

-- what the client has of an object, where its cache has the state at the snapshot
abbrev pub viewed : Client → ObjectId → Option State
viewed s o = option_map (view s o) (cached o s.vector s.cache)

-- the identifiers of the word or key that are live in what the client has of the object
abbrev pub tags_in : Option (List ℕ) → Option State → List OpId
tags_in (Some name) (Some state) = tags_of state name
tags_in _ _ = []

-- the identifiers that a change of the object is over
abbrev pub over : Client → ObjectId → Change → List OpId
over s o change = tags_in (named change) (viewed s o)

-- how a change ends that has to know what the client has of the object
abbrev pub look_up_outcome : ObjectId → Option (List ℕ) → Option State → Outcome
look_up_outcome o None state = Fine
look_up_outcome o (Some name) None = Refused (NeedsFetch o)
look_up_outcome o (Some name) (Some state) = cond (nat_lt MOST_TAGS (length (tags_of state name))) (Refused (TooManyTags (length (tags_of state name)))) Fine

-- how a change ends
abbrev pub change_outcome : Client → ObjectId → Change → Outcome
change_outcome s o change = first_of (
    when (is_none s.draft) (Refused NotOpen)
    ∷ when (not (same_sort (sort_of_change change) o.sort)) (Refused WrongKind)
    ∷ when (not (is_modest change)) (Refused DeltaTooLarge)
    ∷ when (nat_le MOST_UPDATES (length (draft_updates s))) (Refused (TooManyUpdates MOST_UPDATES))
    ∷ []) (look_up_outcome o (named change) (viewed s o))

-- the cache after a change, which looks its object up where it has to know its state
abbrev pub looked_up : Client → ObjectId → Change → List Cached
looked_up s o change = cond (is_some (named change)) (promoted o s.vector s.cache) s.cache

-- how a read ends, where the cache has this of the object
abbrev pub read_outcome : Client → ObjectId → Option State → Outcome
read_outcome s o None = Refused (NeedsFetch o)
read_outcome s o (Some state) = Got (value_of (view s o state))

-- how a commit of these updates ends
abbrev pub commit_outcome : Client → Option (List Update) → Outcome
commit_outcome s None = Refused NotOpen
commit_outcome s (Some []) = Nothing
commit_outcome s (Some (u ∷ us)) = cond (nat_le MOST_PENDING (length s.pending)) (Refused (PendingFull MOST_PENDING)) (Number (s.own + 1))

-- how an abort ends
abbrev pub abort_outcome : Client → Outcome
abort_outcome s = first_of (when (is_none s.draft) (Refused NotOpen) ∷ []) Fine

-- how a call ends
abbrev pub outcome_of : Client → Call → Outcome
outcome_of s Begin = begin_outcome s
outcome_of s (ChangeCall o change) = change_outcome s o change
outcome_of s (Read o) = read_outcome s o (cached o s.vector s.cache)
outcome_of s Commit = commit_outcome s s.draft
outcome_of s Abort = abort_outcome s

-- the client after a commit that got its number
abbrev pub committed : Client → Client
committed s = record s { own = s.own + 1; clock = s.clock + 1; pending = s.pending ++ next_tx s (draft_updates s) ∷ []; draft = None }

-- the client after a call that ended so
abbrev pub did : Client → Call → Outcome → Client
did s Begin Fine = record s { draft = Some [] }
did s (ChangeCall o change) Fine = record s { draft = Some (draft_updates s ++ record { object = o; op = op_of change (over s o change) } ∷ []); cache = looked_up s o change }
did s (ChangeCall o change) (Refused (TooManyTags count)) = record s { cache = looked_up s o change }
did s (Read o) (Got value) = record s { cache = promoted o s.vector s.cache }
did s Commit (Number number) = committed s
did s Commit Nothing = record s { draft = None }
did s Abort Fine = record s { draft = None }
did s _ _ = s

-- a call that ends so, with the client before and after it
pub record Ends (old new : Client) (call : Call) (outcome : Outcome) : Type 0 where
  pub ends : outcome ≡ outcome_of old call
  pub after : new ≡ did old call outcome
