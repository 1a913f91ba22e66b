-- The conduct of a session: what it hears, what it asks, and which logs are its own.
use Rattle.std.specs.Prelude.{◌≡◌, ℕ, ◌-◌, Bool, false, ◌&&◌, not, ◌⊎◌, cond, max, min, nat_le, ◌==◌, length, drop, fold, List, [], ◌∷◌, ◌++◌, Option, Some, None, is_none, is_some, slice_get}
use Rattle.std.specs.List.{list_all}
use Rattle.std.specs.Option.{unwrap_or}
use Rattle.list_core.specs.Moments.{Each}
use Rattle.ids_core.specs.declared.limits.TheConstants.{MOST_NUMBER}
use Rattle.ids_core.specs.declared.ids.Mark.{Mark}
use Rattle.ids_core.specs.declared.object.Sort.{Sort}
use Rattle.ids_core.specs.declared.object.ObjectId.{ObjectId}
use Rattle.ids_core.specs.Ids.{same_sort}
use Rattle.vv_core.specs.Vectors.{covers}
use Rattle.tx_core.specs.declared.op.Op.{Op}
use Rattle.tx_core.specs.declared.tx.Tx.{Tx}
use Rattle.tx_core.specs.declared.state.State.{State}
use Rattle.tx_core.specs.Ops.{sort_of_op}
use Rattle.tx_core.specs.States.{sort_of, empty_of, fold_of}
use Rattle.dc_talk.specs.declared.ask.Ask.{Ask}
use Rattle.dc_talk.specs.declared.ask.Ask.TheVariants.{Hello, Refresh, Fetch, Delta, Commit}
use Rattle.dc_talk.specs.declared.say.Say.{Say}
use Rattle.dc_talk.specs.declared.say.Say.TheVariants.{Welcome, Snap, Pruned, Object, Changes, Known, Stamped}
use Rattle.dc_talk.specs.declared.calls.Call.TheVariants.{Commit as CommitCall}
use Rattle.dc_talk.specs.declared.calls.Outcome.TheVariants.{Number}
use Rattle.dc_talk.specs.declared.calls.Connection.{Connection}
use Rattle.dc_talk.specs.declared.calls.Cached.{Cached}
use Rattle.dc_talk.specs.declared.log.Fate.{Fate}
use Rattle.dc_talk.specs.declared.log.Fate.TheVariants.{Heard, Unheard}
use Rattle.dc_talk.specs.declared.log.Deed.{Deed}
use Rattle.dc_talk.specs.declared.log.Deed.TheVariants.{Did, Asked, Told, Spoilt}
use Rattle.dc_talk.specs.declared.log.Note.{Note}
use Rattle.dc_talk.specs.Clients.{Client, new_client, next_tx, settled, same_vector, cached, kept, entry_of, forgotten, draft_updates}
use Rattle.dc_talk.specs.Calls.{outcome_of, did}

-- whether the client is connected to the centre
abbrev pub is_linked : ℕ → Option Connection → Bool
is_linked i None = false
is_linked i (Some link) = link.centre == i

-- the link once the centre is known to have the client's commits up to a number, of as many as own
abbrev pub sent_through : ℕ → ℕ → Option Connection → Option Connection
sent_through number own None = None
sent_through number own (Some link) = Some (record link { sent = min (max link.sent number) own })

-- a snapshot can follow the client's: no transaction is open, it covers the client's, and it has
-- as many of the client's own commits as that or more, but none that was not made
abbrev pub can_follow : Client → List ℕ → ℕ → ℕ → Bool
can_follow s vector mine top =
    is_none s.draft && (length vector == length s.vector) && covers vector s.vector
    && nat_le top MOST_NUMBER && nat_le s.mine mine && nat_le mine s.own

-- whether the client has the object at the vector
abbrev pub holds : Client → ObjectId → List ℕ → Bool
holds s o from = is_some (cached o from s.cache)

-- the object's state that the client has at the vector
abbrev pub held : Client → ObjectId → List ℕ → State
held s o from = unwrap_or (cached o from s.cache) (empty_of o.sort)

-- all operations are on objects of the kind
abbrev pub are_of_sort : Sort → List (Mark × Op) → Bool
are_of_sort sort tail = list_all (λ marked. same_sort (sort_of_op marked.1) sort) tail

-- whether the client takes an answer of centre i
abbrev pub takes : Client → ℕ → Ask → Say → Bool
takes s i (Hello client need) (Welcome through) = client == s.client
takes s i (Refresh client here) (Snap vector mine top) = (client == s.client) && is_linked i s.link && can_follow s vector mine top
takes s i (Fetch o here) (Object state) = same_vector here s.vector && same_sort (sort_of state) o.sort
takes s i (Delta o from here) (Object state) = same_vector here s.vector && (holds s o from && same_sort (sort_of state) o.sort)
takes s i (Delta o from here) (Changes tail) = same_vector here s.vector && (holds s o from && are_of_sort o.sort tail)
takes s i (Delta o from here) (Pruned centre base low) = holds s o from
takes s i (Commit tx) (Stamped stamp) = (tx.dot.client == s.client) && is_linked i s.link
takes s i (Commit tx) (Known through) = (tx.dot.client == s.client) && is_linked i s.link
takes s i _ _ = false

-- the client after an answer that it takes
abbrev pub taken : Client → ℕ → Ask → Say → Client
taken s i (Hello client need) (Welcome through) = record s { link = Some (record { centre = i; sent = min through s.own }) }
taken s i (Refresh client here) (Snap vector mine top) = record s { vector = vector; mine = mine; clock = max s.clock top; pending = drop (mine - s.mine) s.pending }
taken s i (Fetch o here) (Object state) = record s { cache = kept s.capacity (record { object = o; vector = here; state = state }) s.cache }
taken s i (Delta o from here) (Object state) = record s { cache = kept s.capacity (record { object = o; vector = here; state = state }) s.cache }
taken s i (Delta o from here) (Changes tail) = record s { cache = kept s.capacity (record { object = o; vector = here; state = fold_of (held s o from) tail }) s.cache }
taken s i (Delta o from here) (Pruned centre base low) = record s { cache = forgotten o s.cache }
taken s i (Commit tx) (Stamped stamp) = record s { link = sent_through tx.dot.number s.own s.link }
taken s i (Commit tx) (Known through) = record s { link = sent_through through s.own s.link }
taken s i _ _ = s

-- the client after an answer that it hears; one that it does not take changes nothing
abbrev pub heard : Client → ℕ → Ask → Say → Client
heard s i ask say = cond (takes s i ask say) (taken s i ask say) s

-- the client after a deed
abbrev pub after : Client → Deed → Client
after s (Did call outcome) = did s call outcome
after s (Asked i ask (Heard say)) = heard s i ask say
after s _ = s

-- the client after these notes of its log, from its first state among n centres
abbrev pub client_after : ℕ → ℕ → ℕ → List Note → Client
client_after n client capacity notes = fold (λ s note. after s note.deed) (new_client n client capacity) notes

-- the transaction that a deed commits
abbrev pub commit_in : Client → Deed → List Tx
commit_in s (Did CommitCall (Number number)) = next_tx s (draft_updates s) ∷ []
commit_in s _ = []

-- the transactions that the notes commit, in order, for a client that is so before them
abbrev pub commits_from : Client → List Note → List Tx
commits_from s [] = []
commits_from s (note ∷ notes) = commit_in s note.deed ++ commits_from (after s note.deed) notes

-- the transactions that these notes of a client's log commit, in order
abbrev pub commits_of : ℕ → ℕ → ℕ → List Note → List Tx
commits_of n client capacity notes = commits_from (new_client n client capacity) notes

-- the ask by which a client comes to a centre
abbrev pub hello_of : Client → Ask
hello_of s = Hello s.client s.vector

-- the ask for a newer snapshot
abbrev pub refresh_of : Client → Ask
refresh_of s = Refresh s.client s.vector

-- the ask for an object at a snapshot, of which there may be an entry: what came to it since, where the entry is at an
-- earlier snapshot, else its state
abbrev pub ask_over : ObjectId → List ℕ → Option Cached → Ask
ask_over o w None = Fetch o w
ask_over o w (Some entry) = cond (covers w entry.vector && not (same_vector entry.vector w)) (Delta o entry.vector w) (Fetch o w)

-- the ask for an object at the client's snapshot
abbrev pub fetch_of : Client → ObjectId → Ask
fetch_of s o = ask_over o s.vector (entry_of o s.cache)

-- the first commit that is not known to be at the connected centre or within the snapshot
abbrev pub next_commit : Client → Connection → Option Tx
next_commit s link = slice_get s.pending (settled s link - s.mine)

-- the client is connected to the centre
pub record IsLinked (s : Client) (i : ℕ) : Type 0 where
  pub link : Connection
  pub linked : s.link ≡ Some link
  pub centre : link.centre ≡ i

-- the transaction is the next one that the client sends to the centre
pub record Sends (s : Client) (i : ℕ) (tx : Tx) : Type 0 where
  pub link : Connection
  pub linked : s.link ≡ Some link
  pub centre : link.centre ≡ i
  pub next : next_commit s link ≡ Some tx

-- the ask of centre i is one that the client makes
abbrev pub Gives : Client → ℕ → Ask → Type 0
Gives s i (Hello client need) = Hello client need ≡ hello_of s
Gives s i (Refresh client here) = (Refresh client here ≡ refresh_of s) × IsLinked s i × (s.draft ≡ None)
Gives s i (Fetch o here) = (Fetch o here ≡ fetch_of s o) × IsLinked s i
Gives s i (Delta o from here) = (Delta o from here ≡ fetch_of s o) × IsLinked s i
Gives s i (Commit tx) = Sends s i tx
Gives s i _ = ⊥

-- a late copy: a commit ask that equals an earlier one of the log, to whatever centre
pub record IsLate (before : List Note) (ask : Ask) (fate : Fate) : Type 0 where
  pub say : Say
  pub unheard : fate ≡ Unheard say
  pub tx : Tx
  pub commit : ask ≡ Commit tx
  pub place : ℕ
  pub note : Note
  pub there : slice_get before place ≡ Some note
  pub centre : ℕ
  pub end : Fate
  pub same : note.deed ≡ Asked centre ask end

-- a second copy: the ask, to the same centre, of the note just before, which was heard
pub record IsSecond (before : List Note) (i : ℕ) (ask : Ask) (fate : Fate) : Type 0 where
  pub say : Say
  pub unheard : fate ≡ Unheard say
  pub earlier : List Note
  pub last : Note
  pub there : before ≡ earlier ++ last ∷ []
  pub first : Say
  pub same : last.deed ≡ Asked i ask (Heard first)

-- a deed that the rule allows a client after these notes: each call ends as it does for the state
-- before it, and each ask is one that the client makes then, or a copy that no session hears; a client takes nothing
-- from a link
abbrev pub Allows : Client → List Note → Deed → Type 0
Allows s before (Did call outcome) = outcome ≡ outcome_of s call
Allows s before (Asked i ask fate) = Gives s i ask ⊎ (IsLate before ask fate ⊎ IsSecond before i ask fate)
Allows s before (Told line) = Unit {0}
Allows s before (Spoilt from item why) = ⊥

-- the log follows the session rule, from the client's first state among n centres
abbrev pub Follows : ℕ → ℕ → ℕ → List Note → Type 0
Follows n client capacity notes = Each (λ before note. Allows (client_after n client capacity before) before note.deed) notes
