-- What a session answers.
use Rattle.std.specs.Prelude.{◌≡◌, ℕ, ◌+◌, Bool, true, false, cond, length, List, Option, Some, None, is_some, IsSome, Result, Ok, Err}
use Rattle.std.specs.Option.{option_map, unwrap_or}
use Rattle.ids_core.specs.declared.object.ObjectId.{ObjectId}
use Rattle.dc_talk.specs.declared.ask.Ask.{Ask}
use Rattle.dc_talk.specs.declared.ask.Ask.TheVariants.{Commit}
use Rattle.dc_talk.specs.declared.say.Say.{Say}
use Rattle.dc_talk.specs.declared.say.Say.TheVariants.{Object, Changes}
use Rattle.dc_talk.specs.declared.calls.Cached.{Cached}
use Rattle.dc_talk.specs.declared.calls.Call.{Call}
use Rattle.dc_talk.specs.declared.calls.Call.TheVariants.{Change, Read, Commit as CommitCall}
use Rattle.dc_talk.specs.declared.calls.Change.{Change as ChangeOf}
use Rattle.dc_talk.specs.declared.calls.Connection.{Connection}
use Rattle.dc_talk.specs.declared.calls.Refusal.{Refusal}
use Rattle.dc_talk.specs.declared.calls.Refusal.TheVariants.{NotConnected, AlreadyOpen}
use Rattle.dc_talk.specs.declared.calls.Outcome.TheVariants.{Number}
use Rattle.dc_talk.specs.Clients.{Client, promoted}
use Rattle.dc_talk.specs.Calls.{named, viewed, change_outcome, look_up_outcome, commit_outcome, looked_up}
use Rattle.dc_talk.specs.Rule.{refresh_of, fetch_of, next_commit}
use Rattle.client_session.specs.declared.hears.Heard.{Heard}
use Rattle.client_session.specs.declared.hears.Heard.TheVariants.{Took, Ignored}
use Rattle.client_session.specs.declared.session.Facts.{Facts}

-- an answer over the link, refused where there is none
abbrev pub over_link : {X : Type 0} → Option Connection → (Connection → Result X Refusal) → Result X Refusal
over_link None answer = Err NotConnected
over_link (Some link) answer = answer link

-- the refresh that the client asks, and the centre that it asks
abbrev pub refresh_ask : Client → Result (ℕ × Ask) Refusal
refresh_ask s = over_link s.link (λ link. cond (is_some s.draft) (Err AlreadyOpen) (Ok (link.centre, refresh_of s)))

-- the ask for an object that the client makes, and the centre that it asks
abbrev pub fetch_ask : Client → ObjectId → Result (ℕ × Ask) Refusal
fetch_ask s o = over_link s.link (λ link. Ok (link.centre, fetch_of s o))

-- the commit that the client asks next, and the centre that it asks
abbrev pub commit_ask : Client → Result (Option (ℕ × Ask)) Refusal
commit_ask s = over_link s.link (λ link. Ok (option_map (λ tx. (link.centre, Commit tx)) (next_commit s link)))

-- whether it was taken
abbrev pub heard_as : Bool → Heard
heard_as true = Took
heard_as false = Ignored

-- whether the answer is the state of an object, or what came to one
abbrev pub is_object : Say → Bool
is_object (Object state) = true
is_object (Changes tail) = true
is_object _ = false

-- a change that is refused neither before it looks its object up nor since the object is not there
pub record MayBeShort (s : Client) (o : ObjectId) (change : ChangeOf) : Type 0 where
  pub before : change_outcome s o change ≡ look_up_outcome o (named change) (viewed s o)
  pub there : IsSome (named change) → IsSome (viewed s o)

-- the cache once a call has looked its object up, where it looks one up
abbrev pub touched : Client → Call → List Cached
touched s (Change o change) = looked_up s o change
touched s (Read o) = promoted o s.vector s.cache
touched s _ = s.cache

-- the calls that may lack memory: a change or a read as far as its look-up finds the object, and a
-- commit that a number is due to
abbrev pub MayLack : Client → Call → Type 0
MayLack s (Change o change) = MayBeShort s o change
MayLack s (Read o) = IsSome (viewed s o)
MayLack s CommitCall = commit_outcome s s.draft ≡ Number (s.own + 1)
MayLack s _ = ⊥

-- what can be read off the client
abbrev pub facts_of : Client → Facts
facts_of s = record { vector = s.vector; own = s.own; mine = s.mine; clock = s.clock; is_open = is_some s.draft; centre = option_map (λ link. link.centre) s.link; sent = unwrap_or (option_map (λ link. link.sent) s.link) 0; pending = length s.pending }
