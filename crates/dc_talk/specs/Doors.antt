-- What a door to the centres is seen as, and what asks through it change.
use Rattle.std.specs.Prelude.{◌≡◌, ◌≢◌, ◌≤◌, ◌<◌, ◌^◌, ℕ, Bool, true, false, length, List, [], ◌∷◌, ◌++◌}
use Rattle.list_core.specs.Members.{In}
use Rattle.dc_talk.specs.declared.ask.Ask.{Ask}
use Rattle.dc_talk.specs.declared.ask.Ask.TheVariants.{Hello, Refresh, Fetch, Delta, Commit, Send, Deliver, Relay, Report, Learn, Prune, Stop, Start}
use Rattle.dc_talk.specs.declared.say.Say.{Say}
use Rattle.dc_talk.specs.declared.say.Say.TheVariants.{Misfit, Down, Lacks, Welcome, Snap, Pruned, Object, Changes, Known, OutOfOrder, Full, Stamped, Trimmed, Records, Old, Gap, Waits, Orphan, Applied, Vector, Learned, Base, Stopped, Started}
use Rattle.dc_talk.specs.declared.log.Deed.{Deed}
use Rattle.dc_talk.specs.Entries.{Entry}
use Rattle.dc_talk.specs.Logs.{entries_made}

-- a door to the centres from 1 to a number: the actor for which it asks; whether it is alone, so that nobody
-- else asks these centres meanwhile; and of each centre the entries that it made there for its actor, and
-- those that it knows of
pub record DoorView : Type 0 where
  pub actor : ℕ
  pub centres : ℕ
  pub alone : Bool
  pub made : ℕ → List Entry
  pub seen : ℕ → List Entry

-- the centre is one of the door's
abbrev pub IsBehind : DoorView → ℕ → Type 0
IsBehind door i = (1 ≤ i) × (i ≤ door.centres)

-- whether a centre may answer an ask so: every centre may be stopped, and every ask a misfit; each other answer
-- is to asks of its kind
abbrev pub belongs : Ask → Say → Bool
belongs ask Misfit = true
belongs ask Down = true
belongs (Hello client need) (Lacks centre wanted have) = true
belongs (Hello client need) (Welcome through) = true
belongs (Refresh client here) (Lacks centre wanted have) = true
belongs (Refresh client here) (Snap vector mine top) = true
belongs (Fetch object here) (Lacks centre wanted have) = true
belongs (Fetch object here) (Pruned centre base low) = true
belongs (Fetch object here) (Object state) = true
belongs (Delta object from here) (Lacks centre wanted have) = true
belongs (Delta object from here) (Pruned centre base low) = true
belongs (Delta object from here) (Object state) = true
belongs (Delta object from here) (Changes tail) = true
belongs (Commit tx) (Known through) = true
belongs (Commit tx) (OutOfOrder have) = true
belongs (Commit tx) (Lacks centre wanted have) = true
belongs (Commit tx) (Full limit) = true
belongs (Commit tx) (Stamped stamp) = true
belongs (Send after most) (Trimmed from) = true
belongs (Send after most) (Records list) = true
belongs (Deliver item hops) (Old have) = true
belongs (Deliver item hops) (Gap have) = true
belongs (Deliver item hops) (Waits centre wanted have) = true
belongs (Deliver item hops) (Orphan number have) = true
belongs (Deliver item hops) (Applied fresh) = true
belongs (Relay origin after most) (Trimmed from) = true
belongs (Relay origin after most) (Records list) = true
belongs Report (Vector vector) = true
belongs (Learn from news) (Learned fresh) = true
belongs Prune (Base vector folded trimmed) = true
belongs Stop Stopped = true
belongs Start Started = true
belongs ask say = false

-- the same actor asks the same centres, alone or not
pub record IsSameDoor (old new : DoorView) : Type 0 where
  pub actor : new.actor ≡ old.actor
  pub centres : new.centres ≡ old.centres
  pub alone : new.alone ≡ old.alone

-- one ask of centre i through a door: its entry is the last that the door made there and the last that it knows
-- of there; entries of others may stand before it, where the door is not alone. No list grows to 2^62 entries.
pub record HasAsked (old new : DoorView) (i : ℕ) (entry : Entry) : Type 0 where
  pub same : IsSameDoor old new
  pub made : new.made i ≡ old.made i ++ entry ∷ []
  pub between : List Entry
  pub seen : new.seen i ≡ old.seen i ++ (between ++ entry ∷ [])
  pub alone : old.alone ≡ true → between ≡ []
  pub other_made : (j : ℕ) → j ≢ i → new.made j ≡ old.made j
  pub other_seen : (j : ℕ) → j ≢ i → new.seen j ≡ old.seen j
  pub short : (length (new.made i) < 2 ^ 62) × (length (new.seen i) < 2 ^ 62)

-- nothing was asked through the door
pub record HasNotAsked (old new : DoorView) : Type 0 where
  pub same : IsSameDoor old new
  pub made : (j : ℕ) → new.made j ≡ old.made j
  pub seen : (j : ℕ) → new.seen j ≡ old.seen j

-- a door after deeds of its actor: it made the entries of the deeds, and knows of them; where it is alone it knows
-- of no others behind those that it knew of
pub record HasDone (old new : DoorView) (deeds : List Deed) : Type 0 where
  pub same : IsSameDoor old new
  pub made : (i : ℕ) → new.made i ≡ old.made i ++ entries_made old.actor i deeds
  pub more : ℕ → List Entry
  pub seen : (i : ℕ) → new.seen i ≡ old.seen i ++ more i
  pub there : (i : ℕ) (entry : Entry) → In entry (entries_made old.actor i deeds) → In entry (more i)
  pub alone : old.alone ≡ true → (i : ℕ) → more i ≡ entries_made old.actor i deeds

-- a door may have been asked: what it knew of is the front of what it knows of now
pub record MayHaveAsked (old new : DoorView) : Type 0 where
  pub same : IsSameDoor old new
  pub more : ℕ → List Entry
  pub seen : (i : ℕ) → new.seen i ≡ old.seen i ++ more i
