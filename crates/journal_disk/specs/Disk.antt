-- What the calls of a disk do to its file, and what a crash may do between two syncs.
use Rattle.std.specs.Prelude.{◌≡◌, ◌<◌, ◌≤◌, ◌⊎◌, ◌^◌, ◌-◌, ◌&&◌, ℕ, ◌+◌, min, max, Bool, true, false, cond, List, [], ◌∷◌, ◌++◌, length, take, drop, Result, IsErrOf, MatchResult}
use Rattle.journal_disk.specs.declared.disk.DiskFault.{DiskFault}
use Rattle.journal_disk.specs.declared.disk.DiskFault.TheVariants.{Failed, NoMemory}
use Rattle.journal_disk.specs.declared.disk.Step.{Step}
use Rattle.journal_disk.specs.declared.disk.Step.TheVariants.{Wrote, Cut, Settled, Unsettled}
use Rattle.journal_disk.specs.declared.disk.Moment.{Moment}

-- a call, and what a read gives after it
abbrev pub moment : Step → List ℕ → Moment
moment step file = record { step = step; seen = file }

-- what a read gives after these calls, of which the newest comes first; a file begins empty
abbrev pub seen : List Moment → List ℕ
seen [] = []
seen (m ∷ h) = m.seen

-- new is old with these bytes at this offset
abbrev pub Holds : List ℕ → ℕ → List ℕ → List ℕ → Type 0
Holds old at bytes new = new ≡ take at old ++ bytes ++ drop (at + length bytes) old

-- new is the front of old of this length
abbrev pub Shortens : ℕ → List ℕ → List ℕ → Type 0
Shortens to old new = new ≡ take to old

-- the first n of these are the bytes of the file from an offset on; n is 0 only where the file ends there, or there is
-- room for none
abbrev pub IsPart : List ℕ → ℕ → ℕ → List ℕ → Type 0
IsPart file at n into = (take n into ≡ take n (drop at file)) × (n ≡ 0 → 0 < length into → length file ≤ at)

-- what a write of n bytes that a crash cuts short may leave: any bytes in the range and past the old end, the same
-- elsewhere, and any size between
pub record Torn (at n : ℕ) (old new : List ℕ) : Type 0 where
  pub front : take (min at (length old)) new ≡ take at old
  pub back : take (length old - (at + n)) (drop (at + n) new) ≡ drop (at + n) old
  pub no_shorter : length old ≤ length new
  pub no_longer : length new ≤ max (length old) (at + n)

-- what a cut that a crash cuts short may leave: some length between, the same below both
pub record Between (to : ℕ) (old new : List ℕ) : Type 0 where
  pub front : take (min to (length old)) new ≡ take to old
  pub no_longer : length new ≤ max (length old) to

-- what a crash may leave after a step, from what one before it may have left
abbrev pub after_step : Step → List ℕ → (List ℕ → Type 0) → List ℕ → Type 0
after_step (Wrote at n) file before c = (d : List ℕ) × ((before d) × (Torn at n d c))
after_step (Cut to) file before c = (d : List ℕ) × ((before d) × (Between to d c))
after_step Settled file before c = c ≡ file
after_step Unsettled file before c = before c

-- what a crash at the end of these calls may leave
abbrev pub MayLeave : List Moment → List ℕ → Type 0
MayLeave [] c = c ≡ []
MayLeave (m ∷ h) c = after_step m.step m.seen (MayLeave h) c

-- no sync that failed, or that came after one
abbrev pub keeps_sound : Step → Bool
keeps_sound Unsettled = false
keeps_sound _ = true

-- no sync has failed
abbrev pub is_sound : List Moment → Bool
is_sound [] = true
is_sound (m ∷ h) = keeps_sound m.step && is_sound h

-- what a sync was, from whether it answered Ok and whether none before it failed
abbrev pub synced : Bool → Bool → Step
synced ok sound = cond (ok && sound) Settled Unsettled

-- what a call makes of a history: one step more, and what a read then gives; where it failed, maybe nothing
abbrev pub Goes : {T E : Type 0} → (List Moment → Type 0) → Step → Result T E → List Moment → (List ℕ → Type 0) → Type 0
Goes stands step result h good = MatchResult result
    (λ _. (file : List ℕ) × ((stands (moment step file ∷ h)) × (good file)))
    (λ _. (stands h) ⊎ ((file : List ℕ) × (stands (moment step file ∷ h))))

-- a count rose, or stands at the last number of 64 bits
abbrev pub HasRisen : ℕ → ℕ → Type 0
HasRisen before now = (before < now) ⊎ (2 ^ 64 - 1 ≤ now)

-- neither count falls, and each answer of a fault has made its own count rise
pub record HasCause {T : Type 0} (faults later_faults shortages later_shortages : ℕ) (result : Result T DiskFault) : Type 0 where
  pub faults_stay : faults ≤ later_faults
  pub shortages_stay : shortages ≤ later_shortages
  pub failed : IsErrOf result Failed → HasRisen faults later_faults
  pub short : IsErrOf result NoMemory → HasRisen shortages later_shortages

-- at each moment of the later calls, and before them, a crash leaves what has P
abbrev pub Always : (List ℕ → Type 0) → List Moment → List Moment → Type 0
Always P [] h = (c : List ℕ) → MayLeave h c → P c
Always P (m ∷ later) h = ((c : List ℕ) → MayLeave (m ∷ (later ++ h)) c → P c) × Always P later h

-- a crash now leaves what a read gives, and no sync has failed
pub record IsSettled (h : List Moment) : Type 0 where
  pub only : (c : List ℕ) → MayLeave h c → c ≡ seen h
  pub sound : is_sound h ≡ true

-- the history goes on by some calls: at each moment of them a crash leaves what has P, and Q holds at their end
pub record Ran (stands : List Moment → Type 0) (h : List Moment) (P : List ℕ → Type 0) (Q : List Moment → Type 0) : Type 0 where
  pub later : List Moment
  pub stands_for : stands (later ++ h)
  pub always : Always P later h
  pub ends : Q (later ++ h)
