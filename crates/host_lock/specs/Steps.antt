-- What each step of a lock tells the seat that makes it.
use Rattle.std.specs.Prelude.{◌≡◌, ◌≢◌, ℕ, ◌+◌, ◌^◌, ◌<◌, ◌≤◌, true, false, List, [], ◌∷◌, ◌++◌, length, Option, Some, None}
use Rattle.atomic_table.specs.Seated.{TableId}
use Rattle.atomic_table.specs.Table.{Me, Step, rest}
use Rattle.machine_trail.specs.declared.machine.Entry.{Entry}
use Rattle.machine_trail.specs.declared.machine.Kept.{Kept}
use Rattle.machine_trail.specs.History.{IsHistory, IsKept}
use Rattle.host_lock.specs.declared.law.SeatView.{SeatView}
use Rattle.host_lock.specs.Law.{Stands, calls_of}

-- three words and one slot
abbrev pub IsLockTable : TableId → Type 0
IsLockTable z = (z.words ≡ 3) × (z.slots ≡ 1)

-- what a seat knows, with the slots that it has in hand
abbrev pub SeatState : Type 0 → Type 0 → Type 0 → Type 0 → Type 0
SeatState A Y G M = Me (Option (Kept M A Y G)) (SeatView A Y G)

-- where a step is made
abbrev pub StepOf : Type 0 → Type 0 → Type 0 → Type 0 → Type 0
StepOf A Y G M = Step (Option (Kept M A Y G))

module _ {A Y G : Type 0} where
  -- one more number is drawn, and in hand
  abbrev pub with_new : SeatView A Y G → SeatView A Y G
  with_new v = record v { drawn = v.drawn + 1; hand = true }

  -- the seat has the turn
  abbrev pub at_turn : SeatView A Y G → SeatView A Y G
  at_turn v = record v { turns = true }

  -- the seat has it no more
  abbrev pub off_turn : SeatView A Y G → SeatView A Y G
  off_turn v = record v { turns = false }

  -- a try found the turn with the caller n
  abbrev pub finding : SeatView A Y G → ℕ → SeatView A Y G
  finding v n = record v { found = v.found ++ n ∷ [] }

  -- several tries found it with these
  abbrev pub found_more : SeatView A Y G → List ℕ → SeatView A Y G
  found_more v ns = record v { found = v.found ++ ns }

  -- the machine is in hand, which stands for these entries past the opening list
  abbrev pub holding : SeatView A Y G → List (Entry A Y) → SeatView A Y G
  holding v later = record v { out = true; base = later }

  -- it is back
  abbrev pub emptied : SeatView A Y G → SeatView A Y G
  emptied v = record v { out = false; base = [] }

  -- the history that the machine in hand stands for goes on with a call e of the seat's own: it has seen what is
  -- between its last call and this one
  abbrev pub grown : SeatView A Y G → List (Entry A Y) → Entry A Y → SeatView A Y G
  grown v between e = record v { base = v.base ++ e ∷ []; since = v.since ++ (between ++ e ∷ []); mine = v.mine ++ e ∷ [] }

  -- past the opening list the calls of this number are the old ones and e, and all that was seen is a history of the
  -- one-thread machine
  abbrev pub Grows : (G → List (Entry A Y) → A → Y → Type 0) → ℕ → Option G → List (Entry A Y) → List (Entry A Y) → List (Entry A Y) → List (Entry A Y) → Entry A Y → Type 0
  Grows reply number settings opening since mine between e =
      (calls_of number (since ++ (between ++ e ∷ [])) ≡ mine ++ e ∷ [])
      × ((s : G) × (settings ≡ Some s) × IsHistory (reply s) (opening ++ (since ++ (between ++ e ∷ []))))
      × (length (opening ++ (since ++ (between ++ e ∷ []))) < 2 ^ 62)

module _ {A Y G M : Type 0} where
  -- draw number
  abbrev pub drew : StepOf A Y G M → SeatState A Y G M → ℕ → SeatState A Y G M → Type 0
  drew s m n m' = m' ≡ (with_new m.0, m.1)

  -- take the turn: it was free, or another caller had it
  abbrev pub tried : StepOf A Y G M → SeatState A Y G M → ℕ → SeatState A Y G M → Type 0
  tried s m n m' = (n ≡ 0 → m' ≡ (at_turn m.0, m.1)) × (n ≢ 0 → (m' ≡ (finding m.0 n, m.1)) × (n ≤ 4096) × (n ≢ m.0.number))

  -- free the turn
  abbrev pub freed : StepOf A Y G M → SeatState A Y G M → ℕ → SeatState A Y G M → Type 0
  freed s m n m' = m' ≡ (off_turn m.0, m.1)

  -- swap in
  abbrev pub gave : StepOf A Y G M → SeatState A Y G M → ℕ → SeatState A Y G M → Type 0
  gave s m n m' = m' ≡ (emptied m.0, rest m.1)

  -- the trail in a slot
  abbrev pub trail_in : Option (Kept M A Y G) → List (Entry A Y)
  trail_in None = []
  trail_in (Some kept) = kept.trail.entries

  -- the trail of the machine that was taken last
  abbrev pub trail_of : List (ℕ × Option (Kept M A Y G)) → List (Entry A Y)
  trail_of [] = []
  trail_of (x ∷ xs) = trail_in x.1

module _ {A Y G M : Type 0} (reply : G → List (Entry A Y) → A → Y → Type 0) (stands : M → List (Entry A Y) → Type 0) (settings_of : M → G) where
  -- swap out: the machine was taken, which stands for the history
  abbrev pub took : StepOf A Y G M → SeatState A Y G M → ℕ → SeatState A Y G M → Type 0
  took s m n m' = (later : List (Entry A Y)) × (kept : Kept M A Y G) × (m' ≡ (holding m.0 later, (0, Some kept) ∷ m.1))
      × (m.0.settings ≡ Some (settings_of kept.machine)) × Stands reply stands settings_of (settings_of kept.machine) (m.0.opening ++ later) kept

  -- the machine is in hand, and the slot lent for it is empty
  abbrev pub HasSwappedOut : SeatView A Y G → Kept M A Y G → SeatState A Y G M → Type 0
  HasSwappedOut v kept m' = (later : List (Entry A Y)) × (m' ≡ (holding v later, (0, None) ∷ []))
      × (v.settings ≡ Some (settings_of kept.machine)) × Stands reply stands settings_of (settings_of kept.machine) (v.opening ++ later) kept

  -- the machine in the slot in hand stands for the history
  abbrev pub MaySwapIn : SeatState A Y G M → Type 0
  MaySwapIn m = (kept : Kept M A Y G) × (m.1 ≡ (0, Some kept) ∷ []) × (kept.trail.entries ≡ m.0.opening ++ m.0.base)
      × IsKept reply stands settings_of kept.machine (m.0.opening ++ m.0.base) × (m.0.settings ≡ Some (settings_of kept.machine))

module _ {A Y G M : Type 0} (reply : G → List (Entry A Y) → A → Y → Type 0) where
  -- the trail in hand is the history with an entry of this pass, which has the machine's reply
  abbrev pub MayNote : SeatState A Y G M → Type 0
  MayNote m = (e : Entry A Y) × (trail_of m.1 ≡ (m.0.opening ++ m.0.base) ++ e ∷ []) × (e.caller ≡ m.0.number)
      × ((settings : G) → m.0.settings ≡ Some settings → reply settings (m.0.opening ++ m.0.base) e.ask e.say)
      × (length (m.0.opening ++ m.0.base) + 1 < 2 ^ 62)

  -- the history goes on with the last entry of the trail in hand
  abbrev pub Noted : SeatState A Y G M → SeatState A Y G M → Type 0
  Noted m m' = (e : Entry A Y) × (between : List (Entry A Y))
      × (trail_of m.1 ≡ (m.0.opening ++ m.0.base) ++ e ∷ [])
      × (m' ≡ (grown m.0 between e, m.1))
      × Grows reply m.0.number m.0.settings m.0.opening m.0.since m.0.mine between e

  -- note
  abbrev pub noted : StepOf A Y G M → SeatState A Y G M → ℕ → SeatState A Y G M → Type 0
  noted s m n m' = Noted m m'
