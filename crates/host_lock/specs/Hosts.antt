-- What contracts see of a host and of its passes, what a call leaves, and what comes out at the end.
use Rattle.std.specs.Prelude.{◌≡◌, ◌≢◌, ◌⊎◌, ℕ, zero, suc, ◌+◌, ◌<◌, true, false, List, [], ◌∷◌, ◌++◌, Option, Some}
use mathlib.Core.List.{IsPrefix}
use Rattle.atomic_table.specs.Seated.{TableId}
use Rattle.machine_trail.specs.declared.machine.Entry.{Entry}
use Rattle.machine_trail.specs.History.{IsHistory, entry}
use Rattle.host_lock.specs.declared.law.SeatView.{SeatView}
use Rattle.host_lock.specs.declared.host.Tried.{Tried}
use Rattle.host_lock.specs.declared.host.Tried.TheVariants.{Done, Busy}
use Rattle.host_lock.specs.Law.{calls_of}
use Rattle.host_lock.specs.Steps.{SeatState, Grows}

-- a pass: its host's table, its number, the machine's settings, the opening list, what the pass has seen past that,
-- the calls made with it, and the numbers that its failed tries for the turn read
pub record PassView (A Y G : Type 0) : Type 0 where
  pub table : TableId
  pub number : ℕ
  pub settings : Option G
  pub opening : List (Entry A Y)
  pub since : List (Entry A Y)
  pub mine : List (Entry A Y)
  pub found : List ℕ

-- a host: its table, the machine's settings, the opening list, and how many passes it has
pub record HostView (A Y G : Type 0) : Type 0 where
  pub table : TableId
  pub settings : Option G
  pub opening : List (Entry A Y)
  pub callers : ℕ

module _ {A Y G : Type 0} where
  -- the prefix of the host's history that a pass has seen
  abbrev pub seen : PassView A Y G → List (Entry A Y)
  seen p = p.opening ++ p.since

  -- the pass whose seat knows this
  abbrev pub pass_view : TableId → SeatView A Y G → PassView A Y G
  pass_view z v = record { table = z; number = v.number; settings = v.settings; opening = v.opening; since = v.since; mine = v.mine; found = v.found }

  -- the host whose maker knows this
  abbrev pub host_view : TableId → SeatView A Y G → ℕ → HostView A Y G
  host_view z v n = record { table = z; settings = v.settings; opening = v.opening; callers = n }

  -- the seat of a pass between two calls
  abbrev pub IsIdle : SeatView A Y G → Type 0
  IsIdle v = (v.calls ≡ true) × (v.turns ≡ false) × (v.out ≡ false)

  -- nothing is in hand any more, and the turn is free
  abbrev pub rested : SeatView A Y G → SeatView A Y G
  rested v = record v { turns = false; out = false; base = [] }

  -- the same after a call e
  abbrev pub called : SeatView A Y G → List (Entry A Y) → Entry A Y → SeatView A Y G
  called v between e = record v { turns = false; out = false; base = []; since = v.since ++ (between ++ e ∷ []); mine = v.mine ++ e ∷ [] }

  -- what no call changes
  abbrev pub IsSamePass : PassView A Y G → PassView A Y G → Type 0
  IsSamePass p q = (q.table ≡ p.table) × (q.number ≡ p.number) × (q.settings ≡ p.settings) × (q.opening ≡ p.opening)

  -- a pass of this host
  abbrev pub IsOf : HostView A Y G → PassView A Y G → Type 0
  IsOf h p = (p.table ≡ h.table) × (p.settings ≡ h.settings) × (p.opening ≡ h.opening)

  -- a pass that has made no call, and seen the opening list alone
  abbrev pub fresh : HostView A Y G → ℕ → PassView A Y G
  fresh h n = record { table = h.table; number = n; settings = h.settings; opening = h.opening; since = []; mine = []; found = [] }

  -- the passes of a new host in order, numbered from 1
  abbrev pub fresh_passes : HostView A Y G → ℕ → List (PassView A Y G)
  fresh_passes h zero = []
  fresh_passes h (suc n) = fresh_passes h n ++ fresh h (suc n) ∷ []

  -- passes of this host, whose numbers go up by one from n
  abbrev pub InOrder : HostView A Y G → ℕ → List (PassView A Y G) → Type 0
  InOrder h n [] = Unit {0}
  InOrder h n (p ∷ ps) = (IsOf h p × (p.number ≡ n)) × InOrder h (n + 1) ps

  -- what a pass has seen begins the history past the opening list, and its calls are those of its number there
  abbrev pub Stood : List (Entry A Y) → PassView A Y G → Type 0
  Stood later p = IsPrefix p.since later × (calls_of p.number later ≡ p.mine)

  -- so it is of each pass
  abbrev pub AllStood : List (Entry A Y) → List (PassView A Y G) → Type 0
  AllStood later [] = Unit {0}
  AllStood later (p ∷ ps) = Stood later p × AllStood later ps

module _ {A Y G M : Type 0} where
  -- the turn was used for one call, and is free again
  abbrev pub HasWorked : (G → List (Entry A Y) → A → Y → Type 0) → SeatView A Y G → A → Y → SeatState A Y G M → Type 0
  HasWorked reply v ask say m' =
      (between : List (Entry A Y))
      × (m' ≡ (called v between (entry v.number ask say), []))
      × Grows reply v.number v.settings v.opening v.since v.mine between (entry v.number ask say)

module _ {A Y G : Type 0} (reply : G → List (Entry A Y) → A → Y → Type 0) where
  -- a call: what the pass has seen ends with its entry, which is the last of its calls. Tries for the turn may have
  -- failed before.
  abbrev pub HasCalled : PassView A Y G → A → Y → PassView A Y G → Type 0
  HasCalled p ask say q =
      (between : List (Entry A Y)) × (found : List ℕ)
      × (q ≡ record p { since = p.since ++ (between ++ entry p.number ask say ∷ []); mine = p.mine ++ entry p.number ask say ∷ []; found = p.found ++ found })
      × Grows reply p.number p.settings p.opening p.since p.mine between (entry p.number ask say)

  -- one try: a call, with which nothing was found, or the number of another caller that the turn word held
  abbrev pub HasTried : PassView A Y G → A → Tried Y → PassView A Y G → Type 0
  HasTried p ask (Done say) q =
      (between : List (Entry A Y))
      × (q ≡ record p { since = p.since ++ (between ++ entry p.number ask say ∷ []); mine = p.mine ++ entry p.number ask say ∷ [] })
      × Grows reply p.number p.settings p.opening p.since p.mine between (entry p.number ask say)
  HasTried p ask (Busy holder) q = (q ≡ record p { found = p.found ++ holder ∷ [] }) × (0 < holder) × (holder ≢ p.number)

  -- the whole history of a host with these passes: past the opening list each pass has its calls, and there are no
  -- others
  abbrev pub IsWhole : HostView A Y G → List (PassView A Y G) → List (Entry A Y) → Type 0
  IsWhole h ps log =
      (later : List (Entry A Y)) × (log ≡ h.opening ++ later) × AllStood later ps
      × ((n : ℕ) → (n ≡ 0) ⊎ (h.callers < n) → calls_of n later ≡ [])
      × ((s : G) × (h.settings ≡ Some s) × IsHistory (reply s) log)
