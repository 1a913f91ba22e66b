-- What the seats of a lock's table know, and the rule that holds between any two steps. The words of the table are
-- the length of the history, the turn, and how many numbers are drawn. `later` is the history past the opening list.
use Rattle.std.specs.Prelude.{◌≡◌, ◌≢◌, ℕ, ◌==◌, ◌+◌, ◌^◌, ◌<◌, ◌≤◌, Bool, true, false, List, [], ◌∷◌, ◌++◌, length, filter, if◌then◌else◌, Option, Some, None}
use mathlib.Core.Option.{some, none}
use mathlib.Core.Option as maybe
use mathlib.Core.List.{IsPrefix}
use lib.ListN.{get_elem?}
use Rattle.atomic_table.specs.Table.{State}
use Rattle.machine_trail.specs.declared.machine.Entry.{Entry}
use Rattle.machine_trail.specs.declared.machine.Kept.{Kept}
use Rattle.machine_trail.specs.History.{IsHistory, IsKept}
use Rattle.host_lock.specs.declared.law.SeatView.{SeatView}
use Rattle.host_lock.specs.declared.law.SpentPass.{SpentPass}

-- another number than this one, that is drawn
abbrev pub IsOther : ℕ → ℕ → ℕ → Type 0
IsOther drawn number n = (0 < n) × (n ≤ drawn) × (n ≢ number)

module _ {A Y : Type 0} where
  -- the calls of one caller among entries
  abbrev pub calls_of : ℕ → List (Entry A Y) → List (Entry A Y)
  calls_of n entries = filter (λ e. e.caller == n) entries

  -- a pass that a join spent: its number is owned as that of such a pass, and what it knew holds still
  abbrev pub WasSpent : (ℕ → ℕ) → List (Entry A Y) → SpentPass A Y → Type 0
  WasSpent owner later p = (owner p.number ≡ 1) × IsPrefix p.since later × (calls_of p.number later ≡ p.mine)

module _ {A Y G : Type 0} where
  -- the first seat, which draws the numbers
  abbrev pub maker : Option G → List (Entry A Y) → ℕ → SeatView A Y G
  maker settings opening most = record { makes = true; most = most; calls = false; turns = false; out = false; number = 0; drawn = 0; hand = false; settings = settings; opening = opening; since = []; mine = []; found = []; base = []; past = [] }

  -- a seat that a join spent
  abbrev pub spent_seat : SeatView A Y G
  spent_seat = record { makes = false; most = 0; calls = false; turns = false; out = false; number = 0; drawn = 0; hand = false; settings = None; opening = []; since = []; mine = []; found = []; base = []; past = [] }

  -- the seat of a new pass, which gets the number in the maker's hand
  abbrev pub newcomer : SeatView A Y G → SeatView A Y G
  newcomer v = record { makes = false; most = 0; calls = true; turns = false; out = false; number = v.drawn; drawn = 0; hand = false; settings = v.settings; opening = v.opening; since = []; mine = []; found = []; base = []; past = [] }

  -- the maker, whose number in hand went to a new pass
  abbrev pub handed : SeatView A Y G → SeatView A Y G
  handed v = record v { hand = false }

  -- what is kept of a pass that is spent
  abbrev pub spent_of : SeatView A Y G → SpentPass A Y
  spent_of w = record { number = w.number; since = w.since; mine = w.mine }

  -- a pass with what the one that it takes in knew
  abbrev pub joined : SeatView A Y G → SeatView A Y G → SeatView A Y G
  joined v w = record v { past = v.past ++ spent_of w ∷ [] }

  -- what the rule says of one seat, where `who` has the turn, and `away` tells whether the machine is out of its slot
  pub record Fits (settings : G) (opening later : List (Entry A Y)) (most turn drawn who : ℕ) (away : Bool) (owner : ℕ → ℕ) (id : ℕ) (v : SeatView A Y G) : Type 0 where
    pub draws : v.makes ≡ true → (id ≡ 0) × (v.drawn ≡ drawn) × (v.settings ≡ Some settings) × (v.opening ≡ opening) × (v.most ≡ most)
    pub in_hand : v.makes ≡ true → v.hand ≡ true → (owner drawn ≡ 0) × (0 < drawn)
    pub pasts : v.calls ≡ true → (k : ℕ) (p : SpentPass A Y) → get_elem? v.past k ≡ some p → WasSpent owner later p
    pub owns : v.calls ≡ true → (owner v.number ≡ id + 2) × (v.settings ≡ Some settings) × (v.opening ≡ opening)
    pub knows : v.calls ≡ true → IsPrefix v.since later × (calls_of v.number later ≡ v.mine)
    pub finds : v.calls ≡ true → (k n : ℕ) → get_elem? v.found k ≡ some n → IsOther drawn v.number n
    pub has_turn : v.turns ≡ true → (v.calls ≡ true) × (id ≡ who) × (v.number ≡ turn)
    pub has_out : v.out ≡ true → (v.turns ≡ true) × (away ≡ true) × (v.base ≡ later)

module _ {A Y G M : Type 0} where
  -- the slot, empty while the machine is away
  abbrev pub homed : Bool → Kept M A Y G → List (maybe.Option (Option (Kept M A Y G)))
  homed away kept = (if away then none else some (Some kept)) ∷ []

module _ {A Y G M : Type 0} (reply : G → List (Entry A Y) → A → Y → Type 0) (stands : M → List (Entry A Y) → Type 0) (settings_of : M → G) where
  -- a machine with its trail, which is this log, a history for which the machine stands
  pub record Stands (settings : G) (log : List (Entry A Y)) (kept : Kept M A Y G) : Type 0 where
    pub trail : kept.trail.entries ≡ log
    pub machine : IsKept reply stands settings_of kept.machine log
    pub same : settings_of kept.machine ≡ settings

  -- The rule. Who has the number n is `owner n`: 0 nobody yet, 1 a pass that was spent, and id + 2 the seat id.
  pub record Holds (settings : G) (opening : List (Entry A Y)) (callers : ℕ) (s : State (Option (Kept M A Y G)) (SeatView A Y G)) : Type 0 where
    pub later : List (Entry A Y)
    pub turn : ℕ
    pub drawn : ℕ
    pub owner : ℕ → ℕ
    pub who : ℕ
    pub away : Bool
    pub kept : Kept M A Y G
    pub words : s.words ≡ length (opening ++ later) ∷ turn ∷ drawn ∷ []
    pub homes : s.homes ≡ homed away kept
    pub history : IsHistory (reply settings) (opening ++ later)
    pub short : length (opening ++ later) < 2 ^ 62
    pub few : drawn ≤ callers
    pub limit : callers ≤ 4096
    pub fresh : (n : ℕ) → drawn < n → owner n ≡ 0
    pub zeroth : owner 0 ≡ 0
    pub unowned : (n : ℕ) → owner n ≡ 0 → calls_of n later ≡ []
    pub seats : (id : ℕ) (v : SeatView A Y G) → get_elem? s.views id ≡ some v → Fits settings opening later callers turn drawn who away owner id v
    pub held : turn ≢ 0 → (v : SeatView A Y G) × (get_elem? s.views who ≡ some v) × ((v.turns ≡ true) × (v.out ≡ away))
    pub idle : turn ≡ 0 → away ≡ false
    pub home : away ≡ false → Stands settings (opening ++ later) kept
