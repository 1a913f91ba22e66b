-- Lists of entries, and which of them are a history of a one-thread machine.
use Rattle.std.specs.Prelude.{◌≡◌, ℕ, List}
use Rattle.list_core.specs.Moments.{Each}
use Rattle.machine_trail.specs.declared.machine.Entry.{Entry}

-- what contracts see of a trail: its entries, and for how many more there is room
pub record TrailView (A Y : Type 0) : Type 0 where
  pub entries : List (Entry A Y)
  pub spare : ℕ

module _ {A Y : Type 0} where
  -- an ask of a caller, with its reply
  abbrev pub entry : ℕ → A → Y → Entry A Y
  entry caller ask say = record { caller = caller; ask = ask; say = say }

  -- each reply is the machine's, over the entries before it
  abbrev pub IsHistory : (List (Entry A Y) → A → Y → Type 0) → List (Entry A Y) → Type 0
  IsHistory reply log = Each (λ before e. reply before e.ask e.say) log

-- the machine stands for the entries, and they are a history under its settings
pub record IsKept {M A Y G : Type 0} (reply : G → List (Entry A Y) → A → Y → Type 0) (stands : M → List (Entry A Y) → Type 0) (settings : M → G) (machine : M) (log : List (Entry A Y)) : Type 0 where
  pub stands_for : stands machine log
  pub history : IsHistory (reply (settings machine)) log
