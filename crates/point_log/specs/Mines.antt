-- Numbers of clients' transactions that were told, each within a vector, kept so that they are not looked for again.
use Rattle.std.specs.Prelude.{◌≡◌, ◌⊎◌, ℕ, List, Option, Some, IfSome}
use Rattle.std.specs.Map.{lookup}
use Rattle.std.specs.BTreeMap.{is_at}
use Rattle.std.specs.Ordering.{nat_cmp}
use Rattle.vv_core.specs.Vectors.{Covers}
use Rattle.op_log.specs.Logs.{LogView}
use Rattle.check_point.specs.Points.{PointView}
use Rattle.point_log.specs.declared.mines.Mine.{Mine}
use Rattle.point_log.specs.StandFor.{mine_told}

-- the number is that of the client within its vector
abbrev pub IsMine : PointView → LogView → ℕ → Mine → Type 0
IsMine point kept client m = m.number ≡ mine_told point kept client m.at

-- clients with a number each
abbrev pub MineEntries : Type 0
MineEntries = List (ℕ × Mine)

-- what is kept of a client
abbrev pub mine_of : MineEntries → ℕ → Option Mine
mine_of entries client = lookup (is_at (nat_cmp client)) entries

-- what is kept of each client is its number, and no vector passes the counts
pub record AreMines (counts : List ℕ) (point : PointView) (kept : LogView) (entries : MineEntries) : Type 0 where
  pub numbers : (client : ℕ) → IfSome (mine_of entries client) (IsMine point kept client)
  pub here : (client : ℕ) → IfSome (mine_of entries client) (λ m. Covers counts m.at)

-- of each client what was put there is kept, or what was kept before
abbrev pub IsMinePut : MineEntries → MineEntries → ℕ → Mine → Type 0
IsMinePut old new client m = (c : ℕ) → ((c ≡ client) × (mine_of new c ≡ Some m)) ⊎ (mine_of new c ≡ mine_of old c)
