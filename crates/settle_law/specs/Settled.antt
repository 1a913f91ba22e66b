-- When all running centres have applied the same records.
use Rattle.std.specs.Prelude.{◌≡◌, ◌≤◌, ℕ, false, List}
use Rattle.list_core.specs.Members.{In}
use Rattle.tx_core.specs.declared.tx.Record.{Record}
use Rattle.dc_talk.specs.Records.{vector}
use Rattle.dc_talk.specs.Trails.{applied, stopped}
use Rattle.run_book.specs.Happenings.{Happened, trail_in}

-- the records that centre i among n has applied after what happened
abbrev pub applied_in : ℕ → ℕ → List Happened → List Record
applied_in n i all = applied n (trail_in i all)

-- centre i is one of n and is not stopped after what happened
pub record IsRunning (n i : ℕ) (all : List Happened) : Type 0 where
  pub range : (1 ≤ i) × (i ≤ n)
  pub runs : stopped (trail_in i all) ≡ false

-- all running centres among n have applied the same records, and so have the same vector
pub record AreSettled (n : ℕ) (all : List Happened) : Type 0 where
  pub records : (i j : ℕ) (item : Record) → IsRunning n i all → IsRunning n j all → In item (applied_in n i all) → In item (applied_in n j all)
  pub vectors : (i j : ℕ) → IsRunning n i all → IsRunning n j all → vector n (applied_in n i all) ≡ vector n (applied_in n j all)
