-- The bytes of a disk that never fails.
use Rattle.std.specs.Prelude.{ℕ, List}
use Rattle.journal_disk.specs.declared.steady.SteadyDisk.{SteadyDisk}

-- the bytes of the file
abbrev pub steady_bytes : SteadyDisk → List ℕ
steady_bytes d = d.bytes.items
