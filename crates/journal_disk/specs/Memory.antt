-- What a disk in memory stands for, and what a call leaves of an image.
use Rattle.std.specs.Prelude.{◌≡◌, ℕ, List, reverse}
use Rattle.journal_disk.specs.declared.disk.Moment.{Moment}
use Rattle.journal_disk.specs.declared.memory.MemoryDisk.{MemoryDisk}
use Rattle.journal_disk.specs.Disk.{seen, is_sound, after_step}

-- its calls, the oldest first
abbrev pub moments_of : MemoryDisk → List Moment
moments_of d = d.moments.items

-- it stands for its own calls, which end at what it holds, and tells whether no sync has failed
abbrev pub memory_stands : MemoryDisk → List Moment → Type 0
memory_stands d h = (h ≡ reverse d.moments.items) × (seen h ≡ d.bytes.items) × (d.sound ≡ is_sound h)

-- a crash after this call may leave new, where one before it may have left old
abbrev pub AfterStep : Moment → List ℕ → List ℕ → Type 0
AfterStep m old new = after_step m.step m.seen (λ c. c ≡ old) new
