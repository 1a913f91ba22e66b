-- The calls on a file of the operating system with their answers, and what history and what premise they make.
use Rattle.std.specs.Prelude.{◌≡◌, ◌<◌, ◌≤◌, ℕ, zero, suc, ◌+◌, ◌==◌, Bool, true, cond, List, [], ◌∷◌, ◌++◌, length, take, drop, slice_index}
use Rattle.journal_disk.specs.declared.disk.Moment.{Moment}
use Rattle.journal_disk.specs.declared.disk.Step.TheVariants.{Wrote, Cut, Settled}
use Rattle.journal_disk.specs.Disk.{seen, moment, is_sound, synced}

-- A call with its answer: which call, an offset or a length, a count, whether it succeeded, and bytes.
abbrev pub Event : Type 0
Event = ℕ × ℕ × ℕ × Bool × List ℕ

abbrev pub event_of : List ℕ → List ℕ → Event
event_of numbers bytes = (slice_index numbers 0, slice_index numbers 1, slice_index numbers 2, slice_index numbers 3 == 1, bytes)

-- a file with these bytes over what was there
abbrev pub overlay : List ℕ → ℕ → List ℕ → List ℕ
overlay file at bytes = take at file ++ bytes ++ drop (at + length bytes) file

-- one call more: 0 found these bytes, 1 wrote, 2 cut, 3 synced; a read leaves no trace
abbrev pub past : ℕ → ℕ → Bool → List ℕ → List Moment → List Moment
past zero at ok bytes h = moment Settled bytes ∷ h
past (suc zero) at ok bytes h = moment (Wrote at (length bytes)) (cond ok (overlay (seen h) at bytes) (seen h)) ∷ h
past (suc (suc zero)) at ok bytes h = moment (Cut at) (cond ok (take at (seen h)) (seen h)) ∷ h
past (suc (suc (suc zero))) at ok bytes h = moment (synced ok (is_sound h)) (seen h) ∷ h
past (suc (suc (suc (suc more)))) at ok bytes h = h

-- the history of these calls, of which the newest comes first
abbrev pub history : List Event → List Moment
history [] = []
history (e ∷ earlier) = past e.0 e.1 e.3 e.4 (history earlier)

-- what a read gave stood there
abbrev pub told : ℕ → ℕ → ℕ → Bool → List ℕ → List ℕ → Type 0
told (suc (suc (suc (suc zero)))) at room ok bytes file = ok ≡ true → (bytes ≡ take (length bytes) (drop at file)) × (length bytes ≡ 0 → 0 < room → length file ≤ at)
told _ at room ok bytes file = Unit {0}

-- each read gave what stood there
abbrev pub is_honest : List Event → Type 0
is_honest [] = Unit {0}
is_honest (e ∷ earlier) = is_honest earlier × told e.0 e.1 e.2 e.3 e.4 (seen (history earlier))
