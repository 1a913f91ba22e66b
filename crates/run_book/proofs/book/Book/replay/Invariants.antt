use Rattle.std.proofs.Common.{◌≡◌, ◌-◌, ℕ, take}
use Rattle.dc_talk.specs.Rule.{client_after}
use Rattle.run_book.specs.Setups.{Setup}
use Rattle.run_book.specs.Parts.{log_of, IsClient}
use Rattle.run_book.specs.Fit.{FitsWith}
use Rattle.run_book.specs.Replay.{Shows}
use Rattle.run_book.proofs.book.Book.replay.Given as goal

abbrev pub invariant-loop-note : goal.invariant-loop-note
invariant-loop-note l = (a : ℕ) (setup : Setup) → FitsWith l.self setup → IsClient setup a → l.log ≡ log_of l.self a → Shows l.replay (client_after l.self.n (a - 1) setup.capacity (take l.note-index l.notes))
