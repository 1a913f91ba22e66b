-- A call that was noted.
use Rattle.std.proofs.Common.{◌≡◌, inr, ℕ, cond, List, ◌∷◌, Result, Ok, Err, is_ok, sym}
use Rattle.journal_disk.specs.declared.disk.Step.{Step}
use Rattle.journal_disk.specs.declared.disk.Moment.{Moment}
use Rattle.journal_disk.specs.Disk.{moment, Goes}

pub goes : {T E : Type 0} (past : List Moment) (step : Step) (r : Result T E) (h : List Moment) (Good : List ℕ → Type 0) (did left : List ℕ) → past ≡ moment step (cond (is_ok r) did left) ∷ h → Good did → Goes (λ (l : List Moment). l ≡ past) step r h Good
goes past step (Ok x) h Good did left is good = (did, (sym is, good))
goes past step (Err e) h Good did left is good = inr (left, sym is)
