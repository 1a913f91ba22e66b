-- The trails of a book that fits are histories.
use Rattle.run_book.specs.declared.book.Book.{Book}
use Rattle.run_book.specs.Setups.{Setup}
use Rattle.run_book.specs.Fit.{FitsWith}
use Rattle.trail_journal.specs.Journals.{HasHistories}

-- and the numbers of the setup are in range
pub fits_histories : (b : Book) (setup : Setup) → FitsWith b setup → HasHistories b setup.limit
fits_histories b setup fit = record {
  n = fit.form.n;
  k = fit.form.k;
  limit_range = fit.limit_range;
  trails = fit.form.trails;
  histories = fit.histories;
}
