use Rattle.run_book.proofs.Happenings.Fits.{fits}
use Rattle.run_book.proofs.Happenings.Timely.{timely}
use Rattle.run_book.proofs.Happenings.Playing.{scripted}
use Rattle.run_book.proofs.Happenings.Trimming.{trims_in_time}
use Rattle.run_book.proofs.laws.law_together.Goals as goal

pub returns-clause-fits : goal.returns-clause-fits
returns-clause-fits c = fits

pub returns-clause-timely : goal.returns-clause-timely
returns-clause-timely c = timely

pub returns-clause-trims : goal.returns-clause-trims
returns-clause-trims c = trims_in_time

pub returns-clause-steps : goal.returns-clause-steps
returns-clause-steps c = scripted
