use Rattle.run_book.specs.Setups.{setup_of}
use Rattle.trail_journal.proofs.Histories.{fits_histories}
use Rattle.top_call.proofs.engine.made_by.Goals as goal

pub journals_of-requires : goal.journals_of-requires
journals_of-requires c = fits_histories c.args.book.now (setup_of c.args.script.now) c.requires.fits
