use Rattle.world_core.proofs.Books.{run_of}
use Rattle.world_core.proofs.sections.serial_with.Goals as goal

pub returns : goal.returns
returns g c = run_of c.args.script.now c.in_ok-play_all.field-0 c.finish.result c.in_ok-play_all.ensures.script c.in_ok-play_all.ensures.played c.finish.ensures.book
