use Rattle.std.proofs.Common.{refl}
use Rattle.top_call.proofs.Owing.{run_plays}
use Rattle.top_call.proofs.engine.played.Goals as goal

pub returns : goal.returns
returns c left asked = run_plays c.args.form left c.args.script _ c.requires.play asked refl refl c.requires.run c.in_ok-made.ensures refl
