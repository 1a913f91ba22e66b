use Rattle.std.proofs.lemmas.Result.{on_ok_weaker}
use Rattle.object_delta.proofs.Passing.{put_over}
use Rattle.object_delta.proofs.passed.put.Goals as goal

pub returns-in-Ok : goal.returns-in-Ok
returns-in-Ok c = put_over c.insert.result _ _ _ c.args.object.now c.args.passed c.make_room.ensures (on_ok_weaker c.insert.result (λ u. u.0) c.insert.ensures.updates) c.insert.ensures.err
