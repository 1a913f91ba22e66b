use Rattle.std.proofs.lemmas.Result.{on_ok_weaker}
use Rattle.point_log.proofs.Serving.{put_over}
use Rattle.point_log.proofs.served.put.Goals as goal

pub returns : goal.returns
returns c = put_over c.insert.result _ _ _ c.args.object.now c.args.served c.make_room.ensures (on_ok_weaker c.insert.result (λ u. u.0) c.insert.ensures.updates) c.insert.ensures.err
