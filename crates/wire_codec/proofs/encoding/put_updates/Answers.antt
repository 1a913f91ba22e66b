use Rattle.wire_codec.proofs.encoding.put_updates.Goals as goal

pub put_update-requires : goal.put_update-requires
put_update-requires c = rw c.update-item.is (c.requires c.loop-update.update-index _ c.loop-update-test.true).op
