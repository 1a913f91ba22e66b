use Rattle.std.proofs.Common.{true≢false, sym}
use Rattle.wire_codec.proofs.Answering.{bytes_of, tags_ascend}
use Rattle.wire_codec.proofs.tags.tags_at.Goals as goal

pub unreachable-requires : goal.unreachable-requires
unreachable-requires c =
    let ascend = tags_ascend c.args.bytes.now c.in_ok-count.rest.now c.in_ok-list.rest.now c.in_ok-count.count c.in_ok-list.list.items (bytes_of c.args.bytes.now c.type_inv.bytes) c.in_ok-count.ensures.value c.in_ok-list.ensures in
    true≢false (sym (c.in-Err.ensures.exact.1 ascend))
