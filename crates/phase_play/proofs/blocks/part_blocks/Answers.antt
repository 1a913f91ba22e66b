use Rattle.std.proofs.Common.{◌≡◌, List, length, map, flat_map, sym, ap, ◌∙◌, map-id}
use Rattle.std.proofs.lemmas.Iterator.Adapters.{YieldsList-from_vec}
use Rattle.std.proofs.lemmas.Iterator.Consumers.{YieldsList-end}
use Rattle.phase_actors.specs.declared.clients.Block.{Block}
use Rattle.phase_play.proofs.Cutting.{in_blocks}
use Rattle.phase_play.proofs.Rows.{players_in, readers_of}
use Rattle.phase_play.proofs.blocks.part_blocks.Goals as goal

pub returns : goal.returns
returns c =
    let blocks : List Block = c.args.blocks.items in
    let given = c.into_iter-block-iterator.ensures.into_iter_gives in
    let end = YieldsList-end (YieldsList-from_vec {s = c.into_iter-block-iterator.result} blocks given.0 (let len = given.1 in let ok = c.args.blocks.ok in cc)) c.blocks-2.yielded c.blocks-2.block-iterator c.blocks-2.yielded_by c.next.result c.next.new.self c.in-None.is c.next.ensures.steps in
    let all : c.blocks-2.yielded ≡ blocks = sym (map-id c.blocks-2.yielded) ∙ end.0 in
    record {
      players_are = c.in_ok-join_blocks.ensures ∙ (ap in_blocks c.blocks-2.invariant.players_are ∙ (sym (players_in c.blocks-2.yielded) ∙ ap (flat_map (λ (block : Block). block.players.items)) all));
      rows_are = c.blocks-2.invariant.rows_are ∙ ap (map readers_of) all;
    }
