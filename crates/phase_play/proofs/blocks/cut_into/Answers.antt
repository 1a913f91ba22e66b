use Rattle.std.proofs.Common.{◌≡◌, ◌≤◌, length, flat_map, ◌+◌, ◌/◌, ◌%◌, List, [], ◌∷◌, ◌++◌}
use Rattle.std.proofs.Common.{sym, ap, subst, arith}
use Rattle.std.specs.Prelude.{All}
use Rattle.std.specs.Global.{Vec}
use Rattle.std.proofs.lemmas.List.Elements.{All-nil, All-cons, All-append}
use Rattle.phase_actors.specs.declared.clients.Player.{Player}
use Rattle.phase_play.proofs.Cutting.{block_more, some_in_block, block_off}
use Rattle.phase_play.proofs.blocks.cut_into.Goals as goal

-- src/blocks.rt:21:5
pub blocks-2-preserved : goal.blocks-2-preserved
blocks-2-preserved c =
    let old = c.blocks-2.invariant in
    let off = block_off c.args.count c.blocks-2.place (c.len.result / c.args.count) (c.len-2.result % c.args.count) (length c.blocks-2.rest.items) c.blocks-2-test.true old.left in
    let cut = c.in_ok-later.ensures in
    let put = c.in_ok-push.ensures in
    record {
      all = subst (λ (blocks : List (Vec Player)). flat_map (λ (block : Vec Player). block.items) blocks ++ c.in_ok-later.later.items ≡ c.args.players.items) (sym put.items) (block_more c.blocks-2.blocks.items c.split_off.new.self (c.len.result / c.args.count + c.min.result) c.blocks-2.rest.items c.in_ok-later.later.items c.args.players.items cut.items cut.tail old.all);
      number = omega (arith, ap length put.items, old.number);
      each =
          let P : Vec Player → Type 0 = λ (block : Vec Player). (c.len.result / c.args.count ≤ length block.items) × (length block.items ≤ c.len.result / c.args.count + 1) in
          subst (All P) (sym put.items) (All-append P c.blocks-2.blocks.items (c.split_off.new.self ∷ []) old.each (All-cons P c.split_off.new.self [] (omega (arith, cut.len, c.min.ensures), omega (arith, cut.len, c.min.ensures)) (All-nil P)));
      left = omega (arith, cut.tail_len, off.0, off.1, c.min.ensures, c.saturating_sub.ensures);
    }

-- src/blocks.rt:10:1
pub returns-clause-even : goal.returns-clause-even
returns-clause-even c = record {
  size = c.len.result / c.args.count;
  some = some_in_block c.len.result c.args.count c.requires.some (omega (arith, c.requires.enough, c.len.ensures));
  each = c.blocks-2.invariant.each;
}
