use Rattle.std.proofs.Common.{◌≡◌, ◌+◌, ℕ, List, length, sym, ap, ◌∙◌, subst, arith}
use Rattle.std.specs.Prelude.{nat_le, All}
use Rattle.std.specs.List.{filter_map, range_with_len}
use Rattle.std.proofs.lemmas.List.Elements.{All-filter}
use Rattle.script_core.specs.declared.script.Script.{Script}
use Rattle.script_core.specs.Steps.{IsCount}
use Rattle.run_book.specs.Moves.{client_turn, turn_moves, most_steps}
use Rattle.world_core.specs.Worlds.{WorldView}
use Rattle.world_core.specs.Runs.{MakesMoves}
use Rattle.world_core.proofs.Making.{makes_none}
use Rattle.run_table.specs.Dealing.{line_of, IsDealt}
use Rattle.run_table.proofs.Lines.{most_few}
use Rattle.world_core.proofs.Phasing.{counted_then, all_count, left_same}
use Rattle.world_core.proofs.phases.play_phase.Goals as goal

pub overflow_cast-longest : goal.overflow_cast-longest
overflow_cast-longest c =
    let section = c.args.section.now in
    let clients = c.world.inside.script.now.clients in
    let most : c.longest.result ≡ most_steps clients section = c.longest.ensures clients section c.in_ok-dealt.ensures in
    omega (arith, most, most_few clients section, c.requires.phase.few)

pub turns-init : goal.turns-init
turns-init c =
    let a = c.args.world.now in
    let all : c.in_ok-left.left.items ≡ range_with_len 1 a.script.clients = subst (λ (w : WorldView). c.in_ok-left.left.items ≡ range_with_len 1 w.script.clients) c.world.view_is c.in_ok-left.ensures in
    record {
      makes = makes_none a;
      counts = subst (λ (left : List ℕ). All (IsCount a.script.clients) left) (sym all) (all_count a.script.clients);
      same = λ turn later. ap (λ (left : List ℕ). filter_map (client_turn c.args.number c.args.section.now turn) left) all;
    }

pub play_turn-requires-clause-clients : goal.play_turn-requires-clause-clients
play_turn-requires-clause-clients c =
    let a = c.args.world.now in
    let left = c.as_slice.result.now in
    let counts : All (IsCount a.script.clients) left = subst (λ (left : List ℕ). All (IsCount a.script.clients) left) (sym (c.as_slice.ensures.value ∙ c.leave_those_with.ensures)) (All-filter (λ client. nat_le (c.turns.before + 1) (length (line_of c.in_ok-dealt.dealt client))) (IsCount a.script.clients) c.turns.left.items c.turns.invariant.counts) in
    subst (λ (script : Script). All (IsCount script.clients) left) (sym c.turns.invariant.makes.script) counts

pub play_turn-requires-clause-those : goal.play_turn-requires-clause-those
play_turn-requires-clause-those c =
    let a = c.args.world.now in
    let dealt : IsDealt a.script.clients c.args.section.now.steps c.in_ok-dealt.dealt = subst (λ (w : WorldView). IsDealt w.script.clients c.args.section.now.steps c.in_ok-dealt.dealt) c.world.view_is c.in_ok-dealt.ensures in
    let turn = c.turns.before + 1 in
    let turns = client_turn c.args.number c.args.section.now turn in
    let left = c.as_slice.result.now in
    let same : filter_map turns left ≡ filter_map turns (range_with_len 1 a.script.clients) =
    ap (λ (left : List ℕ). filter_map turns left) (c.as_slice.ensures.value ∙ c.leave_those_with.ensures)
    ∙ (left_same a.script.clients c.args.section.now c.in_ok-dealt.dealt dealt c.args.number turn c.turns.left.items turn (omega arith) c.turns.invariant.counts
    ∙ c.turns.invariant.same turn (omega arith)) in
    subst (λ (script : Script). filter_map turns left ≡ filter_map turns (range_with_len 1 script.clients)) (sym c.turns.invariant.makes.script) same

pub turns-preserved : goal.turns-preserved
turns-preserved c =
    let a = c.args.world.now in
    let mid = c.turns.world in
    let turn = c.turns.before + 1 in
    let was = c.turns.invariant in
    let dealt : IsDealt a.script.clients c.args.section.now.steps c.in_ok-dealt.dealt = subst (λ (w : WorldView). IsDealt w.script.clients c.args.section.now.steps c.in_ok-dealt.dealt) c.world.view_is c.in_ok-dealt.ensures in
    record {
      makes = counted_then (turn_moves a.script c.args.number c.args.section.now) c.turns.before a mid c.play_turn.new.world was.makes
          (subst (λ (script : Script). MakesMoves (turn_moves script c.args.number c.args.section.now turn) mid c.play_turn.new.world) was.makes.script c.in_ok-play_turn.ensures);
      counts = subst (λ (left : List ℕ). All (IsCount a.script.clients) left) (sym c.leave_those_with.ensures) (All-filter (λ client. nat_le turn (length (line_of c.in_ok-dealt.dealt client))) (IsCount a.script.clients) c.turns.left.items was.counts);
      same = λ later behind.
          let turns = client_turn c.args.number c.args.section.now later in
          ap (λ (left : List ℕ). filter_map turns left) c.leave_those_with.ensures
          ∙ (left_same a.script.clients c.args.section.now c.in_ok-dealt.dealt dealt c.args.number turn c.turns.left.items later (omega (arith, behind)) was.counts
          ∙ was.same later (omega (arith, behind)));
    }
