use Rattle.std.proofs.Common.{◌≡◌, ◌++◌, ◌+◌, ◌∷◌, [], List, length, take, ap, ◌∙◌, arith}
use Rattle.std.specs.Prelude.{flat_map}
use Rattle.ids_core.specs.declared.ids.Dot.{Dot}
use Rattle.vv_core.specs.Vectors.{at, centres}
use Rattle.run_book.specs.Graphs.{own_dots}
use Rattle.run_book.specs.ReadBases.{in_order, stamped_at}
use Rattle.run_book.proofs.Bases.{own_dots_more}
use Rattle.run_book.proofs.ReadBases.{ordered_is}
use Rattle.run_book.proofs.read_bases.ordered_basis.Goals as goal

pub loop-before-preserved : goal.loop-before-preserved
loop-before-preserved c =
    let r = c.args.replay.now in
    let covered : List Dot = flat_map (λ e. take (at r.vector e) (stamped_at c.args.stamped.now e)) (centres (length r.vector)) in
    c.in_ok-push.ensures.items ∙ ap (λ l. l ++ record { client = r.client; number = c.loop-before.before + 1 } ∷ []) c.loop-before.invariant ∙ own_dots_more covered r.client c.loop-before.before

pub returns : goal.returns
returns c =
    let r = c.args.replay.now in
    let covered : List Dot = flat_map (λ e. take (at r.vector e) (stamped_at c.args.stamped.now e)) (centres (length r.vector)) in
    let all : c.loop-before.before ≡ r.own = omega arith in
    c.from_vec.ensures
    ∙ ordered_is c.loop-before.dots.items c.sort_once.new.dots.items c.sort_once.ensures.ascending c.sort_once.ensures.members
    ∙ ap in_order (c.loop-before.invariant ∙ ap (λ own. covered ++ own_dots r.client own) all)
