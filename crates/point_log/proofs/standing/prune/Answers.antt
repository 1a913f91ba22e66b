use Rattle.std.proofs.Common.{All, subst, sym, ◌∙◌}
use Rattle.std.proofs.lemmas.List.Elements.{All-filter, All-map}
use Rattle.check_point.specs.Points.{HasFewUpdates}
use Rattle.op_log.specs.declared.logged.Logged.{Logged}
use Rattle.op_log.specs.Logs.{is_inside, within_of}
use Rattle.point_log.proofs.StandingFor.{prune_stands}
use Rattle.point_log.proofs.standing.prune.Goals as goal

pub advance-requires-clause-updates : goal.advance-requires-clause-updates
advance-requires-clause-updates c = subst (λ txs. All HasFewUpdates txs) (sym (c.as_slice.ensures.value ∙ c.in_ok-txs.ensures)) (All-map HasFewUpdates (λ (x : Logged). x.tx) (within_of c.args.to.now c.args.log.now.items) (All-filter (is_inside c.args.to.now) (λ (x : Logged). HasFewUpdates x.tx) c.args.log.now.items c.requires.updates))

pub returns-clause-stand : goal.returns-clause-stand
returns-clause-stand c A s = prune_stands A _ _ _ _ c.args.to.now _ s c.requires.covers c.in_ok-advance.ensures.vector (c.as_slice.ensures.value ∙ c.in_ok-txs.ensures) c.in_ok-advance.ensures.more c.take_within.ensures.left
