use Rattle.std.proofs.Common.{List, map, ap, sym, ◌∙◌}
use Rattle.std.proofs.lemmas.List.{map-id}
use Rattle.std.proofs.lemmas.Iterator.Adapters.{YieldsList-from_vec}
use Rattle.std.proofs.lemmas.Iterator.Consumers.{YieldsList-end}
use Rattle.dc_door.specs.Centres.{CentreTrail, KeptCentre, all_seen}
use Rattle.run_table.proofs.trails.trails_of.Goals as goal

pub returns : goal.returns
returns c =
    let given = c.into_iter-one-iterator.ensures.into_iter_gives in
    let t = YieldsList-end (YieldsList-from_vec {s = c.into_iter-one-iterator.result} c.args.kept.items given.0 (let len = given.1 in let ok = c.args.kept.ok in cc)) c.kept.yielded c.kept.one-iterator c.kept.yielded_by c.next.result c.next.new.self c.in-None.is c.next.ensures.steps in
    c.kept.invariant ∙ ap (λ (kept : List KeptCentre). map (λ (centre : CentreTrail). centre.entries) (all_seen kept)) (sym (map-id c.kept.yielded) ∙ t.0)
