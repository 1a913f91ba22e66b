use Rattle.std.proofs.Common.{◌≡◌, [], true, length, refl, sym, ◌∙◌, ◌++◌}
use Rattle.std.proofs.lemmas.Bool.{eqb-true}
use Rattle.std.proofs.lemmas.List.{nil_from_length}
use Rattle.trail_pair.proofs.Groups.{asked_none, asked_more, asked_all, small_all}
use Rattle.trail_pair.proofs.asking.ask_trail.Goals as goal

pub groups-init : goal.groups-init
groups-init g c =
    let small = c.in_ok-keep_small.ensures in
    asked_none g.D.Disk.stands c.args.pair.now c.keep_small.new.pair c.args.trail.now small.numbers (small.open (refl {a = true})) small.stands small.small

pub groups-preserved : goal.groups-preserved
groups-preserved g c =
    let asked = c.in_ok-ask_group.ensures in
    let small = c.in_ok-keep_small-2.ensures in
    asked_more g.D.Disk.stands c.args.pair.now c.groups.pair c.keep_small-in-groups.new.pair c.args.trail.now c.groups.rest.now c.split_at.result.0.now c.split_at.result.1.now
    c.groups.invariant c.split_at.ensures.by_index.0 (small.numbers ∙ asked.numbers) (small.open (refl {a = true})) (λ front has history. small.stands (front ++ c.split_at.result.0.now) (asked.stands front has history))
    (λ front has history. small.small (front ++ c.split_at.result.0.now) (asked.stands front has history))

pub returns-clause-stands : goal.returns-clause-stands
returns-clause-stands g c =
    let none : c.groups.rest.now ≡ [] = nil_from_length c.groups.rest.now (eqb-true (length c.groups.rest.now) 0 (sym c.is_empty.ensures ∙ c.groups-test.false)) in
    asked_all g.D.Disk.stands c.args.pair.now c.groups.pair c.args.trail.now c.groups.rest.now c.groups.invariant none

pub returns-clause-small : goal.returns-clause-small
returns-clause-small g c =
    let none : c.groups.rest.now ≡ [] = nil_from_length c.groups.rest.now (eqb-true (length c.groups.rest.now) 0 (sym c.is_empty.ensures ∙ c.groups-test.false)) in
    small_all g.D.Disk.stands c.args.pair.now c.groups.pair c.args.trail.now c.groups.rest.now c.groups.invariant none
