use Rattle.std.proofs.Common.{◌≡◌, List, refl, sym, ◌∙◌, subst}
use Rattle.journal_pair.proofs.Pairs.{on_if_ok, on_if_err}
use Rattle.journal_pair.proofs.Starting.{on_if_ok_both}
use Rattle.pair_centre.specs.Replays.{TakesItems, HasStopped}
use Rattle.pair_centre.proofs.Starting.{stands_for, are_taken, fault_of}
use Rattle.pair_centre.proofs.opening.recover.Goals as goal

pub returns-clause-settings : goal.returns-clause-settings
returns-clause-settings c = on_if_ok _ _ c.replay.result (λ centre same. same ∙ c.in-Ok.ensures.settings) c.replay.ensures.settings

pub returns-clause-stands : goal.returns-clause-stands
returns-clause-stands c =
    let first = c.in-Ok.centre in
    let s = c.args.settings in
    let checkpoint = c.args.checkpoint.items in
    on_if_ok_both _ _ _ c.replay.result (λ centre same takes. stands_for s checkpoint first c.in-Ok.ensures.settings c.in-Ok.ensures.stands centre c.args.behind.now (same ∙ c.in-Ok.ensures.settings)
    (subst (λ g. TakesItems g first centre c.args.behind.now) c.in-Ok.ensures.settings takes)) c.replay.ensures.settings c.replay.ensures.all

pub returns-clause-taken : goal.returns-clause-taken
returns-clause-taken c =
    let first = c.in-Ok.centre in
    let s = c.args.settings in
    let checkpoint = c.args.checkpoint.items in
    on_if_ok _ _ c.replay.result (λ centre takes. are_taken s checkpoint first c.in-Ok.ensures.settings c.in-Ok.ensures.stands centre c.args.behind.now c.in-Ok.ensures.start
    (subst (λ g. TakesItems g first centre c.args.behind.now) c.in-Ok.ensures.settings takes)) c.replay.ensures.all

pub returns-clause-fault : goal.returns-clause-fault
returns-clause-fault c =
    let first = c.in-Ok.centre in
    let s = c.args.settings in
    let checkpoint = c.args.checkpoint.items in
    on_if_err _ _ c.replay.result (λ why stopped. fault_of s checkpoint first c.in-Ok.ensures.settings c.in-Ok.ensures.stands why c.args.behind.now c.in-Ok.ensures.start
    (subst (λ g. HasStopped g first c.args.behind.now why) c.in-Ok.ensures.settings stopped)) c.replay.ensures.stopped
