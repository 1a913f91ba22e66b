use Rattle.std.proofs.Common.{arith}
use Rattle.journal_file.proofs.Protocol.{on_match_err}
use Rattle.pair_centre.proofs.One.{ran_one, answered_one}
use Rattle.pair_centre.proofs.pair_centre.PairCentre.ask.Goals as goal

pub returns-in_err-says-clause-moments : goal.returns-in_err-says-clause-moments
returns-in_err-says-clause-moments g c = λ h k trail unshut one two is.
    let m = c.in_err-says.ensures.moments in
    let r = m.1 h k trail unshut one two is in
    (ran_one c.args.self.now.centre.settings trail c.args.ask.now _ h k c.from_ref.result.now m.0 _ _ c.from_ref.ensures.value (λ l q. on_match_err _ _ _ c.from_residual.ensures.0 (λ _. q)) r.0, r.1)

pub returns-clause-moments : goal.returns-clause-moments
returns-clause-moments g c = λ h k trail unshut one two is.
    let s = c.args.self.now.centre.settings in
    let m = c.in_ok-says.ensures.moments in
    let r = m.1 h k trail unshut one two is in
    let asks_is = c.from_ref.ensures.value in
    let there = c.in_ok-says.ensures.some (omega (arith, c.from_ref.ensures.len)) in
    (ran_one s trail c.args.ask.now _ h k c.from_ref.result.now m.0 _ _ asks_is (λ l q. answered_one s trail c.args.ask.now _ l k c.from_ref.result.now m.0 c.in_ok-says.says.items c.only.result asks_is there c.only.ensures q) r.0, r.1)
