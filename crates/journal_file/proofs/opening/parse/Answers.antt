use Rattle.std.proofs.Common.{◌≡◌, ◌+◌, ◌-◌, ◌∷◌, [], ◌++◌, length, take, drop, IfSome, sym, subst, ◌∙◌}
use Rattle.std.proofs.lemmas.List.{take_rest}
use Rattle.journal_file.specs.Journal.{IsBadAt}
use Rattle.journal_file.proofs.Parsing.{IsRead, ends_bad, ends_at, ends_only, none_bad, none_place, end_place, grows}
use Rattle.journal_file.proofs.opening.parse.Goals as goal

pub returns-then-bytes-at-eq0-clause-ends : goal.returns-then-bytes-at-eq0-clause-ends
returns-then-bytes-at-eq0-clause-ends g c =
    ends_at g.T.Item.spelled c.args.bytes.now c.loop-at.at c.loop-at.items.items c.loop-at.invariant c.loop-at-test.true c.if-bytes-at-eq0.true

pub returns-then-bytes-at-eq0-clause-only : goal.returns-then-bytes-at-eq0-clause-only
returns-then-bytes-at-eq0-clause-only g c =
    ends_only g.T.Item.spelled c.args.bytes.now c.loop-at.at c.loop-at.items.items c.loop-at.invariant c.loop-at-test.true c.if-bytes-at-eq0.true

pub returns-in-None-clause-bad : goal.returns-in-None-clause-bad
returns-in-None-clause-bad g c = λ xs file _.
    none_bad g.T.Item.spelled c.args.bytes.now c.loop-at.at c.loop-at.items.items c.loop-at.invariant c.loop-at-test.true c.if-bytes-at-eq0.false c.in_ok-read.field-0
    (λ x rest is. c.in_ok-read.ensures.found x rest (take_rest c.args.bytes.now (c.loop-at.at + 1) ∙ is)) c.in-None.is xs file

pub returns-in-None-clause-place : goal.returns-in-None-clause-place
returns-in-None-clause-place g c = λ place is.
    let same : c.loop-at.at ≡ place = cc is in
    subst (λ p. IsBadAt g.T.Item.spelled p c.args.bytes.now) same
    (none_place g.T.Item.spelled c.args.bytes.now c.loop-at.at c.loop-at.items.items c.loop-at.invariant c.loop-at-test.true c.if-bytes-at-eq0.false c.in_ok-read.field-0
    (λ x rest begins. c.in_ok-read.ensures.found x rest (take_rest c.args.bytes.now (c.loop-at.at + 1) ∙ begins)) c.in-None.is)

pub returns-clause-place : goal.returns-clause-place
returns-clause-place g c = λ place is.
    let same : c.loop-at.at ≡ place = cc is in
    subst (λ p. IsBadAt g.T.Item.spelled p c.args.bytes.now) same
    (end_place g.T.Item.spelled c.args.bytes.now c.loop-at.at c.loop-at.items.items c.loop-at.invariant c.loop-at-test.false)

pub loop-at-preserved : goal.loop-at-preserved
loop-at-preserved g c =
    let spelled = g.T.Item.spelled in
    let bytes = c.args.bytes.now in
    let at = c.loop-at.at in
    let x = c.in-Some.item in
    let n = c.in-Some.count in
    let part = take (length bytes - (at + 1)) (drop (at + 1) bytes) in
    let whole : part ≡ drop (at + 1) bytes = take_rest bytes (at + 1) in
    let begins : part ≡ spelled x ++ drop n part = subst (λ o. IfSome o (λ p. part ≡ spelled p.0 ++ drop p.1 part)) c.in-Some.is c.in_ok-read.ensures.is in
    let count : n ≡ length (spelled x) = subst (λ o. IfSome o (λ p. p.1 ≡ length (spelled p.0))) c.in-Some.is c.in_ok-read.ensures.count in
    let pushed : c.push.new.self.items ≡ c.loop-at.items.items ++ x ∷ [] = c.in_ok-push-in-Some.ensures.items in
    let grown = grows spelled bytes at c.loop-at.items.items c.loop-at.invariant c.loop-at-test.true c.if-bytes-at-eq0.false c.in_ok-read.field-0
    (λ y rest is. c.in_ok-read.ensures.found y rest (whole ∙ is)) x n c.in-Some.is (subst (λ b. b ≡ spelled x ++ drop n b) whole begins) count in
    subst (IsRead spelled bytes (at + (1 + n))) (sym pushed) grown

pub returns-clause-bad : goal.returns-clause-bad
returns-clause-bad g c = λ xs file _. ends_bad g.T.Item.spelled c.args.bytes.now c.loop-at.at c.loop-at.items.items c.loop-at.invariant c.loop-at-test.false xs file
