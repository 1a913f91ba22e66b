use Rattle.std.proofs.Common.{◌≡◌, ◌<◌, length, ap, ◌∙◌, arith}
use Rattle.script_reader.specs.Words.{words_of}
use Rattle.script_reader.proofs.Blanks.{words_skip, words_at, words_last, words_empty}
use Rattle.script_reader.proofs.words.first_word.Goals as goal

pub returns-then-not-is_empty-clause-found : goal.returns-then-not-is_empty-clause-found
returns-then-not-is_empty-clause-found c =
    let cut = c.in-Some.ensures.found in
    let some : 0 < length c.in-Some.word.now = let test = c.is_empty.ensures in let full = c.if-not-is_empty.true in grind arith in
    c.blanks.invariant ∙ (ap words_of cut.1 ∙ words_at c.in-Some.word.now cut.0 c.in-Some.more.now cut.3 some cut.2)

pub blanks-preserved : goal.blanks-preserved
blanks-preserved c =
    let cut = c.in-Some.ensures.found in
    let none : length c.in-Some.word.now ≡ 0 = let test = c.is_empty.ensures in let empty = c.if-not-is_empty.false in grind arith in
    c.blanks.invariant ∙ (ap words_of cut.1 ∙ words_skip c.in-Some.word.now cut.0 c.in-Some.more.now none cut.2)

pub returns-then-is_empty-clause-none : goal.returns-then-is_empty-clause-none
returns-then-is_empty-clause-none c =
    let none : length c.blanks.rest.now ≡ 0 = let test = c.is_empty-2.ensures in let empty = c.if-is_empty.true in grind arith in
    c.blanks.invariant ∙ words_empty c.blanks.rest.now none

pub returns-else-is_empty-clause-found : goal.returns-else-is_empty-clause-found
returns-else-is_empty-clause-found c =
    let some : 0 < length c.blanks.rest.now = let test = c.is_empty-2.ensures in let full = c.if-is_empty.false in grind arith in
    c.blanks.invariant ∙ words_last c.blanks.rest.now c.in_default.ensures.none some
