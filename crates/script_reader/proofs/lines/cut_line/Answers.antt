use Rattle.std.proofs.Common.{◌≡◌, ◌∙◌, ℕ, ◌∷◌, ◌++◌, [], false, refl, ap, sym}
use Rattle.std.proofs.lemmas.List.Elements.{All-append, All-cons, All-nil}
use Rattle.script_reader.specs.Words.{is_hidden, words_of}
use Rattle.script_reader.proofs.Plain.{all_shown, all_unbroken}
use Rattle.script_reader.proofs.LineCuts.{line_is, text_on, words_on}
use Rattle.script_reader.proofs.lines.cut_line.Goals as goal

pub returns-then-byte-eq10-clause-words : goal.returns-then-byte-eq10-clause-words
returns-then-byte-eq10-clause-words c =
    let before = c.words.invariant in
    c.in_ok-count.ensures.words
    ∙ (sym (before.words c.in-Some.word.now)
    ∙ ap words_of (sym (line_is c.args.text.now c.split_at.result.0.now before.front c.words.rest.now c.in-Some.word.now c.in-Some.more.now c.in-Some.byte before.is c.in-Some.ensures.0 c.split_at.ensures.front)))

pub words-preserved : goal.words-preserved
words-preserved c =
    let before = c.words.invariant in
    let hidden = λ (b : ℕ). is_hidden b ≡ false in
    record {
      front = before.front ++ (c.in-Some.word.now ++ 32 ∷ []);
      is = text_on c.args.text.now before.front c.words.rest.now c.in-Some.word.now c.in-Some.more.now 32 before.is (c.in-Some.ensures.0 ∙ ap (λ b. c.in-Some.word.now ++ b ∷ c.in-Some.more.now) c.if-byte-ne32.false);
      shown = All-append hidden before.front (c.in-Some.word.now ++ 32 ∷ []) before.shown (All-append hidden c.in-Some.word.now (32 ∷ []) (all_shown c.in-Some.word.now c.in-Some.ensures.1) (All-cons hidden 32 [] refl (All-nil hidden)));
      few = c.in_ok-count.ensures.few;
      words = words_on before.front c.in-Some.word.now _ _ before.words (all_unbroken c.in-Some.word.now c.in-Some.ensures.1) c.in_ok-count.ensures.words;
    }
