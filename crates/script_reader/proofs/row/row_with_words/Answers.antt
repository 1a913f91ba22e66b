use Rattle.std.proofs.Common.{◌≡◌, ◌∙◌, true, sym, eq-eqb, ne_eqb}
use Rattle.script_reader.specs.Words.{is_plain_text}
use Rattle.script_reader.proofs.Cutting.{texts_none}
use Rattle.script_reader.proofs.FirstWords.{comment_cut, no_words_cut, row_skipped, row_not_plain, row_plain}
use Rattle.script_reader.proofs.row.row_with_words.Goals as goal
use Rattle.script_reader.proofs.row.row_with_words.Goals.{else-not-plain-via-then-not-plain+else-not-is_plain_text, else-not-plain-via-else-not-plain}

pub returns-then-first_letter-eq35 : goal.returns-then-first_letter-eq35
returns-then-first_letter-eq35 c =
    row_skipped c.args.header c.args.text.now (comment_cut c.args.text.now c.args.words.now _ _ c.requires.words c.in-len1-up.len_at_least c.first_letter.ensures ∙ eq-eqb _ _ c.if-first_letter-eq35.true)

pub returns-in-empty : goal.returns-in-empty
returns-in-empty c = row_skipped c.args.header c.args.text.now (no_words_cut c.args.text.now c.args.words.now c.requires.words (texts_none c.args.words.now c.in-empty.len_below))

pub returns-then-not-is_plain_text : goal.returns-then-not-is_plain_text
returns-then-not-is_plain_text c =
    row_not_plain c.args.header c.args.text.now (comment_cut c.args.text.now c.args.words.now _ _ c.requires.words c.in-len1-up.len_at_least c.first_letter.ensures ∙ ne_eqb _ _ c.if-first_letter-eq35.false) (sym c.is_plain_text.ensures ∙ c.if-not-is_plain_text.true)

pub returns-else-not-plain : goal.returns-else-not-plain
returns-else-not-plain c =
    let plain : is_plain_text c.args.text.now ≡ true = elim c.else-not-plain.branch [
      | else-not-plain-via-then-not-plain+else-not-is_plain_text w ↦ sym w.is_plain_text.ensures ∙ w.if-not-is_plain_text.false
      | else-not-plain-via-else-not-plain w ↦ c.requires.plain w.if-not-plain.false
    ] in
    c.row_in_words.ensures
    ∙ row_plain c.args.header c.args.text.now c.args.words.now c.requires.words (comment_cut c.args.text.now c.args.words.now _ _ c.requires.words c.in-len1-up.len_at_least c.first_letter.ensures ∙ ne_eqb _ _ c.if-first_letter-eq35.false) plain
