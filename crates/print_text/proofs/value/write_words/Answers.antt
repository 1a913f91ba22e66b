-- What is written is the first word and the later ones, which is all of them.
use Rattle.std.proofs.Common.{◌++◌, ◌∙◌, ap}
use Rattle.print_text.proofs.Texts.{words_written}
use Rattle.print_text.proofs.value.write_words.Goals as goal

pub returns-in_ok-write_later_words : goal.returns-in_ok-write_later_words
returns-in_ok-write_later_words c =
    words_written 32 c.first-item.result c.args.text.now.items c.write_name.new.text.items c.write_later_words.new.text.items c.args.words.now c.in-len1-up.len_at_least
    (c.in_ok-write_name.ensures ∙ ap (λ word. c.args.text.now.items ++ word) c.first-item.is)
    c.in_ok-write_later_words.ensures
