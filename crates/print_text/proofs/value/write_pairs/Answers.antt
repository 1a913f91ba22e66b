-- What is written is the first pair and the later ones, which is all of them.
use Rattle.std.proofs.Common.{◌++◌, ◌∙◌, ap}
use Rattle.print_text.specs.Text.{pair_text}
use Rattle.print_text.proofs.Texts.{joined_written}
use Rattle.print_text.proofs.value.write_pairs.Goals as goal

pub returns-in_ok-write_later_pairs : goal.returns-in_ok-write_later_pairs
returns-in_ok-write_later_pairs c =
    joined_written 32 pair_text c.first-item.result c.args.text.now.items c.write_pair.new.text.items c.write_later_pairs.new.text.items c.args.pairs.now c.in-len1-up.len_at_least
    (c.in_ok-write_pair.ensures ∙ ap (λ pair. c.args.text.now.items ++ pair_text pair) c.first-item.is)
    c.in_ok-write_later_pairs.ensures
