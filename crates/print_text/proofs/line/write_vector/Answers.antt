-- What is written is the first entry and the later ones, which is the vector's text.
use Rattle.std.proofs.Common.{◌++◌, ◌∙◌, ap}
use Rattle.std.specs.Prelude.{decimal}
use Rattle.print_text.specs.Text.{vector_text}
use Rattle.print_text.proofs.Texts.{joined_written}
use Rattle.print_text.proofs.line.write_vector.Goals as goal

pub returns-in_ok-write_later : goal.returns-in_ok-write_later
returns-in_ok-write_later c =
    joined_written 44 decimal 0 c.args.text.now.items c.write_entry.new.text.items c.write_later.new.text.items c.as_slice.result.now c.in-len1-up.len_at_least c.in_ok-write_entry.ensures c.in_ok-write_later.ensures
    ∙ ap (λ vector. c.args.text.now.items ++ vector_text vector) c.as_slice.ensures.value
