use Rattle.std.proofs.Common.{◌++◌, ap, ◌∙◌}
use Rattle.load_maker.specs.Lines.{lines_text}
use Rattle.load_maker.specs.Made.{blocks, lines_made, made_lines, made_script}
use Rattle.load_maker.proofs.script.script_of.Goals as goal

pub returns : goal.returns
unfolding made_script made_lines
returns c =
    c.in_ok-script.ensures.text
    ∙ ap (λ text. text ++ lines_text (lines_made (blocks 10 100 5) c.new-maker.result.draws.state)) c.new-maker.ensures.text
    ∙ ap (λ state. lines_text (lines_made (blocks 10 100 5) state)) c.new-maker.ensures.state
