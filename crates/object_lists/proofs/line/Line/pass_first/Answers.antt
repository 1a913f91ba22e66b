use Rattle.std.proofs.Common.{drop, sym, ap, ◌∙◌}
use Rattle.std.proofs.lemmas.List.{drop-drop}
use Rattle.object_lists.proofs.line.Line.pass_first.Goals as goal

pub returns-then-self-len : goal.returns-then-self-len
returns-then-self-len g c = sym (drop-drop 1 c.self.inside.gone c.self.inside.items.items) ∙ ap (drop 1) c.self.view_is
