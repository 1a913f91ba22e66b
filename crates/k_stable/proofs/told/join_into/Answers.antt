use Rattle.std.proofs.Common.{sym, refl, ◌∙◌}
use Rattle.std.proofs.lemmas.Bool.{false≢true}
use Rattle.k_stable.proofs.Learning.{join_of-covered, join_of-uncovered}
use Rattle.k_stable.proofs.told.join_into.Goals as goal

pub returns-then-covers-clause-row : goal.returns-then-covers-clause-row
returns-then-covers-clause-row c = sym (join_of-covered c.args.row.now c.args.vector.now (sym c.requires) (c.if-covers.ensures.entries.0 refl))

pub returns-clause-answer : goal.returns-clause-answer
returns-clause-answer c = (
  λ _ same. join_of-uncovered c.args.row.now c.args.vector.now (λ covers. false≢true (c.if-covers.ensures.entries.1 covers)) (sym c.join.ensures.entries ∙ same),
  λ _. refl,
)
