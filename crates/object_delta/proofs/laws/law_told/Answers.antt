use Rattle.object_delta.proofs.Deltas.{told_stands}
use Rattle.object_delta.proofs.laws.law_told.Goals as goal

pub returns : goal.returns
returns c A point kept before w o s covers = told_stands A point kept s before w o covers
