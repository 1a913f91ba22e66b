use Rattle.run_book.proofs.Causal.Theorem.{sound_vectors}
use Rattle.run_book.proofs.laws.law_sound.Goals as goal

pub returns : goal.returns
returns c = sound_vectors c.args.book.now
