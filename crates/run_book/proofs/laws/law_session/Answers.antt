use Rattle.run_book.proofs.Causal.Theorem.{keeps_sessions}
use Rattle.run_book.proofs.laws.law_session.Goals as goal

pub returns : goal.returns
returns c = keeps_sessions c.args.book.now
