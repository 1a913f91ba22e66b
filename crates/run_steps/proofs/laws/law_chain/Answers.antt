use Rattle.run_steps.proofs.Chains.{chain, section_chain}
use Rattle.run_steps.proofs.laws.law_chain.Goals as goal

pub returns : goal.returns
returns c = record {
  one_thread = λ script a steps client. chain c.args.book.now script a steps client;
  sections = λ script a steps client. section_chain c.args.book.now script a steps client;
}
