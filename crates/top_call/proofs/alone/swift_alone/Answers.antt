use Rattle.top_call.proofs.Owing.{ends_causal, ends_complete, ends_input, ends_run, ends_taps}
use Rattle.top_call.proofs.alone.swift_alone.Goals as goal

pub returns-clause-completeness : goal.returns-clause-completeness
returns-clause-completeness g c = λ playable read write. ends_complete _ _ _ playable (λ e. read (c.run_alone.ensures.read e)) (λ e. write (c.run_alone.ensures.write e)) c.run_alone.ensures.ends

pub returns-clause-causal : goal.returns-clause-causal
returns-clause-causal g c = ends_causal _ _ _ c.run_alone.ensures.ends

pub returns-clause-run : goal.returns-clause-run
returns-clause-run g c = ends_run _ _ _ c.run_alone.ensures.ends

pub returns-clause-taps : goal.returns-clause-taps
returns-clause-taps g c = ends_taps _ _ _ c.run_alone.ensures.ends

pub returns-clause-input : goal.returns-clause-input
returns-clause-input g c = ends_input _ _ _ c.run_alone.ensures.ends
