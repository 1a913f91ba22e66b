use Rattle.dc_links.specs.Links.{rows_of}
use Rattle.thread_run.specs.Closing.{HaveClosed}
use Rattle.thread_run.proofs.closing.close_halves.Given as goal

abbrev pub invariant-halves : goal.invariant-halves
invariant-halves g l = HaveClosed l.fn.scene (rows_of l.givers) l.initial.parts l.yielded l.parts
