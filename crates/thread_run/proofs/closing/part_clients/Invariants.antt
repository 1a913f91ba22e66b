use Rattle.thread_run.specs.Closing.{HasClients}
use Rattle.thread_run.proofs.closing.part_clients.Given as goal

abbrev pub invariant-players : goal.invariant-players
invariant-players l = HasClients l.initial.parts l.yielded l.parts
