use Rattle.std.proofs.Common.{◌+◌, arith}
use Rattle.std.proofs.lemmas.Grind.{common_steps}
use Rattle.phase_actors.specs.declared.clients.Player.{Player}
use Rattle.thread_run.proofs.Crews.{numbers_more}
use Rattle.thread_run.proofs.casting.players_of.Goals as goal

pub stubs-preserved : goal.stubs-preserved
stubs-preserved c =
    let inv = c.stubs.invariant in
    let player : Player = record { client = c.stubs.client + 1; caller = c.in-Some-pop_front.caller; stub = c.in-Some.stub } in
    let pushed = c.in_ok-push-in-Some-pop_front.ensures.items in
    record {
      number = grind (arith, common_steps);
      numbers = grind (arith, common_steps, numbers_more (λ (player : Player). player.client) c.stubs.players.items player c.stubs.client);
      callers_are = grind (arith, common_steps);
      stubs_are = grind (arith, common_steps);
    }
