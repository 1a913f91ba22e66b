use Rattle.std.proofs.Common.{sym, ◌∙◌, subst}
use Rattle.dc_talk.specs.Acting.{Acting}
use Rattle.client_stub.specs.Playing.{IsLinkBehind}
use Rattle.phase_actors.proofs.Passing.{door_width, seen_before}
use Rattle.phase_actors.proofs.clients.sit.Goals as goal

pub returns-clause-is : goal.returns-clause-is
returns-clause-is g c =
    let caller = c.args.player.caller in
    let is = c.requires.player in
    let made = c.new-door.ensures in
    record {
      client = is.client;
      own = is.own;
      centres = door_width c.args.scene.hosts.now.hosts caller c.args.scene.script.now.n c.new-door.result.passes is.caller c.requires.scene.hosts made.passes;
      linked = subst (λ (seen : Acting). IsLinkBehind seen.door c.args.player.stub.client) (sym (seen_before caller c.new-door.result (made.actor ∙ c.actor.ensures) made.passes)) is.linked;
    }
