use Rattle.std.proofs.Common.{◌≡◌, length, subst, ◌∙◌, rules, arith}
use Rattle.dc_talk.specs.Acting.{Acting, acting}
use Rattle.dc_host.specs.HostDoors.{shown_over}
use Rattle.phase_actors.proofs.Passing.{door_width, seen_before, same_caller, seen_behind, caller_stays}
use Rattle.std.specs.Prelude.{replicate}
use Rattle.run_sections.specs.Orders.{takes_some}
use Rattle.phase_actors.specs.Workers.{Receiving, PlaysReceiver, receiving}
use Rattle.phase_actors.proofs.receivers.receive_through.Goals as goal

pub receive_rounds-requires-clause-centres : goal.receive_rounds-requires-clause-centres
receive_rounds-requires-clause-centres g c = door_width c.args.scene.hosts.now.hosts c.args.end.caller c.args.scene.script.now.n c.new-door.result.passes c.requires.receiver.caller c.requires.scene.hosts c.new-door.ensures.passes

pub receive_rounds-requires-clause-centre : goal.receive_rounds-requires-clause-centre
receive_rounds-requires-clause-centre g c =
    let width : length c.new-door.result.passes ≡ c.args.scene.script.now.n = door_width c.args.scene.hosts.now.hosts c.args.end.caller c.args.scene.script.now.n c.new-door.result.passes c.requires.receiver.caller c.requires.scene.hosts c.new-door.ensures.passes in
    (c.requires.centre.0, omega (arith, c.requires.centre.1, width))

pub returns : goal.returns
returns g c =
    let old = c.args.end.caller in
    let first = c.new-door.result in
    let last = c.receive_rounds.new.door in
    let row = c.part-row.result in
    let log = c.receive_rounds.new.log in
    let actor : first.actor ≡ old.log.actor = c.new-door.ensures.actor ∙ c.actor.ensures in
    let rows : row.items ≡ last.passes = search rules in
    let begun : Receiving = record { acting = acting (shown_over first) old.log; takers = c.args.end.takers.items; inlets = c.args.end.inlets.items } in
    let played = c.in_ok-receive_rounds.ensures.plays in
    let numbered : log.actor ≡ old.log.actor = played.plays.acted.actor in
    let place = c.in_ok-receive_rounds.ensures.place in
    let same = same_caller old row log first last actor c.new-door.ensures.passes place rows numbered in
    record {
      same = same;
      is = record {
        caller = caller_stays c.args.scene.hosts.now.hosts old (record { row = row; log = log }) same c.requires.receiver.caller;
        takers = c.in_ok-receive_rounds.ensures.ends;
        inlets = c.in_ok-receive_rounds.ensures.inlets;
      };
      plays =
          subst (λ (before : Acting). PlaysReceiver c.args.scene.script.now.n c.args.centre c.args.scene.number (replicate c.args.scene.script.now.rounds takes_some) (record { acting = before; takers = c.args.end.takers.items; inlets = c.args.end.inlets.items }) (receiving (record { caller = record { row = row; log = log }; takers = c.receive_rounds.new.takers; inlets = c.receive_rounds.new.inlets }))) (seen_before old first actor c.new-door.ensures.passes)
          (subst (λ (behind : Acting). PlaysReceiver c.args.scene.script.now.n c.args.centre c.args.scene.number (replicate c.args.scene.script.now.rounds takes_some) begun (record { acting = behind; takers = c.receive_rounds.new.takers.items; inlets = c.receive_rounds.new.inlets.items })) (seen_behind old row log first last actor c.new-door.ensures.passes place rows numbered) played);
    }
