use Rattle.std.proofs.Common.{◌≡◌, length, subst, ◌∙◌, rules, arith}
use Rattle.dc_talk.specs.Acting.{Acting, acting}
use Rattle.dc_host.specs.HostDoors.{shown_over}
use Rattle.phase_actors.proofs.Passing.{door_width, seen_before, same_caller, seen_behind, caller_stays}
use Rattle.phase_actors.specs.Workers.{Sending, PlaysSender, sending}
use Rattle.phase_actors.proofs.senders.send_through.Goals as goal

pub send_rounds-requires-clause-centres : goal.send_rounds-requires-clause-centres
send_rounds-requires-clause-centres g c = door_width c.args.scene.hosts.now.hosts c.args.end.caller c.args.scene.script.now.n c.new-door.result.passes c.requires.sender.caller c.requires.scene.hosts c.new-door.ensures.passes

pub send_rounds-requires-clause-centre : goal.send_rounds-requires-clause-centre
send_rounds-requires-clause-centre g c =
    let width : length c.new-door.result.passes ≡ c.args.scene.script.now.n = door_width c.args.scene.hosts.now.hosts c.args.end.caller c.args.scene.script.now.n c.new-door.result.passes c.requires.sender.caller c.requires.scene.hosts c.new-door.ensures.passes in
    (c.requires.centre.0, omega (arith, c.requires.centre.1, width))

pub returns : goal.returns
returns g c =
    let old = c.args.end.caller in
    let first = c.new-door.result in
    let last = c.send_rounds.new.door in
    let row = c.part-row.result in
    let log = c.send_rounds.new.log in
    let actor : first.actor ≡ old.log.actor = c.new-door.ensures.actor ∙ c.actor.ensures in
    let rows : row.items ≡ last.passes = search rules in
    let begun : Sending = record { acting = acting (shown_over first) old.log; givers = c.args.end.givers.items } in
    let played = c.in_ok-send_rounds.ensures.plays in
    let numbered : log.actor ≡ old.log.actor = played.plays.acted.actor in
    let place = c.in_ok-send_rounds.ensures.place in
    let same = same_caller old row log first last actor c.new-door.ensures.passes place rows numbered in
    record {
      same = same;
      is = record {
        caller = caller_stays c.args.scene.hosts.now.hosts old (record { row = row; log = log }) same c.requires.sender.caller;
        givers = c.in_ok-send_rounds.ensures.ends;
      };
      plays =
          subst (λ (before : Acting). PlaysSender c.args.scene.script.now.n c.args.centre c.args.scene.number c.args.scene.script.now.rounds (record { acting = before; givers = c.args.end.givers.items }) (sending (record { caller = record { row = row; log = log }; givers = c.send_rounds.new.givers }))) (seen_before old first actor c.new-door.ensures.passes)
          (subst (λ (behind : Acting). PlaysSender c.args.scene.script.now.n c.args.centre c.args.scene.number c.args.scene.script.now.rounds begun (record { acting = behind; givers = c.send_rounds.new.givers.items })) (seen_behind old row log first last actor c.new-door.ensures.passes place rows numbered) played);
    }
