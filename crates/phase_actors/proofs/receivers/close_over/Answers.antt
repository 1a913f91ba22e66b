use Rattle.std.proofs.Common.{◌≡◌, length, subst, ◌∙◌, rules, arith}
use Rattle.dc_talk.specs.Acting.{Acting, acting}
use Rattle.dc_host.specs.HostDoors.{shown_over}
use Rattle.phase_actors.proofs.Passing.{door_width, seen_before, same_caller, seen_behind, caller_stays}
use Rattle.std.proofs.Common.{◌+◌}
use Rattle.dc_links.specs.Links.{rows_of}
use Rattle.phase_actors.specs.Workers.{Receiving, Closes, receiving}
use Rattle.phase_actors.proofs.Rounds.{closes_over}
use Rattle.phase_actors.proofs.receivers.close_over.Goals as goal

pub drain_all-requires-clause-centres : goal.drain_all-requires-clause-centres
drain_all-requires-clause-centres g c = door_width c.args.scene.hosts.now.hosts c.args.end.caller c.args.scene.script.now.n c.new-door.result.passes c.requires.receiver.caller c.requires.scene.hosts c.new-door.ensures.passes

pub drain_all-requires-clause-to : goal.drain_all-requires-clause-to
drain_all-requires-clause-to g c =
    let width : length c.new-door.result.passes ≡ c.args.scene.script.now.n = door_width c.args.scene.hosts.now.hosts c.args.end.caller c.args.scene.script.now.n c.new-door.result.passes c.requires.receiver.caller c.requires.scene.hosts c.new-door.ensures.passes in
    (c.requires.centre.0, omega (arith, c.requires.centre.1, width))

pub returns : goal.returns
returns g c =
    let old = c.args.end.caller in
    let first = c.new-door.result in
    let last = c.drain_all.new.door in
    let row = c.part-row.result in
    let log = c.drain_all.new.log in
    let actor : first.actor ≡ old.log.actor = c.new-door.ensures.actor ∙ c.actor.ensures in
    let rows : row.items ≡ last.passes = search rules in
    let begun : Receiving = record { acting = acting (shown_over first) old.log; takers = c.args.end.takers.items; inlets = c.args.end.inlets.items } in
    let n = c.args.scene.script.now.n in
    let step = c.args.scene.script.now.rounds + 1 in
    let closed = closes_over n c.args.centre c.args.scene.number step (rows_of c.args.givers.now) (record { acting = acting (shown_over first) old.log; takers = c.args.end.takers.items; inlets = c.args.end.inlets.items }) (record { acting = acting (shown_over last) log; takers = c.drain_all.new.takers.items; inlets = c.drain_all.new.inlets.items }) c.set.new.self c.set.ensures c.in_ok-drain_all.ensures.drains in
    let numbered : log.actor ≡ old.log.actor = closed.acted.actor in
    let place = c.in_ok-drain_all.ensures.place in
    let same = same_caller old row log first last actor c.new-door.ensures.passes place rows numbered in
    record {
      same = same;
      is = record {
        caller = caller_stays c.args.scene.hosts.now.hosts old (record { row = row; log = log }) same c.requires.receiver.caller;
        takers = c.in_ok-drain_all.ensures.ends;
        inlets = c.in_ok-drain_all.ensures.inlets;
      };
      closes =
          subst (λ (before : Acting). Closes n c.args.centre c.args.scene.number step (rows_of c.args.givers.now) (record { acting = before; takers = c.args.end.takers.items; inlets = c.args.end.inlets.items }) (receiving (record { caller = record { row = row; log = log }; takers = c.drain_all.new.takers; inlets = c.drain_all.new.inlets }))) (seen_before old first actor c.new-door.ensures.passes)
          (subst (λ (behind : Acting). Closes n c.args.centre c.args.scene.number step (rows_of c.args.givers.now) begun (record { acting = behind; takers = c.drain_all.new.takers.items; inlets = c.drain_all.new.inlets.items })) (seen_behind old row log first last actor c.new-door.ensures.passes place rows numbered) closed);
    }
