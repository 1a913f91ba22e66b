use Rattle.std.proofs.Common.{refl, ◌∙◌}
use Rattle.dc_talk.specs.Acting.{acting}
use Rattle.run_sections.specs.Orders.{ReceiverGoes}
use Rattle.phase_actors.specs.Workers.{Receiving, intakes_of}
use Rattle.phase_actors.proofs.Growing.{plays_none}
use Rattle.phase_actors.proofs.Rounds.{receiver_more}
use Rattle.phase_actors.proofs.receivers.receive_rounds.Goals as goal

pub rounds-init : goal.rounds-init
rounds-init g c =
    let a : Receiving = record { acting = acting (g.D.Door.shown c.args.door.now) c.args.log.now; takers = c.args.takers.now.items; inlets = c.args.inlets.now.items } in
    record { place = refl; ends = c.requires.ends; inlets = c.requires.inlets; made = plays_none (ReceiverGoes c.args.n c.args.centre) c.args.section (intakes_of a) a.acting }

pub rounds-preserved : goal.rounds-preserved
rounds-preserved g c = record {
  place = c.in_ok-receive_all.ensures.place ∙ c.rounds.invariant.place;
  ends = c.in_ok-receive_all.ensures.ends;
  inlets = c.in_ok-receive_all.ensures.inlets;
  made =
      let a : Receiving = record { acting = acting (g.D.Door.shown c.args.door.now) c.args.log.now; takers = c.args.takers.now.items; inlets = c.args.inlets.now.items } in
      let b : Receiving = record { acting = acting (g.D.Door.shown c.rounds.door) c.rounds.log; takers = c.rounds.takers.items; inlets = c.rounds.inlets.items } in
      let e : Receiving = record { acting = acting (g.D.Door.shown c.receive_all.new.door) c.receive_all.new.log; takers = c.receive_all.new.takers.items; inlets = c.receive_all.new.inlets.items } in
      receiver_more c.args.n c.args.centre c.args.section c.rounds.before a b e c.set.new.self c.set.ensures c.rounds.invariant.made c.in_ok-receive_all.ensures.receives;
}
