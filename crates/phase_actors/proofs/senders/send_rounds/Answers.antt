use Rattle.std.proofs.Common.{◌≡◌, refl, ◌∙◌, subst, arith}
use Rattle.dc_talk.specs.Acting.{acting}
use Rattle.phase_actors.specs.Workers.{Sending, PlaysSender}
use Rattle.phase_actors.proofs.Rounds.{sender_none, sender_more}
use Rattle.phase_actors.proofs.senders.send_rounds.Goals as goal

pub rounds-init : goal.rounds-init
rounds-init g c = record {
  place = refl;
  ends = c.requires.ends;
  plays = sender_none c.args.n c.args.centre c.args.section (record { acting = acting (g.D.Door.shown c.args.door.now) c.args.log.now; givers = c.args.givers.now.items });
}

pub rounds-preserved : goal.rounds-preserved
rounds-preserved g c = record {
  place = c.in_ok-send_all.ensures.place ∙ c.rounds.invariant.place;
  ends = c.in_ok-send_all.ensures.ends;
  plays =
      let a : Sending = record { acting = acting (g.D.Door.shown c.args.door.now) c.args.log.now; givers = c.args.givers.now.items } in
      let b : Sending = record { acting = acting (g.D.Door.shown c.rounds.door) c.rounds.log; givers = c.rounds.givers.items } in
      let e : Sending = record { acting = acting (g.D.Door.shown c.send_all.new.door) c.send_all.new.log; givers = c.send_all.new.givers.items } in
      sender_more c.args.n c.args.centre c.args.section c.rounds.before a b e c.set.new.self c.set.ensures c.rounds.invariant.plays c.in_ok-send_all.ensures.sends;
}

pub returns-clause-plays : goal.returns-clause-plays
returns-clause-plays g c =
    let a : Sending = record { acting = acting (g.D.Door.shown c.args.door.now) c.args.log.now; givers = c.args.givers.now.items } in
    let b : Sending = record { acting = acting (g.D.Door.shown c.rounds.door) c.rounds.log; givers = c.rounds.givers.items } in
    let all : c.rounds.before ≡ c.args.rounds = omega (arith, c.rounds-test.false, c.rounds.auto.before-end) in
    subst (λ rounds. PlaysSender c.args.n c.args.centre c.args.section rounds a b) all c.rounds.invariant.plays
