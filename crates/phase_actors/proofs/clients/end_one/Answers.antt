use Rattle.std.proofs.Common.{⊎_elim, false, length, subst}
use Rattle.std.specs.Prelude.{IsTrue}
use Rattle.std.proofs.lemmas.Bool.{cases_lt}
use Rattle.run_table.specs.Dealing.{line_of}
use Rattle.phase_actors.proofs.Reading.{read_same, read_then, readers_stay}
use Rattle.phase_actors.proofs.Seating.{seat_stays, seat_then}
use Rattle.phase_actors.proofs.clients.end_one.Goals as goal

pub steps-init : goal.steps-init
steps-init g c =
    let readers = c.args.readers.now.items in
    record { read = read_same readers; gone = seat_stays c.args.scene readers readers (read_same readers) c.args.seat c.requires.seat }

pub turn_one-requires-clause-readers : goal.turn_one-requires-clause-readers
turn_one-requires-clause-readers g c κs within = readers_stay c.args.scene.taps.now c.args.readers.now.items c.steps.readers.items c.steps.invariant.read c.requires.readers

pub steps-preserved : goal.steps-preserved
steps-preserved g c =
    let first = c.args.readers.now.items in
    let mid = c.steps.readers.items in
    let last = c.turn_one.new.readers.items in
    record {
      read = read_then first mid last c.steps.invariant.read c.in_ok-turn_one.ensures.read;
      gone = seat_then c.args.scene first mid last c.args.seat c.steps.at c.turn_one.new.seat c.steps.invariant.gone c.in_ok-turn_one.ensures.turned.went;
    }

pub returns-clause-ended : goal.returns-clause-ended
returns-clause-ended g c =
    let line = line_of c.args.scene.dealt.now c.steps.at.client in
    record {
      seat = c.steps.at;
      went = c.steps.invariant.gone;
      all = ⊎_elim
          (λ within.
          let more : IsTrue false = subst IsTrue c.steps-test.false (c.has_more.ensures.1 within) in
          absurd cc)
          (λ past. past)
          (cases_lt c.steps.at.taken (length line));
      stood = c.stand.ensures;
    }
