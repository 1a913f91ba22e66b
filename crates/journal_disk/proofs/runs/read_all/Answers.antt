use Rattle.std.proofs.Common.{◌≡◌, ◌++◌, take, length, ◌<◌, sym, ap, subst, arith, rules}
use Rattle.std.proofs.lemmas.Grind.{common_steps}
use Rattle.journal_disk.specs.Disk.{seen, IsPart}
use Rattle.journal_disk.proofs.Fronts.{IsFront, front_grows, front_whole}
use Rattle.journal_disk.proofs.runs.read_all.Goals as goal

pub loop-turn-init : goal.loop-turn-init
loop-turn-init g c = record {
  stands = λ h stands. stands;
  honest = λ honest. honest;
  faults = omega arith;
  front = λ honest h stands. (seen h, sym (ap (λ l. l ++ seen h) c.new-bytes.ensures.items));
}

pub returns-then-count-eq0-clause-bytes : goal.returns-then-count-eq0-clause-bytes
returns-then-count-eq0-clause-bytes g c = λ honest h stands.
    let i = c.loop-turn.invariant in
    let part = c.in_ok-count.ensures.bytes honest h (i.stands h stands) in
    let long : c.len.result ≡ length c.loop-turn.bytes.items = search rules in
    let room : 0 < length c.read_at.new.into = search rules in
    front_whole c.loop-turn.bytes.items (seen h) c.in_ok-count.count c.read_at.new.into (i.front (c.in_ok-count.ensures.honest honest) h stands)
    (subst (λ k. IsPart (seen h) k c.in_ok-count.count c.read_at.new.into) long part) c.if-count-eq0.true room

pub loop-turn-preserved : goal.loop-turn-preserved
loop-turn-preserved g c =
    let i = c.loop-turn.invariant in
    let long : c.len.result ≡ length c.loop-turn.bytes.items = search rules in
    let piece : c.extend_from_slice.new.self.items ≡ c.loop-turn.bytes.items ++ take c.in_ok-count.count c.read_at.new.into = grind (arith, common_steps, c.in_ok-extend_from_slice.ensures.items) in
    record {
      stands = λ h stands. c.in_ok-count.ensures.stands h (i.stands h stands);
      honest = λ honest. i.honest (c.in_ok-count.ensures.honest honest);
      faults = omega (arith, i.faults, c.in_ok-count.ensures.cause.faults_stay);
      front = λ honest h stands.
          let part = c.in_ok-count.ensures.bytes honest h (i.stands h stands) in
          let grown = front_grows c.loop-turn.bytes.items (seen h) c.in_ok-count.count c.read_at.new.into (i.front (c.in_ok-count.ensures.honest honest) h stands)
          (subst (λ k. IsPart (seen h) k c.in_ok-count.count c.read_at.new.into) long part) in
          subst (λ l. IsFront l (seen h)) (sym piece) grown;
    }
