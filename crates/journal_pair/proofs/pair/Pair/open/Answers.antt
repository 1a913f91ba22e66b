use Rattle.std.proofs.Common.{◌+◌, [], refl, sym, ◌∙◌, ap, subst}
use Rattle.journal_disk.specs.Disk.{seen}
use Rattle.journal_file.proofs.Protocol.{ran_stands}
use Rattle.journal_pair.specs.Entries.{generation, ArePair}
use Rattle.journal_pair.specs.Choices.{HasFault}
use Rattle.journal_pair.specs.Files.{size_of}
use Rattle.journal_pair.proofs.Pairs.{on_if_ok, on_if_err, found_one, found_both}
use Rattle.journal_pair.proofs.States.{one_state}
use Rattle.journal_pair.proofs.Seating.{chosen_pair, no_fault, no_memory_bad, bad_gate, cause_in, Outcome, by_side, seated, both_honest}
use Rattle.journal_pair.proofs.pair.Pair.open.Goals as goal

pub returns-in-Err-clause-err : goal.returns-in-Err-clause-err
returns-in-Err-clause-err g c = λ h k xs ys checkpoint behind honest_a honest_b one two sound_h sound_k first second pair.
    found_one g.T.Item.spelled xs ys h k (g.D.Disk.stands c.in-Err.e.disk) (g.D.Disk.stands c.args.second) _ _ two (λ l q. q) (c.in-Err.ensures.err h xs honest_a one sound_h first)

pub returns-in-Err-open-clause-err : goal.returns-in-Err-open-clause-err
returns-in-Err-open-clause-err g c = λ h k xs ys checkpoint behind honest_a honest_b one two sound_h sound_k first second pair.
    let a = c.in-Ok.opened.0 in
    let honest = subst g.D.Disk.is_honest c.part.ensures honest_a in
    found_both g.T.Item.spelled xs ys h k (g.D.Disk.stands c.part.result) (g.D.Disk.stands c.in-Err-open.e.disk) _ _ _ (λ l m p q. q)
    (ran_stands (g.D.Disk.stands a.disk) (g.D.Disk.stands c.part.result) h _ _ (λ l s. subst (λ d. g.D.Disk.stands d l) (sym c.part.ensures) s) (c.in-Ok.ensures.ok h xs honest one sound_h first))
    (c.in-Err-open.ensures.err k ys honest_b two sound_k second)

pub returns-in-Err-open-clause-cause : goal.returns-in-Err-open-clause-cause
returns-in-Err-open-clause-cause g c = λ h k honest_a honest_b one two sound_h sound_k.
    bad_gate g.T.Item.spelled c.in-Err-open.e.why (seen k) (λ place is. c.in-Err-open.ensures.place k place is honest_b two sound_k)

pub returns-in-Ok-choose-clause-ok : goal.returns-in-Ok-choose-clause-ok
returns-in-Ok-choose-clause-ok g c = on_if_ok _ _ c.seat.result (λ r sits. λ h k xs ys checkpoint behind honest_live honest_other one two sound_h sound_k first second pair.
    let spelled = g.T.Item.spelled in
    let a = c.in-Ok.opened.0 in
    let b = c.in-Ok-open.opened.0 in
    let read_a = c.in-Ok.opened.1.items in
    let read_b = c.in-Ok-open.opened.1.items in
    let side = c.in-Ok-choose.side in
    let t = c.in-Ok-choose.taken in
    let size = size_of spelled (generation t.mark t.checkpoint.items []) + 1 in
    let p = r.pair in
    let honest = both_honest g.D.Disk.is_honest side a b t.mark size p sits.0 honest_live honest_other in
    let ran_a = c.in-Ok.ensures.ok h xs honest.0 one sound_h first in
    let ran_b = c.in-Ok-open.ensures.ok k ys honest.1 two sound_k second in
    let chosen = c.in-Ok-choose.ensures.chosen in
    let taken : ArePair t.checkpoint.items t.behind.items read_a read_b = chosen_pair side t.mark t.checkpoint.items t.behind.items read_a read_b chosen in
    let found : ArePair t.checkpoint.items t.behind.items xs ys = subst (λ l. ArePair t.checkpoint.items t.behind.items xs l) ran_b.ends.1 (subst (λ l. ArePair t.checkpoint.items t.behind.items l read_b) ran_a.ends.1 taken) in
    let same = one_state xs ys t.checkpoint.items t.behind.items checkpoint behind found pair in
    let out = seated spelled g.D.Disk.stands h k xs ys side a b t.mark size t.checkpoint.items t.behind.items p sits.0
    (by_side spelled g.D.Disk.stands h k xs ys a b t.mark size t.checkpoint.items t.behind.items refl read_a read_b ran_a ran_b side chosen) in (
      ap (λ v. v.items) sits.1 ∙ same.0,
      ap (λ v. v.items) sits.2 ∙ same.1,
      subst (λ v. Outcome spelled g.D.Disk.stands h k xs ys v p.live p.other p.mark p.size checkpoint behind) (sym sits.3)
          (subst (λ l. Outcome spelled g.D.Disk.stands h k xs ys side p.live p.other p.mark p.size l behind) same.0 (subst (λ l. Outcome spelled g.D.Disk.stands h k xs ys side p.live p.other p.mark p.size t.checkpoint.items l) same.1 out)),
    )) c.seat.ensures.ok

pub returns-in-Ok-choose-clause-is : goal.returns-in-Ok-choose-clause-is
returns-in-Ok-choose-clause-is g c = on_if_ok _ _ c.seat.result (λ r sits. λ h k honest_live honest_other one two sound_h sound_k.
    let spelled = g.T.Item.spelled in
    let a = c.in-Ok.opened.0 in
    let b = c.in-Ok-open.opened.0 in
    let read_a = c.in-Ok.opened.1.items in
    let read_b = c.in-Ok-open.opened.1.items in
    let side = c.in-Ok-choose.side in
    let t = c.in-Ok-choose.taken in
    let size = size_of spelled (generation t.mark t.checkpoint.items []) + 1 in
    let honest = both_honest g.D.Disk.is_honest side a b t.mark size r.pair sits.0 honest_live honest_other in
    let taken : ArePair t.checkpoint.items t.behind.items read_a read_b = chosen_pair side t.mark t.checkpoint.items t.behind.items read_a read_b c.in-Ok-choose.ensures.chosen in
    let told : ArePair r.checkpoint.items r.behind.items read_a read_b =
    subst (λ l. ArePair l r.behind.items read_a read_b) (sym (ap (λ v. v.items) sits.1)) (subst (λ l. ArePair t.checkpoint.items l read_a read_b) (sym (ap (λ v. v.items) sits.2)) taken) in
    (read_a, (read_b, (told, (c.in-Ok.ensures.is h honest.0 one sound_h, c.in-Ok-open.ensures.is k honest.1 two sound_k))))) c.seat.ensures.ok

pub returns-in-Ok-choose-clause-err : goal.returns-in-Ok-choose-clause-err
returns-in-Ok-choose-clause-err g c = on_if_err _ _ c.seat.result (λ e none. λ h k xs ys checkpoint behind honest_a honest_b one two sound_h sound_k first second pair.
    let a = c.in-Ok.opened.0 in
    let b = c.in-Ok-open.opened.0 in
    found_both g.T.Item.spelled xs ys h k (g.D.Disk.stands e.first) (g.D.Disk.stands e.second) _ _ _ (λ l m p q. no_memory_bad e.why none.0)
    (ran_stands (g.D.Disk.stands a.disk) (g.D.Disk.stands e.first) h _ _ (λ l s. subst (λ d. g.D.Disk.stands d l) (sym none.1) s) (c.in-Ok.ensures.ok h xs (subst g.D.Disk.is_honest none.1 honest_a) one sound_h first))
    (ran_stands (g.D.Disk.stands b.disk) (g.D.Disk.stands e.second) k _ _ (λ l s. subst (λ d. g.D.Disk.stands d l) (sym none.2) s) (c.in-Ok-open.ensures.ok k ys (subst g.D.Disk.is_honest none.2 honest_b) two sound_k second))) c.seat.ensures.err

pub returns-in-Ok-choose-clause-cause : goal.returns-in-Ok-choose-clause-cause
returns-in-Ok-choose-clause-cause g c = on_if_err _ _ c.seat.result (λ e none. λ h k honest_a honest_b one two sound_h sound_k.
    let read_a = c.in-Ok.opened.1.items in
    let read_b = c.in-Ok-open.opened.1.items in
    cause_in g.T.Item.spelled e.why read_a read_b (seen h) (seen k) (subst (λ w. HasFault w read_a read_b) (sym none.0) tt)
    (c.in-Ok.ensures.is h (subst g.D.Disk.is_honest none.1 honest_a) one sound_h) (c.in-Ok-open.ensures.is k (subst g.D.Disk.is_honest none.2 honest_b) two sound_k)) c.seat.ensures.err

pub returns-in-Err-choose-clause-err : goal.returns-in-Err-choose-clause-err
returns-in-Err-choose-clause-err g c = λ h k xs ys checkpoint behind honest_a honest_b one two sound_h sound_k first second pair.
    let a = c.in-Ok.opened.0 in
    let b = c.in-Ok-open.opened.0 in
    let read_a = c.in-Ok.opened.1.items in
    let read_b = c.in-Ok-open.opened.1.items in
    let a_is = c.part-in-Err-choose.ensures in
    let b_is = c.part-in-Err-choose-2.ensures in
    let why = c.in-Err-choose.why in
    found_both g.T.Item.spelled xs ys h k (g.D.Disk.stands c.part-in-Err-choose.result) (g.D.Disk.stands c.part-in-Err-choose-2.result) _ _ _
    (λ l m p q. no_fault why checkpoint behind xs ys (subst (λ r. HasFault why xs r) q.1 (subst (λ r. HasFault why r read_b) p.1 c.in-Err-choose.ensures.fault)) pair)
    (ran_stands (g.D.Disk.stands a.disk) (g.D.Disk.stands c.part-in-Err-choose.result) h _ _ (λ l s. subst (λ d. g.D.Disk.stands d l) (sym a_is) s) (c.in-Ok.ensures.ok h xs (subst g.D.Disk.is_honest a_is honest_a) one sound_h first))
    (ran_stands (g.D.Disk.stands b.disk) (g.D.Disk.stands c.part-in-Err-choose-2.result) k _ _ (λ l s. subst (λ d. g.D.Disk.stands d l) (sym b_is) s) (c.in-Ok-open.ensures.ok k ys (subst g.D.Disk.is_honest b_is honest_b) two sound_k second))

pub returns-in-Err-choose-clause-cause : goal.returns-in-Err-choose-clause-cause
returns-in-Err-choose-clause-cause g c = λ h k honest_a honest_b one two sound_h sound_k.
    let read_a = c.in-Ok.opened.1.items in
    let read_b = c.in-Ok-open.opened.1.items in
    cause_in g.T.Item.spelled c.in-Err-choose.why read_a read_b (seen h) (seen k) c.in-Err-choose.ensures.fault
    (c.in-Ok.ensures.is h (subst g.D.Disk.is_honest c.part-in-Err-choose.ensures honest_a) one sound_h)
    (c.in-Ok-open.ensures.is k (subst g.D.Disk.is_honest c.part-in-Err-choose-2.ensures honest_b) two sound_k)

pub returns-in-Err-choose-clause-failed_first : goal.returns-in-Err-choose-clause-failed_first
returns-in-Err-choose-clause-failed_first g c = λ is. absurd (subst (λ w. HasFault w c.in-Ok.opened.1.items c.in-Ok-open.opened.1.items) is c.in-Err-choose.ensures.fault)

pub returns-in-Err-choose-clause-failed_second : goal.returns-in-Err-choose-clause-failed_second
returns-in-Err-choose-clause-failed_second g c = λ is. absurd (subst (λ w. HasFault w c.in-Ok.opened.1.items c.in-Ok-open.opened.1.items) is c.in-Err-choose.ensures.fault)
