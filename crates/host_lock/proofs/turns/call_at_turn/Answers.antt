use Rattle.std.proofs.Common.{◌≡◌, ◌+◌, ◌^◌, ◌<◌, List, [], ◌∷◌, ◌++◌, length, Some, ap, sym, ◌∙◌, subst, append_assoc, length-append, arith}
use Rattle.machine_trail.specs.declared.machine.Entry.{Entry}
use Rattle.machine_trail.specs.History.{entry, IsKept}
use Rattle.host_lock.specs.Steps.{holding, grown, MayNote, MaySwapIn, trail_of}
use Rattle.host_lock.proofs.turns.call_at_turn.Goals as goal

pub answer-requires-after_bounds : goal.answer-requires-after_bounds
answer-requires-after_bounds g c κs within =
    let m = g.M.Machine in let t = c.swap_out-kept.ensures.took in
    subst (IsKept m.reply m.stands m.settings c.swap_out-kept.result.machine) (sym t.3.trail) t.3.machine

pub note-requires-clause-entry : goal.note-requires-clause-entry
note-requires-clause-entry g c κs within =
    let m = g.M.Machine in let v = c.args.seat.now.me.0 in let t = c.swap_out-kept.ensures.took in let kept = c.answer.new.self in let L = List (Entry g.row.M-Ask.Denot g.row.M-Say.Denot) in
    let is : c.lay_in.new.seat.me ≡ (holding v t.0, (0, Some kept) ∷ []) = c.lay_in.ensures.slot ∙ ap (λ x. (x.0, (0, Some kept) ∷ [])) t.1 in
    let e : Entry g.row.M-Ask.Denot g.row.M-Say.Denot = entry c.args.number c.args.ask.now c.in-Ok.say in
    let more : length kept.trail.entries ≡ length c.swap_out-kept.result.trail.entries + 1 = ap length c.in-Ok.ensures.trail ∙ length-append c.swap_out-kept.result.trail.entries (e ∷ []) in
    let short : length kept.trail.entries < 2 ^ 62 = c.in-Ok.ensures.short in
    let low : length c.swap_out-kept.result.trail.entries + 1 < 2 ^ 62 = omega (arith, more, short) in
    subst (MayNote m.reply) (sym is) (
      e,
      c.in-Ok.ensures.trail ∙ ap (λ (l : L). l ++ e ∷ []) t.3.trail,
      c.requires.number,
      (λ s by. let same : s ≡ m.settings c.swap_out-kept.result.machine = (let h : Some s ≡ Some (m.settings c.swap_out-kept.result.machine) = sym by ∙ t.2 in cc h) in
          subst (λ (z : _). m.reply z (v.opening ++ t.0) c.args.ask.now c.in-Ok.say) (sym same) (subst (λ (l : L). m.reply (m.settings c.swap_out-kept.result.machine) l c.args.ask.now c.in-Ok.say) t.3.trail c.in-Ok.ensures.reply)),
      subst (λ (l : L). length l + 1 < 2 ^ 62) t.3.trail low,
    )

pub swap_in-requires-clause-slot : goal.swap_in-requires-clause-slot
swap_in-requires-clause-slot g c κs within =
    let m = g.M.Machine in let v = c.args.seat.now.me.0 in let t = c.swap_out-kept.ensures.took in let kept = c.answer.new.self in let L = List (Entry g.row.M-Ask.Denot g.row.M-Say.Denot) in
    let is : c.lay_in.new.seat.me ≡ (holding v t.0, (0, Some kept) ∷ []) = c.lay_in.ensures.slot ∙ ap (λ x. (x.0, (0, Some kept) ∷ [])) t.1 in
    let n = c.note.ensures.noted in
    let now : c.note.new.seat.me ≡ (grown (holding v t.0) n.1 n.0, (0, Some kept) ∷ []) = n.3 ∙ ap (λ x. (grown x.0 n.1 n.0, x.1)) is in
    let trail : kept.trail.entries ≡ v.opening ++ (t.0 ++ n.0 ∷ []) = sym (ap (λ x. trail_of x.1) is) ∙ (n.2 ∙ (ap (λ x. (x.0.opening ++ x.0.base) ++ n.0 ∷ []) is ∙ append_assoc v.opening t.0 (n.0 ∷ []))) in
    subst (MaySwapIn m.reply m.stands m.settings) (sym now) (
      kept,
      (λ i. (0, Some kept) ∷ []),
      trail,
      subst (IsKept m.reply m.stands m.settings kept.machine) trail c.answer.ensures.kept,
      t.2 ∙ ap Some (sym c.answer.ensures.same),
    )

pub swap_in-requires-in-Err-clause-slot : goal.swap_in-requires-in-Err-clause-slot
swap_in-requires-in-Err-clause-slot g c κs within =
    let m = g.M.Machine in let v = c.args.seat.now.me.0 in let t = c.swap_out-kept.ensures.took in let kept = c.answer.new.self in
    let is : c.lay_in-in-Err.new.seat.me ≡ (holding v t.0, (0, Some kept) ∷ []) = c.lay_in-in-Err.ensures.slot ∙ ap (λ x. (x.0, (0, Some kept) ∷ [])) t.1 in
    let none = c.in-Err.ensures.none in let log = none.1 ∙ t.3.trail in
    subst (MaySwapIn m.reply m.stands m.settings) (sym is) (
      kept,
      (λ i. (0, Some kept) ∷ []),
      log,
      subst (IsKept m.reply m.stands m.settings kept.machine) log c.answer.ensures.kept,
      t.2 ∙ ap Some (ap m.settings (sym none.0)),
    )
