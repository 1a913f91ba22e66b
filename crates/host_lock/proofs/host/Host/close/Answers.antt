use Rattle.std.proofs.Common.{rules, arith, ◌≡◌, [], ◌∷◌, ◌++◌, inr, sym, refl, ap, ◌∙◌, subst, append_assoc}
use Rattle.std.proofs.lemmas.Grind.{common_steps}
use Rattle.host_lock.specs.declared.law.SeatView.{SeatView}
use Rattle.host_lock.specs.Law.{spent_of}
use Rattle.host_lock.specs.Hosts.{PassView, IsOf, InOrder, pass_view}
use Rattle.host_lock.proofs.Steps.{takes_in}
use Rattle.host_lock.proofs.Hosts.{Knows, as_spent, knows_more, in_order_at, ends_with, ends_not}
use Rattle.host_lock.proofs.host.Host.close.Goals as goal

-- the last pass is this host's
its_own : (g : _) (c : goal.After-seat-1 g) → IsOf c.args.self c.in-Some-pop.pass
its_own g c = let inv = c.loop-pass.invariant in let all = c.requires.all.0 in
    let is : c.args.passes.items ≡ c.pop-in-loop-pass.new.self.items ++ c.in-Some-pop.pass ∷ inv.4.0 = inv.4.1 ∙ (ap (λ l. l ++ inv.4.0) c.in-Some-pop.ensures.items ∙ append_assoc c.pop-in-loop-pass.new.self.items (c.in-Some-pop.pass ∷ []) inv.4.0) in
    in_order_at c.args.self 1 c.pop-in-loop-pass.new.self.items c.in-Some-pop.pass inv.4.0 (subst (InOrder c.args.self 1) is all)

pub loop-pass-init : goal.loop-pass-init
loop-pass-init g c = let own = in_order_at c.args.self 1 c.pop.new.self.items c.in-Some.last [] (subst (InOrder c.args.self 1) c.in-Some.ensures.items c.requires.all.0) in (
  refl,
  ap (λ s. s.table) c.last.view_is ∙ own.0,
  c.last.invariant.0.0,
  c.last.invariant.0.1,
  (c.in-Some.last ∷ [], c.in-Some.ensures.items, (inr (ap as_spent c.last.view_is), tt)),
)

pub join_seat-requires : goal.join_seat-requires
join_seat-requires g c =
    let m = g.M.Machine in let inv = c.loop-pass.invariant in let of = its_own g c in let table = ap (λ h. h.table) c.self.view_is in
    let p = c.pass.invariant in (
      inv.1 ∙ sym table,
      ap (λ s. s.table) c.pass.view_is ∙ (of.0 ∙ sym table),
      p.2,
      omega (arith, c.self.invariant.0.0),
      takes_in m.reply m.stands m.settings _ _ _ _ _ _ _ inv.2 p.0.0 p.0.1,
    )

pub loop-pass-preserved : goal.loop-pass-preserved
loop-pass-preserved g c =
    let inv = c.loop-pass.invariant in let now = c.join_seat.ensures.2 in let p = c.in-Some-pop.pass in let v = c.loop-pass.seat.me.0 in let w = c.pass.inside.seat.me.0 in
    let is : c.args.passes.items ≡ c.pop-in-loop-pass.new.self.items ++ p ∷ inv.4.0 = inv.4.1 ∙ (ap (λ l. l ++ inv.4.0) c.in-Some-pop.ensures.items ∙ append_assoc c.pop-in-loop-pass.new.self.items (p ∷ []) inv.4.0) in
    let q : PassView g.row.M-Ask.Denot g.row.M-Say.Denot g.row.M-Settings.Denot = pass_view c.pass.inside.seat.table_id w in
    let same : q ≡ p = c.pass.view_is in
    let known : Knows (spent_of c.join_seat.new.seat.me.0) c.join_seat.new.seat.me.0.past (q ∷ inv.4.0) = subst (λ (x : SeatView g.row.M-Ask.Denot g.row.M-Say.Denot g.row.M-Settings.Denot). Knows (spent_of x) x.past (q ∷ inv.4.0)) (sym (ap (λ x. x.0) now)) (knows_more (spent_of v) v.past q inv.4.0 inv.4.2) in (
      refl,
      c.join_seat.ensures.0 ∙ inv.1,
      ap (λ x. x.0.calls) now ∙ inv.2,
      ap (λ x. x.0.turns) now ∙ inv.3,
      (p ∷ inv.4.0, is, subst (λ z. Knows (spent_of c.join_seat.new.seat.me.0) c.join_seat.new.seat.me.0.past (z ∷ inv.4.0)) same known),
    )

pub take-slot-requires : goal.take-slot-requires
take-slot-requires g c = let e = c.close_with-closed.ensures in let one = c.self.invariant.0.1 in (search rules, grind (arith, common_steps))

pub unreachable-requires-in-None : goal.unreachable-requires-in-None
unreachable-requires-in-None g c = let m = g.M.Machine in let inv = c.loop-pass.invariant in let none : c.loop-pass.passes.items ≡ [] = first_of (search rules, grind (arith, common_steps)) in
    ends_not m.reply m.stands m.settings _ _ _ c.args.self c.args.passes.items c.loop-pass.passes.items inv.4.0 _ c.loop-pass.seat.me.0 _ _ inv.2 inv.3 (sym c.self.invariant.1 ∙ ap (λ h. h.callers) c.self.view_is) (ap (λ h. h.settings) c.self.view_is) (ap (λ h. h.opening) c.self.view_is)
    c.requires.all.0 c.requires.all.1 inv.4.1 none inv.4.2 c.close_with-closed.ensures.values.2 c.take-slot.result c.take-slot.ensures.value c.in-None.is

pub returns-clause-whole : goal.returns-clause-whole
returns-clause-whole g c = let m = g.M.Machine in let inv = c.loop-pass.invariant in let none : c.loop-pass.passes.items ≡ [] = first_of (search rules, grind (arith, common_steps)) in
    (ends_with m.reply m.stands m.settings _ _ _ c.args.self c.args.passes.items c.loop-pass.passes.items inv.4.0 _ c.loop-pass.seat.me.0 _ _ inv.2 inv.3 (sym c.self.invariant.1 ∙ ap (λ h. h.callers) c.self.view_is) (ap (λ h. h.settings) c.self.view_is) (ap (λ h. h.opening) c.self.view_is)
    c.requires.all.0 c.requires.all.1 inv.4.1 none inv.4.2 c.close_with-closed.ensures.values.2 c.take-slot.result c.take-slot.ensures.value c.in-Some-slot.kept c.in-Some-slot.is).0

pub returns-clause-kept : goal.returns-clause-kept
returns-clause-kept g c = let m = g.M.Machine in let inv = c.loop-pass.invariant in let none : c.loop-pass.passes.items ≡ [] = first_of (search rules, grind (arith, common_steps)) in
    (ends_with m.reply m.stands m.settings _ _ _ c.args.self c.args.passes.items c.loop-pass.passes.items inv.4.0 _ c.loop-pass.seat.me.0 _ _ inv.2 inv.3 (sym c.self.invariant.1 ∙ ap (λ h. h.callers) c.self.view_is) (ap (λ h. h.settings) c.self.view_is) (ap (λ h. h.opening) c.self.view_is)
    c.requires.all.0 c.requires.all.1 inv.4.1 none inv.4.2 c.close_with-closed.ensures.values.2 c.take-slot.result c.take-slot.ensures.value c.in-Some-slot.kept c.in-Some-slot.is).1

pub returns-clause-settings : goal.returns-clause-settings
returns-clause-settings g c = let m = g.M.Machine in let inv = c.loop-pass.invariant in let none : c.loop-pass.passes.items ≡ [] = first_of (search rules, grind (arith, common_steps)) in
    (ends_with m.reply m.stands m.settings _ _ _ c.args.self c.args.passes.items c.loop-pass.passes.items inv.4.0 _ c.loop-pass.seat.me.0 _ _ inv.2 inv.3 (sym c.self.invariant.1 ∙ ap (λ h. h.callers) c.self.view_is) (ap (λ h. h.settings) c.self.view_is) (ap (λ h. h.opening) c.self.view_is)
    c.requires.all.0 c.requires.all.1 inv.4.1 none inv.4.2 c.close_with-closed.ensures.values.2 c.take-slot.result c.take-slot.ensures.value c.in-Some-slot.kept c.in-Some-slot.is).2
