use Rattle.std.proofs.Common.{◌≡◌, ◌++◌, ◌∷◌, [], Bool, List, length, sym, ap, ◌∙◌, subst}
use Rattle.std.specs.Prelude.{not}
use Rattle.tx_core.specs.declared.tx.Record.{Record}
use Rattle.point_log.specs.StandFor.{with_one}
use Rattle.dc_centre.specs.Applied.{AppliedView, IsNext, is_fresh, IsApplied, IsKept}
use Rattle.dc_centre.proofs.Applying.{Noted, more_kept, applied_more, fresh_is}
use Rattle.dc_centre.proofs.Kept.{not_logged, kept_taken}
use Rattle.dc_centre.proofs.applied.Applied.take.Goals as goal

pub keep-requires-clause-new : goal.keep-requires-clause-new
keep-requires-clause-new c t =
    let kept : AppliedView = record { counts = c.self.inside.vector; lasts = c.self.inside.guard; greatest = c.self.inside.top; point = c.self.inside.point; log = c.self.inside.log } in
    let next : IsNext kept c.args.item.now = subst (λ (x : AppliedView). IsNext x c.args.item.now) (sym c.self.view_is) c.requires in
    not_logged kept c.args.item.now c.self.invariant.numbers (sym (fresh_is c.seen-fresh.result kept c.args.item.now c.seen-fresh.ensures next.next) ∙ t)

module _ (c : goal.After-self-2-1) where
  -- what is kept before, and then
  abbrev kept : AppliedView
  kept = record { counts = c.self.inside.vector; lasts = c.self.inside.guard; greatest = c.self.inside.top; point = c.self.inside.point; log = c.self.inside.log }

  abbrev more : AppliedView
  more = record { counts = c.raise-self-inside.result; lasts = c.note_if.new.guard; greatest = c.max-self-inside.result; point = c.self.inside.point; log = c.keep.new.log }

  next : IsNext kept c.args.item.now
  next = subst (λ (x : AppliedView). IsNext x c.args.item.now) (sym c.self.view_is) c.requires

  fresh : not c.seen-fresh.result ≡ is_fresh kept c.args.item.now
  fresh = fresh_is c.seen-fresh.result kept c.args.item.now c.seen-fresh.ensures next.next

  noted : Noted c.args.item.now (is_fresh kept c.args.item.now) c.self.inside.guard c.note_if.new.guard
  noted = subst (λ (f : Bool). Noted c.args.item.now f c.self.inside.guard c.note_if.new.guard) fresh (record { numbers = c.note_if.ensures.numbers; stamp = c.note_if.ensures.stamp; others = c.note_if.ensures.others })

  logged : c.keep.new.log ≡ with_one c.self.inside.log c.args.item.now (is_fresh kept c.args.item.now)
  logged = c.in_ok-keep.ensures.ok ∙ ap (λ (f : Bool). with_one c.self.inside.log c.args.item.now f) fresh

  -- what is kept then is what is to be kept
  made_more : more_kept kept c.args.item.now (is_fresh kept c.args.item.now) c.note_if.new.guard ≡ more
  made_more =
      let counts = c.raise-self-inside.ensures.entries in
      let greatest = c.max-self-inside.ensures in
      let log = logged in
      λ i. record { counts = sym counts i; lasts = c.note_if.new.guard; greatest = sym greatest i; point = c.self.inside.point; log = sym log i }

  grows : (A : List Record) → IsApplied (length c.self.inside.vector) kept A → IsApplied (length c.self.inside.vector) more (A ++ c.args.item.now ∷ [])
  grows A h =
      let made = applied_more (length c.self.inside.vector) kept c.note_if.new.guard A c.args.item.now h next noted in
      subst (λ (x : AppliedView). IsApplied (length c.self.inside.vector) x (A ++ c.args.item.now ∷ [])) made_more made

pub invariant_of-self-2 : goal.invariant_of-self-2
invariant_of-self-2 c = subst (λ (x : AppliedView). IsKept x c.self.inside.served.entries c.self.inside.mines.entries c.self.inside.passed.entries) (made_more c) (kept_taken (kept c) c.note_if.new.guard c.args.item.now c.self.inside.served.entries c.self.inside.mines.entries c.self.inside.passed.entries c.self.invariant (next c) (noted c))

pub returns-clause-grown : goal.returns-clause-grown
returns-clause-grown c A h =
    subst (λ (x : AppliedView). IsApplied (length x.counts) (more c) (A ++ c.args.item.now ∷ [])) c.self.view_is
    (grows c A (subst (λ (x : AppliedView). IsApplied (length x.counts) x A) (sym c.self.view_is) h))
