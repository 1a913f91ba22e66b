use Rattle.std.proofs.Common.{◌≡◌, ◌+◌, true, List, [], ◌∷◌, ◌++◌, sym, ap, ◌∙◌, subst, arith}
use Rattle.tx_core.specs.declared.tx.Record.{Record}
use Rattle.dc_talk.specs.declared.ask.Ask.TheVariants.{Deliver}
use Rattle.dc_talk.specs.declared.say.Say.TheVariants.{Applied}
use Rattle.dc_talk.specs.Sents.{with_hops}
use Rattle.dc_talk.specs.Answers.{is_fit_item}
use Rattle.dc_talk.proofs.PeerAnswers.{item_fits}
use Rattle.dc_centre.specs.Outboxes.{put_by}
use Rattle.dc_centre.specs.Applied.{IsApplied}
use Rattle.dc_centre.specs.Centre.{CentreView, Goes}
use Rattle.dc_centre.proofs.Going.{delivered_next, centre_received, goes_delivered}
use Rattle.dc_centre.proofs.centre.Centre.deliver.Goals as goal

pub take-requires : goal.take-requires
take-requires c =
    let s = c.self.inside in
    let r : Record = c.as_record-record.result.now in
    let fit : is_fit_item s.settings.n r ≡ true = ap (λ (i : Record). is_fit_item s.settings.n i) c.as_record-record.ensures ∙ ap (λ (h : CentreView). is_fit_item h.settings.n c.args.item.now) c.self.view_is ∙ c.requires.fit in
    let old = c.if-seq-have.false in
    let gap = c.if-seq-have-gt1.false in
    let orphan = c.if-saturating_sub-gt1.false in
    let sub = c.saturating_sub.ensures in
    delivered_next s.settings.n s.applied r c.count-have.result c.through-have.result c.self.invariant.width fit c.count-have.ensures c.through-have.ensures (omega (arith, old)) (omega (arith, old, gap)) (omega (arith, orphan, sub))

pub invariant_of-self-2 : goal.invariant_of-self-2
invariant_of-self-2 c =
    let s = c.self.inside in
    centre_received s.settings s.applied c.take.new.self s.told s.mark s.trimmed c.as_record-record.result.now.stamp c.self.invariant c.in_ok-fresh.ensures.counts c.take.ensures.point c.if-record-self.false

pub returns-clause-goes : goal.returns-clause-goes
returns-clause-goes c =
    let s = c.self.inside in
    let r : Record = c.as_record-record.result.now in
    let is : r ≡ c.args.item.now = c.as_record-record.ensures in
    let old : CentreView = record { settings = c.self.inside.settings; applied = c.self.inside.applied; told = c.self.inside.told; mark = c.self.inside.mark; trimmed = c.self.inside.trimmed; outbox = c.self.inside.outbox.rows; down = c.self.inside.stopped } in
    let fit : is_fit_item s.settings.n r ≡ true = ap (λ (i : Record). is_fit_item s.settings.n i) is ∙ ap (λ (h : CentreView). is_fit_item h.settings.n c.args.item.now) c.self.view_is ∙ c.requires.fit in
    let grows : (A : List Record) → IsApplied s.settings.n s.applied A → IsApplied s.settings.n c.take.new.self (A ++ r ∷ []) = λ A h. subst (λ n. IsApplied n c.take.new.self (A ++ r ∷ [])) c.self.invariant.width (c.in_ok-fresh.ensures.grown A (subst (λ n. IsApplied n s.applied A) (sym c.self.invariant.width) h)) in
    let copied : c.in_ok-copy.field-0 ≡ r = c.in_ok-copy.ensures ∙ sym is in
    subst (λ (c' : CentreView). Goes c' (record old { applied = c.take.new.self; outbox = c.put.new.self.rows }) (Deliver c.args.item.now c.args.hops) (Applied c.in_ok-fresh.fresh)) c.self.view_is
    (subst (λ (i : Record). Goes old (record old { applied = c.take.new.self; outbox = c.put.new.self.rows }) (Deliver i c.args.hops) (Applied c.in_ok-fresh.fresh)) is
    (goes_delivered old c.take.new.self c.put.new.self.rows r c.args.hops c.in_ok-fresh.fresh c.self.invariant (item_fits s.settings.n r fit).centre grows c.take.ensures.point (c.put.ensures ∙ (λ i. put_by (c.reserve.ensures.rows i) (with_hops (copied i) (c.args.hops + 1))))))
