use Rattle.std.proofs.Common.{◌≡◌, ◌<◌, ℕ, ◌+◌, List, [], ◌∷◌, ◌++◌, length, sym, ap, ◌∙◌, subst}
use Rattle.vv_core.specs.declared.stamp.Stamp.{Stamp}
use Rattle.vv_core.specs.Vectors.{at, raised}
use Rattle.dup_guard.specs.Notes.{number_of, stamp_of}
use Rattle.tx_core.specs.declared.tx.Record.{Record}
use Rattle.dc_talk.specs.declared.ask.Ask.TheVariants.{Commit}
use Rattle.dc_talk.specs.declared.say.Say.TheVariants.{Stamped}
use Rattle.dc_talk.specs.Records.{joined}
use Rattle.dc_talk.specs.Sents.{with_hops}
use Rattle.dc_centre.specs.Outboxes.{put_by}
use Rattle.dc_centre.specs.Applied.{IsApplied}
use Rattle.dc_centre.specs.Centre.{CentreView, Goes}
use Rattle.dc_centre.proofs.Going.{centre_stamped, goes_stamped}
use Rattle.dc_centre.proofs.centre.Centre.stamp.Goals as goal

module _ (c : goal.After-put) where
  -- the stamp that is given is the next one
  stamp_is : ◌≡◌ {A = Stamp} (record { centre = c.self.inside.settings.me; seq = c.stamped.result + 1 }) (record { centre = c.self.inside.settings.me; seq = at c.self.inside.applied.counts c.self.inside.settings.me + 1 })
  stamp_is =
      let count : c.stamped.result ≡ at c.self.inside.applied.counts c.self.inside.settings.me = c.stamped.ensures.count ∙ ap (λ (h : CentreView). at h.applied.counts h.settings.me) (sym c.self.view_is) in
      λ i. record { centre = c.self.inside.settings.me; seq = count i + 1 }

  -- the centre before
  abbrev old : CentreView
  old = record { settings = c.self.inside.settings; applied = c.self.inside.applied; told = c.self.inside.told; mark = c.self.inside.mark; trimmed = c.self.inside.trimmed; outbox = c.self.inside.outbox.rows; down = c.self.inside.stopped }

  -- the record that is made
  abbrev made : Record
  made = record { stamp = record { centre = c.self.inside.settings.me; seq = c.stamped.result + 1 }; deps = c.deps_of.result; tx = c.in_ok-copy.field-0 }

  -- it is the one that is shared
  shared_is : c.as_record.result.now ≡ made
  shared_is = c.as_record.ensures ∙ c.in_ok-new.ensures

  grows : (A : List Record) → IsApplied old.settings.n old.applied A → IsApplied old.settings.n c.take.new.self (A ++ made ∷ [])
  grows A h = subst (λ n. IsApplied n c.take.new.self (A ++ made ∷ [])) c.self.invariant.width (subst (λ (r : Record). IsApplied (length old.applied.counts) c.take.new.self (A ++ r ∷ [])) shared_is (c.in_ok-take.ensures.grown A (subst (λ n. IsApplied n old.applied A) (sym c.self.invariant.width) h)))

  -- the counts grow by it
  counted : c.take.new.self.counts ≡ raised old.applied.counts made.stamp
  counted = c.in_ok-take.ensures.counts ∙ ap (λ (r : Record). raised old.applied.counts r.stamp) shared_is

  -- it is put
  put_is : c.put.new.self.rows ≡ put_by old.outbox (with_hops made 0)
  put_is = c.put.ensures ∙ (λ i. put_by (c.reserve.ensures.rows i) (with_hops (c.in_ok-new.ensures i) 0))

pub invariant_of-self-2 : goal.invariant_of-self-2
invariant_of-self-2 c =
    let s = c.self.inside in
    let room : at s.applied.counts s.settings.me < s.settings.limit = subst (λ (h : CentreView). at h.applied.counts h.settings.me < h.settings.limit) (sym c.self.view_is) c.requires.room in
    centre_stamped s.settings s.applied c.take.new.self s.told s.mark s.trimmed (record { centre = s.settings.me; seq = c.stamped.result + 1 }) c.self.invariant (counted c) c.take.ensures.point (stamp_is c) room

pub returns-clause-goes : goal.returns-clause-goes
returns-clause-goes c =
    let s = c.self.inside in
    let new : CentreView = record (old c) { applied = c.take.new.self; outbox = c.put.new.self.rows } in
    let next : c.args.tx.now.dot.number ≡ number_of s.applied.lasts c.args.tx.now.dot.client + 1 = subst (λ (h : CentreView). c.args.tx.now.dot.number ≡ number_of h.applied.lasts c.args.tx.now.dot.client + 1) (sym c.self.view_is) c.requires.next in
    let deps : c.deps_of.result ≡ joined s.settings.n c.args.tx.now.snap (stamp_of s.applied.lasts c.args.tx.now.dot.client) = c.deps_of.ensures.entries ∙ ap (λ (n : ℕ). joined n c.args.tx.now.snap (stamp_of s.applied.lasts c.args.tx.now.dot.client)) c.self.invariant.width in
    let made_is : made c ≡ record { stamp = record { centre = s.settings.me; seq = at s.applied.counts s.settings.me + 1 }; deps = joined s.settings.n c.args.tx.now.snap (stamp_of s.applied.lasts c.args.tx.now.dot.client); tx = c.args.tx.now } = λ i. record { stamp = stamp_is c i; deps = deps i; tx = c.in_ok-copy.ensures i } in
    subst (λ (h : CentreView). Goes h new (Commit c.args.tx.now) (Stamped (record { centre = s.settings.me; seq = c.stamped.result + 1 }))) c.self.view_is
    (subst (λ (given : Stamp). Goes (old c) new (Commit c.args.tx.now) (Stamped given)) (sym (stamp_is c))
    (goes_stamped (old c) c.take.new.self c.put.new.self.rows c.args.tx.now (made c) c.self.invariant next made_is (grows c) c.take.ensures.point (put_is c)))
