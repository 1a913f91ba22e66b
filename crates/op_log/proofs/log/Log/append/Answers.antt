use Rattle.std.proofs.Common.{◌<◌, ◌≡◌, ℕ, true, false, cond, ◌++◌, ◌∷◌, [], refl, sym, ap, ◌∙◌, subst, arith}
use Rattle.std.specs.Prelude.{All}
use Rattle.op_log.specs.Logs.{cell, has_dot}
use Rattle.std.specs.BTreeMap.{is_at}
use Rattle.stamp_index.specs.Places.{place_cmp, has_place, place_of}
use Rattle.op_log.specs.Tables.{IsLog}
use Rattle.op_log.proofs.Keeping.{names_kept, new_place, log_same, log_more, numbers_below}
use Rattle.object_lists.proofs.Ops.{put_back, no_error, some_error}
use Rattle.op_log.proofs.log.Log.append.Goals as goal

pub invariant_of-self : goal.invariant_of-self
invariant_of-self c =
    let new = ap (λ l. has_dot c.args.item.now.tx.dot l.items) c.self.view_is ∙ c.requires.new in
    log_same _ _ _ _ _ _ _ _ _ c.self.invariant refl (names_kept c.args.item.now.tx.dot _ _ _ new c.name.ensures.apart c.self.invariant.table.names) (λ o. refl) (λ p. refl)

pub invariant_of-self-in_err-put_tx : goal.invariant_of-self-in_err-put_tx
invariant_of-self-in_err-put_tx c =
    let new = ap (λ l. has_dot c.args.item.now.tx.dot l.items) c.self.view_is ∙ c.requires.new in
    log_same _ _ _ _ _ _ _ _ _ c.self.invariant refl (names_kept c.args.item.now.tx.dot _ _ _ new c.name.ensures.apart c.self.invariant.table.names) c.in_err-put_tx.ensures.err (λ p. refl)

pub keep_stamped-requires-clause-below : goal.keep_stamped-requires-clause-below
keep_stamped-requires-clause-below c = subst (λ n. All (λ e. e.0 < n) c.self.inside.slots.entries) (sym (ap (λ x. x.number) c.in_ok-x.ensures)) (numbers_below _ _ _ _ _ c.self.invariant)

pub keep_stamped-requires-clause-new : goal.keep_stamped-requires-clause-new
keep_stamped-requires-clause-new c = subst (λ n. has_place c.self.inside.places.keys (place_of n c.args.item.now.stamp) ≡ false) (sym (ap (λ x. x.number) c.in_ok-x.ensures)) (new_place c.self.inside.appended _ c.self.inside.places.keys c.args.item.now.stamp c.self.invariant.table.placed c.self.invariant.below)

pub invariant_of-self-then-is_err : goal.invariant_of-self-then-is_err
invariant_of-self-then-is_err c =
    let new = ap (λ l. has_dot c.args.item.now.tx.dot l.items) c.self.view_is ∙ c.requires.new in
    let failed = sym c.is_err.ensures.value ∙ c.if-is_err.true in
    let same = some_error c.keep_stamped.result failed c.keep_stamped.ensures.err in
    let places = some_error c.keep_stamped.result failed c.keep_stamped.ensures.kept in
    let tx = c.args.item.now.tx in
    log_same _ _ _ _ _ _ _ _ _ c.self.invariant same (names_kept c.args.item.now.tx.dot _ _ _ new c.name.ensures.apart c.self.invariant.table.names) (λ o. put_back (cell c.self.inside.appended) o tx.rank tx.dot tx.updates _ _ _ (c.in_ok-put_tx.ensures.ok o) (c.take_last_tx.ensures o)) places

pub invariant_of-self-2 : goal.invariant_of-self-2
invariant_of-self-2 c =
    let new = ap (λ l. has_dot c.args.item.now.tx.dot l.items) c.self.view_is ∙ c.requires.new in
    let went = sym c.is_err.ensures.value ∙ c.if-is_err.false in
    let is = no_error c.keep_stamped.result went c.keep_stamped.ensures.ok ∙ ap (λ x. c.self.inside.slots.entries ++ (x.number, x) ∷ []) c.in_ok-x.ensures in
    let places = no_error c.keep_stamped.result went c.keep_stamped.ensures.noted in
    subst (λ n. IsLog n c.keep_stamped.new.slots.entries c.name.new.dots.entries c.put_tx.new.lists c.keep_stamped.new.places.keys) (sym c.in-Some.ensures.1) (log_more c.self.inside.appended _ _ _ _ _ _ c.self.inside.places.keys _ c.args.item.now c.self.invariant new c.requires.few c.name.ensures.fits (omega arith) is c.name.ensures.apart c.in_ok-name.ensures.there c.in_ok-put_tx.ensures.ok (λ p. places p ∙ ap (λ (n : ℕ). cond (is_at (place_cmp (place_of n c.args.item.now.stamp)) p) true (has_place c.self.inside.places.keys p)) (ap (λ x. x.number) c.in_ok-x.ensures)))
