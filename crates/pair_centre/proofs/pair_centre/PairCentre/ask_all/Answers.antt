use Rattle.std.proofs.Common.{List, map, take, refl, sym, ◌∙◌, subst}
use Rattle.journal_file.proofs.Protocol.{on_match_err}
use Rattle.journal_pair.specs.declared.entry.Entry.{Entry}
use Rattle.dc_journal.specs.Steps.{TakesAsks}
use Rattle.pair_centre.specs.declared.item.PairItem.{PairItem}
use Rattle.pair_centre.specs.declared.item.PairItem.TheVariants.{Asked}
use Rattle.pair_centre.specs.Items.{ask_behind}
use Rattle.pair_centre.proofs.Keeping.{entries_of, untouched, same_pair, ran_around, stands_all}
use Rattle.pair_centre.proofs.pair_centre.PairCentre.ask_all.Goals as goal

pub returns-then-is_shut-clause-moments : goal.returns-then-is_shut-clause-moments
returns-then-is_shut-clause-moments g c = (0, λ h k trail unshut one two is. absurd (cc (c.is_shut.ensures, c.if-is_shut.true, unshut)))

pub returns-then-not-has_room-clause-moments : goal.returns-then-not-has_room-clause-moments
returns-then-not-has_room-clause-moments g c = (0, λ h k trail unshut one two is. (untouched c.args.self.now _ h k trail (take 0 c.args.asks.now) _ one is (λ _. is), two))

pub returns-in_err-batch-clause-moments : goal.returns-in_err-batch-clause-moments
returns-in_err-batch-clause-moments g c = (
  0,
  λ h k trail unshut one two is. (
    untouched c.args.self.now _ h k trail (take 0 c.args.asks.now) _ one is (on_match_err _ _ _ c.from_residual.ensures.0 (λ _ _. same_pair c.args.self.now _ h k trail c.in_err-batch.ensures.same refl is)),
    two,
  ),
)

pub returns-in_err-put-clause-moments : goal.returns-in_err-put-clause-moments
returns-in_err-put-clause-moments g c =
    let t = c.in_ok-batch.ensures.takes in (
      t.count,
      λ h k trail unshut one two is.
          let old = c.args.self.now in
          let after = c.answer_all.new.centre in
          let asks = take t.count c.args.asks.now in
          let says = c.in_ok-batch.batch.says.items in
          let items = c.deref.result.now in
          let took = subst (λ (l : List (Entry PairItem)). TakesAsks ask_behind old.centre.settings old.centre after asks says l) (sym c.deref.ensures.value) t.takes in
          let shut = c.in_err-put.ensures.closes refl in
          let ran = c.in_err-put.ensures.moments h k is.checkpoint is.behind (map Asked took.taken) (took.items_are ∙ entries_of took.taken) one two is.files in (
            ran_around old after h k trail asks says items is took _ _ _ (λ l q. on_match_err _ _ _ c.from_residual-in_err-put.ensures.0 (λ _ still. absurd (cc (sym shut ∙ still)))) ran.0,
            ran.1,
          ),
    )

pub returns-clause-moments : goal.returns-clause-moments
returns-clause-moments g c =
    let t = c.in_ok-batch.ensures.takes in (
      t.count,
      λ h k trail unshut one two is.
          let old = c.args.self.now in
          let after = c.answer_all.new.centre in
          let asks = take t.count c.args.asks.now in
          let says = c.in_ok-batch.batch.says.items in
          let items = c.deref.result.now in
          let took = subst (λ (l : List (Entry PairItem)). TakesAsks ask_behind old.centre.settings old.centre after asks says l) (sym c.deref.ensures.value) t.takes in
          let ran = c.in_ok-put.ensures.moments h k is.checkpoint is.behind (map Asked took.taken) (took.items_are ∙ entries_of took.taken) one two is.files in (
            ran_around old after h k trail asks says items is took _ _ _ (λ l has. (took.says_are trail is.centre, λ more are. stands_all old after h k trail asks says items is took _ refl c.in_ok-batch.ensures.settings l more are has)) ran.0,
            ran.1,
          ),
    )
