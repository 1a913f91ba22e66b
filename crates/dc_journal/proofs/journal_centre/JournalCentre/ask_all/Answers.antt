use Rattle.std.proofs.Common.{◌++◌, List, take, refl, sym, ◌∙◌, subst}
use Rattle.journal_disk.proofs.Histories.{ran_weaker}
use Rattle.journal_file.specs.Journal.{IsEither}
use Rattle.journal_file.proofs.Protocol.{on_match_err}
use Rattle.journal_asks.specs.declared.kept_ask.KeptAsk.{KeptAsk}
use Rattle.journal_asks.specs.Asks.{spelled}
use Rattle.dc_journal.specs.Files.{IsFileAround}
use Rattle.dc_journal.specs.Steps.{TakesAsks}
use Rattle.dc_journal.proofs.Keeping.{untouched, same_journal}
use Rattle.dc_journal.proofs.Published.{around_all, stands_all}
use Rattle.dc_journal.proofs.journal_centre.JournalCentre.ask_all.Goals as goal

pub returns-then-is_shut-clause-moments : goal.returns-then-is_shut-clause-moments
returns-then-is_shut-clause-moments g c = (0, λ h trail unshut stood is. absurd (cc (c.is_shut.ensures, c.if-is_shut.true, unshut)))

pub returns-then-not-has_room-clause-moments : goal.returns-then-not-has_room-clause-moments
returns-then-not-has_room-clause-moments g c = (0, λ h trail unshut stood is. untouched c.args.self.now _ h trail (take 0 c.args.asks.now) _ stood is (λ _. is))

pub returns-in_err-batch-clause-moments : goal.returns-in_err-batch-clause-moments
returns-in_err-batch-clause-moments g c = (
  0,
  λ h trail unshut stood is.
      untouched c.args.self.now _ h trail (take 0 c.args.asks.now) _ stood is
      (on_match_err _ _ _ c.from_residual.ensures.0 (λ _ _. same_journal c.args.self.now _ h trail c.in_err-batch.ensures.same refl is)),
)

pub returns-in_err-put-clause-moments : goal.returns-in_err-put-clause-moments
returns-in_err-put-clause-moments g c =
    let t = c.in_ok-batch.ensures.takes in (
      t.count,
      λ h trail unshut stood is.
          let old = c.args.self.now in
          let s = old.centre.settings in
          let after = c.answer_all.new.centre in
          let asks = take t.count c.args.asks.now in
          let says = c.in_ok-batch.batch.says.items in
          let items = c.deref.result.now in
          let took = subst (λ (l : List KeptAsk). TakesAsks (λ x. x) s old.centre after asks says l) (sym c.deref.ensures.value) t.takes in
          let shut = c.in_err-put.ensures.closes refl in
          ran_weaker _ h (IsEither spelled is.items (is.items ++ items)) (IsFileAround s trail asks) _ _
          (around_all old after h trail asks says items is took)
          (λ l q. on_match_err _ _ _ c.from_residual-in_err-put.ensures.0 (λ _ open_still. absurd (cc (sym shut ∙ open_still))))
          (c.in_err-put.ensures.moments h is.items stood is.file),
    )

pub returns-clause-moments : goal.returns-clause-moments
returns-clause-moments g c =
    let t = c.in_ok-batch.ensures.takes in (
      t.count,
      λ h trail unshut stood is.
          let old = c.args.self.now in
          let s = old.centre.settings in
          let after = c.answer_all.new.centre in
          let asks = take t.count c.args.asks.now in
          let says = c.in_ok-batch.batch.says.items in
          let items = c.deref.result.now in
          let took = subst (λ (l : List KeptAsk). TakesAsks (λ x. x) s old.centre after asks says l) (sym c.deref.ensures.value) t.takes in
          ran_weaker _ h (IsEither spelled is.items (is.items ++ items)) (IsFileAround s trail asks) _ _
          (around_all old after h trail asks says items is took)
          (λ l at. (took.says_are trail is.centre, λ more are. stands_all old after h trail asks says items is took _ refl c.in_ok-batch.ensures.settings l more are at))
          (c.in_ok-put.ensures.moments h is.items stood is.file),
    )
