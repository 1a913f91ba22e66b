use Rattle.std.proofs.Common.{◌≡◌, ◌&&◌, false, [], ◌∷◌, sym, ◌∙◌, ap, subst}
use Rattle.journal_file.specs.Open as file
use Rattle.journal_file.proofs.Protocol.{on_match_err}
use Rattle.dc_talk.specs.Answers.{fits}
use Rattle.journal_asks.specs.Spellings.{is_kind, is_kept_by}
use Rattle.dc_journal.proofs.Keeping.{untouched, answered}
use Rattle.dc_journal.proofs.journal_centre.JournalCentre.ask.Goals as goal

pub returns-then-not-may_keep-clause-moments : goal.returns-then-not-may_keep-clause-moments
returns-then-not-may_keep-clause-moments g c = λ h trail unshut stood is.
    let other : is_kept_by c.args.self.now.centre.settings c.args.ask.now ≡ false = ap (λ n. is_kind c.args.ask.now && fits n c.args.ask.now) c.args.self.now.among ∙ sym c.may_keep.ensures ∙ c.if-not-may_keep.true in
    untouched c.args.self.now _ h trail (c.args.ask.now ∷ []) _ (subst (λ j. g.D.Disk.stands (file.disk_of j) h) (sym c.answer.ensures.journal) stood) is
    (answered c.args.self.now c.answer.new.self h trail c.args.ask.now c.answer.result c.answer.ensures.journal c.answer.ensures.settings other c.answer.ensures.answer c.answer.ensures.stands c.answer.ensures.err is)

pub returns-in_err-item-clause-moments : goal.returns-in_err-item-clause-moments
returns-in_err-item-clause-moments g c = λ h trail unshut stood is. untouched c.args.self.now _ h trail (c.args.ask.now ∷ []) _ stood is (on_match_err _ _ _ c.from_residual.ensures.0 (λ _ _. is))

pub returns-clause-moments : goal.returns-clause-moments
returns-clause-moments g c = λ h trail unshut stood is. c.keep.ensures.moments h trail stood is
