use Rattle.std.proofs.Common.{◌≡◌, true, ◌∷◌, [], ◌++◌, refl, sym, ◌∙◌, ap}
use Rattle.journal_disk.proofs.Histories.{ran_weaker}
use Rattle.journal_file.specs.Journal.{IsEither}
use Rattle.journal_file.proofs.Protocol.{on_match_err}
use Rattle.dc_talk.specs.Answers.{answer}
use Rattle.trail_kept.specs.Kept.{is_kept}
use Rattle.journal_asks.specs.Asks.{spelled}
use Rattle.dc_journal.specs.Files.{IsFileAround}
use Rattle.dc_journal.proofs.Keeping.{untouched, same_journal, stands_unkept, stands_kept, around}
use Rattle.dc_journal.proofs.journal_centre.JournalCentre.keep.Goals as goal

pub returns-then-not-has_room-clause-moments : goal.returns-then-not-has_room-clause-moments
returns-then-not-has_room-clause-moments g c = λ h trail stood is. untouched c.args.self.now _ h trail (c.args.ask.now ∷ []) _ stood is (λ _. is)

pub returns-in_err-out-clause-moments : goal.returns-in_err-out-clause-moments
returns-in_err-out-clause-moments g c = λ h trail stood is. untouched c.args.self.now _ h trail (c.args.ask.now ∷ []) _ stood is (on_match_err _ _ _ c.from_residual.ensures.0 (λ _ _. is))

pub returns-in_err-say-clause-moments : goal.returns-in_err-say-clause-moments
returns-in_err-say-clause-moments g c = λ h trail stood is.
    untouched c.args.self.now _ h trail (c.args.ask.now ∷ []) _ stood is (on_match_err _ _ _ c.from_residual-in_err-say.ensures.0 (λ _ _. same_journal c.args.self.now _ h trail c.in_err-say.ensures.err refl is))

pub returns-then-not-is_kept-clause-moments : goal.returns-then-not-is_kept-clause-moments
returns-then-not-is_kept-clause-moments g c = λ h trail stood is.
    let say = c.in_ok-say.say in
    let say_is = c.in_ok-say.ensures.answer trail is.centre in
    untouched c.args.self.now _ h trail (c.args.ask.now ∷ []) _ stood is
    (say_is, λ caller. stands_unkept c.args.self.now _ h h trail c.args.ask.now say caller is c.in_ok-say.ensures.settings say_is (c.in_ok-say.ensures.stands trail caller is.centre) (sym c.is_kept.ensures ∙ c.if-not-is_kept.true) is.file)

pub returns-in_err-put-clause-moments : goal.returns-in_err-put-clause-moments
returns-in_err-put-clause-moments g c = λ h trail stood is.
    let s = c.args.self.now.centre.settings in
    let say_is = c.in_ok-say.ensures.answer trail is.centre in
    let kept : is_kept (answer s trail c.args.ask.now) ≡ true = sym (ap is_kept say_is) ∙ (sym c.is_kept.ensures ∙ c.if-not-is_kept.false) in
    let shut = c.in_err-put.ensures.closes refl in
    ran_weaker _ h (IsEither spelled is.items (is.items ++ c.args.item ∷ [])) (IsFileAround s trail (c.args.ask.now ∷ [])) _ _
    (λ file. around s trail is.items c.args.item c.args.ask.now file is.asks c.requires.by c.requires.ask kept)
    (λ l q. on_match_err _ _ _ c.from_residual-in_err-put.ensures.0 (λ _ unshut. absurd (cc (sym shut ∙ unshut))))
    (c.in_err-put.ensures.moments h is.items stood is.file)

pub returns-clause-moments : goal.returns-clause-moments
returns-clause-moments g c = λ h trail stood is.
    let s = c.args.self.now.centre.settings in
    let say = c.in_ok-say.say in
    let say_is = c.in_ok-say.ensures.answer trail is.centre in
    let kept : is_kept say ≡ true = sym c.is_kept.ensures ∙ c.if-not-is_kept.false in
    ran_weaker _ h (IsEither spelled is.items (is.items ++ c.args.item ∷ [])) (IsFileAround s trail (c.args.ask.now ∷ [])) _ _
    (λ file. around s trail is.items c.args.item c.args.ask.now file is.asks c.requires.by c.requires.ask (sym (ap is_kept say_is) ∙ kept))
    (λ l at. (say_is, λ caller. stands_kept c.args.self.now _ h l trail c.args.ask.now say caller is c.in_ok-say.ensures.settings say_is (c.in_ok-say.ensures.stands trail caller is.centre) c.args.item c.requires.by c.requires.ask kept at))
    (c.in_ok-put.ensures.moments h is.items stood is.file)
