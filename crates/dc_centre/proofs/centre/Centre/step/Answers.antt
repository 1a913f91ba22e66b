use Rattle.std.proofs.Common.{◌≡◌, true, false, sym, ap, ◌∙◌, subst}
use Rattle.dc_talk.specs.Answers.{fits}
use Rattle.dc_centre.specs.Centre.{CentreView, IsCentre}
use Rattle.dc_centre.proofs.Going.{goes_misfit, goes_down}
use Rattle.dc_centre.proofs.Standing.{answers_all, answers_misfit, answers_down, stands_more, stands_all}
use Rattle.dc_centre.proofs.centre.Centre.step.Goals as goal

-- a centre as it is seen is one as it may be
abbrev IsSeen : CentreView → Type 0
IsSeen h = IsCentre h.settings h.applied h.told h.mark h.trimmed

pub returns-then-not-fits-clause-answer : goal.returns-then-not-fits-clause-answer
returns-then-not-fits-clause-answer c = λ trail stands.
    let misfit : fits c.args.self.now.settings.n c.args.ask.now ≡ false = ap (λ (h : CentreView). fits h.settings.n c.args.ask.now) (sym c.self.view_is) ∙ (sym c.fits.ensures ∙ c.if-not-fits.true) in
    answers_misfit c.args.self.now trail c.args.ask.now misfit

pub returns-then-not-fits-clause-stands : goal.returns-then-not-fits-clause-stands
returns-then-not-fits-clause-stands c = λ trail caller stands. stands_more c.args.self.now c.args.self.now trail caller c.args.ask.now _ (subst (λ (h : CentreView). IsSeen h) c.self.view_is c.self.invariant) (goes_misfit c.args.self.now c.args.ask.now) stands

pub returns-then-is_down_to-clause-answer : goal.returns-then-is_down_to-clause-answer
returns-then-is_down_to-clause-answer c = λ trail stands.
    let fit : fits c.args.self.now.settings.n c.args.ask.now ≡ true = ap (λ (h : CentreView). fits h.settings.n c.args.ask.now) (sym c.self.view_is) ∙ (sym c.fits.ensures ∙ c.if-not-fits.false) in
    answers_down c.args.self.now trail (subst (λ (h : CentreView). IsSeen h) c.self.view_is c.self.invariant) stands c.args.ask.now fit (sym c.is_down_to.ensures ∙ c.if-is_down_to.true)

pub returns-then-is_down_to-clause-stands : goal.returns-then-is_down_to-clause-stands
returns-then-is_down_to-clause-stands c = λ trail caller stands. stands_more c.args.self.now c.args.self.now trail caller c.args.ask.now _ (subst (λ (h : CentreView). IsSeen h) c.self.view_is c.self.invariant) (goes_down c.args.self.now c.args.ask.now) stands

pub returns-clause-answer : goal.returns-clause-answer
returns-clause-answer c =
    let fit : fits c.args.self.now.settings.n c.args.ask.now ≡ true = ap (λ (h : CentreView). fits h.settings.n c.args.ask.now) (sym c.self.view_is) ∙ (sym c.fits.ensures ∙ c.if-not-fits.false) in
    answers_all c.args.self.now c.args.ask.now c.reply.result (subst (λ (h : CentreView). IsSeen h) c.self.view_is c.self.invariant) fit (sym c.is_down_to.ensures ∙ c.if-is_down_to.false) c.reply.ensures.answer

pub returns-clause-stands : goal.returns-clause-stands
returns-clause-stands c = stands_all c.args.self.now _ c.args.ask.now c.reply.result (subst (λ (h : CentreView). IsSeen h) c.self.view_is c.self.invariant) c.reply.ensures.goes
