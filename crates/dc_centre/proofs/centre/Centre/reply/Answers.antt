use Rattle.std.proofs.Common.{◌≡◌, true, sym, subst}
use Rattle.tx_core.specs.declared.tx.Tx.{Tx}
use Rattle.tx_core.specs.Checks.{IsFit}
use Rattle.dc_talk.specs.declared.ask.Ask.{Ask}
use Rattle.dc_talk.specs.Answers.{fits}
use Rattle.dc_talk.proofs.ClientAnswers.{delta_fits}
use Rattle.dc_centre.proofs.Going.{commit_fits}
use Rattle.dc_centre.proofs.centre.Centre.reply.Goals as goal

pub commit-requires : goal.commit-requires
commit-requires c =
    let n = c.args.self.now.settings.n in
    let fit = commit_fits n c.in-Commit.tx (subst (λ (ask : Ask). fits n ask ≡ true) c.in-Commit.is c.requires) in
    record { fit = subst (λ (tx : Tx). IsFit n tx) (sym c.as_tx.ensures) fit }

pub changes-requires-clause-later : goal.changes-requires-clause-later
changes-requires-clause-later c =
    let n = c.args.self.now.settings.n in
    let delta = c.in-Delta in
    (delta_fits n delta.object delta.from delta.at (subst (λ (ask : Ask). fits n ask ≡ true) delta.is c.requires)).2
