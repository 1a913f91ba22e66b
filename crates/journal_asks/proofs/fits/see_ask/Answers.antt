use Rattle.std.proofs.Common.{◌≡◌, true, sym, ◌∙◌, ap, subst}
use Rattle.std.specs.Prelude.{All}
use Rattle.tx_core.specs.declared.tx.Tx.{Tx}
use Rattle.tx_core.specs.declared.tx.Record.{Record}
use Rattle.tx_core.specs.Checks.{IsFitUpdate}
use Rattle.dc_talk.specs.declared.ask.Ask.{Ask}
use Rattle.dc_talk.specs.Answers.{fits}
use Rattle.wire_codec.specs.Spelling.{IsSpelledUpdate}
use Rattle.journal_asks.specs.Spellings.{by_of, IsSpelledAsk}
use Rattle.journal_asks.proofs.Fitting.{commit_updates, deliver_updates, spelled_commit, spelled_deliver}
use Rattle.journal_asks.proofs.fits.see_ask.Goals as goal

pub see_updates-requires : goal.see_updates-requires
see_updates-requires c =
    subst (All IsFitUpdate) (sym (c.as_slice.ensures ∙ ap (λ (tx : Tx). tx.updates) c.as_tx.ensures))
    (commit_updates c.args.n c.requires.width c.in-Commit.tx (subst (λ (ask : Ask). fits c.args.n ask ≡ true) c.in-Commit.is c.requires.fits))

pub see_updates-requires-in-Deliver : goal.see_updates-requires-in-Deliver
see_updates-requires-in-Deliver c =
    subst (All IsFitUpdate) (sym (c.as_slice-in-Deliver.ensures ∙ ap (λ (r : Record). r.tx.updates) c.as_record.ensures))
    (deliver_updates c.args.n c.requires.width c.in-Deliver.item c.in-Deliver.hops (subst (λ (ask : Ask). fits c.args.n ask ≡ true) c.in-Deliver.is c.requires.fits))

pub returns-in-Commit : goal.returns-in-Commit
returns-in-Commit c =
    subst (λ (ask : Ask). IsSpelledAsk (by_of c.args.me ask) ask) (sym c.in-Commit.is)
    (spelled_commit c.args.n c.requires.width c.args.me c.in-Commit.tx c.requires.centre (subst (λ (ask : Ask). fits c.args.n ask ≡ true) c.in-Commit.is c.requires.fits)
    (subst (All IsSpelledUpdate) (c.as_slice.ensures ∙ ap (λ (tx : Tx). tx.updates) c.as_tx.ensures) c.see_updates.ensures))

pub returns-in-Deliver : goal.returns-in-Deliver
returns-in-Deliver c =
    subst (λ (ask : Ask). IsSpelledAsk (by_of c.args.me ask) ask) (sym c.in-Deliver.is)
    (spelled_deliver c.args.n c.requires.width c.in-Deliver.item c.in-Deliver.hops (subst (λ (ask : Ask). fits c.args.n ask ≡ true) c.in-Deliver.is c.requires.fits)
    (subst (All IsSpelledUpdate) (c.as_slice-in-Deliver.ensures ∙ ap (λ (r : Record). r.tx.updates) c.as_record.ensures) c.see_updates-in-Deliver.ensures))
