use Rattle.std.proofs.Common.{◌≡◌, sym, ◌∙◌, ap}
use Rattle.journal_asks.specs.declared.kept_ask.KeptAsk.{KeptAsk}
use Rattle.journal_asks.specs.Spellings.{by_of}
use Rattle.pair_centre.proofs.replaying.take_item.Goals as goal

pub returns-clause-taken : goal.returns-clause-taken
returns-clause-taken c = λ is.
    let x : KeptAsk = c.in-Asked.kept in (
      x,
      (
        c.in-Asked.is,
        record {
          by = c.if-kept-by_of.false ∙ c.by_of.ensures ∙ ap (λ m. by_of m x.ask) (sym c.requires);
          say = c.in-Ok.say;
          kept = sym c.is_kept.ensures ∙ is;
          answer = c.in-Ok.ensures.answer;
          stands = c.in-Ok.ensures.stands;
        },
      ),
    )
