use Rattle.std.proofs.Common.{◌≡◌, ℕ, ◌++◌, length, drop, IfSome, Some, sym, ◌∙◌, ap, subst, arith}
use Rattle.journal_asks.specs.declared.kept_ask.KeptAsk.{KeptAsk}
use Rattle.journal_asks.specs.Spellings.{by_of}
use Rattle.journal_asks.specs.Asks.{spelled}
use Rattle.dc_journal.proofs.opening.take_first.Goals as goal

pub returns-then-is_kept-clause-some : goal.returns-then-is_kept-clause-some
returns-then-is_kept-clause-some c =
    let bytes = c.args.bytes.now in
    let x : KeptAsk = c.in-Some.item in
    let n : ℕ = c.in-Some.count in
    let size : n ≡ length (spelled x) = subst (λ o. IfSome o (λ p. p.1 ≡ length (spelled p.0))) c.in-Some.is c.in_ok-item.ensures.count in
    record {
      item = x;
      takes = record {
        by = c.if-item-by_of.false ∙ c.by_of.ensures ∙ ap (λ m. by_of m x.ask) (sym c.requires);
        say = c.in-Ok.say;
        kept = sym c.is_kept.ensures ∙ c.if-is_kept.true;
        answer = c.in-Ok.ensures.answer;
        stands = c.in-Ok.ensures.stands;
      };
      begins = subst (λ o. IfSome o (λ p. bytes ≡ spelled p.0 ++ drop p.1 bytes)) c.in-Some.is c.in_ok-item.ensures.is;
      size = size;
      more = omega (arith, c.if-count-bytes.false);
      only = λ y rest begins.
          let both : Some (x, n) ≡ Some (y, length (spelled y)) = sym c.in-Some.is ∙ c.in_ok-item.ensures.found y rest begins in
          let pair : (x, n) ≡ (y, length (spelled y)) = cc both in
          sym (ap (λ (p : KeptAsk × ℕ). p.0) pair);
    }
