use Rattle.std.proofs.Common.{ℕ, ◌+◌, ◌∷◌, List, [], length, refl, sym, ◌∙◌, ap, subst, arith, length-append}
use Rattle.dc_talk.specs.declared.say.Say.{Say}
use Rattle.dc_journal.specs.Steps.{TakesAsks}
use Rattle.dc_journal.proofs.Stepping.{takes_none, takes_next}
use Rattle.dc_journal.proofs.answering.answer_all.Goals as goal

pub loop-ask-init : goal.loop-ask-init
loop-ask-init g c =
    let old = c.args.centre.now in
    let of_ask = g.T.AskItem.of_ask in
    record {
      takes = subst (λ (says : List Say). TakesAsks of_ask old.settings old old [] says c.in_ok-batch.batch.kept.items) (sym c.in_ok-batch.ensures.says)
          (subst (λ items. TakesAsks of_ask old.settings old old [] [] items) (sym c.in_ok-batch.ensures.kept) (takes_none of_ask old.settings old));
      many = ap length c.in_ok-batch.ensures.says;
      fresh = λ none. refl;
      settings = refl;
    }

pub loop-ask-preserved : goal.loop-ask-preserved
loop-ask-preserved g c =
    let old = c.args.centre.now in
    let mid = c.loop-ask.centre in
    let batch = c.loop-ask.batch in
    let now = c.answer_into.new.batch in
    let inv = c.loop-ask.invariant in
    let t = c.in_default.ensures.takes in
    record {
      takes = takes_next g.T.AskItem.of_ask old.settings mid.settings old mid c.answer_into.new.centre c.args.asks.now c.loop-ask.ask-index c.ask-item.result batch.says.items batch.kept.items now.says.items now.kept.items inv.settings c.loop-ask-test.true c.ask-item.is inv.takes t;
      many = ap length t.says_are ∙ length-append batch.says.items (t.say ∷ []) ∙ ap (λ (n : ℕ). n + 1) inv.many;
      fresh = λ none. (let never : ⊥ = omega (arith, none) in absurd never);
      settings = c.in_default.ensures.settings ∙ inv.settings;
    }
