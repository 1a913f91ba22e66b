use Rattle.std.proofs.Common.{◌≡◌, ◌&&◌, ◌++◌, ◌∷◌, [], false, refl, sym, ◌∙◌, ap}
use Rattle.std.proofs.lemmas.List.{append-nil}
use Rattle.machine_trail.specs.History.{entry}
use Rattle.dc_talk.specs.Answers.{fits}
use Rattle.trail_kept.specs.Kept.{is_kept}
use Rattle.journal_asks.specs.Spellings.{is_kind, by_of, is_kept_by}
use Rattle.dc_journal.proofs.Trails.{asks_more, asks_same}
use Rattle.dc_journal.proofs.Unkept.{unkept}
use Rattle.dc_journal.proofs.answering.answer_into.Goals as goal

pub returns-then-not-may_keep-clause-takes : goal.returns-then-not-may_keep-clause-takes
returns-then-not-may_keep-clause-takes g c =
    let s = c.args.centre.now.settings in
    let ask = c.args.ask.now in
    let say = c.in_ok-say.say in
    let other : is_kept_by s ask ≡ false = ap (λ n. is_kind ask && fits n ask) c.requires.among ∙ sym c.may_keep.ensures ∙ c.if-not-may_keep.true in
    record {
      say = say;
      answer = c.in_ok-say.ensures.answer;
      stands = c.in_ok-say.ensures.stands;
      more = [];
      asks = λ trail stood. asks_same s.me [] [] (entry 0 ask say) (ap is_kept (c.in_ok-say.ensures.answer trail stood) ∙ unkept s trail ask other) refl;
      says_are = c.push.ensures.says ∙ ap (λ l. l ++ say ∷ []) c.reserve.ensures.says;
      items_are = c.push.ensures.kept ∙ c.reserve.ensures.kept ∙ sym (append-nil c.args.batch.now.kept.items);
    }

pub returns-then-not-is_kept-clause-takes : goal.returns-then-not-is_kept-clause-takes
returns-then-not-is_kept-clause-takes g c =
    let s = c.args.centre.now.settings in
    let ask = c.args.ask.now in
    let say = c.in_ok-say-2.say in
    record {
      say = say;
      answer = c.in_ok-say-2.ensures.answer;
      stands = c.in_ok-say-2.ensures.stands;
      more = [];
      asks = λ trail stood. asks_same s.me [] [] (entry 0 ask say) (sym c.is_kept.ensures ∙ c.if-not-is_kept.true) refl;
      says_are = c.push-then-not-is_kept.ensures.says ∙ ap (λ l. l ++ say ∷ []) c.reserve-2.ensures.says;
      items_are = c.push-then-not-is_kept.ensures.kept ∙ c.reserve-2.ensures.kept ∙ sym (append-nil c.args.batch.now.kept.items);
    }

pub returns-clause-takes : goal.returns-clause-takes
returns-clause-takes g c =
    let s = c.args.centre.now.settings in
    let ask = c.args.ask.now in
    let say = c.in_ok-say-2.say in
    let kept = c.in_ok-kept.kept in
    record {
      say = say;
      answer = c.in_ok-say-2.ensures.answer;
      stands = c.in_ok-say-2.ensures.stands;
      more = kept ∷ [];
      asks = λ trail stood. asks_more s.me [] kept [] (entry 0 ask say) (c.in_ok-kept.ensures.by ∙ ap (λ me. by_of me ask) (sym c.requires.own)) c.in_ok-kept.ensures.ask (sym c.is_kept.ensures ∙ c.if-not-is_kept.false) refl;
      says_are = c.push_kept.ensures.says ∙ ap (λ l. l ++ say ∷ []) c.reserve-2.ensures.says;
      items_are = c.push_kept.ensures.kept ∙ ap (λ l. l ++ c.from_ask-item.result ∷ []) c.reserve-2.ensures.kept ∙ ap (λ x. c.args.batch.now.kept.items ++ x ∷ []) c.from_ask-item.ensures;
    }
