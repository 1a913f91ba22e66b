use Rattle.std.proofs.Common.{◌≡◌, List, [], ◌∷◌, ◌++◌, length, map-id, sym, ap, ◌∙◌, subst, append_assoc}
use Rattle.std.proofs.lemmas.List.{append-nil}
use Rattle.std.proofs.lemmas.Iterator.Adapters.{YieldsList-from_vec}
use Rattle.std.proofs.lemmas.Iterator.Consumers.{YieldsList-end}
use Rattle.script_core.specs.declared.taps.TapState.{TapState}
use Rattle.thread_run.specs.Taps.{row_lists, HaveClosed}
use Rattle.thread_run.proofs.tapping.close_taps.Goals as goal

pub taps-init : goal.taps-init
taps-init g c = record {
  reads = c.requires;
  closed = λ rest more closed. subst (λ (all : List TapState). HaveClosed rest c.args.opened.feeders.items (row_lists c.args.opened.rows.items) (all ++ more)) (sym c.in_ok-all.ensures.items) closed;
}

pub taps-preserved : goal.taps-preserved
taps-preserved g c =
    let first = c.args.opened in
    let tap = c.in-Some.tap in
    let later = c.in_ok-later.later in
    let next = c.in_ok-later.ensures in
    record {
      reads = next.reads;
      closed = λ rest more closed.
          subst (λ (taps : List TapState). HaveClosed taps first.feeders.items (row_lists first.rows.items) (c.push.new.self.items ++ more)) (sym (append_assoc c.taps.yielded (tap ∷ []) rest))
          (subst (λ (all : List TapState). HaveClosed (c.taps.yielded ++ tap ∷ rest) first.feeders.items (row_lists first.rows.items) all) (sym (ap (λ (all : List TapState). all ++ more) c.in_ok-push.ensures.items ∙ append_assoc c.taps.all.items (later ∷ []) more))
          (c.taps.invariant.closed (tap ∷ rest) (later ∷ more) (next.closed rest more closed)));
    }

pub returns : goal.returns
returns g c =
    let first = c.args.opened in
    let taps : List TapState = c.args.taps.items in
    let given = c.into_iter-tap-iterator.ensures.into_iter_gives in
    let end = YieldsList-end (YieldsList-from_vec {s = c.into_iter-tap-iterator.result} taps given.0 (let len = given.1 in let ok = c.args.taps.ok in cc)) c.taps.yielded c.taps.tap-iterator c.taps.yielded_by c.next.result c.next.new.self c.in-None.is c.next.ensures.steps in
    let all : c.taps.yielded ≡ taps = sym (map-id c.taps.yielded) ∙ end.0 in
    subst (λ (taps : List TapState). HaveClosed taps first.feeders.items (row_lists first.rows.items) c.taps.all.items) (append-nil c.taps.yielded ∙ all)
    (subst (λ (all : List TapState). HaveClosed (c.taps.yielded ++ []) first.feeders.items (row_lists first.rows.items) all) (append-nil c.taps.all.items) (c.taps.invariant.closed [] [] tt))
