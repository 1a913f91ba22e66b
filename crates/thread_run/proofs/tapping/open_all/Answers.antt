use Rattle.std.proofs.Common.{◌≡◌, ◌+◌, ◌∷◌, ◌++◌, [], length, map, take, sym, ap, ◌∙◌, subst}
use Rattle.std.specs.Prelude.{All, replicate}
use Rattle.std.specs.Global.{Vec}
use Rattle.std.proofs.lemmas.List.{length-map, length-replicate, take_more, take_all}
use Rattle.std.proofs.lemmas.List.Elements.{All-get_or}
use Rattle.script_core.specs.declared.taps.TapState.{TapState}
use Rattle.read_tap.specs.Shows.{ShowsView}
use Rattle.thread_run.specs.Taps.{row_lists, IsWide, reader_of, AreOpened}
use Rattle.thread_run.proofs.tapping.open_all.Goals as goal

pub open_one-requires-clause-wide : goal.open_one-requires-clause-wide
open_one-requires-clause-wide g c = subst IsWide (sym c.tap-item.is) (All-get_or IsWide c.args.taps.now c.taps.tap-index c.tap-item.result c.taps-test.true c.requires.wide)

pub taps-preserved : goal.taps-preserved
taps-preserved g c =
    let taps = c.args.taps.now in
    let tap = c.tap-item.result in
    let later = c.open_one.new.opened in
    let longer : take (c.taps.tap-index + 1) taps ≡ take c.taps.tap-index taps ++ tap ∷ [] = take_more taps c.taps.tap-index tap c.taps-test.true ∙ ap (λ (tap : TapState). take c.taps.tap-index taps ++ tap ∷ []) (sym c.tap-item.is) in
    let more : AreOpened (take c.taps.tap-index taps ++ tap ∷ []) c.args.threads later.feeders.items later.rows.items = c.in_ok-open_one.ensures (take c.taps.tap-index taps) c.taps.invariant.opened in
    record {
      many = sym (length-map later.rows.items (λ (row : Vec ShowsView). row.items)) ∙ (ap length more.rows_are ∙ length-replicate c.args.threads (map reader_of later.feeders.items));
      opened = subst (λ taps. AreOpened taps c.args.threads later.feeders.items later.rows.items) (sym longer) more;
    }

pub returns : goal.returns
returns g c = subst (λ taps. AreOpened taps c.args.threads c.taps.opened.feeders.items c.taps.opened.rows.items) (take_all c.taps.tap-index c.args.taps.now c.taps-test.false) c.taps.invariant.opened
