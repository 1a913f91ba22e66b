use Rattle.std.proofs.Common.{rules, arith, ◌≡◌, ◌<◌, ◌+◌, ◌++◌, ◌∷◌, [], List, length, slice_set, refl, sym, ap, ◌∙◌}
use Rattle.std.specs.Global.{Vec}
use Rattle.std.proofs.lemmas.List.{length-map, length-set, length-append}
use Rattle.read_tap.specs.Shows.{ShowsView}
use Rattle.thread_run.specs.Taps.{row_lists}
use Rattle.thread_run.proofs.PhaseTaps.{widened_none, reader_more}
use Rattle.thread_run.proofs.tapping.add_readers.Goals as goal

pub readers-init : goal.readers-init
readers-init c =
    let all : c.into_iter-reader-iterator.result.rest.items ≡ c.args.readers.items = search rules in
    let long : length c.into_iter-reader-iterator.result.rest.items ≡ length c.args.rows.now.items = ap (λ (l : List ShowsView). length l) all ∙ c.requires in
    record { place_is = refl; fits = omega (arith, long); long = refl; rows_are = sym (widened_none (row_lists c.args.rows.now.items)) }

pub readers-preserved : goal.readers-preserved
readers-preserved c =
    let was = c.readers.invariant in
    let rows = c.readers.rows.items in
    let first = row_lists c.args.rows.now.items in
    let one : length c.readers.reader-iterator.rest.items ≡ length (c.in-Some.reader ∷ c.next.new.self.rest.items) = ap (λ (l : List ShowsView). length l) c.in-Some.ensures.steps.0 in
    let inside : c.readers.place < length rows = omega (arith, one, was.fits, was.long) in
    let long : length rows ≡ length first = was.long ∙ sym (length-map c.args.rows.now.items (λ (row : Vec ShowsView). row.items)) in
    let yields : length (c.readers.yielded ++ c.in-Some.reader ∷ []) ≡ length c.readers.yielded + 1 = length-append c.readers.yielded (c.in-Some.reader ∷ []) in
    record {
      place_is = omega (arith, was.place_is, yields);
      fits = omega (arith, one, was.fits);
      long = length-set rows c.readers.place c.push.new.self ∙ was.long;
      rows_are = reader_more first c.readers.yielded c.in-Some.reader rows (slice_set rows c.readers.place c.push.new.self) c.index_mut-row.result.now c.push.new.self c.readers.place was.place_is inside long was.rows_are c.index_mut-row.ensures.value c.in_ok-push.ensures.items refl;
    }
