use Rattle.std.proofs.Common.{rules, arith, ◌≡◌, ◌<◌, ◌+◌, ◌++◌, ◌∷◌, [], List, length, slice_set, refl, sym, ap, ◌∙◌}
use Rattle.std.specs.Global.{Vec}
use Rattle.std.proofs.lemmas.List.{length-map, length-set, length-append}
use Rattle.dc_host.specs.HostDoors.{CentrePass}
use Rattle.dc_host.specs.Hosts.{rows_of}
use Rattle.dc_host.proofs.Rows.{widened_none, pass_more}
use Rattle.dc_host.proofs.columns.add_column.Goals as goal

pub passes-init : goal.passes-init
passes-init c =
    let all : c.into_iter-pass-iterator.result.rest.items ≡ c.args.column.items = search rules in
    let long : length c.into_iter-pass-iterator.result.rest.items ≡ length c.args.rows.now.items = ap (λ (l : List CentrePass). length l) all ∙ c.requires in
    record { place_is = refl; fits = omega (arith, long); long = refl; rows_are = sym (widened_none (rows_of c.args.rows.now.items)) }

pub passes-preserved : goal.passes-preserved
passes-preserved c =
    let was = c.passes.invariant in
    let rows = c.passes.rows.items in
    let first = rows_of c.args.rows.now.items in
    let one : length c.passes.pass-iterator.rest.items ≡ length (c.in-Some.pass ∷ c.next.new.self.rest.items) = ap (λ (l : List CentrePass). length l) c.in-Some.ensures.steps.0 in
    let inside : c.passes.place < length rows = omega (arith, one, was.fits, was.long) in
    let long : length rows ≡ length first = was.long ∙ sym (length-map c.args.rows.now.items (λ (row : Vec CentrePass). row.items)) in
    let yields : length (c.passes.yielded ++ c.in-Some.pass ∷ []) ≡ length c.passes.yielded + 1 = length-append c.passes.yielded (c.in-Some.pass ∷ []) in
    record {
      place_is = omega (arith, was.place_is, yields);
      fits = omega (arith, one, was.fits);
      long = length-set rows c.passes.place c.push.new.self ∙ was.long;
      rows_are = pass_more first c.passes.yielded c.in-Some.pass rows (slice_set rows c.passes.place c.push.new.self) c.index_mut-row.result.now c.push.new.self c.passes.place was.place_is inside long was.rows_are c.index_mut-row.ensures.value c.in_ok-push.ensures.items refl;
    }
