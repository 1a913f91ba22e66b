use Rattle.std.proofs.Common.{◌+◌, ◌-◌, ◌<◌, length, take, get_or, Ok, refl, ap, ◌∙◌, arith, rules}
use Rattle.std.proofs.lemmas.List.{take_all}
use Rattle.vv_core.specs.declared.stamp.Stamp.{Stamp}
use Rattle.wire_codec.specs.Reading.{entries_at, with_front}
use Rattle.wire_codec.proofs.Loops.{one_more, none_more, all_read, entry_read, entry_fails, no_entry, raised_front, raised_behind}
use Rattle.wire_codec.proofs.records.vector_at.Goals as goal

pub returns-in_err-seq : goal.returns-in_err-seq
returns-in_err-seq c =
    let stop = c.in_err-seq.field-0.0 in
    let fails = entry_fails stop c.args.width c.loop-place.place c.loop-place.rest.now c.loop-place-test.true c.in_err-seq.ensures in
    let all = none_more stop (take c.loop-place.place c.loop-place.vector) (entries_at (c.args.width - c.loop-place.place) c.loop-place.rest.now) (entries_at c.args.width c.args.bytes.now) fails c.loop-place.invariant.so_far in
    search rules

pub loop-place-preserved : goal.loop-place-preserved
loop-place-preserved c =
    let now = c.raise_by.ensures.entries in
    let old = c.loop-place.vector in
    let stamp : Stamp = record { centre = c.loop-place.place + 1; seq = c.in_ok-seq.seq } in
    let inside : c.loop-place.place < length old = omega (arith, c.loop-place-test.true, c.loop-place.invariant.wide) in
    let entry = entry_read c.args.width c.loop-place.place c.loop-place.rest.now c.in_ok-seq.behind.now c.in_ok-seq.seq c.loop-place-test.true c.in_ok-seq.ensures in
    let all = one_more (take c.loop-place.place old) c.in_ok-seq.seq (entries_at (c.args.width - c.loop-place.place) c.loop-place.rest.now) (entries_at (c.args.width - (c.loop-place.place + 1)) c.in_ok-seq.behind.now) (entries_at c.args.width c.args.bytes.now) entry c.loop-place.invariant.so_far in
    let front = raised_front old stamp c.loop-place.place refl inside (c.loop-place.invariant.behind c.loop-place.place (omega arith)) in
    record {
      wide = c.raise_by.ensures.width ∙ c.loop-place.invariant.wide;
      behind = λ k past. ap (λ v. get_or v k 0) now ∙ raised_behind old stamp c.loop-place.place k refl inside past (c.loop-place.invariant.behind k (omega (arith, past)));
      so_far = ap (λ v. with_front (take (c.loop-place.place + 1) v) (entries_at (c.args.width - (c.loop-place.place + 1)) c.in_ok-seq.behind.now)) now ∙ ap (λ xs. with_front xs (entries_at (c.args.width - (c.loop-place.place + 1)) c.in_ok-seq.behind.now)) front ∙ all;
    }

pub returns : goal.returns
returns c =
    let all = all_read (take c.loop-place.place c.loop-place.vector) c.loop-place.rest.now (entries_at (c.args.width - c.loop-place.place) c.loop-place.rest.now) (entries_at c.args.width c.args.bytes.now) (no_entry c.args.width c.loop-place.place c.loop-place.rest.now c.loop-place-test.false) c.loop-place.invariant.so_far in
    all ∙ ap (λ v. Ok (v, c.loop-place.rest.now)) (take_all c.loop-place.place c.loop-place.vector (omega (arith, c.loop-place.invariant.wide, c.loop-place-test.false)))
