use Rattle.std.proofs.Common.{◌≡◌, ◌<◌, ◌-◌, suc, length, get_or, Some, refl, sym, ap, ◌∙◌, subst, arith}
use Rattle.std.specs.Prelude.{slice_get, slice_set}
use Rattle.std.proofs.lemmas.Option.{slice_get_read}
use Rattle.std.proofs.lemmas.Result.{IfOk-weaker}
use Rattle.list_core.proofs.Gets.{set_here}
use Rattle.script_core.specs.Taps.{seen_through}
use Rattle.run_table.specs.Taps.{taps_of}
use Rattle.run_table.proofs.Taps.{tap_found}
use Rattle.phase_actors.specs.Taps.{shows_read, IsReader, SeesOf}
use Rattle.phase_actors.proofs.Reading.{read_same, read_one, sees_own, sees_there}
use Rattle.phase_actors.proofs.looking.seen_now.Goals as goal

pub returns-then-place-len-clause-read : goal.returns-then-place-len-clause-read
returns-then-place-len-clause-read c = read_same c.args.readers.now.items

pub returns-then-place-len-clause-seen : goal.returns-then-place-len-clause-seen
returns-then-place-len-clause-seen c =
    let taps = c.args.taps.now in
    let centre = c.args.centre in
    let readers = c.args.readers.now.items in
    IfOk-weaker c.seen_at.result (λ seen. seen ≡ seen_through (taps_of taps centre) c.args.object.now) (SeesOf (taps_of taps centre) (shows_read taps readers centre) c.args.object.now)
    (λ seen is. sees_own taps readers centre c.args.object.now seen c.requires.centre (omega (arith, c.if-place-len.true, c.len.ensures)) is)
    c.seen_at.ensures

pub seen_by-requires : goal.seen_by-requires
seen_by-requires c =
    let taps = c.args.taps.now in
    let readers = c.args.readers.now.items in
    let place = c.args.centre - 1 in
    let reader = c.index_mut.result.now in
    let there : slice_get readers place ≡ Some reader = slice_get_read readers (length readers) place reader refl (omega (arith, c.if-place-len.false, c.len.ensures)) c.index_mut.ensures.value in
    let here : taps_of taps c.args.centre ≡ c.index-taps-place.result = tap_found taps c.args.centre c.index-taps-place.result c.requires.centre (slice_get_read taps (length taps) place c.index-taps-place.result refl (omega (arith, c.requires.readers.few, c.if-place-len.false, c.len.ensures)) c.index-taps-place.is) in
    let next : suc place ≡ c.args.centre = omega (arith, c.requires.centre) in
    subst (λ tap. IsReader tap reader) here (subst (λ k. IsReader (taps_of taps k) reader) next (c.requires.readers.each place reader there))

pub returns-clause-read : goal.returns-clause-read
returns-clause-read c =
    let readers = c.args.readers.now.items in
    let place = c.args.centre - 1 in
    read_one readers (slice_set readers place c.seen_by.new.reader) place c.index_mut.result.now c.seen_by.new.reader (omega (arith, c.if-place-len.false, c.len.ensures)) c.index_mut.ensures.value refl c.seen_by.ensures.read

pub returns-clause-seen : goal.returns-clause-seen
returns-clause-seen c =
    let taps = c.args.taps.now in
    let readers = c.args.readers.now.items in
    let centre = c.args.centre in
    let place = centre - 1 in
    let reader = c.seen_by.new.reader in
    let object = c.args.object.now in
    let tap = c.index-taps-place.result in
    let here : taps_of taps centre ≡ tap = tap_found taps centre tap c.requires.centre (slice_get_read taps (length taps) place tap refl (omega (arith, c.requires.readers.few, c.if-place-len.false, c.len.ensures)) c.index-taps-place.is) in
    let there : slice_get (slice_set readers place reader) place ≡ Some reader = set_here readers place reader (omega (arith, c.if-place-len.false, c.len.ensures)) in
    IfOk-weaker c.seen_by.result (SeesOf tap reader.shows object) (SeesOf (taps_of taps centre) (shows_read taps (slice_set readers place reader) centre) object)
    (λ seen sees. sees_there taps (slice_set readers place reader) centre object reader seen c.requires.centre there (subst (λ tap. SeesOf tap reader.shows object seen) (sym here) sees))
    c.seen_by.ensures.seen
