use Rattle.std.proofs.Common.{◌≡◌, ◌<◌, List, None, length, subst, arith}
use Rattle.std.specs.Prelude.{slice_get}
use Rattle.tx_core.specs.declared.state.State.{State}
use Rattle.script_core.specs.Taps.{state_shown}
use Rattle.phase_actors.proofs.Reading.{reader_same, sees_last, sees_none}
use Rattle.phase_actors.proofs.looking.seen_by.Goals as goal

pub look-requires : goal.look-requires
look-requires c =
    let inside : c.in-Some.place < length c.args.tap.now.objects = subst (λ objects. c.in-Some.place < length objects) c.as_slice.ensures c.in-Some.ensures.some.0 in
    omega (arith, inside, c.requires.wide)

pub returns-in_ok-vector-in-Some-clause-seen : goal.returns-in_ok-vector-in-Some-clause-seen
returns-in_ok-vector-in-Some-clause-seen c =
    let place = c.in-Some.place in
    let object = c.args.object.now in
    let there : (states : List State) → state_shown c.args.tap.now.objects states object ≡ slice_get states place = subst (λ objects. (states : List State) → state_shown objects states object ≡ slice_get states place) c.as_slice.ensures c.in-Some.ensures.some.1 in
    sees_last c.args.tap.now c.look.new.self.shows object place c.in_ok-vector-in-Some.vector c.in_ok-vector-in-Some.value there c.in_ok-vector-in-Some.ensures.last

pub returns-in-None-clause-read : goal.returns-in-None-clause-read
returns-in-None-clause-read c = reader_same c.args.reader.now

pub returns-in-None-clause-seen : goal.returns-in-None-clause-seen
returns-in-None-clause-seen c =
    let object = c.args.object.now in
    let none : (states : List State) → state_shown c.args.tap.now.objects states object ≡ None = subst (λ objects. (states : List State) → state_shown objects states object ≡ None) c.as_slice.ensures c.in-None.ensures.none in
    sees_none c.args.tap.now c.args.reader.now object c.requires none
