-- Readers of taps that come to see more, and what clients see through them.
use Rattle.std.proofs.Common.{◌≡◌, ◌≤◌, ◌<◌, ◌==◌, ⊎_elim, ℕ, zero, suc, ◌+◌, ◌-◌, Bool, true, false, cond, take, drop, List, [], ◌∷◌, length, get_or, Option, Some, None, refl, sym, ap, ◌∙◌, subst, arith}
use Rattle.std.specs.Prelude.{slice_get, slice_set, All}
use Rattle.std.specs.Option.{option_map}
use Rattle.std.specs.List.{AllZip}
use Rattle.std.proofs.lemmas.Bool.{cases_lt, eqb-true}
use Rattle.std.proofs.lemmas.Option.{none-some, same_Some, slice_get_read}
use Rattle.std.proofs.lemmas.Slice.Zip.{AllZip-long}
use Rattle.list_core.proofs.Gets.{get_within}
use Rattle.ids_core.specs.declared.object.ObjectId.{ObjectId}
use Rattle.ids_core.specs.Ids.{same_object}
use Rattle.tx_core.specs.declared.state.State.{State}
use Rattle.tx_core.specs.declared.state.Value.{Value}
use Rattle.tx_core.specs.States.{value_of}
use Rattle.dc_talk.specs.declared.line.Line.TheVariants as line
use Rattle.dc_talk.specs.declared.log.Deed.{Deed}
use Rattle.dc_talk.specs.declared.log.Note.{Note}
use Rattle.dc_talk.specs.declared.seen.Seen.{Seen}
use Rattle.dc_talk.specs.Clients.{Client}
use Rattle.dc_talk.specs.Logs.{Logged}
use Rattle.dc_talk.specs.Acting.{noted_all}
use Rattle.dc_talk.specs.Rule.{after}
use Rattle.script_core.specs.declared.taps.Show.{Show}
use Rattle.script_core.specs.declared.taps.TapState.{TapState}
use Rattle.script_core.specs.declared.steps.ClientStep.{ClientStep}
use Rattle.script_core.specs.declared.steps.ClientStep.TheVariants.{Look}
use Rattle.script_core.specs.Deeds.{after_all, armed_after}
use Rattle.script_core.specs.Taps.{fed_tap, state_shown, seen_through, looks, look_in}
use Rattle.client_stub.specs.Playing.{Playing, Grows, Takes}
use Rattle.client_stub.proofs.Growth.{grows_told}
use Rattle.run_table.specs.Taps.{taps_of}
use Rattle.run_table.proofs.Looks.{is_look, told_seen, shown_later}
use Rattle.run_sections.specs.Orders.{deeds_of, InOrder, none_left, one_first}
use Rattle.run_sections.specs.Taps.{shows_at, LooksIn, LookGoes}
use Rattle.run_steps.proofs.Who.{after_who}
use Rattle.read_tap.specs.Shows.{IsFront, IsLast, ShowsView, width, last_of}
use Rattle.read_tap.proofs.Fronts.{front_same}
use Rattle.phase_actors.specs.Taps.{shows_among, shows_read, IsReader, AreReaders, HasRead, HaveRead, SeesOf, SeesLast, SeesIn, HasLooked, TakesReading}
use Rattle.phase_actors.proofs.Among.{front_then, front_get, front_long, zip_at, zip_same, zip_then, zip_set_at, among_there, among_past, among_grows}

-- ---- readers

-- a reader that saw no more
pub reader_same : (reader : ShowsView) → HasRead reader reader
reader_same reader = (refl, front_same reader.shows)

-- readers that saw no more
pub read_same : (readers : List ShowsView) → HaveRead readers readers
read_same readers = zip_same HasRead reader_same readers

-- readers that saw more, and then more
pub read_then : (first readers later : List ShowsView) → HaveRead first readers → HaveRead readers later → HaveRead first later
read_then first readers later one two = zip_then HasRead HasRead HasRead (λ a b c before behind. (behind.0 ∙ before.0, front_then a.shows b.shows c.shows before.1 behind.1)) first readers later one two

-- one of them saw more
pub read_one : (readers new : List ShowsView) (place : ℕ) (reader later : ShowsView) → place < length readers → reader ≡ get_or readers place reader → new ≡ slice_set readers place later → HasRead reader later → HaveRead readers new
read_one readers new place reader later within found put read =
    subst (HaveRead readers) (sym put) (zip_set_at HasRead reader_same readers place reader later (slice_get_read readers (length readers) place reader refl within found) read)

-- they are readers of the same taps still
pub readers_stay : (taps : List TapState) (readers later : List ShowsView) → HaveRead readers later → AreReaders taps readers → AreReaders taps later
readers_stay taps readers later read are = record {
  few = omega (arith, are.few, AllZip-long HasRead readers later read);
  each = λ place reader there.
      let found = zip_at HasRead readers later place reader read there in
      let was : IsReader (taps_of taps (suc place)) found.0 = are.each place found.0 found.1 in
      record {
        wide = ap width found.2.0 ∙ was.wide;
        some = omega (arith, was.some, front_long found.0.shows reader.shows found.2.1);
      };
}

-- the shows of each tap that were seen grow
pub read_grows : (taps : List TapState) (readers later : List ShowsView) → HaveRead readers later → (centre : ℕ) → IsFront (shows_read taps readers centre) (shows_read taps later centre)
read_grows taps readers later read centre = among_grows (λ (reader : ShowsView). reader.shows) (λ (reader : ShowsView). reader.shows) taps readers later (fronts readers later read) centre
  where
    fronts : (readers later : List ShowsView) → HaveRead readers later → AllZip (λ (a b : ShowsView). IsFront a.shows b.shows) readers later
    fronts [] [] read = tt
    fronts [] (b ∷ later) read = absurd read
    fronts (a ∷ readers) [] read = absurd read
    fronts (a ∷ readers) (b ∷ later) read = (read.0.1, fronts readers later read.1)

-- a show of each tap was seen
pub read_some : (taps : List TapState) (readers : List ShowsView) → AreReaders taps readers → (centre : ℕ) → 0 < length (shows_read taps readers centre)
read_some taps readers are zero = omega arith
read_some taps readers are (suc place) = ⊎_elim
    (λ within.
    let found = get_within readers place within in
    subst (λ (shows : List Show). 0 < length shows) (sym (among_there taps (λ (reader : ShowsView). reader.shows) readers place found.0 found.1)) (are.each place found.0 found.1).some)
    (λ past. subst (λ (shows : List Show). 0 < length shows) (sym (among_past taps (λ (reader : ShowsView). reader.shows) readers place past)) (omega arith))
    (cases_lt place (length readers))

-- ---- the place of an object

-- the state of the object that stands first
pub shown_first : (objects : List ObjectId) (states : List State) (object d : ObjectId) (place : ℕ) → place < length objects → same_object (get_or objects place d) object ≡ true → state_shown (drop place objects) (drop place states) object ≡ slice_get states place
shown_first [] states object d place within same = absurd (omega (arith, within))
shown_first (first ∷ objects) [] object d zero within same = refl
shown_first (first ∷ objects) (state ∷ states) object d zero within same = ap (λ test. cond test (Some state) (state_shown objects states object)) same
shown_first (first ∷ objects) [] object d (suc place) within same = none_there (drop place objects)
  where
    none_there : (objects : List ObjectId) → state_shown objects [] object ≡ None
    none_there [] = refl
    none_there (first ∷ objects) = refl
shown_first (first ∷ objects) (state ∷ states) object d (suc place) within same = shown_first objects states object d place (omega (arith, within)) same

-- ---- what is seen

-- a reader sees the object at its place in its last show
pub sees_last : (tap : TapState) (shows : List Show) (object : ObjectId) (place : ℕ) (vector : List ℕ) (value : Value) → ((states : List State) → state_shown tap.objects states object ≡ slice_get states place) → IsLast shows place vector value → SeesOf tap shows object (Some (record { vector = vector; value = value }))
sees_last tap shows object place vector value there is =
    let state : state_shown tap.objects is.show.states object ≡ Some is.read.state = there is.show.states ∙ is.read.state_is in
    let seen : Seen = record { vector = vector; value = value } in
    let told : Seen = record { vector = is.show.vector; value = value_of is.read.state } in
    let same : seen ≡ told = λ k. record { vector = is.read.vector_is k; value = is.read.value_is k } in
    record {
      show = is.show;
      last = is.last;
      seen_is = ap (λ (seen : Seen). Some seen) same ∙ sym (ap (option_map (λ (state : State). record { vector = is.show.vector; value = value_of state })) state);
    }

-- of an object that is not the tap's nothing is seen
pub sees_none : (tap : TapState) (reader : ShowsView) (object : ObjectId) → IsReader tap reader → ((states : List State) → state_shown tap.objects states object ≡ None) → SeesOf tap reader.shows object None
sees_none tap reader object is none =
    let last = get_within reader.shows (length reader.shows - 1) (omega (arith, is.some)) in
    record {
      show = last.0;
      last = last.1;
      seen_is = sym (ap (option_map (λ (state : State). record { vector = last.0.vector; value = value_of state })) (none last.0.states));
    }

-- where there is no reader the tap's own show is seen
pub sees_own : (taps : List TapState) (readers : List ShowsView) (centre : ℕ) (object : ObjectId) (seen : Option Seen) → 1 ≤ centre → length readers ≤ centre - 1 → seen ≡ seen_through (taps_of taps centre) object → SeesOf (taps_of taps centre) (shows_read taps readers centre) object seen
sees_own taps readers zero object seen low past is = absurd (omega (arith, low))
sees_own taps readers (suc place) object seen low past is =
    subst (λ (shows : List Show). SeesOf (taps_of taps (suc place)) shows object seen) (sym (among_past taps (λ (reader : ShowsView). reader.shows) readers place (omega (arith, past))))
    (record { show = (taps_of taps (suc place)).show; last = refl; seen_is = is })

-- what a reader sees is what is seen of the tap of its centre
pub sees_there : (taps : List TapState) (new : List ShowsView) (centre : ℕ) (object : ObjectId) (reader : ShowsView) (seen : Option Seen) → 1 ≤ centre → slice_get new (centre - 1) ≡ Some reader → SeesOf (taps_of taps centre) reader.shows object seen → SeesOf (taps_of taps centre) (shows_read taps new centre) object seen
sees_there taps new zero object reader seen low there sees = absurd (omega (arith, low))
sees_there taps new (suc place) object reader seen low there sees =
    let same : suc place - 1 ≡ place = omega arith in
    let here : slice_get new place ≡ Some reader = subst (λ k. slice_get new k ≡ Some reader) same there in
    subst (λ (shows : List Show). SeesOf (taps_of taps (suc place)) shows object seen) (sym (among_there taps (λ (reader : ShowsView). reader.shows) new place reader here)) sees

-- a client that sees this looked
pub looked_so : (taps : List TapState) (readers : List ShowsView) (client centre : ℕ) (object : ObjectId) (seen : Option Seen) (old new : Logged) → SeesOf (taps_of taps centre) (shows_read taps readers centre) object seen → new ≡ noted_all old (looks client centre object seen) → HasLooked taps readers client centre object old new
looked_so taps readers client centre object seen old new sees log = record {
  deeds = looks client centre object seen;
  sees = record { show = sees.show; last = sees.last; deeds_are = ap (looks client centre object) sees.seen_is };
  log = log;
}

-- ---- steps

-- a look takes the client's step
pub step_reads : (taps : List TapState) (readers : List ShowsView) (step : ClientStep) (p : Playing) (later : Logged) (client centre : ℕ) (object : ObjectId) → Some (centre, object) ≡ look_in step → p.client.client ≡ client → HasLooked taps readers client centre object p.log later → TakesReading taps readers client step p (record p { log = later })
step_reads taps readers step p later client centre object is own looked =
    let seen : Option Seen = seen_through (fed_tap (Some looked.sees.show) (taps_of taps centre)) object in
    let deeds : List Deed = looks p.client.client centre object seen in
    let grown : Grows p (record p { log = noted_all p.log deeds }) deeds = subst (λ deeds. Grows p (record p { log = noted_all p.log deeds }) deeds) (told_seen p.client.client centre object seen) (grows_told p (option_map (line.Look p.client.client centre object) seen)) in
    let here : later ≡ noted_all p.log deeds = looked.log ∙ ap (noted_all p.log) (looked.sees.deeds_are ∙ ap (λ client. looks client centre object seen) (sym own)) in
    subst (λ step. TakesReading taps readers client step p (record p { log = later })) (sym (is_look step centre object is))
    (subst (λ (log : Logged). TakesReading taps readers client (Look centre object) p (record p { log = log })) (sym here)
    (record {
      takes = record { deeds = deeds; such = (seen, refl); grows = grown; armed = armed seen };
      sees = record { show = looked.sees.show; last = looked.sees.last; deeds_are = ap (λ client. looks client centre object seen) own };
    }))
  where
    armed : (seen : Option Seen) → p.armed ≡ armed_after p.armed (Look centre object) (looks p.client.client centre object seen)
    armed None = refl
    armed (Some seen) = refl

-- a step that does not look sees nothing
pub step_blind : (taps : List TapState) (readers : List ShowsView) (client : ℕ) (step : ClientStep) (p q : Playing) → None ≡ look_in step → Takes step p q → TakesReading taps readers client step p q
step_blind taps readers client step p q none takes = record { takes = takes; sees = subst (λ looked. SeesIn taps readers client looked takes.deeds) none tt }

-- deeds leave a client its number
pub own_stays : (s : Client) (deeds : List Deed) → (after_all s deeds).client ≡ s.client
own_stays s [] = refl
own_stays s (deed ∷ deeds) = own_stays (after s deed) deeds ∙ after_who s deed

-- ---- the order of looks

-- things that are done in order are so where each of them is so
pub order_as : {S M : Type 0} (Does Later : S → ℕ → M → List Note → S → Type 0) (section : ℕ) → ((s next : S) (step : ℕ) (m : M) (mine : List Note) → Does s step m mine next → Later s step m mine next) → (step : ℕ) (s last : S) (ms : List M) (notes : List Note) → InOrder Does section step s ms notes last → InOrder Later section step s ms notes last
order_as Does Later section by step s last [] notes none_left = none_left
order_as Does Later section by step s last (m ∷ ms) notes (one_first next mine later whole at does rest) = one_first next mine later whole at (by s next step m mine does) (order_as Does Later section by (step + 1) next last ms later rest)

-- a look at one of some shows is one at one of more of them
pub look_more : (taps : ℕ → TapState) (shows later : ℕ → List Show) (client : ℕ) → ((centre : ℕ) → IsFront (shows centre) (later centre)) → (places next : ℕ → ℕ) (step : ℕ) (does : ClientStep) (mine : List Note) → LookGoes taps shows client places step does mine next → LookGoes taps later client places step does mine next
look_more taps shows later client grow places next step does mine = go (look_in does)
  where
    go : (looked : Option (ℕ × ObjectId)) → LooksIn taps shows client looked (deeds_of mine) places next → LooksIn taps later client looked (deeds_of mine) places next
    go None stay = stay
    go (Some looked) sees = record {
      place = sees.place;
      show = sees.show;
      there = front_get (shows looked.0) (later looked.0) sees.place sees.show (grow looked.0) sees.there;
      goes_on = sees.goes_on;
      seen = sees.seen;
      then_is = sees.then_is;
    }

-- so of all of a client's steps
pub looks_more : (taps : ℕ → TapState) (shows later : ℕ → List Show) (client section step : ℕ) → ((centre : ℕ) → IsFront (shows centre) (later centre)) → (places last : ℕ → ℕ) (steps : List ClientStep) (notes : List Note) → InOrder (LookGoes taps shows client) section step places steps notes last → InOrder (LookGoes taps later client) section step places steps notes last
looks_more taps shows later client section step grow places last steps notes order = order_as (LookGoes taps shows client) (LookGoes taps later client) section (λ s next step does mine looked. look_more taps shows later client grow s next step does mine looked) step places last steps notes order

-- where the client was before
pub record GoesOn (taps : List TapState) (readers : List ShowsView) (client : ℕ) (looked : Option (ℕ × ObjectId)) (deeds : List Deed) (places : ℕ → ℕ) : Type 0 where
  pub later : ℕ → ℕ
  pub looks_in : LooksIn (taps_of taps) (shows_read taps readers) client looked deeds places later
  pub within : (centre : ℕ) → later centre < length (shows_read taps readers centre)

-- a look at the last show is not before another one
pub sees_on : (taps : List TapState) (readers : List ShowsView) (client : ℕ) (looked : Option (ℕ × ObjectId)) (deeds : List Deed) (places : ℕ → ℕ) → ((centre : ℕ) → places centre < length (shows_read taps readers centre)) → SeesIn taps readers client looked deeds → GoesOn taps readers client looked deeds places
sees_on taps readers client None deeds places within sees = record { later = places; looks_in = λ centre. refl; within = within }
sees_on taps readers client (Some looked) deeds places within sees = record {
  later = λ centre. cond (centre == looked.0) place (places centre);
  looks_in = record { place = place; show = sees.show; there = sees.last; goes_on = omega (arith, within looked.0); seen = sees.deeds_are; then_is = λ centre. refl };
  within = λ centre. inside centre (centre == looked.0) refl;
}
  where
    place : ℕ
    place = length (shows_read taps readers looked.0) - 1

    inside : (centre : ℕ) (test : Bool) → (centre == looked.0) ≡ test → cond test place (places centre) < length (shows_read taps readers centre)
    inside centre true is = subst (λ k. place < length (shows_read taps readers k)) (sym (eqb-true centre looked.0 is)) (omega (arith, within looked.0))
    inside centre false is = within centre
