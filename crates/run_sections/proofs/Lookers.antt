-- The looks of a client along its log: in each section they see shows of that section, in the order of the shows.
use Rattle.std.proofs.Common.{◌≡◌, ◌≢◌, ℕ, suc, ◌+◌, ◌≤◌, ◌<◌, inl, inr, ⊎_elim, cond, List, [], ◌∷◌, ◌++◌, length, Option, Some, None, refl, sym, ap, ◌∙◌, subst, append_assoc, arith}
use Rattle.std.specs.Prelude.{All, ◌==◌, slice_get, flat_map}
use Rattle.std.proofs.lemmas.Bool.{cases_eq, eq-eqb, ne_eqb}
use Rattle.std.proofs.lemmas.List.{length-append, length_push}
use Rattle.std.proofs.lemmas.List.Elements.{All-head, All-tail}
use Rattle.std.proofs.lemmas.Option.{slice_get_within}
use Rattle.list_core.specs.Members.{In}
use Rattle.ids_core.specs.declared.object.ObjectId.{ObjectId}
use Rattle.dc_talk.specs.declared.log.Deed.{Deed}
use Rattle.dc_talk.specs.declared.log.Deed.TheVariants.{Told}
use Rattle.dc_talk.specs.declared.line.Line.TheVariants as line
use Rattle.dc_talk.specs.declared.log.Note.{Note}
use Rattle.dc_talk.specs.declared.seen.Seen.{Seen}
use Rattle.script_core.specs.declared.script.Script.{Script}
use Rattle.script_core.specs.declared.taps.Show.{Show}
use Rattle.script_core.specs.declared.taps.TapState.{TapState}
use Rattle.script_core.specs.declared.steps.ClientStep.{ClientStep}
use Rattle.script_core.specs.declared.steps.ClientStep.TheVariants.{Look}
use Rattle.script_core.specs.declared.steps.Section.{Section}
use Rattle.script_core.specs.Deeds.{Progress, StepDeeds}
use Rattle.script_core.specs.Rows.{IsSection}
use Rattle.script_core.specs.Scripts.{header_of}
use Rattle.script_core.specs.Steps.{IsCount, IsStep}
use Rattle.script_core.specs.Taps.{objects_on, fed_tap, seen_through, looks, look_in}
use Rattle.run_book.specs.Moves.{client_steps, operator_steps}
use Rattle.run_book.specs.Played.{IsAt}
use Rattle.run_sections.specs.Orders.{deeds_of, InOrder, none_left, one_first, ClientGoes}
use Rattle.run_sections.specs.Taps.{shows_at, tap_behind, shows_behind, LooksThere, LooksIn, LookGoes, TellsNoLook, SeesAt, LooksAlong, no_more, other_note, look_note}
use Rattle.run_sections.specs.Sections.{Between, Left, PlaysSection}
use Rattle.run_sections.specs.Runs.{PlaysSections, no_sections, next_section}
use Rattle.run_sections.proofs.Reaching.{client_sound}
use Rattle.run_sections.proofs.ShowsBehind.{order_low, feeds_say, behind_front, EndsWith, section_ends, objects_stay}

-- ---- two orders of the same notes

-- notes are parted at a step in one way
record PartSo (mine own later more : List Note) : Type 0 where
  pub same_first : mine ≡ own
  pub same_rest : later ≡ more

module _ (section step : ℕ) where
  parted : (mine own later more : List Note) → mine ++ later ≡ own ++ more → All (IsAt section step) mine → All (IsAt section step) own → ((note : Note) → In note later → step + 1 ≤ note.step) → ((note : Note) → In note more → step + 1 ≤ note.step) → PartSo mine own later more
  parted [] [] later more same at here low over = record { same_first = refl; same_rest = same }
  parted [] (one ∷ own) later more same at here low over =
      let is : one.step ≡ step = (All-head (IsAt section step) one own here).step_is in
      let past : step + 1 ≤ one.step = low one (subst (In one) (sym same) (inl refl)) in
      absurd (omega (arith, is, past))
  parted (one ∷ mine) [] later more same at here low over =
      let is : one.step ≡ step = (All-head (IsAt section step) one mine at).step_is in
      let past : step + 1 ≤ one.step = over one (subst (In one) same (inl refl)) in
      absurd (omega (arith, is, past))
  parted (one ∷ mine) (other ∷ own) later more same at here low over =
      let heads : one ≡ other = cc in
      let tails : mine ++ later ≡ own ++ more = cc in
      let rest = parted mine own later more tails (All-tail (IsAt section step) one mine at) (All-tail (IsAt section step) other own here) low over in
      record { same_first = (λ i. heads i ∷ rest.same_first i); same_rest = rest.same_rest }

-- ---- notes of one step

-- notes that tell no look
plain_along : (objects : ℕ → List ObjectId) (before : ℕ → ℕ → List Show) (client : ℕ) (last : ℕ → ℕ) (mine rest : List Note) → All TellsNoLook (deeds_of mine) → LooksAlong objects before client last rest → LooksAlong objects before client last (mine ++ rest)
plain_along objects before client last [] rest none along = along
plain_along objects before client last (note ∷ mine) rest none along =
    other_note (All-head TellsNoLook note.deed (deeds_of mine) none) (plain_along objects before client last mine rest (All-tail TellsNoLook note.deed (deeds_of mine) none) along)

-- without deeds there are no notes
no_notes : (mine : List Note) → deeds_of mine ≡ [] → mine ≡ []
no_notes [] none = refl
no_notes (note ∷ mine) none = absurd (cc)

-- with one there is one
record IsOneNote (mine : List Note) (deed : Deed) : Type 0 where
  pub note : Note
  pub mine_is : mine ≡ note ∷ []
  pub deed_is : note.deed ≡ deed

one_note : (mine : List Note) (deed : Deed) → deeds_of mine ≡ deed ∷ [] → IsOneNote mine deed
one_note [] deed one = absurd (cc)
one_note (note ∷ mine) deed one =
    let head : note.deed ≡ deed = cc in
    let none : deeds_of mine ≡ [] = cc in
    record { note = note; mine_is = ap (λ l. note ∷ l) (no_notes mine none); deed_is = head }

-- an element behind the front of a list
get_behind : {X : Type 0} (front xs : List X) (place : ℕ) → slice_get (front ++ xs) (length front + place) ≡ slice_get xs place
get_behind [] xs place = let there : 0 + place ≡ place = omega arith in ap (slice_get xs) there
get_behind (x ∷ front) xs place =
    let there : length (x ∷ front) + place ≡ suc (length front + place) = omega arith in
    ap (slice_get (x ∷ front ++ xs)) there ∙ get_behind front xs place

-- ---- a section

module _ (n client number : ℕ) (objects : ℕ → List ObjectId) (before : ℕ → ℕ → List Show) (taps : ℕ → TapState) (front shows : ℕ → List Show)
    (own : (i : ℕ) → IsCount n i → (taps i).objects ≡ objects i)
    (here : (i : ℕ) → IsCount n i → before number i ≡ front i ++ (taps i).show ∷ [])
    (there : (i : ℕ) → IsCount n i → before (number + 1) i ≡ front i ++ shows i)
    (plain : (p : Progress) (does : ClientStep) (deeds : List Deed) → look_in does ≡ None → StepDeeds p does deeds → All TellsNoLook deeds) where
  -- the last places along the log are no later than those in the section, which has shows there
  pub record Keeps (last places : ℕ → ℕ) : Type 0 where
    pub along : (i : ℕ) → IsCount n i → last i ≤ length (front i) + places i
    pub within : (i : ℕ) → IsCount n i → places i < length (shows i)

  -- a look at a place of the section
  moved : (centre place : ℕ) (last places later : ℕ → ℕ) → place < length (shows centre) → ((other : ℕ) → later other ≡ cond (other == centre) place (places other)) → Keeps last places → Keeps (λ other. cond (other == centre) (length (front centre) + place) (last other)) later
  moved centre place last places later inside is keeps = record { along = along; within = within }
    where
      along : (i : ℕ) → IsCount n i → cond (i == centre) (length (front centre) + place) (last i) ≤ length (front i) + later i
      along i range = ⊎_elim
          (λ (same : i ≡ centre).
          let test = eq-eqb i centre same in
          let now : cond (i == centre) (length (front centre) + place) (last i) ≡ length (front centre) + place = ap (λ b. cond b (length (front centre) + place) (last i)) test in
          let then : later i ≡ place = is i ∙ ap (λ b. cond b place (places i)) test in
          let fronts : length (front centre) ≡ length (front i) = ap (λ j. length (front j)) (sym same) in
          omega (arith, now, then, fronts))
          (λ (differs : i ≢ centre).
          let test = ne_eqb i centre differs in
          let now : cond (i == centre) (length (front centre) + place) (last i) ≡ last i = ap (λ b. cond b (length (front centre) + place) (last i)) test in
          let then : later i ≡ places i = is i ∙ ap (λ b. cond b place (places i)) test in
          let low = keeps.along i range in
          omega (arith, now, then, low))
          (cases_eq i centre)

      within : (i : ℕ) → IsCount n i → later i < length (shows i)
      within i range = ⊎_elim
          (λ (same : i ≡ centre).
          let then : later i ≡ place = is i ∙ ap (λ b. cond b place (places i)) (eq-eqb i centre same) in
          let width : length (shows centre) ≡ length (shows i) = ap (λ j. length (shows j)) (sym same) in
          omega (arith, then, inside, width))
          (λ (differs : i ≢ centre).
          let then : later i ≡ places i = is i ∙ ap (λ b. cond b place (places i)) (ne_eqb i centre differs) in
          let low = keeps.within i range in
          omega (arith, then, low))
          (cases_eq i centre)

  -- a look that leaves no line keeps the places along the log
  stayed : (centre place : ℕ) (last places later : ℕ → ℕ) → place < length (shows centre) → places centre ≤ place → ((other : ℕ) → later other ≡ cond (other == centre) place (places other)) → Keeps last places → Keeps last later
  stayed centre place last places later inside goes_on is keeps = record { along = along; within = (moved centre place last places later inside is keeps).within }
    where
      along : (i : ℕ) → IsCount n i → last i ≤ length (front i) + later i
      along i range = ⊎_elim
          (λ (same : i ≡ centre).
          let then : later i ≡ place = is i ∙ ap (λ b. cond b place (places i)) (eq-eqb i centre same) in
          let now : places i ≡ places centre = ap places same in
          let low = keeps.along i range in
          omega (arith, then, now, low, goes_on))
          (λ (differs : i ≢ centre).
          let then : later i ≡ places i = is i ∙ ap (λ b. cond b place (places i)) (ne_eqb i centre differs) in
          let low = keeps.along i range in
          omega (arith, then, low))
          (cases_eq i centre)

  -- what is along a log behind this section, from all last places that these keep
  abbrev pub GoesOn : (ℕ → ℕ) → List Note → Type 0
  GoesOn places rest = (last : ℕ → ℕ) → Keeps last places → LooksAlong objects before client last rest

  -- a step that looks
  look_along : (step centre : ℕ) (object : ObjectId) (last places later : ℕ → ℕ) (mine rest : List Note) → IsCount n centre → All (IsAt number step) mine → LooksThere taps shows client centre object (deeds_of mine) places later → Keeps last places → GoesOn later rest → LooksAlong objects before client last (mine ++ rest)
  look_along step centre object last places later mine rest range at look keeps goes_on = go (seen_through (fed_tap (Some look.show) (taps centre)) object) refl
    where
      inside : look.place < length (shows centre)
      inside = slice_get_within (shows centre) look.place look.show look.there

      go : (saw : Option Seen) → seen_through (fed_tap (Some look.show) (taps centre)) object ≡ saw → LooksAlong objects before client last (mine ++ rest)
      go None is =
          let none : mine ≡ [] = no_notes mine (look.seen ∙ ap (looks client centre object) is) in
          subst (λ ns. LooksAlong objects before client last (ns ++ rest)) (sym none) (goes_on last (stayed centre look.place last places later inside look.goes_on look.then_is keeps))
      go (Some saw) is =
          let one = one_note mine (Told (line.Look client centre object saw)) (look.seen ∙ ap (looks client centre object) is) in
          let place : ℕ = length (front centre) + look.place in
          let section : one.note.section ≡ number = (All-head (IsAt number step) one.note [] (subst (All (IsAt number step)) one.mine_is at)).section_is in
          let sees : SeesAt objects before client last one.note centre place = record {
            object = object;
            seen = saw;
            show = look.show;
            tells = one.deed_is;
            there = ap (λ s. slice_get (before (s + 1) centre) place) section ∙ (ap (λ (l : List Show). slice_get l place) (there centre range) ∙ (get_behind (front centre) (shows centre) look.place ∙ look.there));
            goes_on = (let low = keeps.along centre range in let on = look.goes_on in omega (arith, low, on));
            not_earlier = (let many : length (before one.note.section centre) ≡ length (front centre) + 1 = ap (λ s. length (before s centre)) section ∙ (ap length (here centre range) ∙ length_push (front centre) (taps centre).show) in omega (arith, many));
            sees = subst (λ (os : List ObjectId). seen_through (record { objects = os; show = look.show }) object ≡ Some saw) (own centre range) is;
          } in
          subst (λ ns. LooksAlong objects before client last (ns ++ rest)) (sym one.mine_is)
          (look_note centre place sees (goes_on (λ other. cond (other == centre) place (last other)) (moved centre look.place last places later inside look.then_is keeps)))

  -- each step
  step_along : (step : ℕ) (p : Progress) (does : ClientStep) (last places later : ℕ → ℕ) (mine rest : List Note) → IsStep n does → All (IsAt number step) mine → StepDeeds p does (deeds_of mine) → LooksIn taps shows client (look_in does) (deeds_of mine) places later → Keeps last places → GoesOn later rest → LooksAlong objects before client last (mine ++ rest)
  step_along step p (Look centre object) last places later mine rest is at deeds look keeps goes_on = look_along step centre object last places later mine rest is.0 at look keeps goes_on
  step_along step p does last places later mine rest is at deeds look keeps goes_on =
      plain_along objects before client last mine rest (plain p does (deeds_of mine) refl deeds) (goes_on last (record {
        along = λ i range. (let low = keeps.along i range in let same = look i in omega (arith, low, same));
        within = λ i range. (let low = keeps.within i range in let same = look i in omega (arith, low, same));
      }))

  -- all of them, one after another
  pub steps_along : (step : ℕ) (p come : Progress) (last places later : ℕ → ℕ) (steps : List ClientStep) (notes rest : List Note) → ((does : ClientStep) → In does steps → IsStep n does) → InOrder ClientGoes number step p steps notes come → InOrder (LookGoes taps shows client) number step places steps notes later → Keeps last places → GoesOn later rest → LooksAlong objects before client last (notes ++ rest)
  steps_along step p come last places later [] notes rest sound none_left none_left keeps goes_on = goes_on last keeps
  steps_along step p come last places later (does ∷ steps) notes rest sound (one_first mid mine more whole at goes order) (one_first next own others wholly here looked looks) keeps goes_on =
      let low : (note : Note) → In note more → step + 1 ≤ note.step = order_low ClientGoes number (step + 1) mid come steps more order in
      let over : (note : Note) → In note others → step + 1 ≤ note.step = order_low (LookGoes taps shows client) number (step + 1) next later steps others looks in
      let same = parted number step mine own more others (sym whole ∙ wholly) at here low over in
      let look : LookGoes taps shows client places step does mine next = subst (λ ns. LookGoes taps shows client places step does ns next) (sym same.same_first) looked in
      let rest_looks : InOrder (LookGoes taps shows client) number (step + 1) next steps more later = subst (λ ns. InOrder (LookGoes taps shows client) number (step + 1) next steps ns later) (sym same.same_rest) looks in
      subst (λ ns. LooksAlong objects before client last (ns ++ rest)) (sym whole)
      (subst (LooksAlong objects before client last) (sym (append_assoc mine more rest))
      (step_along step p does last places next mine (more ++ rest) (sound does (inl refl)) at goes.0 look keeps
      (λ last' keeps'. steps_along (step + 1) mid come last' next later steps more rest (λ d there. sound d (inr there)) order rest_looks keeps' goes_on)))

-- ---- sections one after another

module _ (script : Script) (client : ℕ) (range : IsCount script.clients client) (before : ℕ → ℕ → List Show)
    (plain : (p : Progress) (does : ClientStep) (deeds : List Deed) → look_in does ≡ None → StepDeeds p does deeds → All TellsNoLook deeds) where
  -- the shows of all sections before one: those in front of what each tap shows, and that one
  pub record Stands (number : ℕ) (taps : ℕ → TapState) (front : ℕ → List Show) : Type 0 where
    pub own : (i : ℕ) → IsCount script.n i → (taps i).objects ≡ objects_on script.taps i
    pub here : (i : ℕ) → IsCount script.n i → before number i ≡ front i ++ (taps i).show ∷ []

  -- the shows grow in each section by what the operator noted there
  abbrev pub Grow : ℕ → List Section → List Left → Type 0
  Grow number sections lefts = (k : ℕ) (section : Section) (left : Left) → slice_get sections k ≡ Some section → slice_get lefts k ≡ Some left → (i : ℕ) → before (number + k + 1) i ≡ shows_behind (left.notes 1) 1 (operator_steps section) (before (number + k)) i

  -- a section's own shows
  module _ (number : ℕ) (section : Section) (old : Between) (left : Left) (new : Between) (front : ℕ → List Show) (plays : PlaysSection script number section old left new) (stands : Stands number old.taps front) (grows : (i : ℕ) → before (number + 1) i ≡ shows_behind (left.notes 1) 1 (operator_steps section) (before number) i) where
    abbrev shows : ℕ → List Show
    shows = plays.taps.shows

    -- they stand behind those in front
    section_shows : (i : ℕ) → IsCount script.n i → before (number + 1) i ≡ front i ++ shows i
    section_shows i there =
        let feeds : shows i ≡ shows_behind (left.notes 1) 1 (operator_steps section) (shows_at old.taps) i = feeds_say old.taps number 1 (shows_at old.taps) (shows_at old.taps) shows (operator_steps section) (left.notes 1) (left.notes 1) (λ j. refl) (λ at low. refl) plays.taps.feeds i in
        grows i ∙ (behind_front (left.notes 1) 1 (operator_steps section) (before number) front (shows_at old.taps) i (stands.here i there) ∙ ap (λ l. front i ++ l) (sym feeds))

    -- the last one is what the tap shows behind the section
    section_end : (i : ℕ) → EndsWith (old.taps i) (shows i)
    section_end i = section_ends old.taps number shows (operator_steps section) (left.notes 1) plays.taps.feeds i

    width : (i : ℕ) → length (shows i) ≡ length (section_end i).front + 1
    width i = ap length (section_end i).shows_are ∙ length_push (section_end i).front (tap_behind (old.taps i) (shows i)).show

    abbrev then_front : ℕ → List Show
    then_front i = front i ++ (section_end i).front

    then_stands : Stands (number + 1) new.taps then_front
    then_stands = record {
      own = λ i there. ap (λ (tap : TapState). tap.objects) (plays.taps.behind i there) ∙ (objects_stay (old.taps i) (shows i) ∙ stands.own i there);
      here = λ i there.
          let end = section_end i in
          let show : (tap_behind (old.taps i) (shows i)).show ≡ (new.taps i).show = ap (λ (tap : TapState). tap.show) (sym (plays.taps.behind i there)) in
          section_shows i there ∙ (ap (λ l. front i ++ l) (end.shows_are ∙ ap (λ (s : Show). end.front ++ s ∷ []) show) ∙ sym (append_assoc (front i) end.front ((new.taps i).show ∷ [])));
    }

    -- a client's looks in it, and behind it
    section_along : (last : ℕ → ℕ) (rest : List Note) → IsSection (header_of script) section → ((i : ℕ) → IsCount script.n i → last i ≤ length (front i))
        → ((next : ℕ → ℕ) → ((i : ℕ) → IsCount script.n i → next i ≤ length (then_front i)) → LooksAlong (objects_on script.taps) before client next rest)
        → LooksAlong (objects_on script.taps) before client last (left.notes (client + 1) ++ rest)
    section_along last rest sound low goes_on =
        let looked = plays.taps.looks client range in
        steps_along script.n client number (objects_on script.taps) before old.taps front shows stands.own stands.here section_shows plain
        1 (old.come client) (new.come client) last (λ centre. 0) looked.last (client_steps client section) (left.notes (client + 1)) rest (client_sound script section sound client) (plays.clients client range) looked.order
        (record {
          along = λ i there. (let under = low i there in omega (arith, under));
          within = λ i there. (let wide = width i in omega (arith, wide));
        })
        (λ next keeps. goes_on next (λ i there.
        let along = keeps.along i there in
        let within = keeps.within i there in
        let wide = width i in
        let both : length (then_front i) ≡ length (front i) + length (section_end i).front = length-append (front i) (section_end i).front in
        omega (arith, along, within, wide, both)))

  pub sections_along : (number : ℕ) (here last : Between) (sections : List Section) (lefts : List Left) (front : ℕ → List Show) (seen : ℕ → ℕ) → All (IsSection (header_of script)) sections → PlaysSections script number here sections lefts last → Grow number sections lefts → Stands number here.taps front → ((i : ℕ) → IsCount script.n i → seen i ≤ length (front i)) → LooksAlong (objects_on script.taps) before client seen (flat_map (λ (left : Left). left.notes (client + 1)) lefts)
  sections_along number here last [] lefts front seen sound no_sections grow stands low = no_more
  sections_along number here last (section ∷ rest) lefts front seen sound (next_section {left = left} {lefts = more} new plays later) grow stands low =
      let now : number + 0 ≡ number = omega arith in
      let grows : (i : ℕ) → before (number + 1) i ≡ shows_behind (left.notes 1) 1 (operator_steps section) (before number) i = λ i. subst (λ at. before (at + 1) i ≡ shows_behind (left.notes 1) 1 (operator_steps section) (before at) i) now (grow 0 section left refl refl i) in
      let others : Grow (number + 1) rest more = λ k one other at there i. (let place : number + suc k ≡ number + 1 + k = omega arith in subst (λ at. before (at + 1) i ≡ shows_behind (other.notes 1) 1 (operator_steps one) (before at) i) place (grow (suc k) one other at there i)) in
      section_along number section here left new front plays stands grows seen (flat_map (λ (left : Left). left.notes (client + 1)) more) (All-head (IsSection (header_of script)) section rest sound) low
      (λ next under. sections_along (number + 1) new last rest more (then_front number section here left new front plays stands grows) next (All-tail (IsSection (header_of script)) section rest sound) later others (then_stands number section here left new front plays stands grows) under)
