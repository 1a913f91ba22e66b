-- A script that is read is in range.
use Rattle.std.proofs.Common.{◌≡◌, ◌≤◌, ◌<◌, ◌+◌, ℕ, Bool, true, false, List, [], ◌∷◌, ◌++◌, length, refl, ap, sym, ◌∙◌, subst, inl, inr, arith}
use Rattle.std.specs.Prelude.{cond, ◌==◌, ◌&&◌, not, nat_lt, is_some, is_none, All, Option, Some, None, Result, Ok, Err, IfSome}
use Rattle.std.specs.Option.{unwrap_or}
use Rattle.std.proofs.lemmas.Bool.{and_parts, eqb-true}
use Rattle.std.proofs.lemmas.List.{length_push}
use Rattle.std.proofs.lemmas.List.Elements.{All-nil, All-push, All-cons}
use Rattle.list_core.proofs.Choices.{is_none_true}
use Rattle.ids_core.specs.declared.limits.TheConstants.{MOST_CENTRES, MOST_CLIENTS, MOST_CACHED, MOST_RECORDS}
use Rattle.script_core.specs.Steps.{IsCount, IsHeader, IsStepOf}
use Rattle.script_core.specs.Rows.{IsInPhase, IsSection, may_do_in_phase, phase_of, section_of}
use Rattle.script_core.specs.Scripts.{IsInRange}
use Rattle.script_core.specs.Taps.{IsOnTap}
use Rattle.script_core.specs.declared.taps.Tapped.{Tapped}
use Rattle.script_core.specs.declared.taps.TheConstants.{MOST_TAPPED}
use Rattle.script_core.specs.Lines.{lines_of}
use Rattle.script_core.specs.declared.limits.TheConstants.{MAX_LINES}
use Rattle.script_core.specs.declared.script.TheConstants.{MOST_THREADS, MOST_ROUNDS}
use Rattle.script_core.specs.declared.script.Header.{Header}
use Rattle.script_core.specs.declared.script.Script.{Script}
use Rattle.script_core.specs.declared.steps.Step.{Step}
use Rattle.script_core.specs.declared.steps.Section.{Section}
use Rattle.script_reader.specs.declared.fault.Cause.{Cause}
use Rattle.script_reader.specs.declared.fault.Cause.TheVariants as cause
use Rattle.script_reader.specs.declared.fault.ScriptFault.{ScriptFault}
use Rattle.script_reader.specs.declared.fault.ScriptFault.TheVariants.{Refused}
use Rattle.script_reader.specs.declared.reading.Group.{Group}
use Rattle.script_reader.specs.declared.reading.Reading.{Reading}
use Rattle.script_reader.specs.declared.row.Row.{Row}
use Rattle.script_reader.specs.declared.row.Row.TheVariants as row
use Rattle.script_reader.specs.Rows.{row_in}
use Rattle.script_reader.specs.Readings.{nothing_read, header_said, header_in, is_tapped, may_do, may_stand, step_read, phase_read, read_more}
use Rattle.script_reader.specs.Lines.{taken, line_taken}
use Rattle.script_reader.specs.Scripts.{script_with, ended, ended_in, lines_read, script_read}
use Rattle.script_reader.specs.Taps.{shows}
use Rattle.script_reader.proofs.Onward.{line_in_time}
use Rattle.script_reader.proofs.Tapping.{AreTapsOf, IsTapOf, step_on, tap_more, taps_headed}
use Rattle.script_reader.proofs.RowRanges.{IsRowInRange, row_in_range}

-- a group in range
abbrev IsGroup : Group → Type 0
IsGroup group = IsCount MOST_CENTRES group.n × IsCount group.n group.k

-- the sections are those of a script with this header; before one there are none
abbrev AreSections : Option Header → List Section → Type 0
AreSections None sections = sections ≡ []
AreSections (Some h) sections = All (IsSection h) sections

-- the steps of an open phase, of a script with this header
abbrev AreInPhase : Header → List Step → Type 0
AreInPhase h steps = All (λ step. IsStepOf h step × IsInPhase step) steps

-- the phase that is open, where one is; before a header none is
abbrev IsOpen : Option Header → Option (List Step) → Type 0
IsOpen header None = Unit {0}
IsOpen None (Some steps) = ⊥
IsOpen (Some h) (Some steps) = AreInPhase h steps

-- what lines set is in range
record IsSet (reading : Reading) : Type 0 where
  centres : IfSome reading.centres IsGroup
  clients : IfSome reading.clients (IsCount MOST_CLIENTS)
  cache : IfSome reading.cache (IsCount MOST_CACHED)
  limit : IfSome reading.limit (IsCount MOST_RECORDS)
  threads : IfSome reading.threads (IsCount MOST_THREADS)
  rounds : IfSome reading.rounds (λ rounds. rounds ≤ MOST_ROUNDS)

-- the sections and the open phase before the line of this number are those of a script with this header
record IsPlaced (header : Option Header) (number : ℕ) (sections : List Section) (phase : Option (List Step)) : Type 0 where
  sections_fit : AreSections header sections
  phase_fits : IsOpen header phase
  few : length sections < number
  few_open : IfSome phase (λ steps. length steps < number)

-- the taps are those of a script with this header, and the steps of the sections and of an open phase are on them
record IsTapped (header : Option Header) (taps : List Tapped) (sections : List Section) (phase : Option (List Step)) : Type 0 where
  taps_fit : AreTapsOf header taps
  steps_on : All (λ section. All (IsOnTap taps) section.steps) sections
  open_on : IfSome phase (λ steps. All (IsOnTap taps) steps)

-- what was read of the lines before the one of this number is in range
record IsRead (number : ℕ) (reading : Reading) : Type 0 where
  set : IsSet reading
  placed : IsPlaced (header_in reading) number reading.sections reading.phase
  tapped : IsTapped (header_in reading) reading.taps reading.sections reading.phase
  time : number ≤ MAX_LINES + 1

-- the header that was read is in range
header_fits : (group : Option Group) (clients : Option ℕ) → IfSome group IsGroup → IfSome clients (IsCount MOST_CLIENTS) → IfSome (header_said group clients) IsHeader
header_fits None clients g c = tt
header_fits (Some group) None g c = tt
header_fits (Some group) (Some clients) g c = record { n = g.0; k = g.1; clients = c }

read_header : (number : ℕ) (reading : Reading) → IsRead number reading → IfSome (header_in reading) IsHeader
read_header number reading is = header_fits reading.centres reading.clients is.set.centres is.set.clients

no_clients : (group : Option Group) → header_said group None ≡ None
no_clients None = refl
no_clients (Some group) = refl

-- a line that has no step
few_on : (phase : Option (List Step)) (number : ℕ) → IfSome phase (λ steps. length steps < number) → IfSome phase (λ steps. length steps < number + 1)
few_on None number few = tt
few_on (Some steps) number few = omega arith

placed_on : (header : Option Header) (number : ℕ) (sections : List Section) (phase : Option (List Step)) → IsPlaced header number sections phase → IsPlaced header (number + 1) sections phase
placed_on header number sections phase is = record { sections_fit = is.sections_fit; phase_fits = is.phase_fits; few = let few = is.few in omega arith; few_open = few_on phase number is.few_open }

-- a header line comes before all steps and phases
placed_headed : (old new : Option Header) (number : ℕ) (sections : List Section) (phase : Option (List Step)) → old ≡ None → IsPlaced old number sections phase → IsPlaced new (number + 1) sections phase
placed_headed old new number sections phase none is = go new phase (subst (λ h. IsPlaced h number sections phase) none is)
  where
    go : (h : Option Header) (p : Option (List Step)) → IsPlaced None number sections p → IsPlaced h (number + 1) sections p
    go h (Some steps) bare = absurd bare.phase_fits
    go None None bare = placed_on None number sections None bare
    go (Some h) None bare = record { sections_fit = subst (All (IsSection h)) (sym bare.sections_fit) (All-nil (IsSection h)); phase_fits = tt; few = let few = bare.few in omega arith; few_open = tt }

-- one section more
placed_section : (header : Option Header) (number : ℕ) (sections : List Section) (phase : Option (List Step)) (section : Section) → is_some header ≡ true → IfSome header (λ h. IsSection h section) → IsPlaced header number sections phase → IsPlaced header (number + 1) (sections ++ section ∷ []) None
placed_section None number sections phase section some fits is = absurd (cc)
placed_section (Some h) number sections phase section some fits is = record {
  sections_fit = All-push (IsSection h) sections section is.sections_fit fits;
  phase_fits = tt;
  few = let few = is.few in omega (arith, length_push sections section);
  few_open = tt;
}

-- a step outside of all phases is a section
line_fits : (header : Option Header) (step : Step) → IfSome header (λ h. IsStepOf h step) → IfSome header (λ h. IsSection h (section_of step))
line_fits None step is = tt
line_fits (Some h) step is = inl (step, refl, is)

-- one step more in a phase
placed_step : (header : Option Header) (number : ℕ) (sections : List Section) (steps : List Step) (step : Step) → IfSome header (λ h. IsStepOf h step) → may_do_in_phase step ≡ true → IsPlaced header number sections (Some steps) → IsPlaced header (number + 1) sections (Some (steps ++ step ∷ []))
placed_step None number sections steps step fits may is = absurd is.phase_fits
placed_step (Some h) number sections steps step fits may is = record {
  sections_fit = is.sections_fit;
  phase_fits = All-push (λ step. IsStepOf h step × IsInPhase step) steps step is.phase_fits (fits, may);
  few = let few = is.few in omega arith;
  few_open = let few = is.few_open in omega (arith, length_push steps step);
}

-- a phase begins
placed_phase : (header : Option Header) (number : ℕ) (sections : List Section) (phase : Option (List Step)) → is_some header ≡ true → IsPlaced header number sections phase → IsPlaced header (number + 1) sections (Some [])
placed_phase None number sections phase some is = absurd (cc)
placed_phase (Some h) number sections phase some is = record { sections_fit = is.sections_fit; phase_fits = All-nil (λ step. IsStepOf h step × IsInPhase step); few = let few = is.few in omega arith; few_open = omega arith }

-- a phase ends
placed_end : (header : Option Header) (number : ℕ) (sections : List Section) (steps : List Step) → number ≤ MAX_LINES → IsPlaced header number sections (Some steps) → IsPlaced header (number + 1) (sections ++ phase_of steps ∷ []) None
placed_end None number sections steps time is = absurd is.phase_fits
placed_end (Some h) number sections steps time is = placed_section (Some h) number sections (Some steps) (phase_of steps) refl (inr (record { phase = refl; steps = is.phase_fits; few = let few = is.few_open in omega arith })) is

-- one section more, whose steps are on the taps
tapped_more : (header : Option Header) (taps : List Tapped) (sections : List Section) (section : Section) (old new : Option (List Step)) → IsTapped header taps sections old → All (IsOnTap taps) section.steps → IfSome new (λ steps. All (IsOnTap taps) steps) → IsTapped header taps (sections ++ section ∷ []) new
tapped_more header taps sections section old new is on open_on = record { taps_fit = is.taps_fit; steps_on = All-push (λ one. All (IsOnTap taps) one.steps) sections section is.steps_on on; open_on = open_on }

-- the steps of the phase that is open
open_steps : (header : Option Header) (taps : List Tapped) (sections : List Section) (phase : Option (List Step)) (steps : List Step) → phase ≡ Some steps → IsTapped header taps sections phase → All (IsOnTap taps) steps
open_steps header taps sections phase steps here is = subst (λ phase. IfSome phase (λ steps. All (IsOnTap taps) steps)) here is.open_on

-- without sections no step is on a tap
none_on : (taps : List Tapped) (sections : List Section) → length sections ≡ 0 → All (λ section. All (IsOnTap taps) section.steps) sections
none_on taps [] none = All-nil (λ section. All (IsOnTap taps) section.steps)
none_on taps (section ∷ sections) none = absurd (omega arith)

-- one more object on a tap
tap_taken : (header : Option Header) (taps : List Tapped) (sections : List Section) (phase : Option (List Step)) (tapped : Tapped) → IsTapped header taps sections phase → IfSome header (λ h. IsTapOf h tapped)
    → (is_some header && (length sections == 0 && (is_none phase && true))) && (nat_lt (length taps) MOST_TAPPED && not (shows taps tapped.centre tapped.object)) ≡ true
    → IsTapped header (taps ++ tapped ∷ []) sections phase
tap_taken header taps sections phase tapped is fits may =
    let parts = and_parts _ _ may in
    let set = and_parts _ _ parts.0 in
    let new = and_parts _ _ parts.1 in
    let places = and_parts _ _ set.1 in
    let closed : phase ≡ None = is_none_true phase (and_parts _ _ places.1).0 in
    record {
      taps_fit = tap_more header taps tapped set.0 is.taps_fit fits new.0 new.1;
      steps_on = none_on (taps ++ tapped ∷ []) sections (eqb-true _ _ places.0);
      open_on = subst (λ phase. IfSome phase (λ steps. All (IsOnTap (taps ++ tapped ∷ [])) steps)) (sym closed) tt;
    }

-- a step is taken
step_taken : (number : ℕ) (reading : Reading) (step : Step) (phase : Option (List Step)) → reading.phase ≡ phase → IsRead number reading → number ≤ MAX_LINES → IfSome (header_in reading) (λ h. IsStepOf h step) → is_some (header_in reading) && may_do phase step ≡ true → IsOnTap reading.taps step → IsRead (number + 1) (step_read reading phase step)
step_taken number reading step None here is time fits may on = record {
  set = record { centres = is.set.centres; clients = is.set.clients; cache = is.set.cache; limit = is.set.limit; threads = is.set.threads; rounds = is.set.rounds };
  placed = subst (IsPlaced (header_in reading) (number + 1) (reading.sections ++ section_of step ∷ [])) (sym here) (placed_section (header_in reading) number reading.sections reading.phase (section_of step) (and_parts _ _ may).0 (line_fits (header_in reading) step fits) is.placed);
  tapped = tapped_more (header_in reading) reading.taps reading.sections (section_of step) reading.phase reading.phase is.tapped (All-cons (IsOnTap reading.taps) step [] on (All-nil (IsOnTap reading.taps))) is.tapped.open_on;
  time = omega arith;
}
step_taken number reading step (Some steps) here is time fits may on = record {
  set = record { centres = is.set.centres; clients = is.set.clients; cache = is.set.cache; limit = is.set.limit; threads = is.set.threads; rounds = is.set.rounds };
  placed = placed_step (header_in reading) number reading.sections steps step fits (and_parts _ _ may).1 (subst (IsPlaced (header_in reading) number reading.sections) here is.placed);
  tapped = record { taps_fit = is.tapped.taps_fit; steps_on = is.tapped.steps_on; open_on = All-push (IsOnTap reading.taps) steps step (open_steps (header_in reading) reading.taps reading.sections reading.phase steps here is.tapped) on };
  time = omega arith;
}

-- the end of a phase is taken
end_taken : (number : ℕ) (reading : Reading) (phase : Option (List Step)) → reading.phase ≡ phase → IsRead number reading → number ≤ MAX_LINES → is_some phase ≡ true → IsRead (number + 1) (phase_read reading phase)
end_taken number reading None here is time some = absurd (cc)
end_taken number reading (Some steps) here is time some = record {
  set = record { centres = is.set.centres; clients = is.set.clients; cache = is.set.cache; limit = is.set.limit; threads = is.set.threads; rounds = is.set.rounds };
  placed = placed_end (header_in reading) number reading.sections steps time (subst (IsPlaced (header_in reading) number reading.sections) here is.placed);
  tapped = tapped_more (header_in reading) reading.taps reading.sections (phase_of steps) reading.phase None is.tapped (open_steps (header_in reading) reading.taps reading.sections reading.phase steps here is.tapped) tt;
  time = omega arith;
}

row_taken : (number : ℕ) (reading : Reading) (line : Row) → IsRead number reading → number ≤ MAX_LINES → IsRowInRange (header_in reading) line → is_tapped reading line ≡ true → may_stand reading line ≡ true → IsRead (number + 1) (read_more reading line)
unfolding may_stand read_more
row_taken number reading (row.Centres n k) is time within on may = record {
  set = record { centres = within.sets; clients = is.set.clients; cache = is.set.cache; limit = is.set.limit; threads = is.set.threads; rounds = is.set.rounds };
  placed = placed_headed (header_in reading) (header_said (Some (record { n = n; k = k })) reading.clients) number reading.sections reading.phase (ap (λ g. header_said g reading.clients) (is_none_true reading.centres may)) is.placed;
  tapped = record { taps_fit = taps_headed (header_in reading) (header_said (Some (record { n = n; k = k })) reading.clients) reading.taps (ap (λ g. header_said g reading.clients) (is_none_true reading.centres may)) is.tapped.taps_fit; steps_on = is.tapped.steps_on; open_on = is.tapped.open_on };
  time = omega arith;
}
row_taken number reading (row.Clients clients) is time within on may = record {
  set = record { centres = is.set.centres; clients = within.sets; cache = is.set.cache; limit = is.set.limit; threads = is.set.threads; rounds = is.set.rounds };
  placed = placed_headed (header_in reading) (header_said reading.centres (Some clients)) number reading.sections reading.phase (ap (header_said reading.centres) (is_none_true reading.clients (and_parts _ _ may).1) ∙ no_clients reading.centres) is.placed;
  tapped = record { taps_fit = taps_headed (header_in reading) (header_said reading.centres (Some clients)) reading.taps (ap (header_said reading.centres) (is_none_true reading.clients (and_parts _ _ may).1) ∙ no_clients reading.centres) is.tapped.taps_fit; steps_on = is.tapped.steps_on; open_on = is.tapped.open_on };
  time = omega arith;
}
row_taken number reading (row.Cache objects) is time within on may = record { set = record { centres = is.set.centres; clients = is.set.clients; cache = within.sets; limit = is.set.limit; threads = is.set.threads; rounds = is.set.rounds }; placed = placed_on (header_in reading) number reading.sections reading.phase is.placed; tapped = is.tapped; time = omega arith }
row_taken number reading (row.Limit most) is time within on may = record { set = record { centres = is.set.centres; clients = is.set.clients; cache = is.set.cache; limit = within.sets; threads = is.set.threads; rounds = is.set.rounds }; placed = placed_on (header_in reading) number reading.sections reading.phase is.placed; tapped = is.tapped; time = omega arith }
row_taken number reading (row.Threads most) is time within on may = record { set = record { centres = is.set.centres; clients = is.set.clients; cache = is.set.cache; limit = is.set.limit; threads = within.sets; rounds = is.set.rounds }; placed = placed_on (header_in reading) number reading.sections reading.phase is.placed; tapped = is.tapped; time = omega arith }
row_taken number reading (row.Rounds rounds) is time within on may = record { set = record { centres = is.set.centres; clients = is.set.clients; cache = is.set.cache; limit = is.set.limit; threads = is.set.threads; rounds = within.sets }; placed = placed_on (header_in reading) number reading.sections reading.phase is.placed; tapped = is.tapped; time = omega arith }
row_taken number reading (row.Tap tapped) is time within on may = record {
  set = record { centres = is.set.centres; clients = is.set.clients; cache = is.set.cache; limit = is.set.limit; threads = is.set.threads; rounds = is.set.rounds };
  placed = placed_on (header_in reading) number reading.sections reading.phase is.placed;
  tapped = tap_taken (header_in reading) reading.taps reading.sections reading.phase tapped is.tapped within.does may;
  time = omega arith;
}
row_taken number reading (row.Does step) is time within on may = step_taken number reading step reading.phase refl is time within.does may (step_on (header_in reading) reading.taps step (and_parts _ _ may).0 on)
row_taken number reading row.Phase is time within on may = record {
  set = record { centres = is.set.centres; clients = is.set.clients; cache = is.set.cache; limit = is.set.limit; threads = is.set.threads; rounds = is.set.rounds };
  placed = placed_phase (header_in reading) number reading.sections reading.phase (and_parts _ _ may).0 is.placed;
  tapped = record { taps_fit = is.tapped.taps_fit; steps_on = is.tapped.steps_on; open_on = All-nil (IsOnTap reading.taps) };
  time = omega arith;
}
row_taken number reading row.End is time within on may = end_taken number reading reading.phase refl is time may

skipped_taken : (number : ℕ) (reading : Reading) → IsRead number reading → number ≤ MAX_LINES → IsRead (number + 1) reading
skipped_taken number reading is time = record { set = is.set; placed = placed_on (header_in reading) number reading.sections reading.phase is.placed; tapped = is.tapped; time = omega arith }

-- one line more
line_read : (number : ℕ) (reading more : Reading) (line : List ℕ) → IsRead number reading → line_taken reading number line ≡ Ok more → IsRead (number + 1) more
line_read number reading more line is e = go (row_in (header_in reading) number line) refl e
  where
    time : number ≤ MAX_LINES
    time = line_in_time reading more number line e

    row_read : (one : Row) → row_in (header_in reading) number line ≡ Ok (Some one) → (on : Bool) → is_tapped reading one ≡ on → (may : Bool) → may_stand reading one ≡ may → cond on (cond may (Ok (read_more reading one)) (Err cause.Place)) (Err cause.Range) ≡ Ok more → IsRead (number + 1) more
    row_read one r false o may m bad = absurd (cc)
    row_read one r true o false m bad = absurd (cc)
    row_read one r true o true m ok = subst (IsRead (number + 1)) (let this : read_more reading one ≡ more = cc in this) (row_taken number reading one is time (row_in_range (header_in reading) number line one (read_header number reading is) r) o m)

    go : (r : Result (Option Row) Cause) → row_in (header_in reading) number line ≡ r → taken reading r ≡ Ok more → IsRead (number + 1) more
    go (Err why) r bad = absurd (cc)
    go (Ok None) r ok = subst (IsRead (number + 1)) (let this : reading ≡ more = cc in this) (skipped_taken number reading is time)
    go (Ok (Some one)) r ok = row_read one r (is_tapped reading one) refl (may_stand reading one) refl ok

-- what is set, or what stands where nothing is
set_or : (P : ℕ → Type 0) (set : Option ℕ) (other : ℕ) → P other → IfSome set P → P (unwrap_or set other)
set_or P None other default within = default
set_or P (Some n) other default within = within

ended_in_range : (header : Option Header) (phase : Option (List Step)) (number : ℕ) (reading : Reading) (script : Script) → header_in reading ≡ header → reading.phase ≡ phase → IsRead number reading → ended header number reading ≡ Ok script → IsInRange script
ended_in_range None phase number reading script h p is e = absurd (cc)
ended_in_range (Some header) (Some steps) number reading script h p is e = absurd (let bad : Err (Refused number cause.Place) ≡ Ok script = sym (ap (λ o. ended_in o header number reading) p) ∙ e in cc)
ended_in_range (Some header) None number reading script h p is e = subst IsInRange (let this : ◌≡◌ {A = Result Script ScriptFault} (Ok (script_with header reading)) (Ok script) = sym (ap (λ o. ended_in o header number reading) p) ∙ e in let same : script_with header reading ≡ script = cc in same) (record {
  header = subst (λ o. IfSome o IsHeader) h (read_header number reading is);
  cache = set_or (IsCount MOST_CACHED) reading.cache 1024 (omega arith, omega arith) is.set.cache;
  limit = set_or (IsCount MOST_RECORDS) reading.limit 1000000 (omega arith, omega arith) is.set.limit;
  sections = subst (λ o. AreSections o reading.sections) h is.placed.sections_fit;
  few = let few = is.placed.few in let time = is.time in omega arith;
  threads = set_or (IsCount MOST_THREADS) reading.threads 4 (omega arith, omega arith) is.set.threads;
  rounds = set_or (λ rounds. rounds ≤ MOST_ROUNDS) reading.rounds 32 (omega arith) is.set.rounds;
  taps = subst (λ o. AreTapsOf o reading.taps) h is.tapped.taps_fit;
  tapped = is.tapped.steps_on;
})

-- what follows a line
abbrev rest_read : ℕ → List (List ℕ) → Result Reading Cause → Result Script ScriptFault
rest_read number lines (Ok more) = lines_read (number + 1) more lines
rest_read number lines (Err why) = Err (Refused number why)

lines_in_range : (number : ℕ) (reading : Reading) (lines : List (List ℕ)) (script : Script) → IsRead number reading → lines_read number reading lines ≡ Ok script → IsInRange script
lines_in_range number reading [] script is e = ended_in_range (header_in reading) reading.phase number reading script refl refl is e
lines_in_range number reading (line ∷ lines) script is e = further number lines (line_taken reading number line) script (λ more t rest. lines_in_range (number + 1) more lines script (line_read number reading more line is t) rest) e
  where
    further : (n : ℕ) (rest : List (List ℕ)) (t : Result Reading Cause) (s : Script) → ((more : Reading) → t ≡ Ok more → lines_read (n + 1) more rest ≡ Ok s → IsInRange s) → rest_read n rest t ≡ Ok s → IsInRange s
    further n rest (Ok more) s each e = each more refl e
    further n rest (Err why) s each e = absurd (cc)

-- a script that is read is in range
pub script_in_range : (bytes : List ℕ) (script : Script) → Ok script ≡ script_read bytes → IsInRange script
unfolding script_read
script_in_range bytes script is = lines_in_range 1 nothing_read (lines_of bytes) script (record { set = record { centres = tt; clients = tt; cache = tt; limit = tt; threads = tt; rounds = tt }; placed = record { sections_fit = refl; phase_fits = tt; few = omega arith; few_open = tt }; tapped = record { taps_fit = refl; steps_on = All-nil (λ section. All (IsOnTap []) section.steps); open_on = tt }; time = omega arith }) (sym is)
