-- A made script is a script of the grammar, with its phases.
use Rattle.std.proofs.Common.{◌≡◌, ◌≤◌, ◌+◌, ℕ, zero, suc, true, List, [], ◌∷◌, ◌++◌, length, map, refl, sym, ap, ◌∙◌, subst, arith, append_assoc, append-nil, lit≤, lit<, Ok, Err, Some, None}
use Rattle.std.specs.Prelude.{Option, Result, codes, decimal, flat_map}
use Rattle.std.specs.List.{AllByRecursion, cons_option, range_with_len}
use Rattle.std.proofs.lemmas.Bool.{cond-true, or_left}
use Rattle.std.proofs.lemmas.Fmt.{decimal_step, decimal_digit}
use Rattle.std.proofs.lemmas.List.{length-append, map-append}
use Rattle.script_core.specs.declared.limits.TheConstants.{MAX_LINES}
use Rattle.script_core.specs.declared.steps.Step.{Step}
use Rattle.script_core.specs.declared.steps.Section.{Section}
use Rattle.script_core.specs.Rows.{may_do_in_phase, phase_of, section_of}
use Rattle.script_reader.specs.declared.fault.Cause.{Cause}
use Rattle.script_reader.specs.declared.fault.ScriptFault.TheVariants.{Refused}
use Rattle.script_reader.specs.declared.reading.Reading.{Reading}
use Rattle.script_reader.specs.declared.row.Row.{Row}
use Rattle.script_reader.specs.declared.row.Row.TheVariants as row
use Rattle.script_reader.specs.Words.{words_of}
use Rattle.script_reader.specs.Numbers.{number_in}
use Rattle.script_reader.specs.Forms.{form_among}
use Rattle.script_reader.specs.Said.{said_word}
use Rattle.script_reader.specs.Rows.{row_of, row_in, row_in_text}
use Rattle.script_reader.specs.Readings.{may_stand, nothing_read, read_more}
use Rattle.script_reader.specs.Taps.{is_on_tap}
use Rattle.script_reader.specs.Lines.{line_taken, taken}
use Rattle.script_reader.specs.Scripts.{lines_read, script_read}
use Rattle.load_maker.specs.declared.line.Line.{Line}
use Rattle.load_maker.specs.declared.line.Line.TheVariants.{Centres, Clients, Threads, Rounds, Phase, End, Settle}
use Rattle.load_maker.specs.Lines.{line_text}
use Rattle.load_maker.specs.Made.{Block, lines_made, state_behind, fixed, within, phase, phases, ending, settings, body, made_lines, made_script}
use Rattle.load_maker.specs.Rows.{row_meant}
use Rattle.load_maker.specs.MadeScripts.{step_meant, steps_meant, phase_sections, sections_made, script_made}
use Rattle.load_maker.proofs.Blocks.{lines_made-append}
use Rattle.load_maker.proofs.Counts.{body_counts}
use Rattle.load_maker.proofs.MadeLines.{IsInRange, IsStep, IsInside, step_ranged, inside_ranged, line_read, good_lines, within_good, ending_good, done, made_is, made_back}

-- what is read behind the settings: these sections, and the steps of the open phase, where one is
abbrev behind : List Section → Option (List Step) → Reading
behind sections phase = record { centres = Some (record { n = 3; k = 2 }); clients = Some 100; cache = None; limit = None; threads = Some 4; rounds = Some 32; taps = []; sections = sections; phase = phase }

-- a hundred in decimal
hundred : decimal 100 ≡ codes "100"
hundred = decimal_step 100 (lit≤ tt) (lit< tt) ∙ ap (λ ds. ds ++ 48 ∷ []) (decimal_step 10 (lit≤ tt) (lit< tt) ∙ ap (λ ds. ds ++ 48 ∷ []) (decimal_digit 1 (lit< tt)))

-- the settings, with their number spelled out
settings_spelled : (rest : List (List ℕ)) → lines_read 1 nothing_read (codes "centres 3 k 2" ∷ codes "clients 100" ∷ codes "threads 4" ∷ codes "rounds 32" ∷ rest) ≡ lines_read 5 (behind [] None) rest
unfolding words_of number_in form_among said_word row_of row_in_text row_in may_stand read_more
settings_spelled rest = refl

-- the settings, and lines behind them
head_read : (rest : List (List ℕ)) → lines_read 1 nothing_read (map line_text (settings 100) ++ rest) ≡ lines_read 5 (behind [] None) rest
head_read rest = ap (λ (digits : List ℕ). lines_read 1 nothing_read (codes "centres 3 k 2" ∷ (codes "clients " ++ digits) ∷ codes "threads 4" ∷ codes "rounds 32" ∷ rest)) hundred ∙ settings_spelled rest

-- ---- lines behind the settings

-- where a reading came to by these lines, whatever stands behind them
abbrev Brings : List Line → Reading → Reading → Type 0
Brings lines old new = (number : ℕ) (rest : List (List ℕ)) → number + length lines ≤ MAX_LINES + 1 → lines_read number old (map line_text lines ++ rest) ≡ lines_read (number + length lines) new rest

brings_none : (reading : Reading) → Brings [] reading reading
brings_none reading number rest few = ap (λ n. lines_read n reading rest) (let same : number ≡ number + 0 = omega arith in same)

-- lines, and others behind them
brings_both : (xs ys : List Line) (old mid new : Reading) → Brings xs old mid → Brings ys mid new → Brings (xs ++ ys) old new
brings_both xs ys old mid new front back number rest few =
    let both = length-append xs ys in
    ap (λ lines. lines_read number old (lines ++ rest)) (map-append line_text xs ys)
    ∙ ap (lines_read number old) (append_assoc (map line_text xs) (map line_text ys) rest)
    ∙ front number (map line_text ys ++ rest) (omega arith)
    ∙ back (number + length xs) rest (omega arith)
    ∙ ap (λ n. lines_read n new rest) (let same : number + length xs + length ys ≡ number + length (xs ++ ys) = omega arith in same)

-- a line that is taken
brings_line : (line : Line) (sections : List Section) (phase : Option (List Step)) (new : Reading) → IsInRange line → taken (behind sections phase) (Ok (Some (row_meant line))) ≡ Ok new → Brings (line ∷ []) (behind sections phase) new
brings_line line sections phase new is takes number rest few =
    let said : line_taken (behind sections phase) number (line_text line) ≡ Ok new = ap (taken (behind sections phase)) (line_read line is number (omega arith)) ∙ takes in
    ap (λ (r : Result Reading Cause). elim r [ Ok more ↦ lines_read (number + 1) more rest | Err why ↦ Err (Refused number why) ]) said

-- ---- steps

-- a step is taken, which needs no tap
record SaysStep (line : Line) : Type 0 where
  step : Step
  is : row_meant line ≡ row.Does step
  on : is_on_tap [] step ≡ true

says_step : (line : Line) → IsStep line → SaysStep line
says_step Centres h = absurd h
says_step (Clients clients) h = absurd h
says_step Threads h = absurd h
says_step Rounds h = absurd h
says_step Phase h = absurd h
says_step End h = absurd h
says_step line h = record { step = _; is = refl; on = refl }

-- one that may stand in a phase
record SaysInside (line : Line) : Type 0 where
  step : Step
  is : row_meant line ≡ row.Does step
  on : is_on_tap [] step ≡ true
  may : may_do_in_phase step ≡ true

says_inside : (line : Line) → IsInside line → SaysInside line
says_inside Centres h = absurd h
says_inside (Clients clients) h = absurd h
says_inside Threads h = absurd h
says_inside Rounds h = absurd h
says_inside Phase h = absurd h
says_inside End h = absurd h
says_inside Settle h = absurd h
says_inside line h = record { step = _; is = refl; on = refl; may = refl }

step_out : (sections : List Section) (step : Step) → is_on_tap [] step ≡ true → taken (behind sections None) (Ok (Some (row.Does step))) ≡ Ok (behind (sections ++ section_of step ∷ []) None)
unfolding may_stand read_more
step_out sections step on = cond-true _ _ _ (or_left _ _ on)

step_in : (sections : List Section) (steps : List Step) (step : Step) → is_on_tap [] step ≡ true → may_do_in_phase step ≡ true → taken (behind sections (Some steps)) (Ok (Some (row.Does step))) ≡ Ok (behind sections (Some (steps ++ step ∷ [])))
unfolding may_stand read_more
step_in sections steps step on may = cond-true _ _ _ (or_left _ _ on) ∙ cond-true _ _ _ may

-- steps outside of all phases
brings_steps : (lines : List Line) (sections : List Section) → AllByRecursion IsStep lines → Brings lines (behind sections None) (behind (sections ++ map section_of (steps_meant lines)) None)
brings_steps [] sections all number rest few = brings_none (behind sections None) number rest few ∙ ap (λ s. lines_read (number + 0) (behind s None) rest) (sym (append-nil sections))
brings_steps (line ∷ lines) sections all number rest few =
    let found = says_step line all.0 in
    let more : List Section = sections ++ section_of found.step ∷ [] in
    brings_both (line ∷ []) lines (behind sections None) (behind more None) (behind (more ++ map section_of (steps_meant lines)) None)
    (brings_line line sections None (behind more None) (step_ranged line all.0) (ap (λ (r : Row). taken (behind sections None) (Ok (Some r))) found.is ∙ step_out sections found.step found.on))
    (brings_steps lines more all.1)
    number rest few
    ∙ ap (λ s. lines_read (number + length (line ∷ lines)) (behind s None) rest) (append_assoc sections (section_of found.step ∷ []) (map section_of (steps_meant lines)) ∙ ap (λ (r : Row). sections ++ map section_of (cons_option (step_meant r) (steps_meant lines))) (sym found.is))

-- steps in a phase
brings_inside : (lines : List Line) (sections : List Section) (steps : List Step) → AllByRecursion IsInside lines → Brings lines (behind sections (Some steps)) (behind sections (Some (steps ++ steps_meant lines)))
brings_inside [] sections steps all number rest few = brings_none (behind sections (Some steps)) number rest few ∙ ap (λ s. lines_read (number + 0) (behind sections (Some s)) rest) (sym (append-nil steps))
brings_inside (line ∷ lines) sections steps all number rest few =
    let found = says_inside line all.0 in
    let more : List Step = steps ++ found.step ∷ [] in
    brings_both (line ∷ []) lines (behind sections (Some steps)) (behind sections (Some more)) (behind sections (Some (more ++ steps_meant lines)))
    (brings_line line sections (Some steps) (behind sections (Some more)) (inside_ranged line all.0) (ap (λ (r : Row). taken (behind sections (Some steps)) (Ok (Some r))) found.is ∙ step_in sections steps found.step found.on found.may))
    (brings_inside lines sections more all.1)
    number rest few
    ∙ ap (λ s. lines_read (number + length (line ∷ lines)) (behind sections (Some s)) rest) (append_assoc steps (found.step ∷ []) (steps_meant lines) ∙ ap (λ (r : Row). steps ++ cons_option (step_meant r) (steps_meant lines)) (sym found.is))

-- ---- phases

phase_opens : (sections : List Section) → Brings (Phase ∷ []) (behind sections None) (behind sections (Some []))
unfolding may_stand read_more
phase_opens sections = brings_line Phase sections None (behind sections (Some [])) tt refl

phase_ends : (sections : List Section) (steps : List Step) → Brings (End ∷ []) (behind sections (Some steps)) (behind (sections ++ phase_of steps ∷ []) None)
unfolding may_stand read_more
phase_ends sections steps = brings_line End sections (Some steps) (behind (sections ++ phase_of steps ∷ []) None) tt refl

-- a phase
brings_phase : (lines : List Line) (sections : List Section) → AllByRecursion IsInside lines → Brings (Phase ∷ (lines ++ End ∷ [])) (behind sections None) (behind (sections ++ phase_of (steps_meant lines) ∷ []) None)
brings_phase lines sections all =
    brings_both (Phase ∷ []) (lines ++ End ∷ []) (behind sections None) (behind sections (Some [])) (behind (sections ++ phase_of (steps_meant lines) ∷ []) None)
    (phase_opens sections)
    (brings_both lines (End ∷ []) (behind sections (Some [])) (behind sections (Some (steps_meant lines))) (behind (sections ++ phase_of (steps_meant lines) ∷ []) None)
    (brings_inside lines sections [] all)
    (phase_ends sections (steps_meant lines)))

-- the lines of a phase
phase_lines : (turns clients state : ℕ) → lines_made (phase turns clients) state ≡ Phase ∷ (lines_made (within turns clients) state ++ End ∷ [])
phase_lines turns clients state = ap (λ lines. Phase ∷ lines) (lines_made-append (within turns clients) (fixed (End ∷ []) ∷ []) state)

-- so many phases
brings_phases : (turns clients first many state : ℕ) (sections : List Section) → clients ≤ 100 → Brings (lines_made (flat_map (λ turn. phase turns clients) (range_with_len first many)) state) (behind sections None) (behind (sections ++ phase_sections turns clients many state) None)
brings_phases turns clients first zero state sections few = subst (λ s. Brings [] (behind sections None) (behind s None)) (sym (append-nil sections)) (brings_none (behind sections None))
brings_phases turns clients first (suc many) state sections few =
    let inside : List Line = lines_made (within turns clients) state in
    let next : ℕ = state_behind (phase turns clients) state in
    let later : List Block = flat_map (λ turn. phase turns clients) (range_with_len (first + 1) many) in
    let more : List Section = sections ++ phase_of (steps_meant inside) ∷ [] in
    let both =
    brings_both (Phase ∷ (inside ++ End ∷ [])) (lines_made later next) (behind sections None) (behind more None) (behind (more ++ phase_sections turns clients many next) None)
    (brings_phase inside sections (good_lines IsInside (within turns clients) state (within_good turns clients few)))
    (brings_phases turns clients (first + 1) many next more few) in
    let made : lines_made (phase turns clients ++ later) state ≡ (Phase ∷ (inside ++ End ∷ [])) ++ lines_made later next = lines_made-append (phase turns clients) later state ∙ ap (λ lines. lines ++ lines_made later next) (phase_lines turns clients state) in
    subst (λ lines. Brings lines (behind sections None) (behind (sections ++ phase_sections turns clients (suc many) state) None)) (sym made)
    (subst (λ s. Brings ((Phase ∷ (inside ++ End ∷ [])) ++ lines_made later next) (behind sections None) (behind s None)) (append_assoc sections (phase_of (steps_meant inside) ∷ []) (phase_sections turns clients many next)) both)

-- what is done
brings_body : (turns clients many state : ℕ) → clients ≤ 100 → Brings (lines_made (body turns clients many) state) (behind [] None) (behind (sections_made turns clients many state) None)
unfolding body
brings_body turns clients many state few =
    let next : ℕ = state_behind (phases turns clients many) state in
    subst (λ lines. Brings lines (behind [] None) (behind (sections_made turns clients many state) None)) (sym (lines_made-append (phases turns clients many) (ending clients) state))
    (brings_both (lines_made (phases turns clients many) state) (lines_made (ending clients) next) (behind [] None) (behind (phase_sections turns clients many state) None) (behind (sections_made turns clients many state) None)
    (brings_phases turns clients 1 many state [] few)
    (brings_steps (lines_made (ending clients) next) (phase_sections turns clients many state) (good_lines IsStep (ending clients) next (ending_good clients few))))

-- ---- the script

-- how many lines stand behind the settings
done_count : (num : ℕ) → length (done num) ≡ 31437
done_count num = body_counts 10 100 5 num

-- how many lines there are
pub made_count : (num : ℕ) → length (made_lines num) ≡ 31441
made_count num = ap length (made_is num) ∙ length-append (settings 100) (done num) ∙ ap (λ n. 4 + n) (done_count num)

-- a made script is a script
pub script_back : (num : ℕ) → script_read (made_script num) ≡ Ok (script_made num)
unfolding script_read
script_back num =
    let few : 5 + length (done num) ≤ MAX_LINES + 1 = omega (arith, done_count num) in
    ap (lines_read 1 nothing_read) (made_back num ∙ ap (map line_text) (made_is num) ∙ map-append line_text (settings 100) (done num))
    ∙ head_read (map line_text (done num))
    ∙ ap (lines_read 5 (behind [] None)) (sym (append-nil (map line_text (done num))))
    ∙ brings_body 10 100 5 num (lit≤ tt) 5 [] few
