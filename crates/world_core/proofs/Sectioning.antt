-- A script's sections, one after another.
use Rattle.std.proofs.Common.{◌≡◌, ◌<◌, ⊎_elim, ℕ, ◌+◌, true, false, cond, true≢false, List, [], ◌∷◌, ◌++◌, map, length, take, get_or, sym, ap, ◌∙◌, subst, arith}
use Rattle.std.specs.Prelude.{All}
use Rattle.std.proofs.lemmas.List.{take_more, length-take-le}
use Rattle.script_core.specs.declared.script.Script.{Script}
use Rattle.script_core.specs.declared.script.Header.{Header}
use Rattle.script_core.specs.declared.steps.Section.{Section}
use Rattle.script_core.specs.Rows.{IsLine, IsPhase, IsSection}
use Rattle.script_core.specs.Scripts.{header_of}
use Rattle.run_book.specs.Moves.{phase_moves, section_moves, moves_from, step_move}
use Rattle.run_book.proofs.Moves.{section_more}
use Rattle.world_core.specs.Worlds.{WorldView}
use Rattle.world_core.specs.Runs.{HasPlayed, MakesMoves}

-- a section that is a phase
pub is_phase : (header : Header) (section : Section) → IsSection header section → section.phase ≡ true → IsPhase header section
is_phase header section is phase = ⊎_elim (λ line. absurd (true≢false (sym phase ∙ ap (λ (section : Section). section.phase) line.1))) (λ whole. whole) is

-- and one that is none
pub is_line : (header : Header) (section : Section) → IsSection header section → section.phase ≡ false → IsLine header section
is_line header section is line = ⊎_elim (λ one. one) (λ whole. absurd (true≢false (sym whole.phase ∙ line))) is

-- the moves of a phase
pub phase_made : (script : Script) (number : ℕ) (section : Section) (old new : WorldView) → section.phase ≡ true → MakesMoves (phase_moves script number section) old new → MakesMoves (section_moves script number section) old new
phase_made script number section old new phase = subst (λ test. MakesMoves (cond test (phase_moves script number section) (map (step_move number) section.steps)) old new) (sym phase)

-- the moves of a line
pub line_made : (script : Script) (number : ℕ) (header : Header) (section : Section) (old new : WorldView) (line : IsLine header section) → MakesMoves (step_move number line.0 ∷ []) old new → MakesMoves (section_moves script number section) old new
line_made script number header section old new line = subst (λ section. MakesMoves (section_moves script number section) old new) (sym line.1)

module _ (script : Script) (w : WorldView) (sections : List Section) (place : ℕ) (section : Section) (all : sections ≡ script.sections) (same : w.script ≡ script) (within : place < length sections) (here : section ≡ get_or sections place section) (each : All (IsSection (header_of script)) script.sections) where
  -- the section at a place is one of the script's
  pub section_at : IsSection (header_of w.script) section
  section_at =
      let at : IsSection (header_of script) (get_or sections place section) = subst (λ sections. All (IsSection (header_of script)) sections) (sym all) each place section within in
      subst (λ (script : Script). IsSection (header_of script) section) (sym same) (subst (IsSection (header_of script)) (sym here) at)

  -- with it the moves of one section more have been made
  pub next_played : (number : ℕ) (new : WorldView) → number ≡ place → HasPlayed (moves_from script 1 (take place sections)) w → MakesMoves (section_moves w.script (number + 1) section) w new → HasPlayed (moves_from script 1 (take (place + 1) sections)) new
  next_played number new count played makes =
      let taken : take (place + 1) sections ≡ take place sections ++ section ∷ [] = take_more sections place section within ∙ ap (λ section. take place sections ++ section ∷ []) (sym here) in
      let front : number + 1 ≡ 1 + length (take place sections) = omega (arith, count, length-take-le place sections (omega (arith, within))) in
      let moves : moves_from script 1 (take (place + 1) sections) ≡ moves_from script 1 (take place sections) ++ section_moves script (number + 1) section =
      ap (moves_from script 1) taken ∙ (section_more script 1 (take place sections) section ∙ ap (λ n. moves_from script 1 (take place sections) ++ section_moves script n section) (sym front)) in
      subst (λ moves. HasPlayed moves new) (sym moves)
      (subst (λ script'. HasPlayed (moves_from script 1 (take place sections) ++ section_moves script' (number + 1) section) new) same
      (makes.goes_on (moves_from script 1 (take place sections)) played))
