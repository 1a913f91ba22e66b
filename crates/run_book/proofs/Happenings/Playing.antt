-- What was played grows by one move more; and the book of what the moves of a script left has the script's steps.
use Rattle.std.proofs.Common.{◌≡◌, ℕ, zero, suc, ◌+◌, ◌*◌, ◌≤◌, ◌<◌, ⊎_elim, List, [], ◌∷◌, ◌++◌, map, Some, refl, sym, ◌∙◌, subst, append_assoc, arith}
use Rattle.std.specs.Prelude.{slice_get, All}
use Rattle.std.proofs.lemmas.Bool.{cases_lt}
use Rattle.std.proofs.lemmas.List.{append-nil}
use Rattle.std.proofs.lemmas.List.Elements.{All-nil, All-cons}
use Rattle.dc_talk.specs.declared.log.Deed.{Deed}
use Rattle.dc_talk.specs.declared.log.Note.{Note}
use Rattle.dc_talk.specs.Logs.{marked}
use Rattle.script_core.specs.declared.script.Script.{Script}
use Rattle.run_book.specs.declared.book.Book.{Book}
use Rattle.run_book.specs.Setups.{Setup, setup_of}
use Rattle.run_book.specs.Parts.{trail_of, notes_of}
use Rattle.run_book.specs.Happenings.{Happened, notes_by, trail_in, happening, AreTogether, IsBookOf}
use Rattle.run_book.specs.Moves.{Move, actor_of, moves_of}
use Rattle.run_book.specs.Played.{Stage, first_stage, DoesSo, TapsSo, stage_after, IsAt, Plays, no_moves, next_move, HavePlayed}
use Rattle.run_book.specs.Scripted.{HasSteps}
use Rattle.run_book.proofs.Happenings.Places.{noted, entered, actor_range, reached_one}
use Rattle.run_book.proofs.Happenings.Fits.{in_trail, in_log}

-- ---- moves one after another

module _ (script : Script) where
  -- at first there are no moves
  pub played_none : HavePlayed script [] [] (first_stage script)
  played_none = record { goes_on = λ more later plays. plays }

  -- one move more
  pub played_more : (moves : List Move) (all : List Happened) (stage : Stage) (move : Move) (mine : List Note) → HavePlayed script moves all stage → All (IsAt move.section move.step) mine → DoesSo script.n stage move.step move.does (map (λ (note : Note). note.deed) mine) → TapsSo stage.taps move.does (map (λ (note : Note). note.deed) mine) → HavePlayed script (moves ++ move ∷ []) (all ++ happening (actor_of script.clients move.does) mine) (stage_after move.does mine stage)
  played_more moves all stage move mine h at deeds taps = record {
    goes_on = λ more later plays.
        let own : List Happened = happening (actor_of script.clients move.does) mine in
        subst (λ ms. Plays script.n script.clients (first_stage script) ms ((all ++ own) ++ later)) (sym (append_assoc moves (move ∷ []) more))
        (subst (Plays script.n script.clients (first_stage script) (moves ++ move ∷ more)) (sym (append_assoc all own later))
        (h.goes_on (move ∷ more) (own ++ later) (next_move mine later refl at deeds taps plays)));
  }

  -- what these moves left was played
  pub played_all : (moves : List Move) (all : List Happened) (stage : Stage) → HavePlayed script moves all stage → Plays script.n script.clients (first_stage script) moves all
  played_all moves all stage h =
      subst (λ ms. Plays script.n script.clients (first_stage script) ms all) (append-nil moves)
      (subst (Plays script.n script.clients (first_stage script) (moves ++ [])) (append-nil all) (h.goes_on [] [] no_moves))

  -- by the same moves it came to any stage at which each client is as far, on each link lies the same, and each tap
  -- shows the same
  pub played_as : (moves : List Move) (all : List Happened) (stage other : Stage) → ((client : ℕ) → stage.come client ≡ other.come client) → ((from to : ℕ) → stage.posts from to ≡ other.posts from to) → ((centre : ℕ) → stage.taps centre ≡ other.taps centre) → HavePlayed script moves all stage → HavePlayed script moves all other
  played_as moves all stage other come posts taps h =
      let same : stage ≡ other = λ i. record { come = λ client. come client i; posts = λ from to. posts from to i; taps = λ centre. taps centre i } in
      subst (HavePlayed script moves all) same h

-- notes of marked deeds are at their section and step
pub all_at : (section step : ℕ) (deeds : List Deed) → All (IsAt section step) (map (marked section step) deeds)
all_at section step [] = All-nil (IsAt section step)
all_at section step (deed ∷ deeds) = All-cons (IsAt section step) (marked section step deed) (map (marked section step) deeds) (record { section_is = refl; step_is = refl }) (all_at section step deeds)

-- ---- the script

-- a list that has no first is empty
no_first : {X : Type 0} (xs : List X) → ((x : X) → slice_get xs 0 ≡ Some x → ⊥) → xs ≡ []
no_first [] none = refl
no_first (x ∷ xs) none = absurd (none x refl)

module _ (b : Book) (n k : ℕ) (setup : Setup) (all : List Happened) (is : IsBookOf b n k setup.clients all) (t : AreTogether n k setup all) where
  -- a number that is no actor's has no notes, neither in the book nor among what happened
  idle : (a : ℕ) → ((1 ≤ a) × (a ≤ 1 + setup.clients + 4 * n) → ⊥) → notes_of b a ≡ notes_by a all
  idle a none =
      no_first (notes_of b a) (λ note there. none (in_log b n k setup.clients all is a 0 note there).actor)
      ∙ sym (no_first (notes_by a all) (λ note there.
      let h = noted n k setup all t a 0 note there in
      none (subst (λ a. (1 ≤ a) × (a ≤ 1 + setup.clients + 4 * n)) h.actor (actor_range n k setup all t h.place h.it h.there))))

  -- a number that is no centre's has no entries
  bare : (i : ℕ) → ((1 ≤ i) × (i ≤ n) → ⊥) → trail_of b i ≡ trail_in i all
  bare i none =
      no_first (trail_of b i) (λ entry there. none (in_trail b n k setup.clients all is i 0 entry there).centre)
      ∙ sym (no_first (trail_in i all) (λ entry there.
      let e = entered n k setup all t i 0 entry there in
      none (reached_one n k setup all t e.place e.it i entry.ask e.made.exchange.fate e.there e.made.exchange.is)))

  -- the notes of each number
  notes_are : (a : ℕ) → notes_of b a ≡ notes_by a all
  notes_are zero = idle 0 (λ range. omega (arith, range.0))
  notes_are (suc a) = ⊎_elim
      (λ (past : 1 + setup.clients + 4 * n < suc a). idle (suc a) (λ range. omega (arith, past, range.1)))
      (λ (within : suc a ≤ 1 + setup.clients + 4 * n). is.notes (suc a) (omega arith) within)
      (cases_lt (1 + setup.clients + 4 * n) (suc a))

  -- the trail of each number
  trails_are : (i : ℕ) → trail_of b i ≡ trail_in i all
  trails_are zero = bare 0 (λ range. omega (arith, range.0))
  trails_are (suc i) = ⊎_elim
      (λ (past : n < suc i). bare (suc i) (λ range. omega (arith, past, range.1)))
      (λ (within : suc i ≤ n). is.trails (suc i) (omega arith) within)
      (cases_lt n (suc i))

-- the book has the steps of the script
pub scripted : (script : Script) (b : Book) (n k : ℕ) (all : List Happened) (stage : Stage) → IsBookOf b n k script.clients all → AreTogether n k (setup_of script) all → HavePlayed script (moves_of script) all stage → HasSteps script b
scripted script b n k all stage is t h = record {
  all = all;
  plays = played_all script (moves_of script) all stage h;
  notes = notes_are b n k (setup_of script) all is t;
  trails = trails_are b n k (setup_of script) all is t;
}
