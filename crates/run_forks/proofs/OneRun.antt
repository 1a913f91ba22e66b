-- What happened by the same moves is the same: no deed of one run parts from the other's, since the entries before its
-- answer are the same.
use Rattle.std.proofs.Common.{◌≡◌, ℕ, inl, inr, List, [], ◌∷◌, ◌++◌, length, map, take, Some, refl, sym, ap, ◌∙◌, subst}
use Rattle.std.specs.Prelude.{All, slice_get}
use Rattle.std.specs.List.{cons_option}
use Rattle.std.specs.Option.{option_map}
use Rattle.std.proofs.lemmas.List.{append_assoc, map-append}
use Rattle.std.proofs.lemmas.List.Elements.{All-head, All-tail, filter_map-append}
use Rattle.std.proofs.Math.Seq.{take-append_seam}
use Rattle.list_core.proofs.Members.{In_right}
use Rattle.list_core.proofs.Gets.{get_seam}
use Rattle.dc_talk.specs.declared.ask.Ask.{Ask}
use Rattle.dc_talk.specs.declared.say.Say.{Say}
use Rattle.dc_talk.specs.declared.log.Fate.{Fate}
use Rattle.dc_talk.specs.declared.log.Deed.{Deed}
use Rattle.dc_talk.specs.declared.log.Deed.TheVariants.{Asked}
use Rattle.dc_talk.specs.declared.log.Note.{Note}
use Rattle.dc_talk.specs.declared.settings.Settings.{Settings}
use Rattle.dc_talk.specs.Entries.{Entry}
use Rattle.dc_talk.specs.Logs.{marked, answered, exchanged_in, entry_for}
use Rattle.dc_talk.specs.Answers.{answer, History}
use Rattle.script_core.specs.declared.rounds.Role.TheVariants.{Sender, Receiver, Reporter, Pruner}
use Rattle.script_core.specs.Mail.{due_in_round, due_at_close}
use Rattle.run_book.specs.Setups.{Setup, settings_among}
use Rattle.run_book.specs.Happenings.{Happened, entry_in, trail_in, happening, GoesToOneOf}
use Rattle.run_book.specs.Moves.{Does, client_does, operator_does, worker_does, closes, Move, actor_of}
use Rattle.run_book.specs.Played.{Stage, DoesSo, TapsSo, stage_after, IsAt, Plays, no_moves, next_move}
use Rattle.run_book.proofs.Pairing.{exchanges}
use Rattle.run_forks.specs.Forks.{IsFork, AreOneOrFork}
use Rattle.run_forks.specs.Answered.{AreAnswered}
use Rattle.run_forks.proofs.ClientForks.{step_fork}
use Rattle.run_forks.proofs.OperatorForks.{order_fork}
use Rattle.run_forks.proofs.WorkerForks.{sender_fork, receiver_fork, reporter_fork, pruner_fork}

-- ---- one move

-- the deeds of one move at one stage are the same, or part at an answer
move_fork : (n : ℕ) (stage : Stage) (number : ℕ) (does : Does) (ds es : List Deed) → DoesSo n stage number does ds → DoesSo n stage number does es → TapsSo stage.taps does ds → TapsSo stage.taps does es → AreOneOrFork ds es
move_fork n stage number (client_does client step) ds es one two tap other = step_fork stage.taps client (stage.come client) step ds es one two tap other
move_fork n stage number (operator_does step) ds es one two tap other = order_fork stage.taps n step ds es one two tap other
move_fork n stage number (worker_does i Sender) ds es one two tap other = sender_fork n i ds es one two
move_fork n stage number (worker_does i Receiver) ds es one two tap other = receiver_fork n i (λ from. due_in_round (stage.posts from i)) ds es one two
move_fork n stage number (worker_does i Reporter) ds es one two tap other = reporter_fork n i ds es one two
move_fork n stage number (worker_does i Pruner) ds es one two tap other = pruner_fork i number ds es one two
move_fork n stage number (closes i) ds es one two tap other = receiver_fork n i (λ from. due_at_close (stage.posts from i)) ds es one two

-- the deeds of notes
abbrev deeds_in : List Note → List Deed
deeds_in notes = map (λ note. note.deed) notes

-- the notes of one move are its deeds
marked_back : (section step : ℕ) (notes : List Note) → All (IsAt section step) notes → notes ≡ map (marked section step) (deeds_in notes)
marked_back section step [] at = refl
marked_back section step (note ∷ notes) at =
    let here = All-head (IsAt section step) note notes at in
    let rest = marked_back section step notes (All-tail (IsAt section step) note notes at) in
    λ i. (record { section = here.section_is i; step = here.step_is i; deed = note.deed }) ∷ rest i

-- so the same deeds are the same notes
same_notes : (section step : ℕ) (mine yours : List Note) → All (IsAt section step) mine → All (IsAt section step) yours → deeds_in mine ≡ deeds_in yours → mine ≡ yours
same_notes section step mine yours at too same = marked_back section step mine at ∙ (ap (map (marked section step)) same ∙ sym (marked_back section step yours too))

-- ---- an ask of a run

-- what an actor noted of these deeds
abbrev noting : ℕ → ℕ → ℕ → List Deed → List Happened
noting actor section step deeds = happening actor (map (marked section step) deeds)

-- of deeds behind others
noting_both : (actor section step : ℕ) (ds es : List Deed) → noting actor section step (ds ++ es) ≡ noting actor section step ds ++ noting actor section step es
noting_both actor section step ds es =
    ap (happening actor) (map-append (marked section step) ds es)
    ∙ map-append (λ (note : Note). record { actor = actor; note = note }) (map (marked section step) ds) (map (marked section step) es)

-- an answer of a history stands behind the entries before it
answer_at : (s : Settings) (trail front : List Entry) (entry : Entry) (back : List Entry) → History s trail → trail ≡ front ++ entry ∷ back → entry.say ≡ answer s front entry.ask
answer_at s trail front entry back history is =
    let here : slice_get trail (length front) ≡ Some entry = ap (λ es. slice_get es (length front)) is ∙ get_seam front entry back in
    let before : take (length front) trail ≡ front = ap (take (length front)) is ∙ take-append_seam front (entry ∷ back) in
    history.holds (length front) entry here ∙ ap (λ es. answer s es entry.ask) before

module _ (n k : ℕ) (setup : Setup) where
  -- what happened up to an ask fixes its answer
  answer_fixed : (front back : List Happened) (key : Happened) (i : ℕ) (ask : Ask) (fate : Fate) (say : Say) → AreAnswered n k setup (front ++ key ∷ back) → key.note.deed ≡ Asked i ask fate → answered fate ≡ Some say → say ≡ answer (settings_among n k setup i) (trail_in i front) ask
  answer_fixed front back key i ask fate say are is told =
      let range : GoesToOneOf n (Asked i ask fate) = subst (GoesToOneOf n) is (are.reach key (In_right front (key ∷ back) key (inl refl))) in
      let pair : Ask × Say = (ask, say) in
      let made : entry_in i key ≡ Some (entry_for key.actor pair) = ap (λ deed. option_map (entry_for key.actor) (exchanged_in i deed)) is ∙ ap (option_map (entry_for key.actor)) (exchanges i ask say fate told) in
      let trail : trail_in i (front ++ key ∷ back) ≡ trail_in i front ++ entry_for key.actor pair ∷ trail_in i back =
      filter_map-append (entry_in i) front (key ∷ back) ∙ ap (λ o. trail_in i front ++ cons_option o (trail_in i back)) made in
      answer_at (settings_among n k setup i) (trail_in i (front ++ key ∷ back)) (trail_in i front) (entry_for key.actor pair) (trail_in i back) (are.histories i range.0 range.1) trail

  -- the deeds of one move behind the same, in two runs, do not part
  no_fork : (done rest behind : List Happened) (actor section step : ℕ) (ds es : List Deed) → AreAnswered n k setup (done ++ (noting actor section step ds ++ rest)) → AreAnswered n k setup (done ++ (noting actor section step es ++ behind)) → IsFork ds es → ⊥
  no_fork done rest behind actor section step ds es one two f =
      let front : List Happened = done ++ noting actor section step f.before in
      let first = answer_fixed front (noting actor section step f.rest ++ rest) (key f.one) f.centre f.ask f.one f.apart.say (subst (AreAnswered n k setup) (cut ds f.one f.rest rest f.first) one) refl f.apart.says in
      let later = answer_fixed front (noting actor section step f.more ++ behind) (key f.two) f.centre f.ask f.two f.apart.again (subst (AreAnswered n k setup) (cut es f.two f.more behind f.later) two) refl f.apart.tells in
      f.apart.differ (first ∙ sym later)
    where
      key : Fate → Happened
      key fate = record { actor = actor; note = marked section step (Asked f.centre f.ask fate) }

      cut : (deeds : List Deed) (fate : Fate) (more : List Deed) (last : List Happened) → deeds ≡ f.before ++ Asked f.centre f.ask fate ∷ more → done ++ (noting actor section step deeds ++ last) ≡ (done ++ noting actor section step f.before) ++ key fate ∷ (noting actor section step more ++ last)
      cut deeds fate more last is =
          ap (λ l. done ++ (l ++ last)) (ap (noting actor section step) is ∙ noting_both actor section step f.before (Asked f.centre f.ask fate ∷ more))
          ∙ (ap (λ l. done ++ l) (append_assoc (noting actor section step f.before) (key fate ∷ noting actor section step more) last)
          ∙ sym (append_assoc done (noting actor section step f.before) (key fate ∷ (noting actor section step more ++ last))))

  -- ---- moves one after another

  -- behind the same, the same moves leave the same
  one_behind : (clients : ℕ) (stage : Stage) (moves : List Move) (done later after : List Happened) → Plays n clients stage moves later → Plays n clients stage moves after → AreAnswered n k setup (done ++ later) → AreAnswered n k setup (done ++ after) → later ≡ after
  one_behind clients stage [] done later after no_moves no_moves one two = refl
  one_behind clients stage (move ∷ moves) done later after (next_move mine rest is at does tap on) (next_move yours behind was too again other more) one two =
      go (move_fork n stage move.step move.does (deeds_in mine) (deeds_in yours) does again tap other) (λ notes. one_behind clients (stage_after move.does mine stage) moves now rest behind on (follows notes) here (there notes))
    where
      actor : ℕ
      actor = actor_of clients move.does

      now : List Happened
      now = done ++ happening actor mine

      first : AreAnswered n k setup (done ++ (happening actor mine ++ rest))
      first = subst (λ l. AreAnswered n k setup (done ++ l)) is one

      second : AreAnswered n k setup (done ++ (happening actor yours ++ behind))
      second = subst (λ l. AreAnswered n k setup (done ++ l)) was two

      here : AreAnswered n k setup (now ++ rest)
      here = subst (AreAnswered n k setup) (sym (append_assoc done (happening actor mine) rest)) first

      there : mine ≡ yours → AreAnswered n k setup (now ++ behind)
      there notes = subst (AreAnswered n k setup) (sym (append_assoc done (happening actor mine) behind)) (subst (λ ns. AreAnswered n k setup (done ++ (happening actor ns ++ behind))) (sym notes) second)

      follows : mine ≡ yours → Plays n clients (stage_after move.does mine stage) moves behind
      follows notes = subst (λ ns. Plays n clients (stage_after move.does ns stage) moves behind) (sym notes) more

      by_deeds : (notes : List Note) (last : List Happened) → All (IsAt move.section move.step) notes → AreAnswered n k setup (done ++ (happening actor notes ++ last)) → AreAnswered n k setup (done ++ (noting actor move.section move.step (deeds_in notes) ++ last))
      by_deeds notes last at are = subst (λ ns. AreAnswered n k setup (done ++ (happening actor ns ++ last))) (marked_back move.section move.step notes at) are

      go : AreOneOrFork (deeds_in mine) (deeds_in yours) → (mine ≡ yours → rest ≡ behind) → later ≡ after
      go (inr f) go_on = absurd (no_fork done rest behind actor move.section move.step (deeds_in mine) (deeds_in yours) (by_deeds mine rest at first) (by_deeds yours behind too second) f)
      go (inl same) go_on =
          let notes : mine ≡ yours = same_notes move.section move.step mine yours at too same in
          let same_rest : rest ≡ behind = go_on notes in
          is ∙ ((λ i. happening actor (notes i) ++ same_rest i) ∙ sym was)

-- what happened by the same moves is the same
pub one_run : (n k clients : ℕ) (setup : Setup) (stage : Stage) (moves : List Move) (all again : List Happened) → Plays n clients stage moves all → Plays n clients stage moves again → AreAnswered n k setup all → AreAnswered n k setup again → all ≡ again
one_run n k clients setup stage moves all again first other one two = one_behind n k setup clients stage moves [] all again first other one two
