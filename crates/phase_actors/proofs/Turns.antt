-- A client's turn more.
use Rattle.std.proofs.Common.{◌≡◌, ◌≤◌, ℕ, zero, suc, ◌+◌, ◌-◌, List, [], ◌∷◌, ◌++◌, length, take, Option, Some, None, refl, sym, ap, ◌∙◌, subst, append_assoc, append-nil, arith}
use Rattle.std.specs.Prelude.{slice_get}
use Rattle.std.proofs.lemmas.Option.{none-some, same_Some}
use Rattle.std.proofs.lemmas.List.Folds.{fold-map}
use Rattle.dc_talk.specs.declared.log.Deed.{Deed}
use Rattle.dc_talk.specs.declared.log.Note.{Note}
use Rattle.dc_talk.specs.Logs.{Logged, marked}
use Rattle.dc_talk.specs.Acting.{acting, Leaves}
use Rattle.dc_talk.specs.Doors.{DoorView}
use Rattle.dc_talk.specs.Clients.{Client}
use Rattle.dc_talk.specs.Rule.{after}
use Rattle.script_core.specs.declared.steps.ClientStep.{ClientStep}
use Rattle.script_core.specs.declared.steps.Section.{Section}
use Rattle.script_core.specs.declared.taps.TapState.{TapState}
use Rattle.script_core.specs.Deeds.{StepDeeds, stepped, armed_after}
use Rattle.script_core.specs.Taps.{look_in}
use Rattle.client_stub.specs.Playing.{StubView, beside, Takes, IsLinkBehind}
use Rattle.run_book.specs.Moves.{client_steps}
use Rattle.run_book.specs.Happenings.{ClientDoes}
use Rattle.run_table.proofs.Allowing.{allows_does}
use Rattle.run_book.proofs.Happenings.Playing.{all_at}
use Rattle.run_sections.specs.Orders.{deeds_of, none_left, ClientGoes}
use Rattle.run_sections.proofs.Orders.{order_more}
use Rattle.run_sections.proofs.InTurn.{client_behind, client_comes}
use Rattle.run_sections.specs.Taps.{LookGoes}
use Rattle.run_table.specs.Taps.{taps_of}
use Rattle.read_tap.specs.Shows.{ShowsView}
use Rattle.phase_actors.specs.Taps.{shows_read, AreReaders, HaveRead, SeesIn, TakesReading}
use Rattle.phase_actors.proofs.Among.{front_long}
use Rattle.phase_actors.proofs.Reading.{GoesOn, sees_on, read_grows, read_some, looks_more}
use Rattle.phase_actors.specs.Clients.{ClientAt, client_at, come_to, PlaysClient, HasTurned}
use Rattle.phase_actors.proofs.Growing.{acted_none, acted_more, log_at_step, marked_all, turn_deeds}

-- ---- the first steps of a list

-- one step more
pub take_one : {X : Type 0} (xs : List X) (place : ℕ) (x : X) → slice_get xs place ≡ Some x → take (suc place) xs ≡ take place xs ++ x ∷ []
take_one [] place x there = absurd (none-some x there)
take_one (y ∷ xs) zero x there = ap (λ y. y ∷ []) (same_Some y x there)
take_one (y ∷ xs) (suc place) x there = ap (λ ys. y ∷ ys) (take_one xs place x there)

-- none more
take_none : {X : Type 0} (xs : List X) (place : ℕ) → slice_get xs place ≡ None → take (suc place) xs ≡ take place xs
take_none [] zero there = refl
take_none [] (suc place) there = refl
take_none (y ∷ xs) zero there = absurd (none-some y (sym there))
take_none (y ∷ xs) (suc place) there = ap (λ ys. y ∷ ys) (take_none xs place there)

-- how many they are
take_long : {X : Type 0} (xs : List X) (place : ℕ) (x : X) → slice_get xs place ≡ Some x → length (take place xs) ≡ place
take_long [] place x there = absurd (none-some x there)
take_long (y ∷ xs) zero x there = refl
take_long (y ∷ xs) (suc place) x there = ap suc (take_long xs place x there)

-- all of them
take_whole : {X : Type 0} (xs : List X) (count : ℕ) → length xs ≤ count → take count xs ≡ xs
take_whole [] zero few = refl
take_whole [] (suc count) few = refl
take_whole (x ∷ xs) zero few = absurd (omega (arith, few))
take_whole (x ∷ xs) (suc count) few = ap (λ xs. x ∷ xs) (take_whole xs count (omega (arith, few)))

-- ---- a turn

-- what a client does, and then more
does_then : (s : Client) (before first later : List Note) → ClientDoes s before first → ClientDoes (client_behind s first) (before ++ first) later → ClientDoes s before (first ++ later)
does_then s before [] later one two = subst (λ notes. ClientDoes s notes later) (append-nil before) two
does_then s before (note ∷ first) later one two = (
  one.0,
  does_then (after s note.deed) (before ++ note ∷ []) first later one.1 (subst (λ notes. ClientDoes (client_behind (after s note.deed) first) notes later) (sym (append_assoc before (note ∷ []) first)) two),
)

-- readers that come to see more
pub turn_more : (taps : List TapState) (readers later : List ShowsView) (section : Section) (number turns : ℕ) (first last : ClientAt) → HaveRead readers later → HasTurned taps readers section number turns first last → HasTurned taps later section number turns first last
turn_more taps readers later section number turns first last read was = record {
  client = was.client;
  plays = was.plays;
  allowed = was.allowed;
  linked = was.linked;
  last = was.last;
  looks = looks_more (taps_of taps) (shows_read taps readers) (shows_read taps later) first.client number 1 (read_grows taps readers later read) (λ centre. 0) was.last (take turns (client_steps first.client section)) was.plays.mine was.looks;
  within = λ centre.
      let more = front_long (shows_read taps readers centre) (shows_read taps later centre) (read_grows taps readers later read centre) in
      omega (arith, was.within centre, more);
}

module _ (taps : List TapState) (readers : List ShowsView) (section : Section) (number turn client : ℕ) (first : ClientAt) (stub : StubView) (door : DoorView) (log : Logged) (low : 1 ≤ turn) (was : HasTurned taps readers section number (turn - 1) first (client_at client stub door log)) where
  -- the turn behind those before it
  next_turn : suc (turn - 1) ≡ turn
  next_turn = omega (arith, low)

  -- the client's step in it, by the number that it had at first
  step_there : (o : Option ClientStep) → slice_get (client_steps client section) (turn - 1) ≡ o → slice_get (client_steps first.client section) (turn - 1) ≡ o
  step_there o there = subst (λ c. slice_get (client_steps c section) (turn - 1) ≡ o) was.client there

  -- a client that has no step left stays
  pub turn_idle : slice_get (client_steps client section) (turn - 1) ≡ None → HasTurned taps readers section number turn first (client_at client stub door log)
  turn_idle there =
      let steps : List ClientStep = client_steps first.client section in
      let same : take (turn - 1) steps ≡ take turn steps = sym (take_none steps (turn - 1) (step_there None there)) ∙ ap (λ k. take k steps) next_turn in
      subst (λ steps. PlaysClient taps (shows_read taps readers) number steps first (client_at client stub door log)) same was

  -- one that has takes it
  pub turn_taken : (step : ClientStep) (later : StubView) (behind : DoorView) (begun noted : Logged) → slice_get (client_steps client section) (turn - 1) ≡ Some step → begun ≡ log_at_step number turn log → TakesReading taps readers client step (beside stub door begun) (beside later behind noted) → IsLinkBehind behind later.client → HasTurned taps readers section number turn first (client_at client later behind noted)
  turn_taken step later behind begun noted there is took linked =
      let steps : List ClientStep = client_steps first.client section in
      let mid : ClientAt = client_at client stub door log in
      let last : ClientAt = client_at client later behind noted in
      let reads : TakesReading taps readers client step (beside stub door (log_at_step number turn log)) (beside later behind noted) = subst (λ (log : Logged). TakesReading taps readers client step (beside stub door log) (beside later behind noted)) is took in
      let takes : Takes step (beside stub door (log_at_step number turn log)) (beside later behind noted) = reads.takes in
      let deeds : List Deed = takes.deeds in
      let mine : List Note = marked_all number turn deeds in
      let here : slice_get steps (turn - 1) ≡ Some step = step_there (Some step) there in
      let longer : take (turn - 1) steps ++ step ∷ [] ≡ take turn steps = sym (take_one steps (turn - 1) step here) ∙ ap (λ k. take k steps) next_turn in
      let place : turn ≡ 1 + length (take (turn - 1) steps) = omega (arith, low, take_long steps (turn - 1) step here) in
      let leaves : Leaves (acting door (log_at_step number turn log)) (acting behind noted) deeds = record { log = takes.grows.log; door = takes.grows.door; behind = takes.grows.behind } in
      let back : deeds_of mine ≡ deeds = turn_deeds number turn deeds in
      let by_note : Client → Note → Client = λ s note. after s note.deed in
      let state : later.client ≡ client_behind stub.client mine = takes.grows.client ∙ sym (fold-map by_note (marked number turn) stub.client deeds) in
      let come : come_to last ≡ stepped (come_to mid) step mine = λ j. record {
        client = state j;
        armed = (takes.armed ∙ ap (armed_after stub.armed step) (sym back)) j;
        notes = ap (λ (log : Logged). log.notes) takes.grows.log j;
      } in
      let goes : ClientGoes (come_to mid) turn step mine (come_to last) = (subst (StepDeeds (come_to mid) step) (sym back) takes.such, come) in
      let before = client_comes number 1 (come_to first) (come_to mid) (take (turn - 1) steps) was.plays.mine was.plays.order in
      let may : ClientDoes stub.client log.notes mine = allows_does number turn stub.client (log_at_step number turn log) deeds refl refl takes.grows.allowed in
      let sees : SeesIn taps readers first.client (look_in step) (deeds_of mine) = subst (λ c. SeesIn taps readers c (look_in step) (deeds_of mine)) was.client (subst (SeesIn taps readers client (look_in step)) (sym back) reads.sees) in
      let on : GoesOn taps readers first.client (look_in step) (deeds_of mine) was.last = sees_on taps readers first.client (look_in step) (deeds_of mine) was.last was.within sees in
      subst (λ steps. PlaysClient taps (shows_read taps readers) number steps first last) longer (record {
        client = was.client;
        plays = record {
          mine = was.plays.mine ++ mine;
          acted = acted_more number turn first.acting mid.acting last.acting was.plays.mine deeds was.plays.acted leaves;
          order = order_more ClientGoes number 1 turn (come_to first) (come_to mid) (come_to last) (take (turn - 1) steps) step was.plays.mine mine place was.plays.order (all_at number turn deeds) goes;
        };
        allowed = does_then first.stub.client first.acting.log.notes was.plays.mine mine was.allowed (subst (λ s. ClientDoes s (first.acting.log.notes ++ was.plays.mine) mine) before.0 (subst (λ notes. ClientDoes stub.client notes mine) was.plays.acted.log may));
        linked = linked;
        last = on.later;
        looks = order_more (LookGoes (taps_of taps) (shows_read taps readers) first.client) number 1 turn (λ centre. 0) was.last on.later (take (turn - 1) steps) step was.plays.mine mine place was.looks (all_at number turn deeds) on.looks_in;
        within = on.within;
      })

-- no turn was taken yet
pub turn_none : (taps : List TapState) (readers : List ShowsView) (section : Section) (number : ℕ) (c : ClientAt) → AreReaders taps readers → IsLinkBehind c.acting.door c.stub.client → HasTurned taps readers section number 0 c c
turn_none taps readers section number c are linked = record {
  client = refl;
  plays = record { mine = []; acted = acted_none c.acting; order = none_left };
  allowed = tt;
  linked = linked;
  last = λ centre. 0;
  looks = none_left;
  within = read_some taps readers are;
}

-- all turns that a client has were taken
pub turns_all : (taps : List TapState) (readers : List ShowsView) (section : Section) (number turns : ℕ) (a b : ClientAt) → length (client_steps a.client section) ≤ turns → HasTurned taps readers section number turns a b → PlaysClient taps (shows_read taps readers) number (client_steps a.client section) a b
turns_all taps readers section number turns a b few is = subst (λ steps. PlaysClient taps (shows_read taps readers) number steps a b) (take_whole (client_steps a.client section) turns few) is
