-- The turns of a section on one thread: each look sees what the last feed in an earlier step found, or what its tap showed
-- where the section began.
use Rattle.std.proofs.Common.{◌≡◌, ◌≢◌, ℕ, zero, suc, ◌+◌, ◌-◌, ◌≤◌, inl, inr, ⊎_elim, Bool, true, false, cond, List, [], ◌∷◌, ◌++◌, map, length, take, Option, Some, None, refl, sym, ap, ◌∙◌, subst, append_assoc, arith}
use Rattle.std.specs.Prelude.{◌==◌, nat_le, max, flat_map, fold, slice_get}
use Rattle.std.specs.List.{cons_option, filter_map, range_with_len}
use Rattle.std.specs.Option.{option_map}
use Rattle.std.proofs.lemmas.Bool.{eq-eqb, ne_eqb}
use Rattle.std.proofs.Math.Nat.{le-max_left}
use Rattle.std.proofs.lemmas.List.{append-nil, length-take-le, take_all}
use Rattle.std.proofs.lemmas.List.Elements.{filter-append}
use Rattle.std.proofs.lemmas.Option.{none-some, same_Some, slice_get_within}
use Rattle.list_core.specs.Choices.{when}
use Rattle.list_core.specs.Members.{In}
use Rattle.list_core.proofs.Gets.{get_In}
use Rattle.list_core.proofs.Members.{All-In, In_either, In_from_flat_map, In_from_map, filter_all, filter_none}
use Rattle.list_core.proofs.Passing.{In_from_filter_map}
use Rattle.list_core.proofs.Ranges.{In_from_range}
use Rattle.vv_core.specs.Vectors.{centres}
use Rattle.ids_core.specs.declared.object.ObjectId.{ObjectId}
use Rattle.dc_talk.specs.declared.log.Deed.{Deed}
use Rattle.dc_talk.specs.declared.log.Note.{Note}
use Rattle.script_core.specs.declared.script.Script.{Script}
use Rattle.script_core.specs.declared.rounds.Role.{Role}
use Rattle.script_core.specs.declared.rounds.Role.TheVariants.{Sender, Receiver, Reporter, Pruner}
use Rattle.script_core.specs.declared.steps.ClientStep.{ClientStep}
use Rattle.script_core.specs.declared.steps.OperatorStep.{OperatorStep}
use Rattle.script_core.specs.declared.steps.Section.{Section}
use Rattle.script_core.specs.declared.steps.Step.{Step}
use Rattle.script_core.specs.declared.steps.Step.TheVariants.{Client, Operator}
use Rattle.script_core.specs.declared.taps.Show.{Show}
use Rattle.script_core.specs.declared.taps.TapState.{TapState}
use Rattle.script_core.specs.Deeds.{Progress, StepDeeds}
use Rattle.script_core.specs.Feeds.{show_in}
use Rattle.script_core.specs.Rounds.{role_number}
use Rattle.script_core.specs.Rows.{section_of, IsSection}
use Rattle.script_core.specs.Scripts.{header_of}
use Rattle.script_core.specs.Steps.{IsCount, IsStepOf}
use Rattle.script_core.specs.Taps.{fed_tap, feed_in, taps_fed, LooksSo}
use Rattle.run_book.specs.Happenings.{Happened, notes_by, happening}
use Rattle.run_book.specs.Moves.{Does, client_does, operator_does, worker_does, closes, Move, move, actor_of, client_steps, operator_steps, client_turn, operator_turn, one_or_none, step_move, worker_turn, turn_moves, most_steps, phase_moves, section_moves}
use Rattle.run_book.specs.Played.{Stage, DoesSo, TapsSo, taps_after, stage_after, IsAt, Plays, next_move}
use Rattle.run_book.proofs.Happenings.Entries.{own_then, other_then}
use Rattle.run_sections.specs.Orders.{deeds_of}
use Rattle.run_sections.specs.Taps.{shows_then, shows_fed, tap_behind, notes_at, shows_behind}
use Rattle.run_sections.proofs.Reaching.{client_sound}
use Rattle.run_sections.proofs.ShowsBehind.{objects_stay}
use Rattle.run_sections.proofs.Tapping.{looks_as, shows_as, behind_more}

-- ---- steps and their notes

-- one element more of a list
take_last : {X : Type 0} (xs : List X) (k : ℕ) (x : X) → slice_get xs k ≡ Some x → take (k + 1) xs ≡ take k xs ++ x ∷ []
take_last [] k x at = absurd (none-some x at)
take_last (y ∷ xs) zero x at = λ i. same_Some y x at i ∷ []
take_last (y ∷ xs) (suc k) x at =
    let first : suc k + 1 ≡ suc (k + 1) = omega arith in
    ap (λ m. take m (y ∷ xs)) first ∙ ap (λ l. y ∷ l) (take_last xs k x at)

-- none more, where there is none
take_past : {X : Type 0} (xs : List X) (k : ℕ) → slice_get xs k ≡ None → take (k + 1) xs ≡ take k xs
take_past [] zero at = refl
take_past [] (suc k) at = let first : suc k + 1 ≡ suc (k + 1) = omega arith in ap (λ m. take m []) first
take_past (y ∷ xs) zero at = absurd (none-some y (sym at))
take_past (y ∷ xs) (suc k) at =
    let first : suc k + 1 ≡ suc (k + 1) = omega arith in
    ap (λ m. take m (y ∷ xs)) first ∙ ap (λ l. y ∷ l) (take_past xs k at)

-- so many are no more
take_short : {X : Type 0} (k : ℕ) (xs : List X) → length (take k xs) ≤ k
take_short zero xs = omega arith
take_short (suc k) [] = omega arith
take_short (suc k) (x ∷ xs) = let rest = take_short k xs in omega (arith, rest)

-- the shows behind one step more
behind_last : (notes : List Note) (step : ℕ) (steps : List OperatorStep) (does : OperatorStep) (shows : ℕ → List Show) (i : ℕ) → shows_behind notes step (steps ++ does ∷ []) shows i ≡ shows_fed (feed_in does) (deeds_of (notes_at (step + length steps) notes)) (shows_behind notes step steps shows) i
behind_last notes step [] does shows i =
    let place : step ≡ step + 0 = omega arith in
    ap (λ m. shows_fed (feed_in does) (deeds_of (notes_at m notes)) shows i) place
behind_last notes step (one ∷ steps) does shows i =
    let place : step + 1 + length steps ≡ step + length (one ∷ steps) = omega arith in
    let more : ℕ → List Show = shows_fed (feed_in one) (deeds_of (notes_at step notes)) shows in
    behind_last notes (step + 1) steps does more i
    ∙ ap (λ m. shows_fed (feed_in does) (deeds_of (notes_at m notes)) (shows_behind notes (step + 1) steps more) i) place

-- notes of later steps say nothing of these
more_notes : (own more : List Note) (step : ℕ) (steps : List OperatorStep) (shows others : ℕ → List Show) (i : ℕ) → shows i ≡ others i → ((note : Note) → In note more → step + length steps ≤ note.step) → shows_behind (own ++ more) step steps shows i ≡ shows_behind own step steps others i
more_notes own more step [] shows others i same over = same
more_notes own more step (does ∷ steps) shows others i same over =
    let none : notes_at step more ≡ [] = filter_none (λ (note : Note). note.step == step) more (λ note there. ne_eqb note.step step (λ is. (let past = over note there in omega (arith, past, is)))) in
    let own_notes : notes_at step (own ++ more) ≡ notes_at step own = filter-append (λ (note : Note). note.step == step) own more ∙ (ap (λ ns. notes_at step own ++ ns) none ∙ append-nil (notes_at step own)) in
    more_notes own more (step + 1) steps (shows_fed (feed_in does) (deeds_of (notes_at step (own ++ more))) shows) (shows_fed (feed_in does) (deeds_of (notes_at step own)) others) i
    (ap (λ ns. shows_fed (feed_in does) (deeds_of ns) shows i) own_notes ∙ shows_as (feed_in does) (deeds_of (notes_at step own)) shows others i same)
    (λ note there. (let past = over note there in omega (arith, past)))

-- a tap behind shows that is fed shows the next one
fed_more : (tap : TapState) (shows : List Show) (show : Show) → fed_tap (Some show) (tap_behind tap shows) ≡ tap_behind tap (shows ++ show ∷ [])
fed_more tap shows show =
    let made : List ObjectId → TapState = λ objects. record { objects = objects; show = show } in
    ap made (objects_stay tap shows) ∙ sym (behind_more tap shows show)

-- taps behind shows are fed with them
fed_behind : (tap : ℕ → TapState) (fed : Option ℕ) (deeds : List Deed) (taps : ℕ → TapState) (shows : ℕ → List Show) (i : ℕ) → taps i ≡ tap_behind (tap i) (shows i) → taps_fed fed deeds taps i ≡ tap_behind (tap i) (shows_fed fed deeds shows i)
fed_behind tap None deeds taps shows i same = same
fed_behind tap (Some fed) deeds taps shows i same = go (i == fed) (show_in deeds)
  where
    go : (own : Bool) (found : Option Show) → cond own (fed_tap found (taps i)) (taps i) ≡ tap_behind (tap i) (cond own (shows_then found (shows i)) (shows i))
    go true None = same
    go true (Some show) =
        ap (λ (t : TapState). fed_tap (Some show) t) same ∙ fed_more (tap i) (shows i) show
    go false found = same

-- ---- what is done

-- nothing of the operator's is
abbrev pub IsQuiet : Does → Type 0
IsQuiet (client_does client step) = 1 ≤ client
IsQuiet (operator_does step) = ⊥
IsQuiet (worker_does i role) = Unit {0}
IsQuiet (closes i) = Unit {0}

-- a client does it in turn t
abbrev IsInTime : ℕ → ℕ → Does → Type 0
IsInTime t step (client_does client does) = step ≡ t
IsInTime t step _ = Unit {0}

-- a step that is done is one of the section
abbrev pub IsFrom : Section → Does → Type 0
IsFrom section (client_does client step) = In step (client_steps client section)
IsFrom section (operator_does step) = In step (operator_steps section)
IsFrom section _ = Unit {0}

-- the number of a role is 1 or more
role_low : (role : Role) → 1 ≤ role_number role
role_low Sender = omega arith
role_low Receiver = omega arith
role_low Reporter = omega arith
role_low Pruner = omega arith

-- what is not the operator's is another actor's
pub quiet_actor : (clients : ℕ) (does : Does) → IsQuiet does → actor_of clients does ≢ 1
quiet_actor clients (client_does client step) low same = omega (arith, low, same)
quiet_actor clients (operator_does step) none same = none
quiet_actor clients (worker_does i role) low same = omega (arith, same, role_low role)
quiet_actor clients (closes i) low same = omega (arith, same, role_low Receiver)

quiet_still : (does : Does) (deeds : List Deed) (taps : ℕ → TapState) (i : ℕ) → IsQuiet does → taps_after does deeds taps i ≡ taps i
quiet_still (client_does client step) deeds taps i low = refl
quiet_still (operator_does step) deeds taps i none = absurd none
quiet_still (worker_does j role) deeds taps i low = refl
quiet_still (closes j) deeds taps i low = refl

-- ---- a section

module _ (script : Script) (number : ℕ) (section : Section) (sound : IsSection (header_of script) section) (tap : ℕ → TapState) (shows : ℕ → List Show) where
  -- the taps in front of a step of a number, by what the operator noted in the section
  abbrev pub tap_at : List Note → ℕ → ℕ → TapState
  tap_at own step i = tap_behind (tap i) (shows_behind own 1 (take (step - 1) (operator_steps section)) shows i)

  -- notes of this step or later ones say nothing of them
  tap_more : (own more : List Note) (step i : ℕ) → 1 ≤ step → ((note : Note) → In note more → step ≤ note.step) → tap_at (own ++ more) step i ≡ tap_at own step i
  tap_more own more step i low over =
      let short = take_short (step - 1) (operator_steps section) in
      ap (tap_behind (tap i)) (more_notes own more 1 (take (step - 1) (operator_steps section)) shows shows i refl (λ note there. (let past = over note there in omega (arith, past, short, low))))

  -- a note of a client stands by the taps in front of its step
  pub record Looked (own : List Note) (client : ℕ) (note : Note) : Type 0 where
    pub does : ClientStep
    pub is : In does (client_steps client section)
    pub p : Progress
    pub mine : List Note
    pub among : In note mine
    pub goes : StepDeeds p does (deeds_of mine)
    pub looked : LooksSo (tap_at own note.step) client does (deeds_of mine)

  -- so it does with more notes of the operator
  looked_more : (own more : List Note) (client : ℕ) (note : Note) → 1 ≤ note.step → ((one : Note) → In one more → note.step ≤ one.step) → Looked own client note → Looked (own ++ more) client note
  looked_more own more client note low over l = record {
    does = l.does;
    is = l.is;
    p = l.p;
    mine = l.mine;
    among = l.among;
    goes = l.goes;
    looked = looks_as script.n client (tap_at own note.step) (tap_at (own ++ more) note.step) l.does (deeds_of l.mine) (client_sound script section sound client l.does l.is) (λ i range. sym (tap_more own more note.step i low over)) l.looked;
  }

  -- what happened in the section up to the operator's step of turn t
  pub record Comes (t : ℕ) (stage : Stage) (first : List Happened) : Type 0 where
    pub fed : (i : ℕ) → stage.taps i ≡ tap_at (notes_by 1 first) t i
    pub own : (note : Note) → In note (notes_by 1 first) → note.step + 1 ≤ t
    pub at : (h : Happened) → In h first → h.note.section ≡ number
    pub low : (h : Happened) → In h first → 1 ≤ h.note.step
    pub under : (h : Happened) → In h first → h.note.step ≤ t
    pub sees : (client : ℕ) → IsCount script.clients client → (h : Happened) → In h first → h.actor ≡ client + 1 → Looked (notes_by 1 first) client h.note

  -- what was played by moves of the section, and what is played behind them
  pub record Passed (t : ℕ) (first : List Happened) (more : List Move) (all : List Happened) : Type 0 where
    pub mid : Stage
    pub part : List Happened
    pub later : List Happened
    pub whole : all ≡ part ++ later
    pub rest : Plays script.n script.clients mid more later
    pub comes : Comes t mid (first ++ part)

  -- what an actor notes by a move
  noted : (actor : ℕ) (mine : List Note) (h : Happened) → In h (happening actor mine) → (note : Note) × In note mine × (h ≡ record { actor = actor; note = note })
  noted actor mine h there = In_from_map (λ (note : Note). record { actor = actor; note = note }) mine h there

  -- a move in the section in a step of it, from where it came to turn t
  pub record IsMoveIn (t : ℕ) (one : Move) : Type 0 where
    pub at : one.section ≡ number
    pub low : 1 ≤ one.step
    pub under : one.step ≤ t
    pub from : IsFrom section one.does

  -- what a client sees by a quiet move
  quiet_sees : (t : ℕ) (stage : Stage) (first : List Happened) (step client : ℕ) (does : Does) (mine : List Note) (note : Note) → IsCount script.clients client → Comes t stage first → IsInTime t step does → IsFrom section does → note.step ≡ step → DoesSo script.n stage step does (deeds_of mine) → TapsSo stage.taps does (deeds_of mine) → actor_of script.clients does ≡ client + 1 → 1 ≤ client → IsQuiet does → In note mine → Looked (notes_by 1 first) client note
  quiet_sees t stage first step client (client_does c does) mine note range comes time from is so taps same low quiet there =
      let who : c ≡ client = omega (arith, same) in
      let now : t ≡ note.step = sym time ∙ sym is in
      subst (λ client. Looked (notes_by 1 first) client note) who (record {
        does = does;
        is = from;
        p = stage.come c;
        mine = mine;
        among = there;
        goes = so;
        looked = looks_as script.n c stage.taps (tap_at (notes_by 1 first) note.step) does (deeds_of mine) (client_sound script section sound c does from) (λ i range. comes.fed i ∙ ap (λ k. tap_at (notes_by 1 first) k i) now) taps;
      })
  quiet_sees t stage first step client (operator_does does) mine note range comes time from is so taps same low none there = absurd none
  quiet_sees t stage first step client (worker_does i role) mine note range comes time from is so taps same low quiet there = absurd (omega (arith, same, range.1, role_low role))
  quiet_sees t stage first step client (closes i) mine note range comes time from is so taps same low quiet there = absurd (omega (arith, same, range.1, role_low Receiver))

  -- a quiet move
  quiet_move : (t : ℕ) (one : Move) (more : List Move) (stage : Stage) (first all : List Happened) → IsMoveIn t one → IsQuiet one.does → IsInTime t one.step one.does → Comes t stage first → Plays script.n script.clients stage (one ∷ more) all → Passed t first more all
  quiet_move t one more stage first all is quiet time comes (next_move mine later whole at does taps plays) = record {
    mid = stage_after one.does mine stage;
    part = happening (actor_of script.clients one.does) mine;
    later = later;
    whole = whole;
    rest = plays;
    comes = record {
      fed = λ i. quiet_still one.does (deeds_of mine) stage.taps i quiet ∙ (comes.fed i ∙ ap (λ ns. tap_at ns t i) same);
      own = λ note there. comes.own note (subst (In note) (sym same) there);
      at = λ h there. each (λ (h : Happened). h.note.section ≡ number) comes.at (λ note among. (All-In (IsAt one.section one.step) mine note at among).section_is ∙ is.at) h there;
      low = λ h there. each (λ (h : Happened). 1 ≤ h.note.step) comes.low (λ note among. subst (λ k. 1 ≤ k) (sym (step note among)) is.low) h there;
      under = λ h there. each (λ (h : Happened). h.note.step ≤ t) comes.under (λ note among. subst (λ k. k ≤ t) (sym (step note among)) is.under) h there;
      sees = λ client range h there acts. subst (λ ns. Looked ns client h.note) same (⊎_elim
          (λ front. comes.sees client range h front acts)
          (λ back. let n = noted (actor_of script.clients one.does) mine h back in
          let who : (actor_of script.clients one.does) ≡ client + 1 = sym (ap (λ (h : Happened). h.actor) n.2) ∙ acts in
          subst (λ (h : Happened). Looked (notes_by 1 first) client h.note) (sym n.2)
          (quiet_sees t stage first one.step client one.does mine n.0 range comes time is.from (step n.0 n.1) does taps who range.0 quiet n.1))
          (In_either first (happening (actor_of script.clients one.does) mine) h there));
    };
  }
    where
      same : notes_by 1 first ≡ notes_by 1 (first ++ happening (actor_of script.clients one.does) mine)
      same = sym (other_then (actor_of script.clients one.does) 1 first mine (quiet_actor script.clients one.does quiet))

      step : (note : Note) → In note mine → note.step ≡ one.step
      step note among = (All-In (IsAt one.section one.step) mine note at among).step_is

      each : (P : Happened → Type 0) → ((h : Happened) → In h first → P h) → ((note : Note) → In note mine → P (record { actor = actor_of script.clients one.does; note = note })) → (h : Happened) → In h (first ++ happening (actor_of script.clients one.does) mine) → P h
      each P old new h there = ⊎_elim
          (λ front. old h front)
          (λ back. let n = noted (actor_of script.clients one.does) mine h back in subst P (sym n.2) (new n.0 n.1))
          (In_either first (happening (actor_of script.clients one.does) mine) h there)

  -- such moves, one after another
  quiet_moves : (t : ℕ) (moves more : List Move) (stage : Stage) (first all : List Happened) → ((one : Move) → In one moves → IsMoveIn t one × IsQuiet one.does × IsInTime t one.step one.does) → Comes t stage first → Plays script.n script.clients stage (moves ++ more) all → Passed t first more all
  quiet_moves t [] more stage first all each comes plays = record {
    mid = stage;
    part = [];
    later = all;
    whole = refl;
    rest = plays;
    comes = subst (Comes t stage) (sym (append-nil first)) comes;
  }
  quiet_moves t (one ∷ moves) more stage first all each comes plays =
      let m = each one (inl refl) in
      let p = quiet_move t one (moves ++ more) stage first all m.0 m.1 m.2 comes plays in
      let q = quiet_moves t moves more p.mid (first ++ p.part) p.later (λ other there. each other (inr there)) p.comes p.rest in
      record {
        mid = q.mid;
        part = p.part ++ q.part;
        later = q.later;
        whole = p.whole ∙ (ap (λ l. p.part ++ l) q.whole ∙ sym (append_assoc p.part q.part q.later));
        rest = q.rest;
        comes = subst (Comes t q.mid) (append_assoc first p.part q.part) q.comes;
      }

  -- the operator's move of a turn
  operator_move : (t : ℕ) (step : OperatorStep) (more : List Move) (stage : Stage) (first all : List Happened) → 1 ≤ t → slice_get (operator_steps section) (t - 1) ≡ Some step → Comes t stage first → Plays script.n script.clients stage (move number t (operator_does step) ∷ more) all → Passed (t + 1) first more all
  operator_move t step more stage first all low there comes (next_move mine later whole at does taps plays) = record {
    mid = stage_after (operator_does step) mine stage;
    part = happening 1 mine;
    later = later;
    whole = whole;
    rest = plays;
    comes = record {
      fed = λ i. fed i ∙ ap (λ ns. tap_at ns (t + 1) i) (sym own);
      own = λ note among. ⊎_elim
          (λ front. let under = comes.own note front in omega (arith, under))
          (λ back. let is = at_step note back in omega (arith, is))
          (In_either (notes_by 1 first) mine note (subst (In note) own among));
      at = λ h among. each (λ (h : Happened). h.note.section ≡ number) comes.at (λ note back. (All-In (IsAt number t) mine note at back).section_is) h among;
      low = λ h among. each (λ (h : Happened). 1 ≤ h.note.step) comes.low (λ note back. subst (λ k. 1 ≤ k) (sym (at_step note back)) low) h among;
      under = λ h among. each (λ (h : Happened). h.note.step ≤ t + 1) (λ h front. (let under = comes.under h front in omega (arith, under))) (λ note back. subst (λ k. k ≤ t + 1) (sym (at_step note back)) (omega arith)) h among;
      sees = λ client range h among acts. subst (λ ns. Looked ns client h.note) (sym own) (⊎_elim
          (λ front. looked_more (notes_by 1 first) mine client h.note (comes.low h front) (λ one back. (let under = comes.under h front in let is = at_step one back in omega (arith, under, is))) (comes.sees client range h front acts))
          (λ back. let n = noted 1 mine h back in
          let who : 1 ≡ client + 1 = sym (ap (λ (h : Happened). h.actor) n.2) ∙ acts in
          let least = range.0 in
          absurd (omega (arith, who, least)))
          (In_either first (happening 1 mine) h among));
    };
  }
    where
      own : notes_by 1 (first ++ happening 1 mine) ≡ notes_by 1 first ++ mine
      own = own_then 1 first mine

      at_step : (note : Note) → In note mine → note.step ≡ t
      at_step note among = (All-In (IsAt number t) mine note at among).step_is

      each : (P : Happened → Type 0) → ((h : Happened) → In h first → P h) → ((note : Note) → In note mine → P (record { actor = 1; note = note })) → (h : Happened) → In h (first ++ happening 1 mine) → P h
      each P old new h among = ⊎_elim
          (λ front. old h front)
          (λ back. let n = noted 1 mine h back in subst P (sym n.2) (new n.0 n.1))
          (In_either first (happening 1 mine) h among)

      -- the notes of the step are these
      these : notes_at t (notes_by 1 first ++ mine) ≡ mine
      these =
          let none : notes_at t (notes_by 1 first) ≡ [] = filter_none (λ (note : Note). note.step == t) (notes_by 1 first) (λ note among. ne_eqb note.step t (λ same. (let under = comes.own note among in omega (arith, under, same)))) in
          let all_mine : notes_at t mine ≡ mine = filter_all (λ (note : Note). note.step == t) mine (λ note among. eq-eqb note.step t (at_step note among)) in
          filter-append (λ (note : Note). note.step == t) (notes_by 1 first) mine ∙ (λ i. none i ++ all_mine i)

      -- the taps behind it
      fed : (i : ℕ) → taps_fed (feed_in step) (deeds_of mine) stage.taps i ≡ tap_at (notes_by 1 first ++ mine) (t + 1) i
      fed i =
          let before : List OperatorStep = take (t - 1) (operator_steps section) in
          let inside = slice_get_within (operator_steps section) (t - 1) step there in
          let many : length before ≡ t - 1 = length-take-le (t - 1) (operator_steps section) (omega (arith, inside)) in
          let place : t ≡ 1 + length before = omega (arith, many, low) in
          let next : t - 1 + 1 ≡ t + 1 - 1 = omega (arith, low) in
          let steps : before ++ step ∷ [] ≡ take (t + 1 - 1) (operator_steps section) = sym (take_last (operator_steps section) (t - 1) step there) ∙ ap (λ k. take k (operator_steps section)) next in
          let shown : ℕ → List Show = shows_behind (notes_by 1 first) 1 before shows in
          let longer : ℕ → List Show = shows_behind (notes_by 1 first ++ mine) 1 before shows in
          let same : shown i ≡ longer i = sym (more_notes (notes_by 1 first) mine 1 before shows shows i refl (λ note among. (let is = at_step note among in omega (arith, is, place)))) in
          let grown : shows_fed (feed_in step) (deeds_of mine) shown i ≡ shows_behind (notes_by 1 first ++ mine) 1 (before ++ step ∷ []) shows i =
          shows_as (feed_in step) (deeds_of mine) shown longer i same
          ∙ (ap (λ ns. shows_fed (feed_in step) (deeds_of ns) longer i) (sym these ∙ ap (λ k. notes_at k (notes_by 1 first ++ mine)) place)
          ∙ sym (behind_last (notes_by 1 first ++ mine) 1 before step shows i)) in
          fed_behind tap (feed_in step) (deeds_of mine) stage.taps shown i (comes.fed i)
          ∙ (ap (tap_behind (tap i)) grown ∙ ap (λ ss. tap_behind (tap i) (shows_behind (notes_by 1 first ++ mine) 1 ss shows i)) steps)

  -- a turn in which the operator has no step
  no_move : (t : ℕ) (stage : Stage) (first : List Happened) → 1 ≤ t → slice_get (operator_steps section) (t - 1) ≡ None → Comes t stage first → Comes (t + 1) stage first
  no_move t stage first low none comes = record {
    fed = λ i. comes.fed i ∙ ap (λ ss. tap_behind (tap i) (shows_behind (notes_by 1 first) 1 ss shows i)) steps;
    own = λ note there. (let under = comes.own note there in omega (arith, under));
    at = comes.at;
    low = comes.low;
    under = λ h there. (let under = comes.under h there in omega (arith, under));
    sees = comes.sees;
  }
    where
      next : t - 1 + 1 ≡ t + 1 - 1
      next = omega (arith, low)

      steps : take (t - 1) (operator_steps section) ≡ take (t + 1 - 1) (operator_steps section)
      steps = sym (take_past (operator_steps section) (t - 1) none) ∙ ap (λ k. take k (operator_steps section)) next

  -- ---- the moves of a turn

  -- what was played, and what was played behind it
  joined : (a b : ℕ) (first : List Happened) (next more : List Move) (all : List Happened) (p : Passed a first next all) → Passed b (first ++ p.part) more p.later → Passed b first more all
  joined a b first next more all p q = record {
    mid = q.mid;
    part = p.part ++ q.part;
    later = q.later;
    whole = p.whole ∙ (ap (λ l. p.part ++ l) q.whole ∙ sym (append_assoc p.part q.part q.later));
    rest = q.rest;
    comes = subst (Comes b q.mid) (append_assoc first p.part q.part) q.comes;
  }

  -- nothing more was played
  stays : (t : ℕ) (stage : Stage) (first : List Happened) (more : List Move) (all : List Happened) → Comes t stage first → Plays script.n script.clients stage more all → Passed t first more all
  stays t stage first more all comes plays = record { mid = stage; part = []; later = all; whole = refl; rest = plays; comes = subst (Comes t stage) (sym (append-nil first)) comes }

  -- a quiet move in a step of turn t
  abbrev IsQuietIn : ℕ → Move → Type 0
  IsQuietIn t one = IsMoveIn t one × IsQuiet one.does × IsInTime t one.step one.does

  client_in : (t client : ℕ) (one : Move) → 1 ≤ t → 1 ≤ client → client_turn number section t client ≡ Some one → IsQuietIn t one
  client_in t client one low who is = go (slice_get (client_steps client section) (t - 1)) refl is
    where
      go : (o : Option ClientStep) → slice_get (client_steps client section) (t - 1) ≡ o → option_map (λ step. move number t (client_does client step)) o ≡ Some one → IsQuietIn t one
      go None at is = absurd (none-some one is)
      go (Some step) at is = subst (IsQuietIn t) (same_Some (move number t (client_does client step)) one is)
          (record { at = refl; low = low; under = omega arith; from = get_In (client_steps client section) (t - 1) step at }, who, refl)

  worker_in : (t i : ℕ) (one : Move) → 1 ≤ t → In one (worker_turn number script.rounds t i) → IsQuietIn (t + 1) one
  worker_in t i one low there = go (nat_le t script.rounds) (t == script.rounds + 1) there
    where
      made : (does : Does) → one ≡ move number t does → IsFrom section does → IsQuiet does → IsInTime (t + 1) t does → IsQuietIn (t + 1) one
      made does same from quiet time = subst (IsQuietIn (t + 1)) (sym same) (record { at = refl; low = low; under = omega arith; from = from }, quiet, time)

      go : (round last : Bool) → In one (cond round (map (λ role. move number t (worker_does i role)) (Sender ∷ Receiver ∷ Reporter ∷ Pruner ∷ [])) (cond last (move number t (closes i) ∷ []) [])) → IsQuietIn (t + 1) one
      go true last there = let from = In_from_map (λ role. move number t (worker_does i role)) (Sender ∷ Receiver ∷ Reporter ∷ Pruner ∷ []) one there in made (worker_does i from.0) from.2 tt tt tt
      go false true (inl same) = made (closes i) same tt tt tt
      go false true (inr none) = absurd none
      go false false there = absurd there

  -- the operator's part of a turn
  operator_part : (t : ℕ) (more : List Move) (stage : Stage) (first all : List Happened) → 1 ≤ t → Comes t stage first → Plays script.n script.clients stage (one_or_none (operator_turn number section t) ++ more) all → Passed (t + 1) first more all
  operator_part t more stage first all low comes plays = go (slice_get (operator_steps section) (t - 1)) refl plays
    where
      go : (o : Option OperatorStep) → slice_get (operator_steps section) (t - 1) ≡ o → Plays script.n script.clients stage (one_or_none (option_map (λ step. move number t (operator_does step)) o) ++ more) all → Passed (t + 1) first more all
      go None at plays = stays (t + 1) stage first more all (no_move t stage first low at comes) plays
      go (Some step) at plays = operator_move t step more stage first all low at comes plays

  -- a turn
  turn_passed : (t : ℕ) (more : List Move) (stage : Stage) (first all : List Happened) → 1 ≤ t → Comes t stage first → Plays script.n script.clients stage (turn_moves script number section t ++ more) all → Passed (t + 1) first more all
  turn_passed t more stage first all low comes plays =
      let clients = filter_map (client_turn number section t) (range_with_len 1 script.clients) in
      let operator = one_or_none (operator_turn number section t) in
      let workers = flat_map (worker_turn number script.rounds t) (centres script.n) in
      let p = quiet_moves t clients (operator ++ (workers ++ more)) stage first all
      (λ one there. let from = In_from_filter_map (client_turn number section t) (range_with_len 1 script.clients) one there in client_in t from.0 one low (In_from_range 1 script.clients from.0 from.1).0 from.2)
      comes (subst (λ moves. Plays script.n script.clients stage moves all) (append_assoc (clients ++ operator) workers more ∙ append_assoc clients operator (workers ++ more)) plays) in
      let q = operator_part t (workers ++ more) p.mid (first ++ p.part) p.later low p.comes p.rest in
      let r = quiet_moves (t + 1) workers more q.mid ((first ++ p.part) ++ q.part) q.later
      (λ one there. let from = In_from_flat_map (worker_turn number script.rounds t) (centres script.n) one there in worker_in t from.0 one low from.2)
      q.comes q.rest in
      joined t (t + 1) first (operator ++ (workers ++ more)) more all p (joined (t + 1) (t + 1) (first ++ p.part) (workers ++ more) more p.later q r)

  -- turns, one after another
  turns_passed : (t count : ℕ) (more : List Move) (stage : Stage) (first all : List Happened) → 1 ≤ t → Comes t stage first → Plays script.n script.clients stage (flat_map (turn_moves script number section) (range_with_len t count) ++ more) all → Passed (t + count) first more all
  turns_passed t zero more stage first all low comes plays = (let here : t ≡ t + 0 = omega arith in subst (λ k. Passed k first more all) here (stays t stage first more all comes plays))
  turns_passed t (suc count) more stage first all low comes plays =
      let others = flat_map (turn_moves script number section) (range_with_len (t + 1) count) in
      let p = turn_passed t (others ++ more) stage first all low comes (subst (λ moves. Plays script.n script.clients stage moves all) (append_assoc (turn_moves script number section t) others more) plays) in
      let q = turns_passed (t + 1) count more p.mid (first ++ p.part) p.later (omega arith) p.comes p.rest in
      let place : t + 1 + count ≡ t + suc count = omega arith in
      subst (λ k. Passed k first more all) place (joined (t + 1) (t + 1 + count) first (others ++ more) more all p q)

  -- ---- the section

  -- the whole section was played, from taps that show the last of these shows
  pub record Played (more : List Move) (all : List Happened) : Type 0 where
    pub mid : Stage
    pub part : List Happened
    pub later : List Happened
    pub whole : all ≡ part ++ later
    pub rest : Plays script.n script.clients mid more later
    pub fed : (i : ℕ) → mid.taps i ≡ tap_behind (tap i) (shows_behind (notes_by 1 part) 1 (operator_steps section) shows i)
    pub at : (h : Happened) → In h part → h.note.section ≡ number
    pub sees : (client : ℕ) → IsCount script.clients client → (h : Happened) → In h part → h.actor ≡ client + 1 → Looked (notes_by 1 part) client h.note

  -- behind as many turns as the operator has steps
  played : (t : ℕ) (more : List Move) (all : List Happened) → length (operator_steps section) + 1 ≤ t → Passed t [] more all → Played more all
  played t more all enough p = record {
    mid = p.mid;
    part = p.part;
    later = p.later;
    whole = p.whole;
    rest = p.rest;
    fed = λ i. p.comes.fed i ∙ ap (λ ss. tap_behind (tap i) (shows_behind (notes_by 1 p.part) 1 ss shows i)) (take_all (t - 1) (operator_steps section) (omega (arith, enough)));
    at = p.comes.at;
    sees = p.comes.sees;
  }

  -- at first
  begun : (stage : Stage) → ((i : ℕ) → stage.taps i ≡ tap_behind (tap i) (shows i)) → Comes 1 stage []
  begun stage same = record {
    fed = same;
    own = λ note there. absurd there;
    at = λ h there. absurd there;
    low = λ h there. absurd there;
    under = λ h there. absurd there;
    sees = λ client range h there acts. absurd there;
  }

-- more than one at least
pub fold_most : (xs : List ℕ) (a : ℕ) → a ≤ fold max a xs
fold_most [] a = omega arith
fold_most (x ∷ xs) a =
    let one = le-max_left a x in
    let rest = fold_most xs (max a x) in
    omega (arith, one, rest)

-- the moves of a section of one step
line_played : (script : Script) (number : ℕ) (step : Step) (sound : IsSection (header_of script) (section_of step)) (tap : ℕ → TapState) (shows : ℕ → List Show) (more : List Move) (stage : Stage) (all : List Happened) → IsStepOf (header_of script) step → ((i : ℕ) → stage.taps i ≡ tap_behind (tap i) (shows i)) → Plays script.n script.clients stage (step_move number step ∷ more) all → Played script number (section_of step) sound tap shows more all
line_played script number (Client client does) sound tap shows more stage all is same plays =
    let section = section_of (Client client does) in
    let own : In does (client_steps client section) = subst (In does) (sym (ap (λ test. cons_option (when test does) []) (eq-eqb client client refl))) (inl refl) in
    let p = quiet_move script number section sound tap shows 1 (move number 1 (client_does client does)) more stage [] all
    (record { at = refl; low = omega arith; under = omega arith; from = own }) is.0.0 refl (begun script number section sound tap shows stage same) plays in
    let none : length (operator_steps section) ≡ 0 = refl in
    played script number section sound tap shows 2 more all (omega (arith, none)) (record {
      mid = p.mid;
      part = p.part;
      later = p.later;
      whole = p.whole;
      rest = p.rest;
      comes = no_move script number section sound tap shows 1 p.mid p.part (omega arith) refl p.comes;
    })
line_played script number (Operator does) sound tap shows more stage all is same plays =
    let one : length (operator_steps (section_of (Operator does))) ≡ 1 = refl in
    played script number (section_of (Operator does)) sound tap shows 2 more all (omega (arith, one))
    (operator_move script number (section_of (Operator does)) sound tap shows 1 does more stage [] all (omega arith) refl (begun script number (section_of (Operator does)) sound tap shows stage same) plays)

-- those of a phase
phase_played : (script : Script) (number : ℕ) (section : Section) (sound : IsSection (header_of script) section) (tap : ℕ → TapState) (shows : ℕ → List Show) (more : List Move) (stage : Stage) (all : List Happened) → ((i : ℕ) → stage.taps i ≡ tap_behind (tap i) (shows i)) → Plays script.n script.clients stage (phase_moves script number section ++ more) all → Played script number section sound tap shows more all
phase_played script number section sound tap shows more stage all same plays =
    let most : ℕ = max (most_steps script.clients section) (script.rounds + 1) in
    let left : most_steps script.clients section ≤ most = le-max_left (most_steps script.clients section) (script.rounds + 1) in
    let few : length (operator_steps section) ≤ most_steps script.clients section = fold_most (map (λ client. length (client_steps client section)) (range_with_len 1 script.clients)) (length (operator_steps section)) in
    played script number section sound tap shows (1 + most) more all (omega (arith, left, few))
    (turns_passed script number section sound tap shows 1 most more stage [] all (omega arith) (begun script number section sound tap shows stage same) plays)

-- those of each section
pub section_played : (script : Script) (number : ℕ) (section : Section) (sound : IsSection (header_of script) section) (tap : ℕ → TapState) (shows : ℕ → List Show) (more : List Move) (stage : Stage) (all : List Happened) → ((i : ℕ) → stage.taps i ≡ tap_behind (tap i) (shows i)) → Plays script.n script.clients stage (section_moves script number section ++ more) all → Played script number section sound tap shows more all
section_played script number section sound tap shows more stage all same plays = go sound
  where
    IsPlayed : Section → Type 0
    IsPlayed section = (sound : IsSection (header_of script) section) → Plays script.n script.clients stage (section_moves script number section ++ more) all → Played script number section sound tap shows more all

    go : IsSection (header_of script) section → Played script number section sound tap shows more all
    go (inl line) = subst IsPlayed (sym line.1) (λ sound plays. line_played script number line.0 sound tap shows more stage all line.2 same plays) sound plays
    go (inr phase) =
        let is : section_moves script number section ≡ phase_moves script number section = ap (λ test. cond test (phase_moves script number section) (map (step_move number) section.steps)) phase.phase in
        phase_played script number section sound tap shows more stage all same (subst (λ moves. Plays script.n script.clients stage (moves ++ more) all) is plays)
