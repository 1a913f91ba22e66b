-- A script without a phase that was played section by section: its steps happened one after another.
use Rattle.std.proofs.Common.{◌≡◌, ◌≢◌, ◌≤◌, ◌<◌, ℕ, zero, suc, ◌+◌, ◌*◌, inl, inr, ⊎_elim, List, [], ◌∷◌, ◌++◌, map, length, Option, Some, None, false, refl, sym, ap, ◌∙◌, subst, arith}
use Rattle.std.specs.Prelude.{All, cond, flat_map}
use Rattle.std.specs.List.{filter_map, cons_option}
use Rattle.std.proofs.lemmas.Bool.{cases_eq, cases_lt, eq-eqb, ne_eqb, false≢true}
use Rattle.std.proofs.lemmas.List.{append-nil}
use Rattle.std.proofs.lemmas.List.Elements.{All-head, All-tail, filter_map-append}
use Rattle.list_core.specs.Choices.{when}
use Rattle.list_core.specs.Members.{In}
use Rattle.list_core.proofs.Gets.{In_get, past_end}
use Rattle.list_core.proofs.Members.{In_either, In_from_map}
use Rattle.list_core.proofs.Passing.{In_filter_map, In_from_filter_map}
use Rattle.dc_talk.specs.declared.ask.Ask.{Ask}
use Rattle.dc_talk.specs.declared.say.Say.{Say}
use Rattle.dc_talk.specs.declared.log.Note.{Note}
use Rattle.dc_talk.specs.Entries.{Entry}
use Rattle.dc_talk.specs.Logs.{Logged, entry_for}
use Rattle.script_core.specs.declared.script.Script.{Script}
use Rattle.script_core.specs.declared.steps.ClientStep.{ClientStep}
use Rattle.script_core.specs.declared.steps.OperatorStep.{OperatorStep}
use Rattle.script_core.specs.declared.steps.Step.{Step}
use Rattle.script_core.specs.declared.steps.Step.TheVariants.{Client, Operator}
use Rattle.script_core.specs.declared.steps.Section.{Section}
use Rattle.script_core.specs.declared.rounds.Role.{Role}
use Rattle.script_core.specs.declared.rounds.Role.TheVariants.{Sender, Receiver, Reporter, Pruner}
use Rattle.script_core.specs.Deeds.{Progress, StepDeeds, stepped}
use Rattle.script_core.specs.Rounds.{worker_of}
use Rattle.script_core.specs.Rows.{section_of, IsSection}
use Rattle.script_core.specs.Scripts.{header_of, IsInRange}
use Rattle.script_core.specs.Steps.{IsCount, IsStep, IsOperatorStep, IsStepOf}
use Rattle.script_core.specs.Taps.{feed_in, FeedsSo, taps_then, LooksSo}
use Rattle.run_book.specs.declared.book.Book.{Book}
use Rattle.run_book.specs.Parts.{trail_of, idle_log, notes_of, exchanged, entries_by}
use Rattle.run_book.specs.Happenings.{Happened, note_by, notes_by, entry_in, trail_in, happening}
use Rattle.run_book.specs.Moves.{Does, client_does, operator_does, actor_of, client_steps, moves_from}
use Rattle.run_book.specs.Played.{Stage, DoesSo, TapsSo, stage_after, IsAt, Plays, no_moves, next_move, first_stage}
use Rattle.run_book.specs.Scripted.{HasSteps}
use Rattle.run_book.proofs.Pairing.{entry_by}
use Rattle.run_book.proofs.Happenings.Entries.{made_by, own_note, note_made, own_then, other_then, paired_in}
use Rattle.run_sections.specs.Orders.{deeds_of, InOrder, none_left, one_first, ClientGoes, OperatorGoes}
use Rattle.run_sections.specs.Taps.{shows_at, tap_behind, Looks}
use Rattle.run_sections.specs.Sections.{actors_of, Between, first_between, Left, PlaysSection}
use Rattle.run_sections.specs.Runs.{PlaysSections, no_sections, next_section, IsSectionRunOf, HasNoPhase}
use Rattle.run_sections.proofs.Actors.{by_actor}
use Rattle.run_sections.proofs.Tapping.{looks_as, feeds_as, fed_as, none_fed, one_fed, one_looked}

-- ---- what is done one after another

-- one thing was done
record IsOne {S M : Type 0} (Does : S → ℕ → M → List Note → S → Type 0) (section : ℕ) (s : S) (m : M) (notes : List Note) (last : S) : Type 0 where
  pub at : All (IsAt section 1) notes
  pub does : Does s 1 m notes last

module _ {S M : Type 0} (Does : S → ℕ → M → List Note → S → Type 0) (section : ℕ) where
  -- where there was nothing to do, nothing was
  none_done : (s last : S) (ms : List M) (notes : List Note) → ms ≡ [] → InOrder Does section 1 s ms notes last → (notes ≡ []) × (last ≡ s)
  none_done s last [] notes nothing none_left = (refl, refl)
  none_done s last (m ∷ ms) notes nothing order = absurd (let never : m ∷ ms ≡ [] = nothing in cc)

  -- where there was one thing, it was
  one_done : (s last : S) (ms : List M) (m : M) (notes : List Note) → ms ≡ m ∷ [] → InOrder Does section 1 s ms notes last → IsOne Does section s m notes last
  one_done s last ms m notes one order = go (subst (λ ms. InOrder Does section 1 s ms notes last) one order)
    where
      go : InOrder Does section 1 s (m ∷ []) notes last → IsOne Does section s m notes last
      go (one_first next mine later whole at does none_left) =
          subst (λ ns. IsOne Does section s m ns last) (sym (whole ∙ append-nil mine)) (record { at = at; does = does })

-- ---- the entries of one caller

-- what is kept of a list of which nothing passes
none_kept : {X Y : Type 0} (f : X → Option Y) (xs : List X) → ((x : X) (y : Y) → In x xs → f x ≡ Some y → ⊥) → filter_map f xs ≡ []
none_kept f [] none = refl
none_kept {X} {Y} f (x ∷ xs) none = go (f x) refl (none_kept f xs (λ y z there. none y z (inr there)))
  where
    go : (o : Option Y) → f x ≡ o → filter_map f xs ≡ [] → cons_option o (filter_map f xs) ≡ []
    go None is rest = rest
    go (Some y) is rest = absurd (none x y (inl refl) is)

-- entries of one caller alone are told by what they exchanged
alone_entries : (a : ℕ) (es : List Entry) → ((entry : Entry) → In entry es → entry.caller ≡ a) → map (entry_for a) (entries_by a es) ≡ es
alone_entries a [] own = refl
alone_entries a (e ∷ es) own =
    let caller : e.caller ≡ a = own e (inl refl) in
    let passes : entry_by a e ≡ Some (e.ask, e.say) = ap (λ test. cond test (Some (e.ask, e.say)) None) (eq-eqb e.caller a caller) in
    ap (λ o. map (entry_for a) (cons_option o (entries_by a es))) passes
    ∙ λ i. record { caller = sym caller i; ask = e.ask; say = e.say } ∷ alone_entries a es (λ entry there. own entry (inr there)) i

module _ (script : Script) (number : ℕ) (left : Left) (actor : ℕ) (mine : List Note) (own : left.notes actor ≡ mine) (others : (a : ℕ) → IsCount (actors_of script) a → a ≢ actor → left.notes a ≡ []) where
  -- the notes of a section in which one actor alone did something
  alone_notes : (a : ℕ) → IsCount (actors_of script) a → left.notes a ≡ notes_by a (happening actor mine)
  alone_notes a range = ⊎_elim
      (λ (same : a ≡ actor). subst (λ b. left.notes b ≡ notes_by b (happening actor mine)) (sym same) (own ∙ sym (own_then actor [] mine)))
      (λ (differs : a ≢ actor). others a range differs ∙ sym (other_then actor a [] mine (λ same. differs (sym same))))
      (cases_eq a actor)

  module _ (callers : (i : ℕ) (entry : Entry) → IsCount script.n i → In entry (left.entries i) → IsCount (actors_of script) entry.caller) (paired : (i a : ℕ) → IsCount script.n i → IsCount (actors_of script) a → entries_by a (left.entries i) ≡ exchanged i (left.notes a)) (range : IsCount (actors_of script) actor) where
    -- each entry is its own
    own_caller : (i : ℕ) → IsCount script.n i → (entry : Entry) → In entry (left.entries i) → entry.caller ≡ actor
    own_caller i centre entry there = ⊎_elim
        (λ (same : entry.caller ≡ actor). same)
        (λ (differs : entry.caller ≢ actor).
        let a = entry.caller in
        let pair : Ask × Say = (entry.ask, entry.say) in
        let passes : entry_by a entry ≡ Some pair = ap (λ test. cond test (Some pair) None) (eq-eqb a a refl) in
        let caller = callers i entry centre there in
        let none : entries_by a (left.entries i) ≡ [] = paired i a centre caller ∙ ap (exchanged i) (others a caller differs) in
        absurd (subst (In pair) none (In_filter_map (entry_by a) (left.entries i) entry pair there passes)))
        (cases_eq entry.caller actor)

    -- so are those that its notes made
    made_caller : (i : ℕ) (entry : Entry) → In entry (trail_in i (happening actor mine)) → entry.caller ≡ actor
    made_caller i entry there =
        let from = In_from_filter_map (entry_in i) (happening actor mine) entry there in
        let note = In_from_map (λ (note : Note). record { actor = actor; note = note }) mine from.0 from.1 in
        let made = made_by i from.0 entry from.2 in
        made.caller ∙ ap (λ (h : Happened). h.actor) note.2

    -- the entries of the section
    alone_trails : (i : ℕ) → IsCount script.n i → left.entries i ≡ trail_in i (happening actor mine)
    alone_trails i centre =
        let by : entries_by actor (left.entries i) ≡ entries_by actor (trail_in i (happening actor mine)) =
        paired i actor centre range ∙ (ap (exchanged i) (own ∙ sym (own_then actor [] mine)) ∙ sym (paired_in i actor (happening actor mine))) in
        sym (alone_entries actor (left.entries i) (own_caller i centre))
        ∙ (ap (map (entry_for actor)) by ∙ alone_entries actor (trail_in i (happening actor mine)) (made_caller i))

-- ---- a section of one step

-- each client has come as far, and each centre's tap shows the same
record StandsAs (script : Script) (stage : Stage) (between : Between) : Type 0 where
  come : (client : ℕ) → IsCount script.clients client → stage.come client ≡ between.come client
  taps : (i : ℕ) → IsCount script.n i → stage.taps i ≡ between.taps i

-- one actor took the step of a section, and nothing else was done
record IsStepped (script : Script) (number : ℕ) (does : Does) (old : Between) (left : Left) (new : Between) : Type 0 where
  pub mine : List Note
  pub at : All (IsAt number 1) mine
  pub actor : IsCount (actors_of script) (actor_of script.clients does)
  pub notes : (a : ℕ) → IsCount (actors_of script) a → left.notes a ≡ notes_by a (happening (actor_of script.clients does) mine)
  pub entries : (i : ℕ) → IsCount script.n i → left.entries i ≡ trail_in i (happening (actor_of script.clients does) mine)
  pub did : (stage : Stage) → StandsAs script stage old → DoesSo script.n stage 1 does (deeds_of mine)
  pub tapped : (stage : Stage) → StandsAs script stage old → TapsSo stage.taps does (deeds_of mine)
  pub then_is : (stage : Stage) → StandsAs script stage old → StandsAs script (stage_after does mine stage) new

module _ (script : Script) (number : ℕ) (step : Step) (old : Between) (left : Left) (new : Between) (plays : PlaysSection script number (section_of step) old left new) where
  -- no worker did anything
  worker_none : (i : ℕ) (role : Role) → IsCount script.n i → left.notes (worker_of script.clients i role) ≡ []
  worker_none i Sender centre = (none_done _ number tt tt [] (left.notes (worker_of script.clients i Sender)) refl (plays.senders i centre)).0
  worker_none i Receiver centre = let r = plays.receivers i centre in (none_done _ number r.first r.last [] (left.notes (worker_of script.clients i Receiver)) refl r.order).0
  worker_none i Reporter centre = (none_done _ number tt tt [] (left.notes (worker_of script.clients i Reporter)) refl (plays.reporters i centre)).0
  worker_none i Pruner centre = (none_done _ number tt tt [] (left.notes (worker_of script.clients i Pruner)) refl (plays.pruners i centre)).0

-- the steps of a client where another one takes the step, and where it takes it
other_steps : (client c : ℕ) (does : ClientStep) → c ≢ client → client_steps client (section_of (Client c does)) ≡ []
other_steps client c does differs = ap (λ test. cons_option (when test does) []) (ne_eqb c client differs)

pub own_steps : (c : ℕ) (does : ClientStep) → client_steps c (section_of (Client c does)) ≡ does ∷ []
own_steps c does = ap (λ test. cons_option (when test does) []) (eq-eqb c c refl)

-- a client took it
client_stepped : (script : Script) (number c : ℕ) (does : ClientStep) (old : Between) (left : Left) (new : Between) → IsCount script.clients c → IsStep script.n does → PlaysSection script number (section_of (Client c does)) old left new → IsStepped script number (client_does c does) old left new
client_stepped script number c does old left new client is plays = record {
  mine = mine;
  at = one.at;
  actor = actor;
  notes = alone_notes script number left (c + 1) mine refl others;
  entries = alone_trails script number left (c + 1) mine refl others (λ i entry centre there. plays.callers i entry centre there) (λ i a centre there. plays.paired i a centre there) actor;
  did = λ stage stands. subst (λ (p : Progress). StepDeeds p does (deeds_of mine)) (sym (stands.come c client)) one.does.0;
  tapped = λ stage stands. looks_as script.n c old.taps stage.taps does (deeds_of mine) is (λ i there. sym (stands.taps i there)) looked;
  then_is = λ stage stands. record { come = later stage stands.come; taps = λ i there. stands.taps i there ∙ sym (shown i there) };
}
  where
    mine : List Note
    mine = left.notes (c + 1)

    actor : IsCount (actors_of script) (c + 1)
    actor = (omega arith, omega (arith, client.1))

    one : IsOne ClientGoes number (old.come c) does mine (new.come c)
    one = one_done ClientGoes number (old.come c) (new.come c) (client_steps c (section_of (Client c does))) does mine (own_steps c does) (plays.clients c client)

    stay : (centre : ℕ) → plays.taps.shows centre ≡ shows_at old.taps centre
    stay = none_fed old.taps number (left.notes 1) plays.taps.shows plays.taps.feeds

    shown : (i : ℕ) → IsCount script.n i → new.taps i ≡ old.taps i
    shown i there = plays.taps.behind i there ∙ ap (tap_behind (old.taps i)) (stay i)

    looked : LooksSo old.taps c does (deeds_of mine)
    looked = one_looked old.taps number c plays.taps.shows does mine stay (subst (λ steps. Looks old.taps plays.taps.shows c number steps mine) (own_steps c does) (plays.taps.looks c client))

    idle : (other : ℕ) → IsCount script.clients other → c ≢ other → (left.notes (other + 1) ≡ []) × (new.come other ≡ old.come other)
    idle other range differs = none_done ClientGoes number (old.come other) (new.come other) (client_steps other (section_of (Client c does))) (left.notes (other + 1)) (other_steps other c does differs) (plays.clients other range)

    others : (a : ℕ) → IsCount (actors_of script) a → a ≢ c + 1 → left.notes a ≡ []
    others a range = by_actor script (λ a. a ≢ c + 1 → left.notes a ≡ [])
        (λ differs. (none_done (OperatorGoes script.n) number tt tt [] (left.notes 1) refl plays.operator).0)
        (λ other there differs. (idle other there (λ same. differs (ap (λ n. n + 1) (sym same)))).0)
        (λ i role centre differs. worker_none script number (Client c does) old left new plays i role centre)
        a range

    later : (stage : Stage) → ((client : ℕ) → IsCount script.clients client → stage.come client ≡ old.come client) → (other : ℕ) → IsCount script.clients other → (stage_after (client_does c does) mine stage).come other ≡ new.come other
    later stage come other there = ⊎_elim
        (λ (same : other ≡ c). subst (λ o. (stage_after (client_does c does) mine stage).come o ≡ new.come o) (sym same)
        (ap (λ test. cond test (stepped (stage.come c) does mine) (stage.come c)) (eq-eqb c c refl)
        ∙ (ap (λ (p : Progress). stepped p does mine) (come c client) ∙ sym one.does.1)))
        (λ (differs : other ≢ c).
        ap (λ test. cond test (stepped (stage.come c) does mine) (stage.come other)) (ne_eqb other c differs)
        ∙ (come other there ∙ sym (idle other there (λ same. differs (sym same))).1))
        (cases_eq other c)

-- the operator took it
operator_stepped : (script : Script) (number : ℕ) (does : OperatorStep) (old : Between) (left : Left) (new : Between) → IsOperatorStep script.n does → PlaysSection script number (section_of (Operator does)) old left new → IsStepped script number (operator_does does) old left new
operator_stepped script number does old left new is plays = record {
  mine = mine;
  at = one.at;
  actor = actor;
  notes = alone_notes script number left 1 mine refl others;
  entries = alone_trails script number left 1 mine refl others (λ i entry centre there. plays.callers i entry centre there) (λ i a centre there. plays.paired i a centre there) actor;
  did = λ stage stands. one.does;
  tapped = λ stage stands. feeds_as script.n old.taps stage.taps does (deeds_of mine) is (λ i there. sym (stands.taps i there)) fed.0;
  then_is = λ stage stands. record {
    come = λ other there. stands.come other there ∙ sym (idle other there).1;
    taps = λ i there. fed_as (feed_in does) (deeds_of mine) stage.taps old.taps i (stands.taps i there) ∙ sym (plays.taps.behind i there ∙ fed.1 i);
  };
}
  where
    mine : List Note
    mine = left.notes 1

    actor : IsCount (actors_of script) 1
    actor = (omega arith, omega arith)

    one : IsOne (OperatorGoes script.n) number tt does mine tt
    one = one_done (OperatorGoes script.n) number tt tt (does ∷ []) does mine refl plays.operator

    fed : FeedsSo old.taps does (deeds_of mine) × ((i : ℕ) → tap_behind (old.taps i) (plays.taps.shows i) ≡ taps_then does (deeds_of mine) old.taps i)
    fed = one_fed old.taps number does mine plays.taps.shows plays.taps.feeds

    idle : (other : ℕ) → IsCount script.clients other → (left.notes (other + 1) ≡ []) × (new.come other ≡ old.come other)
    idle other range = none_done ClientGoes number (old.come other) (new.come other) [] (left.notes (other + 1)) refl (plays.clients other range)

    others : (a : ℕ) → IsCount (actors_of script) a → a ≢ 1 → left.notes a ≡ []
    others a range = by_actor script (λ a. a ≢ 1 → left.notes a ≡ [])
        (λ differs. absurd (differs refl))
        (λ other there differs. (idle other there).0)
        (λ i role centre differs. worker_none script number (Operator does) old left new plays i role centre)
        a range

-- ---- sections of one step each

-- what happened in sections, one step after another
record IsUnrolled (script : Script) (number : ℕ) (here : Between) (sections : List Section) (lefts : List Left) : Type 0 where
  pub all : List Happened
  pub plays : (stage : Stage) → StandsAs script stage here → Plays script.n script.clients stage (moves_from script number sections) all
  pub notes : (a : ℕ) → IsCount (actors_of script) a → flat_map (λ (left : Left). left.notes a) lefts ≡ notes_by a all
  pub entries : (i : ℕ) → IsCount script.n i → flat_map (λ (left : Left). left.entries i) lefts ≡ trail_in i all
  pub actors : (h : Happened) → In h all → IsCount (actors_of script) h.actor

-- the move of a step of an actor
abbrev step_does : Step → Does
step_does (Client client step) = client_does client step
step_does (Operator step) = operator_does step

module _ (script : Script) where
  -- a step was taken
  was_stepped : (number : ℕ) (step : Step) (old : Between) (left : Left) (new : Between) → IsStepOf (header_of script) step → PlaysSection script number (section_of step) old left new → IsStepped script number (step_does step) old left new
  was_stepped number (Client c does) old left new is plays = client_stepped script number c does old left new is.0 is.1 plays
  was_stepped number (Operator does) old left new is plays = operator_stepped script number does old left new is plays

  -- the moves of a section of one step, and of those behind it
  plays_step : (number : ℕ) (step : Step) (old : Between) (left : Left) (new : Between) (rest : List Section) (later : List Happened) → (one : IsStepped script number (step_does step) old left new) → ((stage : Stage) → StandsAs script stage new → Plays script.n script.clients stage (moves_from script (number + 1) rest) later) → (stage : Stage) → StandsAs script stage old → Plays script.n script.clients stage (moves_from script number (section_of step ∷ rest)) (happening (actor_of script.clients (step_does step)) one.mine ++ later)
  plays_step number (Client c does) old left new rest later one goes_on stage stands = next_move one.mine later refl one.at (one.did stage stands) (one.tapped stage stands) (goes_on (stage_after (client_does c does) one.mine stage) (one.then_is stage stands))
  plays_step number (Operator does) old left new rest later one goes_on stage stands = next_move one.mine later refl one.at (one.did stage stands) (one.tapped stage stands) (goes_on (stage_after (operator_does does) one.mine stage) (one.then_is stage stands))

  -- one step, and what happened behind it
  step_first : (number : ℕ) (step : Step) (old : Between) (left : Left) (new : Between) (rest : List Section) (lefts : List Left) → IsStepped script number (step_does step) old left new → IsUnrolled script (number + 1) new rest lefts → IsUnrolled script number old (section_of step ∷ rest) (left ∷ lefts)
  step_first number step old left new rest lefts one later = record {
    all = happening actor one.mine ++ later.all;
    plays = plays_step number step old left new rest later.all one later.plays;
    notes = λ a range. ap (λ ns. ns ++ flat_map (λ (left : Left). left.notes a) lefts) (one.notes a range) ∙ (ap (λ ns. notes_by a (happening actor one.mine) ++ ns) (later.notes a range) ∙ sym (filter_map-append (note_by a) (happening actor one.mine) later.all));
    entries = λ i centre. ap (λ es. es ++ flat_map (λ (left : Left). left.entries i) lefts) (one.entries i centre) ∙ (ap (λ es. trail_in i (happening actor one.mine) ++ es) (later.entries i centre) ∙ sym (filter_map-append (entry_in i) (happening actor one.mine) later.all));
    actors = λ h there. ⊎_elim
        (λ here. let note = In_from_map (λ (note : Note). record { actor = actor; note = note }) one.mine h here in subst (IsCount (actors_of script)) (sym (ap (λ (h : Happened). h.actor) note.2)) one.actor)
        (λ behind. later.actors h behind)
        (In_either (happening actor one.mine) later.all h there);
  }
    where
      actor : ℕ
      actor = actor_of script.clients (step_does step)

  -- all of them
  unrolled : (number : ℕ) (here last : Between) (sections : List Section) (lefts : List Left) → All (IsSection (header_of script)) sections → All (λ (section : Section). section.phase ≡ false) sections → PlaysSections script number here sections lefts last → IsUnrolled script number here sections lefts
  unrolled number here last [] lefts sound lines no_sections = record {
    all = [];
    plays = λ stage stands. no_moves;
    notes = λ a range. refl;
    entries = λ i centre. refl;
    actors = λ h there. absurd there;
  }
  unrolled number here last (section ∷ rest) lefts sound lines (next_section {left = left} {lefts = more} new plays later) = ⊎_elim
      (λ line. subst (λ section. IsUnrolled script number here (section ∷ rest) (left ∷ more)) (sym line.1)
      (step_first number line.0 here left new rest more
      (was_stepped number line.0 here left new line.2 (subst (λ section. PlaysSection script number section here left new) line.1 plays))
      (unrolled (number + 1) new last rest more (All-tail (IsSection (header_of script)) section rest sound) (All-tail (λ (section : Section). section.phase ≡ false) section rest lines) later)))
      (λ phase. absurd (false≢true (sym (All-head (λ (section : Section). section.phase ≡ false) section rest lines) ∙ phase.phase)))
      (All-head (IsSection (header_of script)) section rest sound)

-- ---- the book

module _ (script : Script) (b : Book) (range : IsInRange script) (lines : HasNoPhase script) (run : IsSectionRunOf script b) where
  -- what happened
  u : IsUnrolled script 1 (first_between script) script.sections run.steps.lefts
  u = unrolled script 1 (first_between script) run.steps.last script.sections run.steps.lefts range.sections lines run.steps.plays

  count : length b.logs ≡ actors_of script
  count = run.fits.form.logs ∙ ap (λ n. 1 + script.clients + 4 * n) run.n

  -- the notes of an actor
  acted : (a : ℕ) → IsCount (actors_of script) a → notes_of b a ≡ notes_by a u.all
  acted a there = run.steps.notes a there ∙ u.notes a there

  -- nobody else noted anything
  nobody : (a : ℕ) → (IsCount (actors_of script) a → ⊥) → notes_by a u.all ≡ []
  nobody a none = none_kept (note_by a) u.all (λ h note there is. none (subst (IsCount (actors_of script)) (note_made a h note is).0 (u.actors h there)))

  noted : (a : ℕ) → notes_of b a ≡ notes_by a u.all
  noted zero = sym (nobody 0 (λ range. omega (arith, range.0)))
  noted (suc a) = ⊎_elim
      (λ (inside : a < actors_of script). acted (suc a) (omega arith, omega (arith, inside)))
      (λ (past : actors_of script ≤ a). ap (λ (log : Logged). log.notes) (past_end b.logs a (idle_log 0) (omega (arith, past, count))) ∙ sym (nobody (suc a) (λ range. omega (arith, range.1, past))))
      (cases_lt a (actors_of script))

  -- an entry was made at a centre that there is
  within : (i : ℕ) (h : Happened) (entry : Entry) → In h u.all → entry_in i h ≡ Some entry → IsCount script.n i
  within i h entry there is =
      let own : In h.note (notes_of b h.actor) = subst (In h.note) (sym (noted h.actor)) (In_filter_map (note_by h.actor) u.all h h.note there (own_note h)) in
      let place = In_get (notes_of b h.actor) h.note own in
      let exchange = (made_by i h entry is).exchange in
      let centre = run.fits.form.centres h.actor place.0 h.note i entry.ask exchange.fate place.1 exchange.is in
      (centre.0, omega (arith, centre.1, run.n))

  -- at no other one
  nowhere : (i : ℕ) → (IsCount script.n i → ⊥) → trail_in i u.all ≡ []
  nowhere i none = none_kept (entry_in i) u.all (λ h entry there is. none (within i h entry there is))

  entered : (i : ℕ) → trail_of b i ≡ trail_in i u.all
  entered zero = sym (nowhere 0 (λ range. omega (arith, range.0)))
  entered (suc i) = ⊎_elim
      (λ (inside : i < script.n). let there : IsCount script.n (suc i) = (omega arith, omega (arith, inside)) in run.steps.trails (suc i) there ∙ u.entries (suc i) there)
      (λ (past : script.n ≤ i). past_end b.trails i [] (omega (arith, past, run.fits.form.trails, run.n)) ∙ sym (nowhere (suc i) (λ range. omega (arith, range.1, past))))
      (cases_lt i script.n)

  -- it has the steps of the script, one after another
  pub has_steps : HasSteps script b
  has_steps = record {
    all = u.all;
    plays = u.plays (first_stage script) (record { come = λ client there. refl; taps = λ i there. refl });
    notes = noted;
    trails = entered;
  }
