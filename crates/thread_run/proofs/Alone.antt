-- A section in which one actor alone took a step.
use Rattle.std.proofs.Common.{◌≡◌, ◌≢◌, ◌≤◌, ⊎_elim, ℕ, ◌+◌, ◌-◌, List, [], ◌∷◌, ◌++◌, map, length, refl, sym, ap, ◌∙◌, subst, arith}
use Rattle.std.specs.Prelude.{slice_set, All}
use Rattle.std.proofs.lemmas.Bool.{cases_eq, false≢true}
use Rattle.std.proofs.lemmas.List.{append-nil}
use Rattle.std.proofs.Math.ListN.{length-set}
use Rattle.list_core.specs.Members.{In}
use Rattle.list_core.proofs.Members.{In_from_map}
use Rattle.list_core.proofs.Passing.{In_from_filter_map}
use Rattle.dc_talk.specs.declared.log.Deed.{Deed}
use Rattle.dc_talk.specs.declared.log.Note.{Note}
use Rattle.dc_talk.specs.Entries.{Entry}
use Rattle.dc_talk.specs.Logs.{Logged, marked, entries_made}
use Rattle.dc_talk.specs.Acting.{noted_all}
use Rattle.dc_door.specs.KeptDoors.{trail_at, settings_of}
use Rattle.dc_mail.specs.Posts.{post_at}
use Rattle.script_core.specs.declared.script.Script.{Script}
use Rattle.script_core.specs.declared.steps.Step.{Step}
use Rattle.script_core.specs.declared.rounds.Role.{Role}
use Rattle.script_core.specs.declared.rounds.Role.TheVariants.{Sender, Receiver, Reporter, Pruner}
use Rattle.script_core.specs.Rounds.{worker_of}
use Rattle.script_core.specs.Rows.{section_of}
use Rattle.script_core.specs.Steps.{IsCount}
use Rattle.run_book.specs.Happenings.{ClientDoes, notes_by, trail_in, entry_in, happening}
use Rattle.run_book.specs.Moves.{client_steps, operator_steps}
use Rattle.run_book.specs.Played.{IsAt}
use Rattle.run_book.proofs.Happenings.Entries.{made_by, own_then, other_then, paired_in}
use Rattle.run_book.proofs.Happenings.Steps.{trail_marked}
use Rattle.run_table.specs.declared.table.Table.{Table}
use Rattle.run_table.specs.Tables.{Turn, log_at, log_in, AreHistories}
use Rattle.run_table.proofs.Reading.{log_here, log_else}
use Rattle.run_sections.specs.Orders.{InOrder, none_left, one_first, ClientGoes, OperatorGoes, ReceiverGoes, Intake, intake}
use Rattle.run_sections.specs.Sections.{actors_of, Left, Receives, PlaysTaps, linked}
use Rattle.thread_run.specs.Tables.{notes_at, between_of, IsTableOf, HasPlayed}

-- ---- what is done one after another

module _ {S M : Type 0} (Does : S → ℕ → M → List Note → S → Type 0) (section : ℕ) where
  -- nothing is done
  pub order_none : (s last : S) (ms : List M) (notes : List Note) → ms ≡ [] → notes ≡ [] → last ≡ s → InOrder Does section 1 s ms notes last
  order_none s last ms notes nothing none stays =
      subst (λ last. InOrder Does section 1 s ms notes last) (sym stays)
      (subst (λ notes. InOrder Does section 1 s ms notes s) (sym none)
      (subst (λ ms. InOrder Does section 1 s ms [] s) (sym nothing) none_left))

  -- one thing is done
  pub order_one : (s last : S) (ms : List M) (m : M) (notes mine : List Note) → ms ≡ m ∷ [] → notes ≡ mine → All (IsAt section 1) mine → Does s 1 m mine last → InOrder Does section 1 s ms notes last
  order_one s last ms m notes mine one own at does =
      subst (λ ms. InOrder Does section 1 s ms notes last) (sym one)
      (one_first last mine [] (own ∙ sym (append-nil mine)) at does none_left)

-- ---- what an actor did

-- the turn of an actor that takes the one step of a section
abbrev pub turn_in : ℕ → ℕ → Turn
turn_in number actor = record { actor = actor; section = number; step = 1 }

-- the notes of deeds in it
abbrev pub notes_of_deeds : ℕ → List Deed → List Note
notes_of_deeds number deeds = map (marked number 1) deeds

-- what an actor alone leaves by them
abbrev pub left_alone : ℕ → ℕ → List Deed → Left
left_alone number actor deeds = record {
  notes = λ a. notes_by a (happening actor (notes_of_deeds number deeds));
  entries = λ i. trail_in i (happening actor (notes_of_deeds number deeds));
}

-- an actor alone did this, as its log and the trails show it
pub record HasDoneAlone (number actor : ℕ) (deeds : List Deed) (old new : Table) : Type 0 where
  pub logs : new.logs.items ≡ slice_set old.logs.items (actor - 1) (noted_all (log_in (turn_in number actor) (log_at old.logs.items actor)) deeds)
  pub settings : settings_of new.door.centres ≡ settings_of old.door.centres
  pub trails : (i : ℕ) → trail_at new.door.centres i ≡ trail_at old.door.centres i ++ entries_made actor i deeds
  pub histories : AreHistories new.door.centres
  pub stubs : length new.stubs.items ≡ length old.stubs.items

module _ (script : Script) (number actor : ℕ) (deeds : List Deed) (old new : Table) (is : IsTableOf script old) (range : IsCount (actors_of script) actor) (did : HasDoneAlone number actor deeds old new) where
  -- its notes
  abbrev mine : List Note
  mine = notes_of_deeds number deeds

  -- what it leaves
  abbrev left : Left
  left = left_alone number actor deeds

  pub left_own : left.notes actor ≡ mine
  left_own = own_then actor [] mine

  pub left_none : (a : ℕ) → actor ≢ a → left.notes a ≡ []
  left_none a differs = other_then actor a [] mine differs

  -- its log then
  abbrev log_now : Logged
  log_now = noted_all (log_in (turn_in number actor) (log_at old.logs.items actor)) deeds

  log_there : log_at new.logs.items actor ≡ log_now
  log_there = ap (λ logs. log_at logs actor) did.logs ∙ log_here old.logs.items actor log_now range.0 (omega (arith, range.1, is.logs))

  log_away : (a : ℕ) → a ≢ actor → log_at new.logs.items a ≡ log_at old.logs.items a
  log_away a differs = ap (λ logs. log_at logs a) did.logs ∙ log_else old.logs.items actor a log_now range.0 differs

  -- the notes of each actor then
  pub alone_notes : (a : ℕ) → notes_at new a ≡ notes_at old a ++ left.notes a
  alone_notes a = ⊎_elim own other (cases_eq a actor)
    where
      own : a ≡ actor → notes_at new a ≡ notes_at old a ++ left.notes a
      own same = subst (λ b. notes_at new b ≡ notes_at old b ++ left.notes b) (sym same)
          (ap (λ (log : Logged). log.notes) log_there ∙ ap (λ ns. notes_at old actor ++ ns) (sym left_own))

      other : a ≢ actor → notes_at new a ≡ notes_at old a ++ left.notes a
      other differs =
          ap (λ (log : Logged). log.notes) (log_away a differs)
          ∙ sym (ap (λ ns. notes_at old a ++ ns) (left_none a (λ same. differs (sym same))) ∙ append-nil (notes_at old a))

  -- the table is one of the script still
  alone_is : IsTableOf script new
  alone_is = record {
    settings = did.settings ∙ is.settings;
    histories = did.histories;
    stubs = did.stubs ∙ is.stubs;
    logs = ap (λ (logs : List Logged). length logs) did.logs ∙ (length-set old.logs.items (actor - 1) log_now ∙ is.logs);
    actors = λ a there. ⊎_elim
        (λ same. subst (λ b. (log_at new.logs.items b).actor ≡ b) (sym same) (ap (λ (log : Logged). log.actor) log_there ∙ is.actors actor range))
        (λ differs. ap (λ (log : Logged). log.actor) (log_away a differs) ∙ is.actors a there)
        (cases_eq a actor);
  }

  -- the trails then
  alone_trails : (i : ℕ) → trail_at new.door.centres i ≡ trail_at old.door.centres i ++ left.entries i
  alone_trails i = did.trails i ∙ ap (λ es. trail_at old.door.centres i ++ es) (sym (trail_marked actor i number 1 [] deeds))

  -- the new entries are its own
  alone_callers : (i : ℕ) (entry : Entry) → In entry (left.entries i) → IsCount (actors_of script) entry.caller
  alone_callers i entry there =
      let from = In_from_filter_map (entry_in i) (happening actor mine) entry there in
      let note = In_from_map (λ (note : Note). record { actor = actor; note = note }) mine from.0 from.1 in
      let made = made_by i from.0 entry from.2 in
      subst (IsCount (actors_of script)) (sym (made.caller ∙ ap (λ h. h.actor) note.2)) range

  module _ (step : Step) (low : actor ≤ script.clients + 1) where
    -- no worker does anything
    worker_none : (i : ℕ) (role : Role) → IsCount script.n i → left.notes (worker_of script.clients i role) ≡ []
    worker_none i Sender centre = left_none (worker_of script.clients i Sender) (λ same. omega (arith, same, low))
    worker_none i Receiver centre = left_none (worker_of script.clients i Receiver) (λ same. omega (arith, same, low))
    worker_none i Reporter centre = left_none (worker_of script.clients i Reporter) (λ same. omega (arith, same, low))
    worker_none i Pruner centre = left_none (worker_of script.clients i Pruner) (λ same. omega (arith, same, low))

    module _ (clients : (client : ℕ) → IsCount script.clients client → InOrder ClientGoes number 1 ((between_of script old).come client) (client_steps client (section_of step)) (left.notes (client + 1)) ((between_of script new).come client)) (operator : InOrder (OperatorGoes script.n) number 1 tt (operator_steps (section_of step)) (left.notes 1) tt) (inlets : (from to : ℕ) → IsCount script.n from → IsCount script.n to → (post_at new.posts from to).inlet ≡ linked (operator_steps (section_of step)) from to (post_at old.posts from to).inlet) (taps : PlaysTaps script number (section_of step) (between_of script old) left (between_of script new)) where
      -- nor does a receiver
      line_receives : (j : ℕ) → IsCount script.n j → Receives script number (section_of step) (between_of script old) left (between_of script new) j
      line_receives j centre =
          let first : ℕ → Intake = λ from. intake (linked (operator_steps (section_of step)) from j (post_at old.posts from j).inlet) [] in
          record {
            first = first;
            last = first;
            begins = λ from range differs. refl;
            order = order_none (ReceiverGoes script.n j) number first first [] (left.notes (worker_of script.clients j Receiver)) refl (worker_none j Receiver centre) refl;
            all = λ from range differs phase. absurd (false≢true phase);
            inlets = λ from range differs. inlets from j range centre;
          }

      -- the section was played
      pub line_played : ((client : ℕ) → IsCount script.clients client → ClientDoes ((between_of script old).come client).client (notes_at old (client + 1)) (left.notes (client + 1))) → HasPlayed script number (section_of step) old new
      line_played allowed = record {
        left = left;
        plays = record {
          clients = clients;
          operator = operator;
          senders = λ i centre. order_none _ number tt tt [] (left.notes (worker_of script.clients i Sender)) refl (worker_none i Sender centre) refl;
          receivers = line_receives;
          reporters = λ i centre. order_none _ number tt tt [] (left.notes (worker_of script.clients i Reporter)) refl (worker_none i Reporter centre) refl;
          pruners = λ i centre. order_none _ number tt tt [] (left.notes (worker_of script.clients i Pruner)) refl (worker_none i Pruner centre) refl;
          taps = taps;
          callers = λ i entry centre there. alone_callers i entry there;
          paired = λ i a centre there. paired_in i a (happening actor mine);
        };
        is = alone_is;
        notes = λ a there. alone_notes a;
        trails = alone_trails;
        allowed = allowed;
      }
