-- What a world has of an event that came to an early end.
use Rattle.std.proofs.Common.{◌≡◌, ◌≢◌, ◌≤◌, ◌<◌, ◌⊎◌, inl, inr, ⊎_elim, ℕ, ◌+◌, ◌-◌, Bool, [], ◌∷◌, ◌++◌, length, refl, sym, ap, ◌∙◌, subst, arith}
use Rattle.std.specs.Prelude.{slice_set}
use Rattle.std.proofs.lemmas.Bool.{cases_eq}
use Rattle.dc_talk.specs.declared.ask.Ask.{Ask}
use Rattle.dc_talk.specs.Logs.{Logged, entry_for}
use Rattle.dc_talk.specs.Acting.{acting}
use Rattle.dc_door.specs.KeptDoors.{shown_of, begun, trail_at}
use Rattle.script_core.specs.declared.script.Script.{Script}
use Rattle.run_table.specs.declared.table.Table.{Table}
use Rattle.run_table.specs.declared.works.Work.{Work}
use Rattle.run_table.specs.Works.{HasWorkedPart}
use Rattle.run_table.specs.Tables.{Turn, log_at, log_in, outside, AreHistories, IsCutTurn, HasSteppedPart, HasOperatedPart, HasMadeRoundPart, HasAskedOncePart}
use Rattle.run_table.proofs.Reading.{log_here, log_else}
use Rattle.world_core.specs.Worlds.{seen_of}
use Rattle.world_core.specs.Events.{ActsPart, TakesStepPart, TakesOrderPart, TakesRoundPart, AsksOncePart}

-- nothing of it
pub ask_none : (script : Script) (was is : Bool) (centre : ℕ) (table : Table) → AreHistories table.door.centres → AsksOncePart centre (seen_of script was table) (seen_of script is table)
ask_none script was is centre table histories = record {
  script = refl;
  stubs = refl;
  posts = refl;
  taps = refl;
  notes = λ actor. refl;
  trail = inl refl;
  others = λ i other. refl;
  settings = refl;
  histories = histories;
}

module _ (script : Script) (was is : Bool) (old new : Table) where
  -- a turn of an actor that has a log
  acts_part : (turn : Turn) → (1 ≤ turn.actor) × (turn.actor ≤ length old.logs.items) → IsCutTurn turn old new → ActsPart turn.actor (seen_of script was old) (seen_of script is new)
  acts_part turn range cut = record {
    script = refl;
    notes = cut.short.notes;
    own = ap (λ logs. (log_at logs turn.actor).notes) cut.turn_is.logs ∙ (ap (λ (log : Logged). log.notes) (log_here old.logs.items turn.actor cut.log range.0 range.1) ∙ ap (λ (log : Logged). log.notes) cut.short.log);
    others = λ other differs. ap (λ logs. log_at logs other) cut.turn_is.logs ∙ log_else old.logs.items turn.actor other cut.log range.0 differs;
    more = cut.short.door.more;
    trails = cut.short.door.seen;
    settings = cut.turn_is.settings;
    histories = cut.turn_is.histories;
  }

  -- of a client
  pub step_part : (client section number : ℕ) → client < length old.logs.items → HasSteppedPart (record { actor = client + 1; section = section; step = number }) old new → TakesStepPart client (seen_of script was old) (seen_of script is new)
  step_part client section number within h =
      let turn : Turn = record { actor = client + 1; section = section; step = number } in
      let place : turn.actor - 2 ≡ client - 1 = omega arith in
      record {
        later = h.later;
        stubs = subst (λ k. new.stubs.items ≡ slice_set old.stubs.items k h.later) place h.stubs;
        posts = h.posts;
        taps = h.taps;
        acts = acts_part turn (omega arith, omega (arith, within)) h.cut;
      }

  -- of the operator
  pub order_part : (section number : ℕ) → 1 ≤ length old.logs.items → HasOperatedPart (record { actor = 1; section = section; step = number }) old new → TakesOrderPart (seen_of script was old) (seen_of script is new)
  order_part section number within h =
      let turn : Turn = record { actor = 1; section = section; step = number } in
      record { stubs = ap (λ stubs. stubs.items) h.stubs; posts = h.posts; taps = h.taps; acts = acts_part turn (omega arith, within) h.cut }

  -- of a worker
  pub round_part : (turn : Turn) (centre : ℕ) (does : Work) → (1 ≤ turn.actor) × (turn.actor ≤ length old.logs.items) → length old.door.centres ≡ script.n → HasMadeRoundPart turn centre does old new → TakesRoundPart turn centre does (seen_of script was old) (seen_of script is new)
  round_part turn centre does range count h = record {
    door = shown_of new.door;
    log = h.cut.log;
    works = subst (λ n. HasWorkedPart n centre does old.posts new.posts (acting (shown_of (begun turn.actor old.door.centres)) (log_in turn (log_at old.logs.items turn.actor))) (acting (shown_of new.door) h.cut.log)) count h.works;
    stubs = ap (λ stubs. stubs.items) h.stubs;
    taps = h.taps;
    acts = acts_part turn range h.cut;
  }

  -- of an ask outside of the script
  pub ask_part : (actor centre : ℕ) (ask : Ask) → (1 ≤ actor) × (actor ≤ length old.logs.items) → HasAskedOncePart actor centre ask old new → AsksOncePart centre (seen_of script was old) (seen_of script is new)
  ask_part actor centre ask range h = record {
    script = refl;
    stubs = ap (λ stubs. stubs.items) h.stubs;
    posts = h.posts;
    taps = h.taps;
    notes = λ a. notes a (cases_eq a actor);
    trail = ⊎_elim (λ not. inl (not.seen centre)) (λ made. inr (entry_for actor (ask, made.0), made.1.seen ∙ ap (λ between. trail_at old.door.centres centre ++ (between ++ entry_for actor (ask, made.0) ∷ [])) (made.1.alone refl))) h.asked;
    others = λ i other. ⊎_elim (λ not. not.seen i) (λ made. made.1.other_seen i other) h.asked;
    settings = h.turn_is.settings;
    histories = h.turn_is.histories;
  }
    where
      -- the log of the actor
      begins : Logged
      begins = log_in (outside actor) (log_at old.logs.items actor)

      notes : (a : ℕ) → (a ≡ actor) ⊎ (a ≢ actor) → (log_at new.logs.items a).notes ≡ (log_at old.logs.items a).notes
      notes a (inl same) = subst (λ a. (log_at new.logs.items a).notes ≡ (log_at old.logs.items a).notes) (sym same)
          (ap (λ logs. (log_at logs actor).notes) h.turn_is.logs ∙ ap (λ (log : Logged). log.notes) (log_here old.logs.items actor begins range.0 range.1))
      notes a (inr differs) = ap (λ (log : Logged). log.notes) (ap (λ logs. log_at logs a) h.turn_is.logs ∙ log_else old.logs.items actor a begins range.0 differs)
