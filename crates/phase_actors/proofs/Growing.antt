-- What an actor does grows by one thing more.
use Rattle.std.proofs.Common.{◌≡◌, ℕ, ◌+◌, List, [], ◌∷◌, ◌++◌, length, map, refl, sym, ap, ◌∙◌, append_assoc}
use Rattle.std.proofs.lemmas.List.{append-nil, map-append}
use Rattle.dc_talk.specs.declared.log.Deed.{Deed}
use Rattle.dc_talk.specs.declared.log.Note.{Note}
use Rattle.dc_talk.specs.Logs.{Logged, marked, entries_made}
use Rattle.dc_talk.specs.Acting.{Acting, acting, Leaves}
use Rattle.dc_talk.proofs.Doors.{made_then}
use Rattle.run_book.proofs.Happenings.Entries.{deeds_marked}
use Rattle.run_book.proofs.Happenings.Playing.{all_at}
use Rattle.run_sections.specs.Orders.{deeds_of, none_left}
use Rattle.run_sections.proofs.Orders.{order_more}
use Rattle.phase_actors.specs.Playing.{Acted, Plays}

-- nothing was noted yet
pub acted_none : (a : Acting) → Acted a a []
acted_none a = record {
  actor = refl;
  log = sym (append-nil a.log.notes);
  same = record { actor = refl; centres = refl; alone = refl };
  made = λ i. sym (append-nil (a.door.made i));
}

-- an actor's log as its turn in a section begins
abbrev pub log_at_step : ℕ → ℕ → Logged → Logged
log_at_step section step log = record log { section = section; step = step }

-- the notes of a turn
abbrev pub marked_all : ℕ → ℕ → List Deed → List Note
marked_all section step deeds = map (marked section step) deeds

-- more was noted, in a turn
pub acted_more : (section step : ℕ) (a b c : Acting) (mine : List Note) (deeds : List Deed) → Acted a b mine → Leaves (acting b.door (log_at_step section step b.log)) c deeds → Acted a c (mine ++ marked_all section step deeds)
acted_more section step a b c mine deeds was leaves = record {
  actor = ap (λ (log : Logged). log.actor) leaves.log ∙ was.actor;
  log = ap (λ (log : Logged). log.notes) leaves.log ∙ (ap (λ notes. notes ++ marked_all section step deeds) was.log ∙ append_assoc a.log.notes mine (marked_all section step deeds));
  same = record {
    actor = leaves.door.same.actor ∙ was.same.actor;
    centres = leaves.door.same.centres ∙ was.same.centres;
    alone = leaves.door.same.alone ∙ was.same.alone;
  };
  made = λ i.
      leaves.door.made i
      ∙ ((λ j. was.made i j ++ entries_made (was.same.actor j) i deeds)
      ∙ (append_assoc (a.door.made i) (entries_made a.door.actor i (deeds_of mine)) (entries_made a.door.actor i deeds)
      ∙ ap (λ es. a.door.made i ++ es) (sym (made_then a.door.actor i (deeds_of mine) deeds) ∙ ap (entries_made a.door.actor i) (sym (deeds_then i)))));
}
  where
    deeds_then : (i : ℕ) → deeds_of (mine ++ marked_all section step deeds) ≡ deeds_of mine ++ deeds
    deeds_then i = map-append (λ (note : Note). note.deed) mine (marked_all section step deeds) ∙ ap (λ ds. deeds_of mine ++ ds) (deeds_marked section step deeds)

-- the deeds of a turn
pub turn_deeds : (section step : ℕ) (deeds : List Deed) → deeds_of (marked_all section step deeds) ≡ deeds
turn_deeds section step deeds = deeds_marked section step deeds

module _ {S M : Type 0} (Does : S → ℕ → M → List Note → S → Type 0) (section : ℕ) where
  -- nothing was done yet
  pub plays_none : (first : S) (a : Acting) → Plays Does section first [] a a first
  plays_none first a = record { mine = []; acted = acted_none a; order = none_left }

  -- one thing more was done
  pub plays_more : (step : ℕ) (first next last : S) (ms : List M) (m : M) (a b c : Acting) (deeds : List Deed) → step ≡ 1 + length ms → Plays Does section first ms a b next → Leaves (acting b.door (log_at_step section step b.log)) c deeds → Does next step m (marked_all section step deeds) last → Plays Does section first (ms ++ m ∷ []) a c last
  plays_more step first next last ms m a b c deeds is was leaves does = record {
    mine = was.mine ++ marked_all section step deeds;
    acted = acted_more section step a b c was.mine deeds was.acted leaves;
    order = order_more Does section 1 step first next last ms m was.mine (marked_all section step deeds) is was.order (all_at section step deeds) does;
  }
