-- Callers before a door and behind it, and the steps of the operator that were dealt.
use Rattle.std.proofs.Common.{◌≡◌, ◌≤◌, ℕ, suc, List, [], ◌∷◌, map, length, drop, Option, Some, None, sym, ap, ◌∙◌, subst, arith}
use Rattle.std.specs.Prelude.{slice_get, slice_index_or, All}
use Rattle.std.specs.Global.{Vec}
use Rattle.std.specs.List.{AllZip, filter_map, cons_option}
use Rattle.std.proofs.lemmas.Option.{none-some, same_Some, slice_get-get_or}
use Rattle.std.proofs.lemmas.List.Elements.{All-nil, All-cons, All-head, All-tail}
use Rattle.std.proofs.lemmas.Slice.Zip.{AllZip-long}
use Rattle.host_lock.specs.Hosts.{IsOf}
use Rattle.dc_talk.specs.Logs.{Logged}
use Rattle.dc_talk.specs.Acting.{acting}
use Rattle.dc_host.specs.declared.host_door.HostPlace.{HostPlace}
use Rattle.dc_host.specs.HostDoors.{CentreHost, CentrePass, HostDoorView, shown_by, shown_over, place_over, bare}
use Rattle.script_core.specs.declared.limits.TheConstants.{MAX_LINES}
use Rattle.script_core.specs.declared.script.Header.{Header}
use Rattle.script_core.specs.declared.steps.OperatorStep.{OperatorStep}
use Rattle.script_core.specs.declared.steps.Step.{Step}
use Rattle.script_core.specs.declared.steps.Section.{Section}
use Rattle.script_core.specs.Rows.{IsPhase}
use Rattle.script_core.specs.Steps.{IsOperatorStep}
use Rattle.run_book.specs.Moves.{operator_step, operator_steps}
use Rattle.run_table.proofs.Allowing.{operator_step_in}
use Rattle.phase_actors.specs.declared.callers.Caller.{Caller}
use Rattle.phase_actors.specs.Playing.{seen_by, IsCaller, IsSameCaller}

-- ---- a caller before its door

-- its door is one to as many centres as there are hosts
pub door_width : (hosts : List CentreHost) (caller : Caller) (n : ℕ) (passes : List CentrePass) → IsCaller hosts caller → length hosts ≡ n → passes ≡ caller.row.items → length passes ≡ n
door_width hosts caller n passes is count same = ap length same ∙ (AllZip-long IsOf hosts caller.row.items is.each ∙ count)

-- what is seen of it is what is seen of the door beside its log
pub seen_before : (caller : Caller) (door : HostDoorView) → door.actor ≡ caller.log.actor → door.passes ≡ caller.row.items → acting (shown_over door) caller.log ≡ seen_by caller
seen_before caller door actor passes = λ j. acting (shown_by (actor j) (passes j)) caller.log

-- ---- behind it

module _ (old : Caller) (row : Vec CentrePass) (log : Logged) (first last : HostDoorView) (actor : first.actor ≡ old.log.actor) (passes : first.passes ≡ old.row.items) (place : place_over last ≡ place_over first) (rows : row.items ≡ last.passes) (same_log : log.actor ≡ old.log.actor) where
  -- the caller with the passes that the door gives back
  abbrev back : Caller
  back = record { row = row; log = log }

  -- it is the same one
  pub same_caller : IsSameCaller old back
  same_caller = (same_log, ap (map bare) rows ∙ (ap (λ (p : HostPlace). p.passes) place ∙ ap (map bare) passes))

  -- what is seen of it is what is seen of the door
  pub seen_behind : acting (shown_over last) log ≡ seen_by back
  seen_behind =
      let number : last.actor ≡ log.actor = ap (λ (p : HostPlace). p.actor) place ∙ (actor ∙ sym same_log) in
      λ j. acting (shown_by (number j) (sym rows j)) log

-- ---- the passes of a caller

-- passes with which more was done are of the same hosts
of_hosts : (hosts : List CentreHost) (ps qs : List CentrePass) → map bare qs ≡ map bare ps → AllZip IsOf hosts ps → AllZip IsOf hosts qs
of_hosts [] [] [] same z = tt
of_hosts [] [] (q ∷ qs) same z = absurd (none-some (bare q) (sym (ap (λ (l : List CentrePass). slice_get l 0) same)))
of_hosts [] (p ∷ ps) qs same z = absurd z
of_hosts (h ∷ hosts) [] qs same z = absurd z
of_hosts (h ∷ hosts) (p ∷ ps) [] same z = absurd (none-some (bare p) (ap (λ (l : List CentrePass). slice_get l 0) same))
of_hosts (h ∷ hosts) (p ∷ ps) (q ∷ qs) same z =
    let first : bare q ≡ bare p = same_Some (bare q) (bare p) (ap (λ (l : List CentrePass). slice_get l 0) same) in (
      (ap (λ (x : CentrePass). x.table) first ∙ z.0.0, ap (λ (x : CentrePass). x.settings) first ∙ z.0.1, ap (λ (x : CentrePass). x.opening) first ∙ z.0.2),
      of_hosts hosts ps qs (ap (drop 1) same) z.1,
    )

-- and have the same numbers
numbers_stay : (a b : ℕ) (ps qs : List CentrePass) → b ≡ a → map bare qs ≡ map bare ps → All (λ (p : CentrePass). p.number ≡ a) ps → All (λ (p : CentrePass). p.number ≡ b) qs
numbers_stay a b ps [] is same all = All-nil (λ (p : CentrePass). p.number ≡ b)
numbers_stay a b [] (q ∷ qs) is same all = absurd (none-some (bare q) (sym (ap (λ (l : List CentrePass). slice_get l 0) same)))
numbers_stay a b (p ∷ ps) (q ∷ qs) is same all =
    let first : bare q ≡ bare p = same_Some (bare q) (bare p) (ap (λ (l : List CentrePass). slice_get l 0) same) in
    All-cons (λ (p : CentrePass). p.number ≡ b) q qs (ap (λ (x : CentrePass). x.number) first ∙ (All-head (λ (p : CentrePass). p.number ≡ a) p ps all ∙ sym is)) (numbers_stay a b ps qs is (ap (drop 1) same) (All-tail (λ (p : CentrePass). p.number ≡ a) p ps all))

-- a caller with the same passes is one of the same hosts
pub caller_stays : (hosts : List CentreHost) (old new : Caller) → IsSameCaller old new → IsCaller hosts old → IsCaller hosts new
caller_stays hosts old new same is = record {
  each = of_hosts hosts old.row.items new.row.items same.1 is.each;
  numbered = numbers_stay old.log.actor new.log.actor old.row.items new.row.items same.0 same.1 is.numbered;
}

-- ---- the operator's steps

-- what is chosen is no more than there is
chosen_few : (steps : List Step) → length (filter_map operator_step steps) ≤ length steps
chosen_few [] = omega arith
chosen_few (step ∷ steps) = go (operator_step step) (chosen_few steps)
  where
    go : (o : Option OperatorStep) → length (filter_map operator_step steps) ≤ length steps → length (cons_option o (filter_map operator_step steps)) ≤ suc (length steps)
    go None few = omega (arith, few)
    go (Some y) few = omega (arith, few)

module _ (header : Header) (section : Section) (phase : IsPhase header section) (line : List OperatorStep) (same : line ≡ operator_steps section) where
  -- each of those that were dealt may be taken
  pub orders_fit : All (IsOperatorStep header.n) line
  orders_fit = subst (λ line. All (IsOperatorStep header.n) line) (sym same) (λ k d lt. operator_step_in header section phase k (slice_index_or (operator_steps section) k d) (slice_get-get_or (operator_steps section) k d lt))

  -- and they are not too many
  pub orders_few : length line ≤ MAX_LINES
  orders_few = let few = chosen_few section.steps in omega (arith, few, phase.few, ap length same)
