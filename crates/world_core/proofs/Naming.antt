-- What the names of events find.
use Rattle.std.proofs.Common.{◌≡◌, ◌≢◌, ◌≤◌, ◌<◌, ℕ, zero, suc, ◌+◌, ◌-◌, Bool, true, false, ⊎_elim, List, [], ◌∷◌, length, drop, get_or, Option, Some, None, refl, sym, ap, ◌∙◌, subst, add-one, arith}
use Rattle.std.specs.Prelude.{◌==◌, nat_le, slice_get, All}
use Rattle.std.specs.List.{filter_map, cons_option}
use Rattle.std.specs.Option.{option_and_then}
use Rattle.std.proofs.lemmas.Bool.{le-leb, eqb-true}
use Rattle.std.proofs.lemmas.Option.{none-some, same_Some}
use Rattle.std.proofs.Math.Seq.{drop-cons}
use Rattle.list_core.specs.Choices.{when}
use Rattle.list_core.specs.Members.{In}
use Rattle.list_core.proofs.Gets.{get_In, In_get, all_get}
use Rattle.list_core.proofs.Passing.{In_from_filter_map}
use Rattle.script_core.specs.declared.script.Script.{Script}
use Rattle.script_core.specs.declared.steps.ClientStep.{ClientStep}
use Rattle.script_core.specs.declared.steps.OperatorStep.{OperatorStep}
use Rattle.script_core.specs.declared.steps.Section.{Section}
use Rattle.script_core.specs.declared.steps.Step.{Step}
use Rattle.script_core.specs.declared.steps.Step.TheVariants.{Client, Operator}
use Rattle.script_core.specs.Steps.{IsCount, IsStep, IsOperatorStep, IsStepOf}
use Rattle.script_core.specs.Rows.{IsLine, IsInPhase, IsPhase, IsSection}
use Rattle.script_core.specs.Scripts.{header_of}
use Rattle.run_book.specs.Moves.{client_step, operator_step, client_steps, operator_steps}
use Rattle.world_core.specs.Events.{numbered, step_named}

-- ---- by number

-- the element with a number stands one place before it
pub numbered_at : {X : Type 0} (xs : List X) (number : ℕ) → 1 ≤ number → numbered xs number ≡ slice_get xs (number - 1)
numbered_at xs number low = ap (λ test. option_and_then (λ place. slice_get xs place) (when test (number - 1))) (le-leb 1 number low)

-- the first
pub numbered_first : {X : Type 0} (x : X) (xs : List X) → numbered (x ∷ xs) 1 ≡ Some x
numbered_first x xs = refl

-- one behind the first
pub numbered_next : {X : Type 0} (x : X) (xs : List X) (left : ℕ) → left ≢ 1 → numbered (x ∷ xs) left ≡ numbered xs (left - 1)
numbered_next x xs zero differs = refl
numbered_next x xs (suc zero) differs = absurd (differs refl)
numbered_next x xs (suc (suc left)) differs =
    let place : suc (suc left) - 1 ≡ suc left = omega arith in
    let before : suc left - 1 ≡ left = omega arith in
    numbered_at (x ∷ xs) (suc (suc left)) (omega arith)
    ∙ (ap (slice_get (x ∷ xs)) place
    ∙ (ap (slice_get xs) (sym before)
    ∙ (sym (numbered_at xs (suc left) (omega arith)) ∙ ap (numbered xs) (sym place))))

-- where a list begins with what a place gives
module _ {X Y : Type 0} (f : X → Option Y) (xs : List X) (place left : ℕ) (x : X) (within : place < length xs) (here : x ≡ get_or xs place x) where
  split : drop place xs ≡ x ∷ drop (place + 1) xs
  split = rw (add-one, drop-cons xs place x) (ap (λ y. y ∷ drop (suc place) xs) (sym here))

  -- it passes over what gives nothing
  pub passed_over : (whole : Option Y) → f x ≡ None → whole ≡ numbered (filter_map f (drop place xs)) left → whole ≡ numbered (filter_map f (drop (place + 1) xs)) left
  passed_over whole none is = is ∙ (ap (λ xs. numbered (filter_map f xs) left) split ∙ ap (λ o. numbered (cons_option o (filter_map f (drop (place + 1) xs))) left) none)

  -- and over one that is not the last to count
  pub counted_one : (whole : Option Y) (y : Y) → f x ≡ Some y → left ≢ 1 → whole ≡ numbered (filter_map f (drop place xs)) left → whole ≡ numbered (filter_map f (drop (place + 1) xs)) (left - 1)
  counted_one whole y some differs is =
      is ∙ (ap (λ xs. numbered (filter_map f xs) left) split
      ∙ (ap (λ o. numbered (cons_option o (filter_map f (drop (place + 1) xs))) left) some
      ∙ numbered_next y (filter_map f (drop (place + 1) xs)) left differs))

  -- it finds the last to count
  pub found_one : (whole : Option Y) (y : Y) → f x ≡ Some y → left ≡ 1 → whole ≡ numbered (filter_map f (drop place xs)) left → Some y ≡ whole
  found_one whole y some last is =
      sym (is ∙ (ap (λ xs. numbered (filter_map f xs) left) split
      ∙ (ap (λ o. numbered (cons_option o (filter_map f (drop (place + 1) xs))) left) some
      ∙ ap (numbered (y ∷ filter_map f (drop (place + 1) xs))) last)))

-- ---- steps of a script

-- what comes of something that is there
pub record Comes {X Y : Type 0} (f : X → Option Y) (o : Option X) (y : Y) : Type 0 where
  pub from : X
  pub there : o ≡ Some from
  pub gives : f from ≡ Some y

pub comes : {X Y : Type 0} (f : X → Option Y) (o : Option X) (y : Y) → option_and_then f o ≡ Some y → Comes f o y
comes f None y is = absurd (none-some y is)
comes f (Some x) y is = record { from = x; there = refl; gives = is }

-- a numbered element is one of the list
numbered_in : {X : Type 0} (xs : List X) (number : ℕ) (x : X) → numbered xs number ≡ Some x → In x xs
numbered_in xs number x is = let from = comes (λ place. slice_get xs place) (when (nat_le 1 number) (number - 1)) x is in get_In xs from.from x from.gives

module _ (script : Script) (sections : All (IsSection (header_of script)) script.sections) where
  -- a step of a section is one of the script's
  step_is : (number : ℕ) (section : Section) (step : Step) → numbered script.sections number ≡ Some section → In step section.steps → IsStepOf (header_of script) step
  step_is number section step there has =
      let at = comes (λ place. slice_get script.sections place) (when (nat_le 1 number) (number - 1)) section there in
      ⊎_elim
      (λ (line : IsLine (header_of script) section).
      let only : In step (line.0 ∷ []) = subst (λ (section : Section). In step section.steps) line.1 has in
      one line.0 line.2 only)
      (λ (phase : IsPhase (header_of script) section). (each (λ step. IsStepOf (header_of script) step × IsInPhase step) section.steps step phase.steps has).0)
      (all_get (IsSection (header_of script)) script.sections at.from section sections at.gives)
    where
      one : (it : Step) → IsStepOf (header_of script) it → In step (it ∷ []) → IsStepOf (header_of script) step
      one it is has = ⊎_elim (λ same. subst (IsStepOf (header_of script)) (sym same) is) (λ none. absurd none) has

      each : (P : Step → Type 0) (steps : List Step) (step : Step) → All P steps → In step steps → P step
      each P steps step all has = let at = In_get steps step has in all_get P steps at.0 step all at.1

  -- a step of a client that was found
  pub client_named : (client section number : ℕ) (does : ClientStep) → Some does ≡ step_named (client_steps client) script section number → IsCount script.clients client × IsStep script.n does
  client_named client section number does is =
      let of = comes (λ found. numbered (client_steps client found) number) (numbered script.sections section) does (sym is) in
      let from = In_from_filter_map (client_step client) of.from.steps does (numbered_in (client_steps client of.from) number does of.gives) in
      its from.0 (step_is section of.from from.0 of.there from.1) from.2
    where
      its : (step : Step) → IsStepOf (header_of script) step → client_step client step ≡ Some does → IsCount script.clients client × IsStep script.n does
      its (Operator step) is gives = absurd (none-some does gives)
      its (Client other step) is gives =
          let both = chosen (other == client) step does gives in
          (subst (IsCount script.clients) (eqb-true other client both.0) is.0, subst (IsStep script.n) both.1 is.1)
        where
          chosen : (test : Bool) (step does : ClientStep) → when test step ≡ Some does → (test ≡ true) × (step ≡ does)
          chosen true step does is = (refl, same_Some step does is)
          chosen false step does is = absurd (none-some does is)

  -- a step of the operator that was found
  pub operator_named : (section number : ℕ) (does : OperatorStep) → Some does ≡ step_named operator_steps script section number → IsOperatorStep script.n does
  operator_named section number does is =
      let of = comes (λ found. numbered (operator_steps found) number) (numbered script.sections section) does (sym is) in
      let from = In_from_filter_map operator_step of.from.steps does (numbered_in (operator_steps of.from) number does of.gives) in
      its from.0 (step_is section of.from from.0 of.there from.1) from.2
    where
      its : (step : Step) → IsStepOf (header_of script) step → operator_step step ≡ Some does → IsOperatorStep script.n does
      its (Client client step) is gives = absurd (none-some does gives)
      its (Operator step) is gives = subst (IsOperatorStep script.n) (same_Some step does gives) is
