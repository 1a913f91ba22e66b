-- A log of steps checks what it takes.
use Rattle.std.proofs.Common.{◌≡◌, ℕ, zero, suc, ◌+◌, ◌-◌, ◌≤◌, ◌<◌, inl, inr, ⊎_elim, true, List, ◌∷◌, ◌++◌, length, Some, sym, ap, ◌∙◌, subst, arith}
use Rattle.std.specs.Prelude.{slice_get, All, pos, ◌≤ℤ◌}
use Rattle.std.proofs.lemmas.Bool.{cases_lt}
use Rattle.std.proofs.lemmas.Option.{same_Some}
use Rattle.list_core.specs.Members.{In}
use Rattle.list_core.proofs.Members.{In_left, In_right}
use Rattle.list_core.proofs.Gets.{all_get}
use Rattle.ids_core.specs.declared.object.ObjectId.{ObjectId}
use Rattle.ids_core.specs.Ids.{same_object}
use Rattle.dc_talk.specs.declared.calls.Change.{Change}
use Rattle.dc_talk.specs.declared.calls.Change.TheVariants.{Inc}
use Rattle.dc_talk.specs.declared.calls.Call.TheVariants.{Change as ChangeCall}
use Rattle.dc_talk.specs.declared.calls.Outcome.TheVariants.{Fine}
use Rattle.dc_talk.specs.declared.log.Deed.{Deed}
use Rattle.dc_talk.specs.declared.log.Deed.TheVariants.{Did}
use Rattle.run_book.specs.declared.book.Book.{Book}
use Rattle.run_book.specs.Setups.{Setup}
use Rattle.run_book.specs.Parts.{notes_of, IsClient}
use Rattle.run_book.specs.Fit.{FitsWith}
use Rattle.run_sections.specs.Orders.{deeds_of}
use Rattle.run_steps.specs.Quiet.{IsQuiet}
use Rattle.run_steps.proofs.Places.{get_behind, get_front_of, get_deed, InStep, in_step}
use Rattle.graph_rights.specs.Rights.{amount_of, rights_by}
use Rattle.run_rights.specs.Takings.{IsCellOf, HasReadCells, HasEnough, Changes, ChecksTakings}
use Rattle.run_rights.specs.Steps.{ChangesNone, AddsOnce, TakesRights, StepIs, GoesBySteps}
use Rattle.run_rights.proofs.FrontReads.{has_read}
use Rattle.run_rights.proofs.RightsRead.{rights_fit}
use Rattle.run_rights.proofs.Spared.{change_loud}

-- ---- the one change of a step

record IsTheChange (deeds : List Deed) (adds : AddsOnce deeds) (k : ℕ) (o : ObjectId) (change : Change) : Type 0 where
  place : k ≡ length adds.first
  object : adds.o ≡ o
  change_is : change ≡ Inc adds.delta

the_change : (deeds : List Deed) (adds : AddsOnce deeds) (k : ℕ) (deed : Deed) (o : ObjectId) (change : Change) → slice_get deeds k ≡ Some deed → deed ≡ Did (ChangeCall o change) Fine → IsTheChange deeds adds k o change
the_change deeds adds k deed o change at is = ⊎_elim early (λ ge. late (k - length adds.first) (omega (arith, ge))) (cases_lt k (length adds.first))
  where
    middle : Deed
    middle = Did (ChangeCall adds.o (Inc adds.delta)) adds.outcome

    all : slice_get (adds.first ++ middle ∷ adds.last) k ≡ Some deed
    all = subst (λ l. slice_get l k ≡ Some deed) adds.whole at

    early : k < length adds.first → IsTheChange deeds adds k o change
    early lt = absurd (change_loud deed o change is (all_get IsQuiet adds.first k deed adds.quiet (get_front_of adds.first (middle ∷ adds.last) k deed lt all)))

    late : (j : ℕ) → length adds.first + j ≡ k → IsTheChange deeds adds k o change
    late zero e =
        let here : slice_get (middle ∷ adds.last) zero ≡ Some deed = sym (get_behind adds.first (middle ∷ adds.last) zero) ∙ (ap (slice_get (adds.first ++ middle ∷ adds.last)) e ∙ all) in
        let same : middle ≡ Did (ChangeCall o change) Fine = same_Some middle deed here ∙ is in
        let object : adds.o ≡ o = cc in
        let change_is : change ≡ Inc adds.delta = cc in
        record { place = omega (arith, e); object = object; change_is = change_is }
    late (suc j) e =
        let here : slice_get adds.last j ≡ Some deed = sym (get_behind adds.first (middle ∷ adds.last) (suc j)) ∙ (ap (slice_get (adds.first ++ middle ∷ adds.last)) e ∙ all) in
        absurd (change_loud deed o change is (all_get IsQuiet adds.last j deed adds.told here))

-- ---- the log of a client

module _ (b : Book) (setup : Setup) (fit : FitsWith b setup) (owner : ℕ) (gains losses : List ObjectId) (few : length gains + length losses ≤ 16) (goes : GoesBySteps b setup owner gains losses) where
  abbrev Step : ℕ → List Deed → Type 0
  Step a = StepIs (a - 1) owner gains losses

  -- the step of a change
  step_of : (a p : ℕ) (cells : List ObjectId) (change : Change) → IsClient setup a → (c : Changes b a p cells change) → InStep (Step a) (notes_of b a) p c.note
  step_of a p cells change client c = in_step (Step a) (notes_of b a) p c.note (goes.steps a client) c.there

  -- a plain step changes none of the cells
  plain : (a p : ℕ) (cells : List ObjectId) (change : Change) → ((o : ObjectId) → In o cells → In o (gains ++ losses)) → (c : Changes b a p cells change) → (s : InStep (Step a) (notes_of b a) p c.note) → All (ChangesNone (gains ++ losses)) (deeds_of s.mine) → ⊥
  plain a p cells change among c s none = all_get (ChangesNone (gains ++ losses)) (deeds_of s.mine) s.place c.note.deed none (get_deed s.mine s.place c.note s.there) c.o c.cell change c.deed_is (among c.cell c.among) c.is

  -- what a step that adds once tells of the change
  once : (a p : ℕ) (cells : List ObjectId) (change : Change) (c : Changes b a p cells change) (s : InStep (Step a) (notes_of b a) p c.note) (adds : AddsOnce (deeds_of s.mine)) → IsTheChange (deeds_of s.mine) adds s.place c.o change
  once a p cells change c s adds = the_change (deeds_of s.mine) adds s.place c.note.deed c.o change (get_deed s.mine s.place c.note s.there) c.deed_is

  once_paid : (a p : ℕ) (cells : List ObjectId) (change : Change) (c : Changes b a p cells change) (s : InStep (Step a) (notes_of b a) p c.note) (adds : AddsOnce (deeds_of s.mine)) → pos 0 ≤ℤ amount_of change
  once_paid a p cells change c s adds = subst (λ change. pos 0 ≤ℤ amount_of change) (sym (once a p cells change c s adds).change_is) adds.paid

  paid : (a p : ℕ) (cells : List ObjectId) (change : Change) → IsClient setup a → ((o : ObjectId) → In o cells → IsCellOf gains losses o) → Changes b a p cells change → pos 0 ≤ℤ amount_of change
  paid a p cells change client among c = go (step_of a p cells change client c) (step_of a p cells change client c).such
    where
      go : (s : InStep (Step a) (notes_of b a) p c.note) → Step a (deeds_of s.mine) → pos 0 ≤ℤ amount_of change
      go s (inl none) = absurd (plain a p cells change (λ o i. ⊎_elim (In_left gains losses o) (In_right gains losses o) (among o i)) c s none)
      go s (inr (inl pays)) = once_paid a p cells change c s pays.adds
      go s (inr (inr takes)) = once_paid a p cells change c s takes.adds

  -- a change of a cell against the holder is in a step that takes
  taking : (a p : ℕ) (change : Change) → IsClient setup a → (c : Changes b a p losses change) → (s : InStep (Step a) (notes_of b a) p c.note) × TakesRights (a - 1) owner gains losses (deeds_of s.mine)
  taking a p change client c = go (step_of a p losses change client c) (step_of a p losses change client c).such
    where
      go : (s : InStep (Step a) (notes_of b a) p c.note) → Step a (deeds_of s.mine) → (s : InStep (Step a) (notes_of b a) p c.note) × TakesRights (a - 1) owner gains losses (deeds_of s.mine)
      go s (inl none) = absurd (plain a p losses change (λ o i. In_right gains losses o i) c s none)
      go s (inr (inl pays)) = absurd (pays.other c.cell c.among (subst (λ o. same_object o c.cell ≡ true) (sym (once a p losses change c s pays.adds).object) c.is))
      go s (inr (inr takes)) = (s, takes)

  checked : (a p : ℕ) (change : Change) → IsClient setup a → Changes b a p losses change → HasEnough b a p gains losses (amount_of change)
  checked a p change client c = record { value = takes.value; has_read = read; enough = subst (λ change. amount_of change ≤ℤ rights_by gains losses takes.value) (sym the.change_is) enough }
    where
      found : (s : InStep (Step a) (notes_of b a) p c.note) × TakesRights (a - 1) owner gains losses (deeds_of s.mine)
      found = taking a p change client c

      s : InStep (Step a) (notes_of b a) p c.note
      s = found.0

      takes : TakesRights (a - 1) owner gains losses (deeds_of s.mine)
      takes = found.1

      the : IsTheChange (deeds_of s.mine) takes.adds s.place c.o change
      the = once a p losses change c s takes.adds

      rest : List Deed
      rest = Did (ChangeCall takes.adds.o (Inc takes.adds.delta)) takes.adds.outcome ∷ takes.adds.last

      read : HasReadCells b a p gains losses takes.value
      read = has_read b a p c.note (Step a) s takes.adds.first rest takes.adds.whole the.place gains losses takes.value takes.adds.quiet takes.reads

      enough : takes.adds.delta ≤ℤ rights_by gains losses takes.value
      enough = subst (λ z. takes.adds.delta ≤ℤ z) (rights_fit b setup fit gains losses goes.counters a p takes.value client read few) takes.enough

  -- so the log checks what it takes
  pub checks_takings : ChecksTakings b setup owner gains losses
  checks_takings = record {
    counters = goes.counters;
    paid = paid;
    taken = λ a p change client c. (taking a p change client c).1.mine;
    checked = checked;
  }
