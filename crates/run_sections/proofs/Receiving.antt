-- What arrives whole at a receiver of what it takes, round by round, and what its links hold behind the last one.
use Rattle.std.proofs.Common.{◌≡◌, ◌≢◌, ℕ, ◌+◌, ◌==◌, ⊎_elim, Bool, true, false, cond, not, List, [], ◌∷◌, ◌++◌, drop, refl, sym, ap, ◌∙◌, subst}
use Rattle.std.specs.Prelude.{◌&&◌}
use Rattle.std.proofs.lemmas.Bool.{eq-eqb, false≢true}
use Rattle.list_core.specs.Members.{In}
use Rattle.list_core.proofs.Members.{In_left, In_right, In_either, In_take, In_drop, In_map, In_from_filter}
use Rattle.vv_core.specs.Vectors.{centres}
use Rattle.dc_talk.specs.declared.sent.Sent.{Sent}
use Rattle.dc_talk.specs.declared.log.Note.{Note}
use Rattle.dc_talk.specs.declared.links.Arrival.{Arrival}
use Rattle.dc_talk.specs.declared.links.Arrival.TheVariants.{Whole}
use Rattle.dc_talk.specs.Entries.{Entry}
use Rattle.script_core.specs.declared.steps.OperatorStep.{OperatorStep}
use Rattle.script_core.specs.declared.steps.OperatorStep.TheVariants.{Link}
use Rattle.script_core.specs.Steps.{IsCount}
use Rattle.script_core.specs.Links.{Inlet, wholes, arrivals, arrived_count, inlet_set}
use Rattle.script_core.specs.Carrying.{route}
use Rattle.script_core.specs.Rounds.{others, Brings}
use Rattle.script_core.proofs.Arriving.{arrivals_among, wholes_from}
use Rattle.run_book.specs.Happenings.{WasSent, CarrierAllows}
use Rattle.run_book.proofs.Happenings.WorkerRounds.{others_within, delivery_allowed, brings_sent, turns_sent}
use Rattle.run_sections.specs.Orders.{deeds_of, InOrder, none_left, one_first, Intake, Receipt, takes_some, takes_rest, arrived_of, inlet_then, ReceiverGoes}
use Rattle.run_sections.specs.Sections.{linked}

-- ---- one round

-- what arrives whole was taken or held
arrived_among : (receipt : Receipt) (inlet : Inlet Sent) (items : List Sent) (item : Sent) → In (Whole item) (arrived_of receipt inlet items) → In item (items ++ wholes inlet.held)
arrived_among takes_some inlet items item there = arrivals_among inlet items item (In_take (arrived_count inlet items) (arrivals inlet items) (Whole item) there)
arrived_among takes_rest inlet items item there = arrivals_among inlet items item there

-- so is what is held whole then
held_among : (receipt : Receipt) (inlet : Inlet Sent) (items : List Sent) (item : Sent) → In item (wholes (inlet_then receipt inlet items).held) → In item (items ++ wholes inlet.held)
held_among takes_some inlet items item there =
    let all : List (Arrival Sent) = arrivals inlet items in
    let count : ℕ = arrived_count inlet items in
    arrivals_among inlet items item (In_drop count all (Whole item) (wholes_from (drop count all) item there))
held_among takes_rest inlet items item there = absurd there

-- a centre is none of the others
others_apart : (n j from : ℕ) → In from (others n j) → from ≢ j
others_apart n j from there same =
    let is : not (from == j) ≡ true = (In_from_filter (λ k. not (k == j)) (centres n) from there).1 in
    false≢true (ap not (sym (eq-eqb from j same)) ∙ is)

-- ---- all rounds

module _ (n j section : ℕ) where
  -- what was taken stays taken
  taken_still : (step : ℕ) (s last : ℕ → Intake) (receipts : List Receipt) (notes : List Note) (from : ℕ) (item : Sent) → IsCount n from → from ≢ j → InOrder (ReceiverGoes n j) section step s receipts notes last → In item (s from).taken → In item (last from).taken
  taken_still step s last [] notes from item range other none_left there = there
  taken_still step s last (receipt ∷ receipts) notes from item range other (one_first next mine later whole at goes rest) there =
      taken_still (step + 1) next last receipts later from item range other rest
      (subst (λ (now : Intake). In item now.taken) (sym (goes.then_is from range other)) (In_left (s from).taken (goes.items from) item there))

  -- it delivers what was sent, where that is so of all that it takes and of what its links held
  pub receiver_allowed : (trails : ℕ → List Entry) (step : ℕ) (s last : ℕ → Intake) (receipts : List Receipt) (notes : List Note) → ((from : ℕ) → IsCount n from → from ≢ j → (item : Sent) → In item (last from).taken → WasSent trails item) → ((from : ℕ) → IsCount n from → from ≢ j → (item : Sent) → In item (wholes (s from).inlet.held) → WasSent trails item) → InOrder (ReceiverGoes n j) section step s receipts notes last → (note : Note) → In note notes → CarrierAllows trails note.deed
  receiver_allowed trails step s last [] notes taken held none_left note there = absurd there
  receiver_allowed trails step s last (receipt ∷ receipts) notes taken held (one_first next mine later whole at goes rest) note there = ⊎_elim
      (λ front.
      delivery_allowed trails note.deed
      (turns_sent trails (λ from deeds. Brings (route from j) (due from) deeds) (others n j) (deeds_of mine)
      (λ from ds among does. brings_sent trails (route from j) (due from) ds (λ item here. had from (others_within n j from among) (others_apart n j from among) item (arrived_among receipt (s from).inlet (goes.items from) item here)) does)
      goes.delivers note.deed (In_map (λ (note : Note). note.deed) mine note front)))
      (λ back. receiver_allowed trails (step + 1) next last receipts later taken
      (λ from range other item here. had from range other item (held_among receipt (s from).inlet (goes.items from) item (subst (λ (now : Intake). In item (wholes now.inlet.held)) (goes.then_is from range other) here)))
      rest note back)
      (In_either mine later note (subst (In note) whole there))
    where
      due : ℕ → List (Arrival Sent)
      due from = arrived_of receipt (s from).inlet (goes.items from)

      had : (from : ℕ) → IsCount n from → from ≢ j → (item : Sent) → In item (goes.items from ++ wholes (s from).inlet.held) → WasSent trails item
      had from range other item here = ⊎_elim
          (λ new. taken from range other item (taken_still (step + 1) next last receipts later from item range other rest
          (subst (λ (now : Intake). In item now.taken) (sym (goes.then_is from range other)) (In_right (s from).taken (goes.items from) item new))))
          (λ old. held from range other item old)
          (In_either (goes.items from) (wholes (s from).inlet.held) item here)

  -- behind a closing round no link holds an item
  pub closed_then : (step : ℕ) (s last : ℕ → Intake) (receipts : List Receipt) (notes : List Note) (from : ℕ) → IsCount n from → from ≢ j → InOrder (ReceiverGoes n j) section step s (receipts ++ takes_rest ∷ []) notes last → (last from).inlet.held ≡ []
  closed_then step s last [] notes from range other (one_first next mine later whole at goes none_left) = ap (λ (now : Intake). now.inlet.held) (goes.then_is from range other)
  closed_then step s last (receipt ∷ receipts) notes from range other (one_first next mine later whole at goes rest) = closed_then (step + 1) next last receipts later from range other rest

-- ---- links that are set

-- a link that is set holds what it held
pub linked_held : (steps : List OperatorStep) (from to : ℕ) (inlet : Inlet Sent) → (linked steps from to inlet).held ≡ inlet.held
linked_held [] from to inlet = refl
linked_held (Link i j fault ∷ steps) from to inlet = linked_held steps from to (cond (from == i && to == j) (inlet_set fault inlet) inlet) ∙ go (from == i && to == j)
  where
    go : (test : Bool) → (cond test (inlet_set fault inlet) inlet).held ≡ inlet.held
    go true = refl
    go false = refl
linked_held (step ∷ steps) from to inlet = linked_held steps from to inlet
