-- What the receivers of a phase take, and what was put for them.
use Rattle.std.proofs.Common.{◌≡◌, ◌≢◌, ℕ, ◌+◌, Bool, true, cond, List, [], ◌∷◌, ◌++◌, map, length, replicate, Some, inl, inr, refl, sym, ap, ◌∙◌, subst, arith}
use Rattle.std.specs.Prelude.{slice_get, slice_index_or, All, ◌==◌, not, IsTrue}
use Rattle.std.specs.List.{filter_map}
use Rattle.std.specs.Global.{Vec}
use Rattle.std.proofs.lemmas.Bool.{false≢true, eq-eqb}
use Rattle.std.proofs.lemmas.List.{length-replicate}
use Rattle.std.proofs.lemmas.List.Elements.{All-head, All-tail}
use Rattle.std.proofs.lemmas.Option.{get_or_from_slice_get}
use Rattle.list_core.specs.Members.{In}
use Rattle.list_core.proofs.Members.{In_from_filter}
use Rattle.vv_core.specs.Vectors.{centres}
use Rattle.dc_talk.specs.declared.sent.Sent.{Sent}
use Rattle.dc_talk.specs.declared.links.Arrival.{Arrival}
use Rattle.dc_talk.specs.declared.log.Deed.{Deed}
use Rattle.dc_talk.specs.declared.log.Note.{Note}
use Rattle.mail_link.specs.Ends.{GiverView}
use Rattle.script_core.specs.declared.script.Header.{Header}
use Rattle.script_core.specs.declared.steps.OperatorStep.{OperatorStep}
use Rattle.script_core.specs.declared.steps.OperatorStep.TheVariants.{Down, Up, ShipOne, Ship, Relay, Tell, Prune, Link, Settle, Feed}
use Rattle.script_core.specs.declared.steps.Step.{Step}
use Rattle.script_core.specs.declared.steps.Step.TheVariants.{Client, Operator}
use Rattle.script_core.specs.Steps.{IsCount, IsStepOf}
use Rattle.script_core.specs.Rows.{may_order_in_phase, IsInPhase}
use Rattle.script_core.specs.Links.{Inlet}
use Rattle.script_core.specs.Carrying.{route, InTurn, no_turn, next_turn}
use Rattle.script_core.specs.Rounds.{others, Brings, ReceiverDeeds}
use Rattle.run_book.specs.Moves.{operator_step}
use Rattle.run_book.proofs.Happenings.WorkerRounds.{others_within}
use Rattle.run_sections.specs.Orders.{deeds_of, InOrder, Intake, intake, Receipt, takes_some, takes_rest, arrived_of, inlet_then, ReceiverGoes}
use Rattle.run_sections.specs.Sections.{linked, receipts_in}
use Rattle.run_sections.proofs.Orders.{order_more}
use Rattle.phase_actors.specs.declared.receivers.ReceiverEnd.{ReceiverEnd}
use Rattle.phase_actors.specs.declared.scene.Scene.{Scene}
use Rattle.phase_actors.specs.Workers.{intakes_of, receiving}
use Rattle.phase_actors.specs.Actors.{HasReceived, HasClosed}
use Rattle.thread_run.proofs.Zips.{get_image}

-- ---- a receiver's rounds

-- another centre among n is among the others
other_than : (n j from : ℕ) → In from (others n j) → from ≢ j
other_than n j from there same = false≢true (sym (ap not (eq-eqb from j same)) ∙ (In_from_filter (λ k. not (k == j)) (centres n) from there).1)

-- what is due alike from the others is delivered alike
delivers_alike : (n j : ℕ) (due given : ℕ → List (Arrival Sent)) (deeds : List Deed) → ((from : ℕ) → IsCount n from → from ≢ j → due from ≡ given from) → ReceiverDeeds n j due deeds → ReceiverDeeds n j given deeds
delivers_alike n j due given deeds same are = go (others n j) deeds (λ from there. same from (others_within n j from there) (other_than n j from there)) are
  where
    go : (froms : List ℕ) (deeds : List Deed) → ((from : ℕ) → In from froms → due from ≡ given from) → InTurn (λ from deeds. Brings (route from j) (due from) deeds) froms deeds → InTurn (λ from deeds. Brings (route from j) (given from) deeds) froms deeds
    go [] deeds each no_turn = no_turn
    go (from ∷ froms) deeds each (next_turn first later whole does rest) = next_turn first later whole (subst (λ items. Brings (route from j) items first) (each from (inl refl)) does) (go froms later (λ other there. each other (inr there)) rest)

-- a round from where the same lies at the ends
goes_alike : (n j step : ℕ) (s t later : ℕ → Intake) (receipt : Receipt) (notes : List Note) → ((from : ℕ) → IsCount n from → from ≢ j → s from ≡ t from) → ReceiverGoes n j s step receipt notes later → ReceiverGoes n j t step receipt notes later
goes_alike n j step s t later receipt notes same goes = record {
  items = goes.items;
  may = goes.may;
  delivers = delivers_alike n j (λ from. arrived_of receipt (s from).inlet (goes.items from)) (λ from. arrived_of receipt (t from).inlet (goes.items from)) (deeds_of notes)
      (λ from range other. ap (λ (x : Intake). arrived_of receipt x.inlet (goes.items from)) (same from range other)) goes.delivers;
  then_is = λ from range other. goes.then_is from range other ∙ ap (λ (x : Intake). intake (inlet_then receipt x.inlet (goes.items from)) (x.taken ++ goes.items from)) (same from range other);
}

-- the closing round follows the others
pub receiver_order : (scene : Scene) (givers : List (List (GiverView Sent))) (j : ℕ) (old mid new : ReceiverEnd) → scene.section.now.phase ≡ true → (received : HasReceived scene j old mid) (closed : HasClosed scene j givers mid new) → InOrder (ReceiverGoes scene.script.now.n j) scene.number 1 (intakes_of (receiving old)) (receipts_in scene.script.now scene.section.now) (received.plays.plays.mine ++ closed.closes.mine) (intakes_of (receiving new))
receiver_order scene givers j old mid new phase received closed =
    let n : ℕ = scene.script.now.n in
    let rounds : ℕ = scene.script.now.rounds in
    let many : List Receipt = replicate rounds takes_some in
    let place : rounds + 1 ≡ 1 + length many = omega (arith, length-replicate rounds takes_some) in
    subst (λ (phase : Bool). InOrder (ReceiverGoes n j) scene.number 1 (intakes_of (receiving old)) (cond phase (many ++ takes_rest ∷ []) []) (received.plays.plays.mine ++ closed.closes.mine) (intakes_of (receiving new))) (sym phase)
    (order_more (ReceiverGoes n j) scene.number 1 (rounds + 1) (intakes_of (receiving old)) received.plays.last (intakes_of (receiving new)) many takes_rest received.plays.plays.mine closed.closes.mine place received.plays.plays.order closed.closes.at
    (goes_alike n j (rounds + 1) (intakes_of (receiving mid)) received.plays.last (intakes_of (receiving new)) takes_rest closed.closes.mine (λ from range other. sym (received.plays.ends from range other)) closed.closes.goes))

-- ---- links in a phase

-- a step that may stand in a phase sets no link
sets_none : (step : OperatorStep) (steps : List OperatorStep) (from to : ℕ) (inlet : Inlet Sent) → IsTrue (may_order_in_phase step) → linked (step ∷ steps) from to inlet ≡ linked steps from to inlet
sets_none (Down centre) steps from to inlet may = refl
sets_none (Up centre) steps from to inlet may = refl
sets_none (ShipOne i j seq) steps from to inlet may = refl
sets_none (Ship i j) steps from to inlet may = refl
sets_none (Relay i origin j) steps from to inlet may = refl
sets_none (Tell i j) steps from to inlet may = refl
sets_none (Prune centre) steps from to inlet may = refl
sets_none (Link i j fault) steps from to inlet may = absurd (false≢true may)
sets_none Settle steps from to inlet may = refl
sets_none (Feed centre) steps from to inlet may = refl

-- so no link is set in a phase
pub none_set : (header : Header) (steps : List Step) (from to : ℕ) (inlet : Inlet Sent) → All (λ step. IsStepOf header step × IsInPhase step) steps → linked (filter_map operator_step steps) from to inlet ≡ inlet
none_set header [] from to inlet all = refl
none_set header (Client client step ∷ steps) from to inlet all = none_set header steps from to inlet (All-tail (λ step. IsStepOf header step × IsInPhase step) (Client client step) steps all)
none_set header (Operator step ∷ steps) from to inlet all =
    sets_none step (filter_map operator_step steps) from to inlet (All-head (λ step. IsStepOf header step × IsInPhase step) (Operator step) steps all).1
    ∙ none_set header steps from to inlet (All-tail (λ step. IsStepOf header step × IsInPhase step) (Operator step) steps all)

-- ---- rows

-- the row of one among rows of all
pub row_there : {X Y : Type 0} (f : X → Vec Y) (xs : List X) (rows : List (Vec Y)) (p : ℕ) (x : X) → map f xs ≡ rows → slice_get xs p ≡ Some x → slice_index_or (map (λ (row : Vec Y). row.items) rows) p [] ≡ (f x).items
row_there {X} {Y} f xs rows p x are there =
    get_or_from_slice_get (map (λ (row : Vec Y). row.items) rows) p (f x).items []
    (get_image (λ (row : Vec Y). row.items) rows p (f x) (ap (λ rows. slice_get rows p) (sym are) ∙ get_image f xs p x there))
