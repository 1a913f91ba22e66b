-- What the steps of a script in range are to the cells of a holder.
use Rattle.std.proofs.Common.{◌≡◌, ℕ, ◌-◌, ◌==◌, ◌⊎◌, inl, inr, ⊎_elim, Bool, true, false, List, [], ◌++◌, refl, sym, ap, ◌∙◌, subst}
use Rattle.std.specs.Prelude.{All}
use Rattle.std.proofs.lemmas.Bool.{false≢true, eqb-true, eq-eqb}
use Rattle.std.proofs.lemmas.List.Elements.{All-nil}
use Rattle.list_core.specs.Members.{In}
use Rattle.list_core.proofs.Members.{All-In, In_from_flat_map}
use Rattle.ids_core.specs.declared.object.ObjectId.{ObjectId}
use Rattle.ids_core.specs.Ids.{same_object}
use Rattle.ids_core.specs.Same.{same_object-true, same_object-same}
use Rattle.obj_bounded.specs.CellNames.{counter_of, gain_cells, loss_cells}
use Rattle.dc_talk.specs.declared.log.Deed.{Deed}
use Rattle.dc_talk.specs.declared.log.Note.{Note}
use Rattle.dc_talk.specs.declared.line.StepWord.{StepWord}
use Rattle.dc_talk.specs.declared.line.StepWord.TheVariants as step
use Rattle.script_core.specs.declared.script.Script.{Script}
use Rattle.script_core.specs.declared.steps.ClientStep.{ClientStep}
use Rattle.script_core.specs.declared.steps.ClientStep.TheVariants.{Change, Grant, Give, Take, Rights}
use Rattle.script_core.specs.declared.steps.Section.{Section}
use Rattle.script_core.specs.declared.steps.Share.{Share}
use Rattle.script_core.specs.declared.steps.Step.{Step}
use Rattle.script_core.specs.declared.steps.Step.TheVariants.{Client}
use Rattle.script_core.specs.Deeds.{calls_on, cell_inc, cell_to, Progress, StepDeeds, TakingDeeds}
use Rattle.script_core.specs.Rows.{IsLine, IsPhase, IsInPhase, IsSection}
use Rattle.script_core.specs.Scripts.{header_of, IsInRange}
use Rattle.script_core.specs.Steps.{holders_of, IsOwn, IsShare, IsStep, IsStepOf}
use Rattle.run_book.specs.declared.book.Book.{Book}
use Rattle.run_book.specs.Setups.{setup_of}
use Rattle.run_book.specs.Parts.{notes_of, IsClient}
use Rattle.run_sections.specs.Orders.{deeds_of}
use Rattle.run_steps.specs.Logs.{all_steps, AreStepDeeds, InSteps, no_steps, next_step}
use Rattle.run_steps.specs.Quiet.{IsQuiet}
use Rattle.run_steps.proofs.Chains.{chain, section_chain}
use Rattle.run_rights.specs.Holders.{holder_gains, holder_losses, IsPlayOf}
use Rattle.run_rights.specs.Steps.{GoesBySteps, Pays, StepIs, TakesRights}
use Rattle.run_rights.proofs.HolderCells.{cells_count, cells_spared, grant_spared, other_spared}
use Rattle.run_rights.proofs.ShareReads.{AddsRead, adds_once, adds_read_once, adds_takes, idle_quiet, rights_go, taking_goes, tells_quiet}
use Rattle.run_rights.proofs.Spared.{quiet_spared, spared}

-- ---- a share

-- of one holder, or of another one, or in another counter
record IsSameShare (name : List ℕ) (holder : ℕ) (share : Share) : Type 0 where
  named : share.name ≡ name
  held : share.holder ≡ holder

same_share : (name : List ℕ) (holder : ℕ) (share : Share) → IsSameShare name holder share ⊎ (share.name ≡ name → share.holder ≡ holder → ⊥)
same_share name holder share = go (same_object (counter_of share.name) (counter_of name)) refl (share.holder == holder) refl
  where
    go : (b : Bool) → same_object (counter_of share.name) (counter_of name) ≡ b → (c : Bool) → (share.holder == holder) ≡ c → IsSameShare name holder share ⊎ (share.name ≡ name → share.holder ≡ holder → ⊥)
    go true named true held = inl (record { named = ap (λ (o : ObjectId). o.name) (same_object-true (counter_of share.name) (counter_of name) named); held = eqb-true share.holder holder held })
    go true named false other = inr (λ is same. false≢true (sym other ∙ eq-eqb share.holder holder same))
    go false other c held = inr (λ is same. false≢true (sym other ∙ same_object-same (counter_of share.name) (counter_of name) (ap counter_of is)))

-- ---- a step

module _ (name : List ℕ) (holder holders client : ℕ) where
  abbrev gains : List ObjectId
  gains = gain_cells name holder holders

  abbrev losses : List ObjectId
  losses = loss_cells name holder holders

  abbrev Is : List Deed → Type 0
  Is deeds = StepIs client holder gains losses deeds

  -- quiet deeds
  quiet_is : (deeds : List Deed) → All IsQuiet deeds → Is deeds
  quiet_is deeds quiet = inl (quiet_spared (gains ++ losses) deeds quiet)

  -- a grant
  grant_is : (p : Progress) (share : Share) (amount : ℕ) (deeds : List Deed) → IsShare share → deeds ≡ calls_on p.client (cell_inc step.Grant share (cell_to share share.holder) amount) → Is deeds
  grant_is p share amount deeds is are = inr (inl (record {
    adds = adds_once p.client step.Grant share (cell_to share share.holder) amount [] deeds (All-nil IsQuiet) are;
    other = grant_spared name holder holders share.name share.holder is.holder.low;
  }))

  -- an amount that is added to a cell of the holder's own share is taken from it
  own_takes : (word : StepWord) (share : Share) (to amount : ℕ) (deeds : List Deed) → share.holder ≡ client → share.holders ≡ holders → IsSameShare name holder share → AddsRead share word to amount deeds → TakesRights client holder gains losses deeds
  own_takes word share to amount deeds own as_many same adds =
      subst (λ cells. TakesRights client holder gains cells deeds) (λ i. loss_cells (same.named i) (same.held i) (as_many i))
      (subst (λ cells. TakesRights client holder cells (loss_cells share.name share.holder share.holders) deeds) (λ i. gain_cells (same.named i) (same.held i) (as_many i))
      (adds_takes share client holder word to amount deeds (sym own ∙ same.held) adds))

  -- one that is added to a cell of another share is not
  other_pays : (word : StepWord) (share : Share) (to amount : ℕ) (deeds : List Deed) → (share.name ≡ name → share.holder ≡ holder → ⊥) → AddsRead share word to amount deeds → Pays losses deeds
  other_pays word share to amount deeds differs adds = record {
    adds = adds_read_once share word to amount deeds adds;
    other = other_spared name holder holders share.name share.holder to differs;
  }

  -- a step that takes or gives
  taking_is : (p : Progress) (word : StepWord) (share : Share) (to amount : ℕ) (deeds : List Deed) → share.holder ≡ client → share.holders ≡ holders → TakingDeeds p word share to amount deeds → Is deeds
  taking_is p word share to amount deeds own as_many are =
      ⊎_elim (λ idle. quiet_is deeds (idle_quiet deeds idle)) (λ read. ⊎_elim (λ t. quiet_is deeds (tells_quiet share p.client.client deeds t)) added read) (taking_goes share word to amount p deeds are)
    where
      added : AddsRead share word to amount deeds → Is deeds
      added adds = inr (⊎_elim (λ same. inr (own_takes word share to amount deeds own as_many same adds)) (λ differs. inl (other_pays word share to amount deeds differs adds)) (same_share name holder share))

  -- each step
  pub step_is : (n clients : ℕ) (p : Progress) (does : ClientStep) (deeds : List Deed) → holders_of clients ≡ holders → IsStep n does → IsOwn clients client does → StepDeeds p does deeds → Is deeds
  step_is n clients p (Change o change) deeds as_many is own are = inl (spared (gains ++ losses) p (Change o change) deeds (cells_spared name holder holders o change is.0 is.3) are)
  step_is n clients p (Grant share amount) deeds as_many is own are = grant_is p share amount deeds is.0 are
  step_is n clients p (Give share to amount) deeds as_many is own are = taking_is p step.Give share to amount deeds own.0 (own.1 ∙ as_many) are
  step_is n clients p (Take share amount) deeds as_many is own are = taking_is p step.Take share 0 amount deeds own.0 (own.1 ∙ as_many) are
  step_is n clients p (Rights share) deeds as_many is own are = ⊎_elim (λ idle. quiet_is deeds (idle_quiet deeds idle)) (λ t. quiet_is deeds (tells_quiet share p.client.client deeds t)) (rights_go share p deeds are)
  step_is n clients p does deeds as_many is own are = inl (spared (gains ++ losses) p does deeds tt are)

-- ---- the steps of a script

-- each step of a section in range is one that it may have
in_section : (script : Script) (section : Section) (step : Step) → IsSection (header_of script) section → In step section.steps → IsStepOf (header_of script) step
in_section script section step sound there = ⊎_elim
    (λ (line : IsLine (header_of script) section). ⊎_elim
    (λ same. subst (IsStepOf (header_of script)) (sym same) line.2)
    (λ none. absurd none)
    (subst (λ (s : Section). In step s.steps) line.1 there))
    (λ (phase : IsPhase (header_of script) section). (All-In (λ step. IsStepOf (header_of script) step × IsInPhase step) section.steps step phase.steps there).0)
    sound

-- so is each step of a script in range
pub in_script : (script : Script) (step : Step) → IsInRange script → In step (all_steps script) → IsStepOf (header_of script) step
in_script script step range there =
    let of = In_from_flat_map (λ (section : Section). section.steps) script.sections step there in
    in_section script of.0 step (All-In (IsSection (header_of script)) script.sections of.0 range.sections of.1) of.2

-- a log of steps is one of steps of which less is said
steps_weaker : (P Q : List Deed → Type 0) (notes : List Note) → ((deeds : List Deed) → P deeds → Q deeds) → InSteps P notes → InSteps Q notes
steps_weaker P Q _ each no_steps = no_steps
steps_weaker P Q notes each (next_step mine later whole such rest) = next_step mine later whole (each (deeds_of mine) such) (steps_weaker P Q later each rest)

-- the log of a client is that of its steps, one after another
pub play_chain : (script : Script) (b : Book) (a : ℕ) → IsPlayOf script b → IsClient (setup_of script) a → InSteps (AreStepDeeds script (a - 1)) (notes_of b a)
play_chain script b a plays client = ⊎_elim (λ steps. chain b script a steps client) (λ steps. section_chain b script a steps client) plays.steps

-- and to the cells of a holder each of these is of a kind that leaves its rights at least 0
pub goes_by_steps : (script : Script) (b : Book) (name : List ℕ) (holder : ℕ) → IsPlayOf script b → GoesBySteps b (setup_of script) holder (holder_gains script name holder) (holder_losses script name holder)
goes_by_steps script b name holder plays = record {
  counters = cells_count name holder (holders_of script.clients);
  steps = λ a client. steps_weaker (AreStepDeeds script (a - 1)) (StepIs (a - 1) holder (holder_gains script name holder) (holder_losses script name holder)) (notes_of b a) (each (a - 1)) (play_chain script b a plays client);
}
  where
    each : (client : ℕ) (deeds : List Deed) → AreStepDeeds script client deeds → StepIs client holder (holder_gains script name holder) (holder_losses script name holder) deeds
    each client deeds are =
        let is = in_script script (Client client are.does) plays.ranged are.theirs in
        step_is name holder (holders_of script.clients) client script.n script.clients are.come are.does deeds refl is.1 is.2 are.such
