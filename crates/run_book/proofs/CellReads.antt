-- What holds of reads of cells of bounded counters, one after another, and of what follows them.
use Rattle.std.proofs.Common.{ℤ, inl, inr, List, [], ◌∷◌, ◌++◌, Option, Some, None, refl, sym, subst}
use Rattle.list_core.specs.Members.{In}
use Rattle.ids_core.specs.declared.object.ObjectId.{ObjectId}
use Rattle.dc_talk.specs.declared.calls.Call.TheVariants.{Read}
use Rattle.dc_talk.specs.declared.log.Deed.{Deed}
use Rattle.dc_talk.specs.declared.line.StepWord.{StepWord}
use Rattle.dc_talk.specs.Calls.{outcome_of}
use Rattle.script_core.specs.declared.steps.Share.{Share}
use Rattle.script_core.specs.Deeds.{Progress, CallDeeds, FollowsRead, CellsDeeds, behind, cell_read, last_number}

module _ (Keeps : Progress → Type 0) (P : List Deed → Type 0) (none : P []) (both : (first later : List Deed) → P first → P later → P (first ++ later)) where
  -- what follows a read
  follows_hold : (found : Option ℤ) (Follows : ℤ → List Deed → Type 0) (later : List Deed) → ((number : ℤ) → Follows number later → P later) → FollowsRead found Follows later → P later
  follows_hold None Follows later each nothing = subst P (sym nothing) none
  follows_hold (Some number) Follows later each follows = each number follows

  -- reads of cells, each of which leaves what has to hold of the client, and what follows the last one
  pub cells_hold : (word : StepWord) (share : Share) (Follows : List ℤ → Progress → List Deed → Type 0) → ((numbers : List ℤ) (q : Progress) (later : List Deed) → Keeps q → Follows numbers q later → P later)
      → (cells : List ObjectId) → ((cell : ObjectId) (q : Progress) (first : List Deed) → In cell cells → Keeps q → CallDeeds q (cell_read word share cell) (outcome_of q.client (Read cell)) first → P first × Keeps (behind q first))
      → (numbers : List ℤ) (p : Progress) (deeds : List Deed) → Keeps p → CellsDeeds word share Follows cells numbers p deeds → P deeds
  cells_hold word share Follows each [] reads numbers p deeds keeps follows = each numbers p deeds keeps follows
  cells_hold word share Follows each (cell ∷ cells) reads numbers p deeds keeps r =
      let q : Progress = behind p r.first in
      let here : P r.first × Keeps q = reads cell p r.first (inl refl) keeps r.reads in
      subst P (sym r.whole) (both r.first r.later here.0
      (follows_hold (last_number r.first) (λ number. CellsDeeds word share Follows cells (numbers ++ number ∷ []) q) r.later
      (λ number rest. cells_hold word share Follows each cells (λ other q first i. reads other q first (inr i)) (numbers ++ number ∷ []) q r.later here.1 rest) r.follows))
