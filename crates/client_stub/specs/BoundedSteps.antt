-- What the steps of bounded counters add to cells, and what their reads of cells get.
use Rattle.std.specs.Prelude.{◌≡◌, ◌≤◌, ℤ, List, [], ◌∷◌, ◌++◌, Option, Some, None}
use Rattle.ids_core.specs.declared.object.ObjectId.{ObjectId}
use Rattle.obj_bounded.specs.declared.cell_names.TheConstants.{MOST_HOLDERS}
use Rattle.dc_talk.specs.declared.line.StepWord.{StepWord}
use Rattle.dc_talk.specs.declared.log.Deed.{Deed}
use Rattle.dc_talk.specs.Calls.{outcome_of}
use Rattle.script_core.specs.declared.object_call.ObjectCall.{ObjectCall}
use Rattle.script_core.specs.declared.steps.Share.{Share}
use Rattle.script_core.specs.Deeds.{CallDeeds, CellsDeeds, Progress, behind, cell_read, last_number, rights_got, share_cells}
use Rattle.script_core.specs.Steps.{IsAmount, IsShare}
use Rattle.client_stub.specs.declared.bounded.Adding.{Adding}
use Rattle.client_stub.specs.Playing.{Playing, progress}
use Rattle.client_stub.specs.Errands.{GrowsBy}

-- the cell to which it is added is there, and the amount is in range
pub record IsAdding (adding : Adding) : Type 0 where
  pub share : IsShare adding.share
  pub to : adding.to ≤ MOST_HOLDERS
  pub amount : IsAmount adding.amount

-- ---- reads of cells

-- a call on an object, with the number that it read, where it did
pub record GetsNumber (p : Progress) (c : ObjectCall) (number : Option ℤ) (deeds : List Deed) : Type 0 where
  pub such : CallDeeds p c (outcome_of p.client c.call) deeds
  pub got : number ≡ last_number deeds

-- a call that reads a number, and what follows it
pub record GetsOn (p : Progress) (c : ObjectCall) (Follows : ℤ → Progress → List Deed → Type 0) (deeds : List Deed) : Type 0 where
  pub number : ℤ
  pub first : List Deed
  pub later : List Deed
  pub whole : deeds ≡ first ++ later
  pub gets : GetsNumber p c (Some number) first
  pub follows : Follows number (behind p first) later

-- reads of cells, one after another, behind those that gave these numbers: with what each of them gave the numbers are
-- all that were got
abbrev pub ReadsAll : StepWord → Share → List ℤ → List ObjectId → List ℤ → Progress → List Deed → Type 0
ReadsAll word share got [] numbers p deeds = (got ≡ numbers) × (deeds ≡ [])
ReadsAll word share got (cell ∷ cells) numbers p deeds = GetsOn p (cell_read word share cell) (λ number q later. ReadsAll word share got cells (numbers ++ number ∷ []) q later) deeds

-- reads of cells of which one gives no number, and is the last
abbrev pub EndsEarly : StepWord → Share → List ObjectId → List ℤ → Progress → List Deed → Type 0
EndsEarly word share cells numbers p deeds = CellsDeeds word share (λ numbers q later. ⊥) cells numbers p deeds

-- the cells of a share were read, by the numbers that this gave, where each read gave one
abbrev pub HasReadCells : StepWord → Share → Option (List ℤ) → Playing → Playing → Type 0
HasReadCells word share (Some numbers) old new = GrowsBy (ReadsAll word share numbers (share_cells share) [] (progress old)) old new
HasReadCells word share None old new = GrowsBy (EndsEarly word share (share_cells share) [] (progress old)) old new

-- the same, by the rights that the numbers come to
abbrev pub HasRead : StepWord → Share → Option ℤ → Playing → Playing → Type 0
HasRead word share (Some rights) old new = (numbers : List ℤ) × (rights ≡ rights_got share numbers) × HasReadCells word share (Some numbers) old new
HasRead word share None old new = HasReadCells word share None old new
