-- What follows the reads of a share's cells: the change of a cell, or a line.
use Rattle.std.proofs.Common.{◌≡◌, ℕ, ℤ, pos, true, false, List, Some, None, refl, sym, ap, ◌∙◌}
use Rattle.std.specs.Prelude.{int_lt}
use Rattle.dc_talk.specs.declared.line.StepWord.{StepWord}
use Rattle.dc_talk.specs.declared.line.StepWord.TheVariants as step
use Rattle.dc_talk.specs.declared.line.Line.TheVariants as line
use Rattle.dc_talk.specs.Acting.{noted_all}
use Rattle.dc_talk.specs.Logs.{Logged}
use Rattle.script_core.specs.declared.steps.Share.{Share}
use Rattle.script_core.specs.Deeds.{AddsOwned, RightsDeeds, TakingDeeds, TellsRights, calls_on, cell_inc, cell_to, counter_of_share, rights_got, told}
use Rattle.client_stub.specs.Playing.{Playing, progress}
use Rattle.client_stub.specs.Errands.{GrowsBy}
use Rattle.client_stub.specs.BoundedSteps.{HasRead}
use Rattle.client_stub.proofs.CellReads.{cells_end, cells_then}
use Rattle.client_stub.proofs.Stepping.{grows_line}

-- ---- changes

-- the change, where the rights are as much as the amount
pub owned_adds : (p q : Playing) (word : StepWord) (share : Share) (to amount : ℕ) (rights : ℤ) (numbers : List ℤ) → rights ≡ rights_got share numbers → int_lt rights (pos amount) ≡ false → GrowsBy (λ deeds. deeds ≡ calls_on p.client (cell_inc word share (cell_to share to) amount)) p q → GrowsBy (AddsOwned word share to amount numbers (progress p)) p q
owned_adds p q word share to amount rights numbers is enough by =
    let test : int_lt (rights_got share numbers) (pos amount) ≡ false = ap (λ rights. int_lt rights (pos amount)) (sym is) ∙ enough in
    record { deeds = by.deeds; such = rw test by.such; grows = by.grows; armed = by.armed }

-- the line, where they are less
pub short_tells : (p : Playing) (later : Logged) (word : StepWord) (share : Share) (to amount client : ℕ) (rights : ℤ) (numbers : List ℤ) → rights ≡ rights_got share numbers → int_lt rights (pos amount) ≡ true → client ≡ p.client.client → later ≡ noted_all p.log (told (Some (line.Short client word (counter_of_share share) rights))) → GrowsBy (AddsOwned word share to amount numbers (progress p)) p (record p { log = later })
short_tells p later word share to amount client rights numbers is less same noted =
    let test : int_lt (rights_got share numbers) (pos amount) ≡ true = ap (λ rights. int_lt rights (pos amount)) (sym is) ∙ less in
    let object = counter_of_share share in
    grows_line (AddsOwned word share to amount numbers (progress p)) p later (line.Short client word object rights) (line.Short p.client.client word object (rights_got share numbers)) noted
    (ap (λ n. line.Short n word object rights) same ∙ ap (line.Short p.client.client word object) is)
    (rw test refl)

-- ---- whole steps

-- a step that takes an amount or gives it, where each read gave a number
pub taking : (p q r : Playing) (word : StepWord) (share : Share) (to amount : ℕ) (rights : ℤ) → HasRead word share (Some rights) p q → ((numbers : List ℤ) → rights ≡ rights_got share numbers → GrowsBy (AddsOwned word share to amount numbers (progress q)) q r) → GrowsBy (TakingDeeds (progress p) word share to amount) p r
taking p q r word share to amount rights reads adds =
    cells_then word share (AddsOwned word share to amount) p q r (AddsOwned word share to amount reads.0 (progress q)) reads.0 reads.2 (λ deeds such. such) (adds reads.0 reads.1)

-- and where one did not
pub taking_ends : (p q : Playing) (word : StepWord) (share : Share) (to amount : ℕ) → HasRead word share None p q → GrowsBy (TakingDeeds (progress p) word share to amount) p q
taking_ends p q word share to amount reads = cells_end word share (AddsOwned word share to amount) p q reads

-- a step that tells the rights, where each read gave a number
pub rights_told : (p q : Playing) (later : Logged) (share : Share) (rights : ℤ) (client : ℕ) → HasRead step.Rights share (Some rights) p q → client ≡ q.client.client → later ≡ noted_all q.log (told (Some (line.RightsValue client (counter_of_share share) rights))) → GrowsBy (RightsDeeds (progress p) share) p (record q { log = later })
rights_told p q later share rights client reads same noted =
    let object = counter_of_share share in
    let r : Playing = record q { log = later } in
    cells_then step.Rights share (TellsRights share) p q r (TellsRights share reads.0 (progress q)) reads.0 reads.2 (λ deeds such. such)
    (grows_line (TellsRights share reads.0 (progress q)) q later (line.RightsValue client object rights) (line.RightsValue q.client.client object (rights_got share reads.0)) noted
    (ap (λ n. line.RightsValue n object rights) same ∙ ap (line.RightsValue q.client.client object) reads.1)
    refl)

-- and where one did not
pub rights_end : (p q : Playing) (share : Share) → HasRead step.Rights share None p q → GrowsBy (RightsDeeds (progress p) share) p q
rights_end p q share reads = cells_end step.Rights share (TellsRights share) p q reads
