-- The cells of a holder and its rights, by the definitions alone.
use Rattle.std.proofs.Common.{◌≡◌, pos, [], ◌∷◌, refl}
use Rattle.std.specs.Prelude.{codes}
use Rattle.obj_bounded.specs.CellNames.{cell_names}
use Rattle.obj_bounded.specs.HolderRights.{rights_of}

-- holder 2 among 3: the counters c.bc_x_1_2 to c.bc_x_3_2 count for it, and the others against it
second_of_three : cell_names (codes "x") 2 3 ≡ codes "bc_x_1_2" ∷ codes "bc_x_2_2" ∷ codes "bc_x_3_2" ∷ codes "bc_x_2_1" ∷ codes "bc_x_2_3" ∷ codes "bc_x_2_0" ∷ []
second_of_three = refl

-- it was granted 10, and got 1 from holder 1; it gave 2 to holder 3, and took 4
its_rights : rights_of 3 (pos 1 ∷ pos 10 ∷ pos 0 ∷ pos 0 ∷ pos 2 ∷ pos 4 ∷ []) ≡ pos 5
its_rights = refl

-- alone it has what it was granted, less what it took
alone : cell_names (codes "x") 1 1 ≡ codes "bc_x_1_1" ∷ codes "bc_x_1_0" ∷ []
alone = refl
