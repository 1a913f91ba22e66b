-- Which of two lists of entries goes on, and why neither does.
use Rattle.std.specs.Prelude.{◌≡◌, List, []}
use Rattle.journal_pair.specs.declared.mark.Mark.{Mark}
use Rattle.journal_pair.specs.declared.entry.Entry.{Entry}
use Rattle.journal_pair.specs.declared.faults.Side.{Side}
use Rattle.journal_pair.specs.declared.faults.Side.TheVariants.{First, Second}
use Rattle.journal_pair.specs.declared.faults.PairFault.{PairFault}
use Rattle.journal_pair.specs.declared.faults.PairFault.TheVariants.{File, Mixed, Empty, Same, NoMemory}
use Rattle.journal_pair.specs.Entries.{generation, IsBefore}

-- the one of this side
abbrev pub at_side : {X : Type 0} → Side → X → X → X
at_side First x y = x
at_side Second x y = y

-- the one of the other side
abbrev pub beside : {X : Type 0} → Side → X → X → X
beside First x y = y
beside Second x y = x

module _ {T : Type 0} where
  -- there are entries, and they are no generation
  pub record IsMixed (entries : List (Entry T)) : Type 0 where
    pub some : entries ≡ [] → ⊥
    pub none : (mark : Mark) (checkpoint behind : List T) → entries ≡ generation mark checkpoint behind → ⊥

  -- the entries of this side are this generation, and those of the other one are before it
  pub record IsChosen (side : Side) (mark : Mark) (checkpoint behind : List T) (xs ys : List (Entry T)) : Type 0 where
    pub live : at_side side xs ys ≡ generation mark checkpoint behind
    pub other : IsBefore mark (beside side xs ys)

  -- both are a generation of one number
  pub record AreSame (xs ys : List (Entry T)) : Type 0 where
    pub mark : Mark
    pub first_checkpoint : List T
    pub first_behind : List T
    pub second_checkpoint : List T
    pub second_behind : List T
    pub first : xs ≡ generation mark first_checkpoint first_behind
    pub second : ys ≡ generation mark second_checkpoint second_behind

  -- the cause of a fault in the entries of two files
  abbrev pub HasFault : PairFault → List (Entry T) → List (Entry T) → Type 0
  HasFault (File side why) xs ys = ⊥
  HasFault (Mixed side) xs ys = IsMixed (at_side side xs ys)
  HasFault Empty xs ys = (xs ≡ []) × (ys ≡ [])
  HasFault Same xs ys = AreSame xs ys
  HasFault NoMemory xs ys = Unit {0}
