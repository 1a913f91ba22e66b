-- The entries of a file of a generation.
use Rattle.std.specs.Prelude.{◌≡◌, ◌<◌, ◌⊎◌, ℕ, List, [], ◌∷◌, ◌++◌, map}
use Rattle.journal_pair.specs.declared.mark.Mark.{Mark}
use Rattle.journal_pair.specs.declared.entry.Entry.{Entry}
use Rattle.journal_pair.specs.declared.entry.Entry.TheVariants.{Generation, Kept, Behind}
use Rattle.journal_pair.specs.Marks.{number_of, mark_bytes}

module _ {T : Type 0} where
  -- a tag and what stands behind it: the number of the generation, an item of its checkpoint, or one behind that
  abbrev pub entry_bytes : (T → List ℕ) → Entry T → List ℕ
  entry_bytes spelled (Generation mark) = 0 ∷ mark_bytes mark
  entry_bytes spelled (Kept x) = 1 ∷ spelled x
  entry_bytes spelled (Behind x) = 2 ∷ spelled x

  -- a generation: its number, its checkpoint, and the items behind that
  abbrev pub generation : Mark → List T → List T → List (Entry T)
  generation mark checkpoint behind = Generation mark ∷ (map Kept checkpoint ++ map Behind behind)

  -- no entries, or those of an earlier generation
  abbrev pub IsBefore : Mark → List (Entry T) → Type 0
  IsBefore mark entries = (entries ≡ []) ⊎ ((older : Mark) × ((checkpoint : List T) × ((behind : List T) × ((number_of older < number_of mark) × (entries ≡ generation older checkpoint behind)))))

  -- the one file has a generation with this checkpoint and these items behind, and the other one before it or none
  abbrev pub ArePair : List T → List T → List (Entry T) → List (Entry T) → Type 0
  ArePair checkpoint behind xs ys = (mark : Mark) × (((xs ≡ generation mark checkpoint behind) × IsBefore mark ys) ⊎ ((ys ≡ generation mark checkpoint behind) × IsBefore mark xs))
