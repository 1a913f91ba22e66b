-- What the bytes of a journal stand for.
use Rattle.std.specs.Prelude.{◌≡◌, ◌≢◌, ◌⊎◌, ℕ, List, [], ◌∷◌, ◌++◌, length}
use Rattle.journal_disk.specs.declared.disk.Moment.{Moment}
use Rattle.journal_disk.specs.Disk.{seen, MayLeave, IsSettled}

module _ {T : Type 0} (spelled : T → List ℕ) where
  -- these bytes are the entries of these items, each behind an open gate
  abbrev pub Entries : List T → List ℕ → Type 0
  Entries [] bytes = bytes ≡ []
  Entries (x ∷ xs) bytes = (gate : ℕ) × ((rest : List ℕ) × ((gate ≢ 0) × ((bytes ≡ gate ∷ (spelled x ++ rest)) × Entries xs rest)))

  -- the file stands for these items: their entries, a closed gate at this place, and anything behind it
  pub record EndsAt (xs : List T) (end : ℕ) (file : List ℕ) : Type 0 where
    pub front : List ℕ
    pub tail : List ℕ
    pub entries : Entries xs front
    pub file_is : file ≡ front ++ 0 ∷ tail
    pub place : end ≡ length front

  -- the same at some place
  abbrev pub FileOf : List T → List ℕ → Type 0
  FileOf xs file = (end : ℕ) × EndsAt xs end file

  -- the file stands for these items or for those
  abbrev pub IsEither : List T → List T → List ℕ → Type 0
  IsEither xs ys file = (FileOf xs file) ⊎ (FileOf ys file)

  -- the file is one that a crash might have left before, or stands for these items
  abbrev pub Found : List T → List Moment → List ℕ → Type 0
  Found xs h file = (MayLeave h file) ⊎ (FileOf xs file)

  -- the bytes of entries behind gates that are open
  abbrev pub opened : List T → List ℕ
  opened [] = []
  opened (x ∷ xs) = 1 ∷ (spelled x ++ opened xs)

  -- the history ends with a settled file that is the entries of these items and a closed gate at this place
  pub record IsAt (end : ℕ) (h : List Moment) (xs : List T) : Type 0 where
    pub settled : IsSettled h
    pub front : List ℕ
    pub entries : Entries xs front
    pub file_is : seen h ≡ front ++ 0 ∷ []
    pub place : end ≡ length front

module _ {T : Type 0} (spelled : T → List ℕ) where
  -- the first gate that is bad stands at this place: the entries of some items are before it, and the file ends there,
  -- or it is open and no item stands behind it
  pub record IsBadAt (place : ℕ) (file : List ℕ) : Type 0 where
    pub items : List T
    pub front : List ℕ
    pub rest : List ℕ
    pub entries : Entries spelled items front
    pub file_is : file ≡ front ++ rest
    pub at : place ≡ length front
    pub bad : (rest ≡ []) ⊎ ((gate : ℕ) × ((behind : List ℕ) × ((rest ≡ gate ∷ behind) × ((gate ≢ 0) × ((x : T) (more : List ℕ) → behind ≡ spelled x ++ more → ⊥)))))

-- a closed gate stands behind the front, or some gate with these bytes behind it
abbrev pub Published : List ℕ → List ℕ → List ℕ → Type 0
Published front body file = ((tail : List ℕ) × (file ≡ front ++ 0 ∷ tail)) ⊎ ((gate : ℕ) × (file ≡ front ++ gate ∷ body))

-- the file with some first gate, or a closed one and anything behind it
abbrev pub IsWiped : List ℕ → List ℕ → Type 0
IsWiped rest file = ((gate : ℕ) × (file ≡ gate ∷ rest)) ⊎ ((tail : List ℕ) × (file ≡ 0 ∷ tail))
