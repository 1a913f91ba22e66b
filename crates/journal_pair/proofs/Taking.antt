-- Entries of a generation, and entries that are none.
use Rattle.std.proofs.Common.{◌≡◌, ◌<◌, ◌&&◌, ℕ, Bool, true, false, not, List, [], ◌∷◌, ◌++◌, length, map, drop, refl, sym, ◌∙◌, ap, arith, append_assoc, length-append}
use Rattle.std.proofs.lemmas.List.{map-append}
use Rattle.journal_file.specs.Journal.{Entries, opened}
use Rattle.journal_file.proofs.Items.{opened-push}
use Rattle.journal_pair.specs.declared.mark.Mark.{Mark}
use Rattle.journal_pair.specs.declared.entry.Entry.{Entry}
use Rattle.journal_pair.specs.declared.entry.Entry.TheVariants.{Generation, Kept, Behind}
use Rattle.journal_pair.specs.Entries.{entry_bytes, generation}

module _ {T : Type 0} where
  -- items of a checkpoint, and then items behind it; late: no more of a checkpoint
  abbrev fits : Bool → List (Entry T) → Bool
  fits late [] = true
  fits late (Generation m ∷ xs) = false
  fits late (Kept x ∷ xs) = not late && fits late xs
  fits late (Behind x ∷ xs) = fits true xs

  fits_behind : (late : Bool) (behind : List T) → fits late (map Behind behind) ≡ true
  fits_behind late [] = refl
  fits_behind late (x ∷ behind) = fits_behind true behind

  fits_all : (checkpoint behind : List T) → fits false (map Kept checkpoint ++ map Behind behind) ≡ true
  fits_all [] behind = fits_behind false behind
  fits_all (x ∷ checkpoint) behind = fits_all checkpoint behind

  -- a second number
  second_behind : (late : Bool) (behind : List T) (mark : Mark) (rest : List (Entry T)) → fits late (map Behind behind ++ Generation mark ∷ rest) ≡ false
  second_behind late [] mark rest = refl
  second_behind late (x ∷ behind) mark rest = second_behind true behind mark rest

  pub second : (checkpoint behind : List T) (mark : Mark) (rest : List (Entry T)) → fits false ((map Kept checkpoint ++ map Behind behind) ++ Generation mark ∷ rest) ≡ false
  second [] behind mark rest = second_behind false behind mark rest
  second (x ∷ checkpoint) behind mark rest = second checkpoint behind mark rest

  -- an item of the checkpoint that stands behind it
  misplaced_behind : (behind : List T) (item : T) (rest : List (Entry T)) → fits true (map Behind behind ++ Kept item ∷ rest) ≡ false
  misplaced_behind [] item rest = refl
  misplaced_behind (x ∷ behind) item rest = misplaced_behind behind item rest

  pub misplaced : (checkpoint behind : List T) (item : T) (rest : List (Entry T)) → 0 < length behind → fits false ((map Kept checkpoint ++ map Behind behind) ++ Kept item ∷ rest) ≡ false
  misplaced [] [] item rest some = absurd (omega (arith, some))
  misplaced [] (x ∷ behind) item rest some = misplaced_behind behind item rest
  misplaced (x ∷ checkpoint) behind item rest some = misplaced checkpoint behind item rest some

  pub no_generation : (first : Mark) (xs entries : List (Entry T)) → entries ≡ Generation first ∷ xs → fits false xs ≡ false → (mark : Mark) (checkpoint behind : List T) → entries ≡ generation mark checkpoint behind → ⊥
  no_generation first xs entries begins bad mark checkpoint behind is =
      let same : xs ≡ map Kept checkpoint ++ map Behind behind = ap (drop 1) (sym begins ∙ is) in
      cc (sym bad ∙ ap (fits false) same ∙ fits_all checkpoint behind)

  -- ---- one generation

  abbrev mark_in : Mark → List (Entry T) → Mark
  mark_in d [] = d
  mark_in d (Generation m ∷ xs) = m
  mark_in d (_ ∷ xs) = d

  abbrev kept_in : List (Entry T) → List T
  kept_in [] = []
  kept_in (Generation m ∷ xs) = kept_in xs
  kept_in (Kept x ∷ xs) = x ∷ kept_in xs
  kept_in (Behind x ∷ xs) = kept_in xs

  abbrev behind_in : List (Entry T) → List T
  behind_in [] = []
  behind_in (Generation m ∷ xs) = behind_in xs
  behind_in (Kept x ∷ xs) = behind_in xs
  behind_in (Behind x ∷ xs) = x ∷ behind_in xs

  none_kept : (behind : List T) → kept_in (map Behind behind) ≡ []
  none_kept [] = refl
  none_kept (x ∷ behind) = none_kept behind

  kept_of : (checkpoint behind : List T) → kept_in (map Kept checkpoint ++ map Behind behind) ≡ checkpoint
  kept_of [] behind = none_kept behind
  kept_of (x ∷ checkpoint) behind = ap (λ l. x ∷ l) (kept_of checkpoint behind)

  all_behind : (behind : List T) → behind_in (map Behind behind) ≡ behind
  all_behind [] = refl
  all_behind (x ∷ behind) = ap (λ l. x ∷ l) (all_behind behind)

  behind_of : (checkpoint behind : List T) → behind_in (map Kept checkpoint ++ map Behind behind) ≡ behind
  behind_of [] behind = all_behind behind
  behind_of (x ∷ checkpoint) behind = behind_of checkpoint behind

  -- entries are a generation in one way
  pub record AreOne (m n : Mark) (checkpoint behind kept later : List T) : Type 0 where
    pub mark : m ≡ n
    pub checkpoints : checkpoint ≡ kept
    pub behinds : behind ≡ later

  pub one_generation : (m n : Mark) (checkpoint behind kept later : List T) → generation m checkpoint behind ≡ generation n kept later → AreOne m n checkpoint behind kept later
  one_generation m n checkpoint behind kept later same = record {
    mark = ap (mark_in m) same;
    checkpoints = sym (kept_of checkpoint behind) ∙ ap kept_in same ∙ kept_of kept later;
    behinds = sym (behind_of checkpoint behind) ∙ ap behind_in same ∙ behind_of kept later;
  }

  -- items behind a generation
  pub generation_more : (mark : Mark) (checkpoint behind items : List T) → generation mark checkpoint behind ++ map Behind items ≡ generation mark checkpoint (behind ++ items)
  generation_more mark checkpoint behind items =
      ap (λ l. Generation mark ∷ l) (append_assoc (map Kept checkpoint) (map Behind behind) (map Behind items) ∙ ap (λ l. map Kept checkpoint ++ l) (sym (map-append Behind behind items)))

  module _ (spelled : T → List ℕ) where
    -- one more item of a checkpoint
    pub opened_kept : (done : List T) (item : T) → opened (entry_bytes spelled) (map Kept (done ++ item ∷ [])) ≡ (opened (entry_bytes spelled) (map Kept done) ++ 1 ∷ []) ++ (1 ∷ []) ++ spelled item
    opened_kept done item =
        let sp : Entry T → List ℕ = entry_bytes spelled in
        let all = opened sp (map Kept done) in
        ap (opened sp) (map-append Kept done (item ∷ [])) ∙ opened-push sp (map Kept done) (Kept item) ∙ sym (append_assoc (all ++ 1 ∷ []) (1 ∷ []) (spelled item))

module _ {X : Type 0} (spelled : X → List ℕ) where
  -- how long entries are, whatever their gates
  pub entries_length : (xs : List X) (front : List ℕ) → Entries spelled xs front → length front ≡ length (opened spelled xs)
  entries_length [] front none = ap length none
  entries_length (x ∷ xs) front some =
      let rest = some.1.0 in
      let tail : length rest ≡ length (opened spelled xs) = entries_length xs rest some.1.1.1.1 in
      let whole : length front ≡ length (some.0 ∷ (spelled x ++ rest)) = ap length some.1.1.1.0 in
      omega (arith, whole, tail, length-append (spelled x) rest, length-append (spelled x) (opened spelled xs))

  pub opened_append : (xs ys : List X) → opened spelled (xs ++ ys) ≡ opened spelled xs ++ opened spelled ys
  opened_append [] ys = refl
  opened_append (x ∷ xs) ys = ap (λ l. 1 ∷ (spelled x ++ l)) (opened_append xs ys) ∙ ap (λ l. 1 ∷ l) (sym (append_assoc (spelled x) (opened spelled xs) (opened spelled ys)))
