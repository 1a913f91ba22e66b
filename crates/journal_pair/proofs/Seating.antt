-- A pair goes on with the later of two generations, and what is no pair is told.
use Rattle.std.proofs.Common.{◌≡◌, ◌<◌, ◌+◌, ◌⊎◌, inl, inr, ℕ, List, [], ◌∷◌, refl, sym, ◌∙◌, ap, subst, arith}
use Rattle.journal_disk.specs.declared.disk.Moment.{Moment}
use Rattle.journal_disk.specs.declared.disk.Disk.{Ghosts}
use Rattle.journal_disk.specs.Disk.{seen, IsSettled, Ran}
use Rattle.journal_file.specs.declared.journal.Journal.{Journal}
use Rattle.journal_file.specs.declared.faults.OpenFault.{OpenFault}
use Rattle.journal_file.specs.declared.faults.OpenFault.TheVariants.{Disk as FileDisk, NoMemory as FileNoMemory, Bad}
use Rattle.journal_file.specs.Journal.{IsAt, Found, IsBadAt}
use Rattle.journal_pair.specs.declared.mark.Mark.{Mark}
use Rattle.journal_pair.specs.declared.entry.Entry.{Entry}
use Rattle.journal_pair.specs.declared.pair.Pair.{Pair}
use Rattle.journal_pair.specs.declared.faults.Side.{Side}
use Rattle.journal_pair.specs.declared.faults.Side.TheVariants.{First, Second}
use Rattle.journal_pair.specs.declared.faults.PairFault.{PairFault}
use Rattle.journal_pair.specs.declared.faults.PairFault.TheVariants.{File, Mixed, Empty, Same, NoMemory}
use Rattle.journal_pair.specs.Marks.{number_of}
use Rattle.journal_pair.specs.Entries.{entry_bytes, generation, IsBefore, ArePair}
use Rattle.journal_pair.specs.Choices.{at_side, beside, IsMixed, IsChosen, AreSame, HasFault}
use Rattle.journal_pair.specs.Causes.{HasBadGate, HasCauseIn}
use Rattle.journal_pair.specs.Faults.{IsBadPair}
use Rattle.journal_pair.specs.Files.{HasEntries, FoundBoth, AreAt, RanBoth, size_of}
use Rattle.journal_pair.specs.Pairs.{IsSeated}
use Rattle.journal_pair.proofs.Taking.{one_generation}
use Rattle.journal_pair.proofs.Pairs.{found_both}
use Rattle.journal_pair.proofs.States.{before_less}

-- want of memory is no bad file
pub no_memory_bad : (why : PairFault) → why ≡ NoMemory → IsBadPair why → ⊥
no_memory_bad why is bad = subst IsBadPair is bad

module _ {T : Type 0} where
  pub chosen_pair : (side : Side) (mark : Mark) (checkpoint behind : List T) (xs ys : List (Entry T)) → IsChosen side mark checkpoint behind xs ys → ArePair checkpoint behind xs ys
  chosen_pair First mark checkpoint behind xs ys chosen = (mark, inl (chosen.live, chosen.other))
  chosen_pair Second mark checkpoint behind xs ys chosen = (mark, inr (chosen.live, chosen.other))

  -- ---- the entries of a pair have no fault

  no_mixed : (m : Mark) (xs : List (Entry T)) → IsMixed xs → IsBefore m xs → ⊥
  no_mixed m xs mixed (inl none) = mixed.some none
  no_mixed m xs mixed (inr old) = mixed.none old.0 old.1.0 old.1.1.0 old.1.1.1.1

  first_mixed : (checkpoint behind : List T) (xs ys : List (Entry T)) → ArePair checkpoint behind xs ys → IsMixed xs → ⊥
  first_mixed checkpoint behind xs ys (m, inl a) mixed = mixed.none m checkpoint behind a.0
  first_mixed checkpoint behind xs ys (m, inr a) mixed = no_mixed m xs mixed a.1

  second_mixed : (checkpoint behind : List T) (xs ys : List (Entry T)) → ArePair checkpoint behind xs ys → IsMixed ys → ⊥
  second_mixed checkpoint behind xs ys (m, inl a) mixed = no_mixed m ys mixed a.1
  second_mixed checkpoint behind xs ys (m, inr a) mixed = mixed.none m checkpoint behind a.0

  not_empty : (checkpoint behind : List T) (xs ys : List (Entry T)) → ArePair checkpoint behind xs ys → xs ≡ [] → ys ≡ [] → ⊥
  not_empty checkpoint behind xs ys (m, inl a) one two = cc (sym one ∙ a.0)
  not_empty checkpoint behind xs ys (m, inr a) one two = cc (sym two ∙ a.0)

  not_same : (checkpoint behind : List T) (xs ys : List (Entry T)) → ArePair checkpoint behind xs ys → AreSame xs ys → ⊥
  not_same checkpoint behind xs ys (m, inl a) same =
      let low : number_of same.mark < number_of m = before_less same.mark m ys same.second_checkpoint same.second_behind same.second a.1 in
      let one : number_of m ≡ number_of same.mark = ap number_of (one_generation m same.mark checkpoint behind same.first_checkpoint same.first_behind (sym a.0 ∙ same.first)).mark in
      omega (arith, low, one)
  not_same checkpoint behind xs ys (m, inr a) same =
      let low : number_of same.mark < number_of m = before_less same.mark m xs same.first_checkpoint same.first_behind same.first a.1 in
      let one : number_of m ≡ number_of same.mark = ap number_of (one_generation m same.mark checkpoint behind same.second_checkpoint same.second_behind (sym a.0 ∙ same.second)).mark in
      omega (arith, low, one)

  pub no_fault : (why : PairFault) (checkpoint behind : List T) (xs ys : List (Entry T)) → HasFault why xs ys → ArePair checkpoint behind xs ys → IsBadPair why → ⊥
  no_fault (File side why) checkpoint behind xs ys fault pair bad = fault
  no_fault (Mixed First) checkpoint behind xs ys fault pair bad = first_mixed checkpoint behind xs ys pair fault
  no_fault (Mixed Second) checkpoint behind xs ys fault pair bad = second_mixed checkpoint behind xs ys pair fault
  no_fault Empty checkpoint behind xs ys fault pair bad = not_empty checkpoint behind xs ys pair fault.0 fault.1
  no_fault Same checkpoint behind xs ys fault pair bad = not_same checkpoint behind xs ys pair fault
  no_fault NoMemory checkpoint behind xs ys fault pair bad = bad

  module _ (spelled : T → List ℕ) where
    pub bad_gate : (why : OpenFault) (file : List ℕ) → ((place : ℕ) → why ≡ Bad place → IsBadAt (entry_bytes spelled) place file) → HasBadGate spelled why file
    bad_gate (Bad place) file at = at place refl
    bad_gate FileDisk file at = tt
    bad_gate FileNoMemory file at = tt

    pub cause_in : (why : PairFault) (xs ys : List (Entry T)) (x y : List ℕ) → HasFault why xs ys → HasEntries spelled xs x → HasEntries spelled ys y → HasCauseIn spelled why x y
    cause_in (File side why) xs ys x y fault one two = absurd fault
    cause_in (Mixed side) xs ys x y fault one two = (xs, (ys, (one, (two, fault))))
    cause_in Empty xs ys x y fault one two = (xs, (ys, (one, (two, fault))))
    cause_in Same xs ys x y fault one two = (xs, (ys, (one, (two, fault))))
    cause_in NoMemory xs ys x y fault one two = (xs, (ys, (one, (two, fault))))

-- ---- the pair that was chosen

module _ {D : Type 0} {disk : Ghosts D} {T : Type 0} (spelled : T → List ℕ) (stands : D → List Moment → Type 0) (h k : List Moment) (xs ys : List (Entry T)) where
  abbrev pub Outcome : Side → Journal D disk → Journal D disk → Mark → ℕ → List T → List T → Type 0
  Outcome side live other mark size checkpoint behind =
      RanBoth (stands (at_side side live.disk other.disk)) (stands (beside side live.disk other.disk)) h k (FoundBoth spelled xs ys h k) (λ l m. AreAt spelled mark live.end other.end size (at_side side l m) (beside side l m) checkpoint behind)

  module _ (a b : Journal D disk) (mark : Mark) (size : ℕ) (checkpoint behind : List T) (size_is : size ≡ size_of spelled (generation mark checkpoint []) + 1) (first second : List (Entry T))
      (one : Ran (stands a.disk) h (Found (entry_bytes spelled) xs h) (λ l. (IsAt (entry_bytes spelled) a.end l xs) × (first ≡ xs)))
      (two : Ran (stands b.disk) k (Found (entry_bytes spelled) ys k) (λ l. (IsAt (entry_bytes spelled) b.end l ys) × (second ≡ ys))) where
    pub by_side : (side : Side) → IsChosen side mark checkpoint behind first second → Outcome side (at_side side a b) (beside side a b) mark size checkpoint behind
    by_side First chosen = found_both spelled xs ys h k (stands a.disk) (stands b.disk) _ _ (λ l m. AreAt spelled mark a.end b.end size l m checkpoint behind)
        (λ l m p q. record { earlier = ys; live = subst (IsAt (entry_bytes spelled) a.end l) (sym p.1 ∙ chosen.live) p.0; other = q.0; before = subst (IsBefore mark) q.1 chosen.other; size_is = size_is }) one two
    by_side Second chosen = found_both spelled xs ys h k (stands a.disk) (stands b.disk) _ _ (λ l m. AreAt spelled mark b.end a.end size m l checkpoint behind)
        (λ l m p q. record { earlier = xs; live = subst (IsAt (entry_bytes spelled) b.end m) (sym q.1 ∙ chosen.live) q.0; other = p.0; before = subst (IsBefore mark) p.1 chosen.other; size_is = size_is }) one two

  pub seated : (side : Side) (a b : Journal D disk) (mark : Mark) (size : ℕ) (checkpoint behind : List T) (p : Pair D disk) → IsSeated side a b mark size p → Outcome side (at_side side a b) (beside side a b) mark size checkpoint behind → Outcome side p.live p.other p.mark p.size checkpoint behind
  seated side a b mark size checkpoint behind p seat out =
      subst (λ j. Outcome side j p.other p.mark p.size checkpoint behind) (sym seat.live)
      (subst (λ j. Outcome side (at_side side a b) j p.mark p.size checkpoint behind) (sym seat.other)
      (subst (λ m. Outcome side (at_side side a b) (beside side a b) m p.size checkpoint behind) (sym seat.mark_is)
      (subst (λ n. Outcome side (at_side side a b) (beside side a b) mark n checkpoint behind) (sym seat.size_is) out)))

-- each of the two disks is honest where those of the pair are
pub both_honest : {D : Type 0} {disk : Ghosts D} (honest : D → Type 0) (side : Side) (a b : Journal D disk) (mark : Mark) (size : ℕ) (p : Pair D disk) → IsSeated side a b mark size p → honest p.live.disk → honest p.other.disk → (honest a.disk) × (honest b.disk)
both_honest honest First a b mark size p seat one two = (subst (λ j. honest j.disk) seat.live one, subst (λ j. honest j.disk) seat.other two)
both_honest honest Second a b mark size p seat one two = (subst (λ j. honest j.disk) seat.other two, subst (λ j. honest j.disk) seat.live one)

-- an empty file
pub empty_at : {T : Type 0} (spelled : T → List ℕ) (end : ℕ) (l : List Moment) → end ≡ 0 → (IsSettled l) × (seen l ≡ 0 ∷ []) → IsAt (entry_bytes spelled) end l []
empty_at spelled end l is empty = record { settled = empty.0; front = []; entries = refl; file_is = empty.1; place = is }
